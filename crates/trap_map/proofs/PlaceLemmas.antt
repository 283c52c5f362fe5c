-- Each block has one place, and each place is one block's or parity.
use Rattle.std.proofs.Common.{◌≡◌, ◌≢◌, ℕ, ◌+◌, ◌-◌, ◌*◌, ◌/◌, ◌%◌, ◌<◌, refl, ap, ◌∙◌, subst, arith, inl, inr, eq-eqb}
use Rattle.trap_model.specs.Image.{volume}
use Rattle.std.proofs.Math.Nat.{mod-lt}
use Rattle.std.proofs.lemmas.Bool.{cases_eq, ne_eqb}
use Rattle.std.proofs.lemmas.Nat.{div-add-mod'}
use Rattle.trap_map.specs.Left.{parity_in, member_in, before_in, block_stripe, chunks_before}
use Rattle.trap_map.specs.Layout.{parity_member, block_place, block_at, owner_of}
use Rattle.trap_model.specs.declared.numbers.Geometry.{Geometry}
use Rattle.trap_map.specs.declared.places.Place.{Place}
use Rattle.trap_map.specs.declared.places.Owner.TheVariants.{Block, Parity}
use Rattle.trap_map.proofs.LeftLemmas.{parity_in-lt, back_and_round, round_is_elsewhere, back_is_inside, at_below_volume, row_below_rows, row_stripe, row_within, before-lt, block_again, at_within, at_stripe, at_before}

-- a place, from its two numbers
abbrev at_place : ℕ → ℕ → Place
at_place member row = record { member = member; row = row }

same_place : (a b c d : ℕ) → a ≡ c → b ≡ d → at_place a b ≡ at_place c d
same_place a b c d e f = ap (λ m. at_place m b) e ∙ ap (λ r. at_place c r) f

-- ---- whose a place is
pub owner_at_parity : (g : Geometry) (member row : ℕ) → member ≡ parity_member g row → owner_of g member row ≡ Parity
owner_at_parity g member row e = rw (eq-eqb member (parity_member g row) e) refl

pub owner_elsewhere : (g : Geometry) (member row : ℕ) → member ≢ parity_member g row → owner_of g member row ≡ Block (block_at g member row)
owner_elsewhere g member row h = rw (ne_eqb member (parity_member g row) h) refl

-- ---- the place of a block
pub member_within : (g : Geometry) → (block : ℕ) → (block_place g block).member < g.members
member_within g block = mod-lt (parity_in g.members (block_stripe g.members g.chunk block) + 1 + chunks_before g.members g.chunk block) (omega arith)

pub row_of-within : (g : Geometry) → (block : ℕ) → block < volume g → (block_place g block).row < g.rows
row_of-within g block below = row_below_rows g.members g.chunk g.rows block (omega arith) (omega arith) g.within.whole_chunks below

pub block_is_not_parity : (g : Geometry) → (block : ℕ) → (block_place g block).member ≢ parity_member g (block_place g block).row
block_is_not_parity g block =
    let same : parity_member g (block_place g block).row ≡ parity_in g.members (block_stripe g.members g.chunk block) =
    ap (λ s. parity_in g.members s) (row_stripe g.members g.chunk block (omega arith)) in
    let there = round_is_elsewhere (parity_in g.members (block_stripe g.members g.chunk block)) (chunks_before g.members g.chunk block) g.members
    (parity_in-lt g.members (block_stripe g.members g.chunk block) (omega arith)) (before-lt g.members g.chunk block (omega arith)) in
    λ e. there (e ∙ same)

pub block_at-block_place : (g : Geometry) → (block : ℕ) → block_at g (block_place g block).member (block_place g block).row ≡ block
block_at-block_place g block =
    let stripe = row_stripe g.members g.chunk block (omega arith) in
    let member = (block_place g block).member in
    let row = (block_place g block).row in
    ap (λ s. (s * (g.members - 1) + before_in g.members s member) * g.chunk + row % g.chunk) stripe
    ∙ block_again g.members g.chunk block (omega arith) (omega arith) (block_stripe g.members g.chunk block) (row % g.chunk) refl (row_within g.members g.chunk block (omega arith))

pub owner_of-block_place : (g : Geometry) (block : ℕ) → owner_of g (block_place g block).member (block_place g block).row ≡ Block block
owner_of-block_place g block =
    owner_elsewhere g (block_place g block).member (block_place g block).row (block_is_not_parity g block)
    ∙ ap (λ b. Block b) (block_at-block_place g block)

-- ---- the block at a place
pub block_at-within : (g : Geometry) → (member row : ℕ) → member < g.members → row < g.rows → member ≢ parity_member g row → block_at g member row < volume g
block_at-within g member row inside below apart =
    at_below_volume g.members g.chunk g.rows row (before_in g.members (row / g.chunk) member) (omega arith) g.within.whole_chunks below
    (back_is_inside (parity_member g row) member g.members (parity_in-lt g.members (row / g.chunk) (omega arith)) inside apart)

pub block_place-block_at : (g : Geometry) → (member row : ℕ) → member < g.members → row < g.rows → member ≢ parity_member g row
    → block_place g (block_at g member row) ≡ record { member = member; row = row }
block_place-block_at g member row inside below apart =
    let before = before_in g.members (row / g.chunk) member in
    let fewer : before + 1 < g.members =
    back_is_inside (parity_member g row) member g.members (parity_in-lt g.members (row / g.chunk) (omega arith)) inside apart in
    let there : member_in g.members (row / g.chunk) before ≡ member =
    back_and_round (parity_member g row) member g.members (parity_in-lt g.members (row / g.chunk) (omega arith)) inside apart in
    let stripe : block_stripe g.members g.chunk (block_at g member row) ≡ row / g.chunk = at_stripe g.members g.chunk row before (omega arith) fewer in
    let chunk : chunks_before g.members g.chunk (block_at g member row) ≡ before = at_before g.members g.chunk row before (omega arith) fewer in
    let rest : block_at g member row % g.chunk ≡ row % g.chunk = at_within g.members g.chunk row before (omega arith) in
    let at_member : (block_place g (block_at g member row)).member ≡ member =
    ap (λ s. member_in g.members s (chunks_before g.members g.chunk (block_at g member row))) stripe
    ∙ ap (λ k. member_in g.members (row / g.chunk) k) chunk ∙ there in
    let at_row : (block_place g (block_at g member row)).row ≡ row =
    ap (λ s. s * g.chunk + block_at g member row % g.chunk) stripe ∙ ap (λ o. row / g.chunk * g.chunk + o) rest ∙ div-add-mod' row g.chunk in
    same_place (block_place g (block_at g member row)).member (block_place g (block_at g member row)).row member row at_member at_row

-- whose a place is, the other way round
pub place_from_owner : (g : Geometry) (member row block : ℕ) → member < g.members → row < g.rows → owner_of g member row ≡ Block block → (block < volume g)
    × (block_place g block ≡ record { member = member; row = row })
place_from_owner g member row block inside below owned =
    elim (cases_eq member (parity_member g row)) [
      | inl e ↦ let parity = owner_at_parity g member row e in cc
      | inr h ↦
          let here = owner_elsewhere g member row h in
          let same : block_at g member row ≡ block = cc in
          let P : ℕ → Type 0 = λ b. (b < volume g) × (block_place g b ≡ record { member = member; row = row }) in
          subst P same (block_at-within g member row inside below h, block_place-block_at g member row inside below h)
    ]

-- the row of a block's place, as the code has it
pub place_row_fits : (g : Geometry) (block : ℕ) → block < volume g → (block_place g block).row < g.rows
place_row_fits g block below = row_of-within g block below
