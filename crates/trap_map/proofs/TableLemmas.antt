-- The laws of the table.
use Rattle.std.proofs.Common.{◌≡◌, ◌≢◌, ℕ, ◌/◌, ◌<◌, List, [], length, get_or, set, refl, ap, sym, ◌∙◌, arith, inl, inr, eq-eqb}
use Rattle.trap_model.specs.Image.{volume, IsImage}
use Rattle.std.proofs.lemmas.Bool.{cases_eq, ne_eqb}
use Rattle.std.proofs.lemmas.List.{length-set, get_or-set_same, get_or-set_other}
use Rattle.trap_block.specs.Xor.{xor, zeros, xor_over, xor_but, HaveSize}
use Rattle.trap_block.proofs.OverLemmas.{length-xor_but, xor_but_same, xor_over_is_zero, one_from_others, xor_but_changed, OthersHaveSize}
use Rattle.trap_map.specs.Layout.{parity_member, block_place, block_at}
use Rattle.trap_map.specs.Table.{data_place, row_parity, table}
use Rattle.trap_model.specs.declared.numbers.Geometry.{Geometry}
use Rattle.trap_map.proofs.LeftLemmas.{parity_in-lt}
use Rattle.trap_map.proofs.PlaceLemmas.{member_within, row_of-within, block_is_not_parity, block_at-block_place, block_at-within, block_place-block_at}

-- ---- a place of the table
pub table_at_parity : (g : Geometry) (image : List (List ℕ)) (row member : ℕ) → member ≡ parity_member g row → table g image row member ≡ row_parity g image row
table_at_parity g image row member e = rw (eq-eqb member (parity_member g row) e) refl

pub table_elsewhere : (g : Geometry) (image : List (List ℕ)) (row member : ℕ) → member ≢ parity_member g row → table g image row member ≡ data_place g image row member
table_elsewhere g image row member h = rw (ne_eqb member (parity_member g row) h) refl

-- a parity has a member
pub parity_member-lt : (g : Geometry) (row : ℕ) → parity_member g row < g.members
parity_member-lt g row = parity_in-lt g.members (row / g.chunk) (omega arith)

data_sized : (g : Geometry) (image : List (List ℕ)) → IsImage g image → (row : ℕ) → row < g.rows → OthersHaveSize g.block (parity_member g row) (data_place g image row) g.members
data_sized g image is_image row below = λ m inside apart. is_image.sized (block_at g m row) (block_at-within g m row inside below apart)

pub table_sized : (g : Geometry) (image : List (List ℕ)) → IsImage g image → (row : ℕ) → row < g.rows → HaveSize g.block (table g image row) g.members
table_sized g image is_image row below = λ m inside.
    elim (cases_eq m (parity_member g row)) [
      | inl e ↦ ap length (table_at_parity g image row m e) ∙ length-xor_but g.block (parity_member g row) g.members (data_place g image row) (data_sized g image is_image row below)
      | inr h ↦ ap length (table_elsewhere g image row m h) ∙ data_sized g image is_image row below m inside h
    ]

-- a block's place holds it
pub table_at_block : (g : Geometry) (image : List (List ℕ)) (block : ℕ) → table g image (block_place g block).row (block_place g block).member ≡ get_or image block []
table_at_block g image block =
    table_elsewhere g image (block_place g block).row (block_place g block).member (block_is_not_parity g block)
    ∙ ap (λ b. get_or image b []) (block_at-block_place g block)

-- ---- a row
pub table_row_is_zero : (g : Geometry) (image : List (List ℕ)) → IsImage g image → (row : ℕ) → row < g.rows → xor_over g.block (table g image row) g.members ≡ zeros g.block
table_row_is_zero g image is_image row below =
    xor_over_is_zero g.block (parity_member g row) g.members (table g image row) (table_sized g image is_image row below) (parity_member-lt g row)
    (table_at_parity g image row (parity_member g row) refl
    ∙ xor_but_same g.block (parity_member g row) g.members (data_place g image row) (table g image row) (λ m inside apart. sym (table_elsewhere g image row m apart)))

pub table_from_others : (g : Geometry) (image : List (List ℕ)) → IsImage g image → (row member : ℕ) → row < g.rows → member < g.members
    → table g image row member ≡ xor_but g.block member (table g image row) g.members
table_from_others g image is_image row member below inside =
    one_from_others g.block member g.members (table g image row) (table_sized g image is_image row below) inside (table_row_is_zero g image is_image row below)

-- ---- a block written anew
pub written_is_image : (g : Geometry) (image : List (List ℕ)) → IsImage g image → (block : ℕ) (fresh : List ℕ) → length fresh ≡ g.block → IsImage g (set image block fresh)
written_is_image g image is_image block fresh size = record {
  long = length-set image block fresh ∙ is_image.long;
  sized = λ b below. elim (cases_eq b block) [
    | inl e ↦
        let inside : block < length image = omega (arith, is_image.long, e) in
        ap (λ k. length (get_or (set image block fresh) k [])) e ∙ ap length (get_or-set_same image block fresh [] inside) ∙ size
    | inr h ↦ ap length (get_or-set_other image block b fresh [] h) ∙ is_image.sized b below
  ];
}

-- a place that isn't the block's nor its row's parity
pub data_unchanged : (g : Geometry) (image : List (List ℕ)) (block : ℕ) (fresh : List ℕ) (row member : ℕ) → row < g.rows → member < g.members
    → member ≢ parity_member g row → ((row ≡ (block_place g block).row) → (member ≡ (block_place g block).member) → ⊥) → data_place g (set image block fresh) row member ≡ data_place g image row member
data_unchanged g image block fresh row member below inside apart elsewhere =
    let other : block_at g member row ≢ block = λ e.
    let there = block_place-block_at g member row inside below apart in
    let same = ap (λ b. block_place g b) e in
    elsewhere (ap (λ p. p.row) (sym there ∙ same)) (ap (λ p. p.member) (sym there ∙ same)) in
    get_or-set_other image block (block_at g member row) fresh [] other

pub parity_after_write : (g : Geometry) (image : List (List ℕ)) → IsImage g image → (block : ℕ) → block < volume g → (fresh : List ℕ) → length fresh ≡ g.block
    → row_parity g (set image block fresh) (block_place g block).row ≡ xor (row_parity g image (block_place g block).row) (xor (get_or image block []) fresh)
parity_after_write g image is_image block below fresh size =
    let row = (block_place g block).row in
    let member = (block_place g block).member in
    let here : block_at g member row ≡ block = block_at-block_place g block in
    let inside : block < length image = omega (arith, is_image.long) in
    let old : data_place g image row member ≡ get_or image block [] = ap (λ b. get_or image b []) here in
    let new : data_place g (set image block fresh) row member ≡ fresh =
    ap (λ b. get_or (set image block fresh) b []) here ∙ get_or-set_same image block fresh [] inside in
    xor_but_changed g.block (parity_member g row) g.members member (data_place g image row) (data_place g (set image block fresh) row)
    (ap length old ∙ is_image.sized block below) (ap length new ∙ size) (member_within g block) (block_is_not_parity g block)
    (λ m less k other. data_unchanged g image block fresh row m (row_of-within g block below) less k (λ e f. other f))
    ∙ ap (λ b. xor (row_parity g image row) (xor b (data_place g (set image block fresh) row member))) old
    ∙ ap (λ b. xor (row_parity g image row) (xor (get_or image block []) b)) new

pub others_after_write : (g : Geometry) (image : List (List ℕ)) (block : ℕ) (fresh : List ℕ) (row member : ℕ) → row < g.rows → member < g.members
    → (row ≡ (block_place g block).row → (member ≢ (block_place g block).member) × (member ≢ parity_member g row)) → table g (set image block fresh) row member ≡ table g image row member
others_after_write g image block fresh row member below inside apart =
    elim (cases_eq member (parity_member g row)) [
      | inl e ↦
          table_at_parity g (set image block fresh) row member e
          ∙ xor_but_same g.block (parity_member g row) g.members (data_place g (set image block fresh) row) (data_place g image row)
          (λ m less k. data_unchanged g image block fresh row m below less k (λ f f'. (apart f).1 e))
          ∙ sym (table_at_parity g image row member e)
      | inr h ↦
          table_elsewhere g (set image block fresh) row member h
          ∙ data_unchanged g image block fresh row member below inside h (λ f. (apart f).0)
          ∙ sym (table_elsewhere g image row member h)
    ]
