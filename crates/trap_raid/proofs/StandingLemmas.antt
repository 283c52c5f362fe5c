-- What stands at a place, and how many reads that takes, case by case.
use Rattle.std.proofs.Common.{◌≡◌, ◌≢◌, ℕ, zero, suc, add-one, ◌+◌, ◌*◌, ◌-◌, ◌<◌, ◌≤◌, ◌==◌, List, Option, Some, None, Bool, true, false, if◌then◌else◌, refl, sym, ap, ◌∙◌, arith, inl, inr}
use Rattle.std.specs.Option.{unwrap_or}
use Rattle.std.proofs.lemmas.Bool.{cases_eq, eq-eqb, ne_eqb}
use Rattle.trap_block.specs.Xor.{xor, xor_but}
use Rattle.trap_model.specs.declared.numbers.Geometry.{Geometry}
use Rattle.trap_bank.specs.Disks.{Contents}
use Rattle.trap_map.specs.declared.places.Place.{Place}
use Rattle.trap_map.specs.Layout.{parity_member, block_place}
use Rattle.trap_stage.specs.Staged.{Staged, newest_at, laid_over}
use Rattle.trap_raid.specs.Members.{member_place}
use Rattle.trap_raid.specs.Plan.{IsPlanFrom}
use Rattle.trap_raid.specs.Standing.{is_lost, standing_at, calls_for, bare_others, reads_of, reads_until}

-- ---- whether the member is lost
lost_is : (lost : Option ℕ) (member : ℕ) → lost ≡ Some member → is_lost lost member ≡ true
lost_is None member gone = cc
lost_is (Some one) member gone = eq-eqb one member (the_same one member gone)
  where
    the_same : (m n : ℕ) → Some m ≡ Some n → m ≡ n
    the_same m n e = cc

apart_is : (lost : Option ℕ) (member : ℕ) → lost ≢ Some member → is_lost lost member ≡ false
apart_is None member apart = refl
apart_is (Some one) member apart = ne_eqb one member (λ e. apart (ap (λ (n : ℕ). Some n) e))

-- ---- what stands there
-- pending bytes
pub standing_pending : (g : Geometry) (lost : Option ℕ) (writes : List Staged) (place : ℕ → ℕ → List ℕ) (row member : ℕ) (bytes : List ℕ)
    → newest_at g writes row member ≡ Some bytes → bytes ≡ standing_at g lost writes place row member
standing_pending g lost writes place row member bytes found =
    sym (ap (λ (o : Option (List ℕ)). unwrap_or o (if is_lost lost member then xor_but g.block member (laid_over g writes place row) g.members else place row member)) found)

-- the member's own bytes
pub standing_own : (g : Geometry) (lost : Option ℕ) (writes : List Staged) (place : ℕ → ℕ → List ℕ) (row member : ℕ) → newest_at g writes row member ≡ None
    → lost ≢ Some member → place row member ≡ standing_at g lost writes place row member
standing_own g lost writes place row member none apart =
    let others = xor_but g.block member (laid_over g writes place row) g.members in
    sym (ap (λ (o : Option (List ℕ)). unwrap_or o (if is_lost lost member then others else place row member)) none
    ∙ ap (λ (b : Bool). if b then others else place row member) (apart_is lost member apart))

-- what the others give
pub standing_others : (g : Geometry) (lost : Option ℕ) (writes : List Staged) (place : ℕ → ℕ → List ℕ) (row member : ℕ) → newest_at g writes row member ≡ None
    → lost ≡ Some member → xor_but g.block member (laid_over g writes place row) g.members ≡ standing_at g lost writes place row member
standing_others g lost writes place row member none gone =
    let others = xor_but g.block member (laid_over g writes place row) g.members in
    sym (ap (λ (o : Option (List ℕ)). unwrap_or o (if is_lost lost member then others else place row member)) none
    ∙ ap (λ (b : Bool). if b then others else place row member) (lost_is lost member gone))

-- what two reads give, of disks that only were read
pub plan_by_reads : (g : Geometry) (lost : Option ℕ) (writes : List Staged) (old mid : Contents) (block : ℕ) (place : Place) (member : ℕ)
    (fresh first second delta parity : List ℕ) → mid ≡ old → place ≡ block_place g block → member ≡ parity_member g place.row
    → first ≡ standing_at g lost writes (member_place g old.disks) place.row place.member → delta ≡ xor first fresh
    → second ≡ standing_at g lost writes (member_place g mid.disks) place.row member → parity ≡ xor second delta
    → IsPlanFrom g (standing_at g lost writes (member_place g old.disks)) block fresh delta parity
plan_by_reads g lost writes old mid block place member fresh first second delta parity same is_place is_member is_first is_delta is_second is_parity =
    let at = standing_at g lost writes (member_place g old.disks) in
    record {
      write_parity = is_delta ∙ ap (λ (b : List ℕ). xor b fresh) (is_first ∙ ap (λ (p : Place). at p.row p.member) is_place);
      row_parity_after = is_parity ∙ ap (λ (b : List ℕ). xor b delta)
          (is_second ∙ ap (λ (c : Contents). standing_at g lost writes (member_place g c.disks) place.row member) same
          ∙ ap (λ (m : ℕ). at place.row m) is_member ∙ ap (λ (p : Place). at p.row (parity_member g p.row)) is_place);
    }

-- ---- how many reads
none_times : (n : ℕ) → 0 * n ≡ 0
none_times n = omega arith

one_times : (n : ℕ) → 1 * n ≡ n
one_times n = omega arith

pub reads_pending : (g : Geometry) (lost : Option ℕ) (writes : List Staged) (row member : ℕ) (bytes : List ℕ) → newest_at g writes row member ≡ Some bytes → reads_of g lost writes row member ≡ 0
reads_pending g lost writes row member bytes found =
    let many = if is_lost lost member then bare_others g writes row member g.members else 1 in
    ap (λ (o : Option (List ℕ)). calls_for o * many) found ∙ none_times many

pub reads_own : (g : Geometry) (lost : Option ℕ) (writes : List Staged) (row member : ℕ) → newest_at g writes row member ≡ None → lost ≢ Some member → reads_of g lost writes row member ≡ 1
reads_own g lost writes row member none apart =
    let many = if is_lost lost member then bare_others g writes row member g.members else 1 in
    ap (λ (o : Option (List ℕ)). calls_for o * many) none ∙ one_times many
    ∙ ap (λ (b : Bool). if b then bare_others g writes row member g.members else 1) (apart_is lost member apart)

pub reads_others : (g : Geometry) (lost : Option ℕ) (writes : List Staged) (row member : ℕ) → newest_at g writes row member ≡ None → lost ≡ Some member
    → reads_of g lost writes row member ≡ bare_others g writes row member g.members
reads_others g lost writes row member none gone =
    let many = if is_lost lost member then bare_others g writes row member g.members else 1 in
    ap (λ (o : Option (List ℕ)). calls_for o * many) none ∙ one_times many
    ∙ ap (λ (b : Bool). if b then bare_others g writes row member g.members else 1) (lost_is lost member gone)

-- ---- how many up to a failure
pub until_own : (g : Geometry) (lost : Option ℕ) (writes : List Staged) (row member failed : ℕ) → lost ≢ Some member → reads_until g lost writes row member failed ≡ 1
until_own g lost writes row member failed apart =
    ap (λ (b : Bool). if b then bare_others g writes row member failed + 1 else 1) (apart_is lost member apart)

pub until_others : (g : Geometry) (lost : Option ℕ) (writes : List Staged) (row member failed : ℕ) → lost ≡ Some member
    → reads_until g lost writes row member failed ≡ bare_others g writes row member failed + 1
until_others g lost writes row member failed gone =
    ap (λ (b : Bool). if b then bare_others g writes row member failed + 1 else 1) (lost_is lost member gone)

-- ---- the others of a row
bare_here : (g : Geometry) (writes : List Staged) (row one n : ℕ) → n ≡ one → bare_others g writes row one (suc n) ≡ bare_others g writes row one n + 0
bare_here g writes row one n e = rw (eq-eqb n one e) refl

bare_there : (g : Geometry) (writes : List Staged) (row one n : ℕ) → n ≢ one → bare_others g writes row one (suc n) ≡ bare_others g writes row one n + calls_for (newest_at g writes row n)
bare_there g writes row one n other = rw (ne_eqb n one other) refl

pub bare_same : (g : Geometry) (writes : List Staged) (row one n : ℕ) → n ≡ one → bare_others g writes row one (n + 1) ≡ bare_others g writes row one n
bare_same g writes row one n e = rw add-one (bare_here g writes row one n e ∙ omega arith)

pub bare_more : (g : Geometry) (writes : List Staged) (row one n : ℕ) → n ≢ one → bare_others g writes row one (n + 1) ≡ bare_others g writes row one n + calls_for (newest_at g writes row n)
bare_more g writes row one n other = rw add-one (bare_there g writes row one n other)

-- of more members there are no fewer
pub bare_grows : (g : Geometry) (writes : List Staged) (row one n members : ℕ) → n ≤ members → bare_others g writes row one n ≤ bare_others g writes row one members
bare_grows g writes row one n zero below = let same = ap (λ (m : ℕ). bare_others g writes row one m) (none n below) in omega (arith, same)
  where
    none : (n : ℕ) → n ≤ 0 → n ≡ 0
    none n low = omega arith
bare_grows g writes row one n (suc k) below =
    elim (cases_eq n (suc k)) [
      | inl e ↦ let same = ap (λ (m : ℕ). bare_others g writes row one m) e in omega (arith, same)
      | inr h ↦
          let front = bare_grows g writes row one n k (omega arith) in
          elim (cases_eq k one) [
            | inl e ↦ let last = bare_here g writes row one k e in omega arith
            | inr o ↦ let last = bare_there g writes row one k o in omega arith
          ]
    ]

-- ---- bounds that know nothing of what is pending
calls_few : (o : Option (List ℕ)) → calls_for o ≤ 1
calls_few None = omega arith
calls_few (Some bytes) = omega arith

bare_few : (g : Geometry) (writes : List Staged) (row one n : ℕ) → bare_others g writes row one n ≤ n
bare_few g writes row one zero = omega arith
bare_few g writes row one (suc n) =
    let front = bare_few g writes row one n in
    elim (cases_eq n one) [
      | inl e ↦ let last = bare_here g writes row one n e in omega arith
      | inr h ↦ let last = bare_there g writes row one n h in let few = calls_few (newest_at g writes row n) in omega arith
    ]

bare_fewer : (g : Geometry) (writes : List Staged) (row one n : ℕ) → one < n → bare_others g writes row one n ≤ n - 1
bare_fewer g writes row one zero inside = omega arith
bare_fewer g writes row one (suc n) inside =
    elim (cases_eq n one) [
      | inl e ↦ let last = bare_here g writes row one n e in let front = bare_few g writes row one n in omega arith
      | inr h ↦
          let last = bare_there g writes row one n h in
          let few = calls_few (newest_at g writes row n) in
          let front = bare_fewer g writes row one n (omega arith) in
          omega arith
    ]

-- with no member lost, one read at most
pub reads_with_all : (g : Geometry) (writes : List Staged) (row member : ℕ) → reads_of g None writes row member ≤ 1
reads_with_all g writes row member = by_pending (newest_at g writes row member)
  where
    by_pending : (o : Option (List ℕ)) → calls_for o * 1 ≤ 1
    by_pending None = omega arith
    by_pending (Some bytes) = omega arith

-- with one lost, no more than there are other members
pub reads_with_one_lost : (g : Geometry) (gone : ℕ) (writes : List Staged) (row member : ℕ) → member < g.members → reads_of g (Some gone) writes row member ≤ g.members - 1
reads_with_one_lost g gone writes row member inside =
    by_pending (newest_at g writes row member) (if gone == member then bare_others g writes row member g.members else 1)
    (by_loss (gone == member))
  where
    by_loss : (b : Bool) → (if b then bare_others g writes row member g.members else 1) ≤ g.members - 1
    by_loss true = bare_fewer g writes row member g.members inside
    by_loss false = let least = g.within.members_least in omega arith

    by_pending : (o : Option (List ℕ)) (many : ℕ) → many ≤ g.members - 1 → calls_for o * many ≤ g.members - 1
    by_pending None many few = omega arith
    by_pending (Some bytes) many few = omega arith
