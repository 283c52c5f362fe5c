-- The blocks that the requests of a drill name.
use Rattle.std.proofs.Common.{◌≡◌, ℕ, zero, suc, ◌-◌, ◌<◌, ◌≤◌, ◌⊎◌, Bool, true, false, Some, List, [], ◌∷◌, ◌++◌, length, length-append, get_or, slice_get, Contains, nat_eq, refl, ap, sym, ◌∙◌, subst, arith, inl, ⊎_elim}
use Rattle.std.specs.Cmp.{nat_eq_equiv}
use Rattle.std.specs.List.{list_any, IsDistinct}
use Rattle.std.specs.Prelude.{if◌then◌else◌}
use Rattle.std.proofs.lemmas.Bool.{both_ways, cases_eq, cases_lt, eqb-true}
use Rattle.std.proofs.lemmas.Option.{slice_get_within, get_or_from_slice_get}
use Rattle.std.proofs.lemmas.List.{get_or_append_left, get_or-append_right}
use Rattle.std.proofs.lemmas.List.Elements.{Contains-append_left, Contains-get_or, Contains-push, Contains-push_cases}
use Rattle.std.proofs.lemmas.Map.Keys.{IsDistinct-push}
use Rattle.std.proofs.lemmas.Map.Views.{Contains-from_any, list_any-from_Contains}
use Rattle.trap_model.specs.declared.numbers.Geometry.{Geometry}
use Rattle.trap_drill.specs.Drilled.{drilled_block, blocks_of, add_block}

-- a block that was added is there
added : (bs : List ℕ) (b : ℕ) (t : Bool) → list_any (nat_eq b) bs ≡ t → Contains (if t then bs else bs ++ b ∷ []) b
added bs b true e = Contains-from_any eqb-true b bs e
added bs b false e = Contains-push bs b

-- the others are still there
kept : (bs : List ℕ) (b x : ℕ) (t : Bool) → Contains bs x → Contains (if t then bs else bs ++ b ∷ []) x
kept bs b x true is = is
kept bs b x false is = Contains-append_left bs (b ∷ []) x is

-- and no others are
either : (bs : List ℕ) (b x : ℕ) (t : Bool) → Contains (if t then bs else bs ++ b ∷ []) x → Contains bs x ⊎ (b ≡ x)
either bs b x true is = inl is
either bs b x false is = Contains-push_cases bs b x is

once_more : (bs : List ℕ) (b : ℕ) (t : Bool) → list_any (nat_eq b) bs ≡ t → IsDistinct nat_eq bs → IsDistinct nat_eq (if t then bs else bs ++ b ∷ [])
once_more bs b true e is = is
once_more bs b false e is = IsDistinct-push nat_eq_equiv bs b is e

pub each_named : (g : Geometry) (seed n k : ℕ) → 1 ≤ k → k ≤ n → Contains (blocks_of g seed n) (drilled_block g seed k)
each_named g seed zero k low high = absurd (omega (arith, low, high))
each_named g seed (suc n) k low high =
    let bs = blocks_of g seed n in
    let b = drilled_block g seed (suc n) in
    ⊎_elim (λ e. subst (λ m. Contains (add_block bs b) (drilled_block g seed m)) (sym e) (added bs b (list_any (nat_eq b) bs) refl))
    (λ ne. kept bs b (drilled_block g seed k) (list_any (nat_eq b) bs) (each_named g seed n k low (omega (arith, high, ne)))) (cases_eq k (suc n))

pub only_named : (g : Geometry) (seed n block : ℕ) → Contains (blocks_of g seed n) block → (k : ℕ) × (1 ≤ k) × (k ≤ n) × (drilled_block g seed k ≡ block)
only_named g seed zero block is = absurd (omega (arith, is.1))
only_named g seed (suc n) block is =
    let bs = blocks_of g seed n in
    let b = drilled_block g seed (suc n) in
    ⊎_elim (λ before. let r = only_named g seed n block before in (r.0, r.1, omega (arith, r.2), r.3))
    (λ now. (suc n, omega arith, omega arith, now)) (either bs b block (list_any (nat_eq b) bs) is)

pub once_named : (g : Geometry) (seed n : ℕ) → IsDistinct nat_eq (blocks_of g seed n)
unfolding IsDistinct
once_named g seed zero = tt
once_named g seed (suc n) =
    let bs = blocks_of g seed n in
    let b = drilled_block g seed (suc n) in
    once_more bs b (list_any (nat_eq b) bs) refl (once_named g seed n)

-- an earlier request names the block at place i than any that names the block at a later place j
abbrev Ordered : Geometry → ℕ → ℕ → List ℕ → Type 0
Ordered g seed n bs =
    (i j k : ℕ) → i < j → j < length bs → 1 ≤ k → k ≤ n → drilled_block g seed k ≡ get_or bs j 0 → (l : ℕ) × (1 ≤ l) × (l < k) × (drilled_block g seed l ≡ get_or bs i 0)

-- so where one request more named no new block
ordered_still : (g : Geometry) (seed n : ℕ) → Ordered g seed n (blocks_of g seed n) → Ordered g seed (suc n) (blocks_of g seed n)
ordered_still g seed n order i j k before within low high is =
    let bs = blocks_of g seed n in
    ⊎_elim (λ (last : k ≡ suc n).
    let named = only_named g seed n (get_or bs j 0) (Contains-get_or bs j 0 within) in
    let first = order i j named.0 before within named.1 named.2 named.3 in
    (first.0, first.1, (let early = first.2 in let most = named.2 in omega arith), first.3))
    (λ other. order i j k before within low (omega arith) is) (cases_eq k (suc n))

-- and where it named one
ordered_more : (g : Geometry) (seed n : ℕ) → list_any (nat_eq (drilled_block g seed (suc n))) (blocks_of g seed n) ≡ false → Ordered g seed n (blocks_of g seed n)
    → Ordered g seed (suc n) (blocks_of g seed n ++ drilled_block g seed (suc n) ∷ [])
ordered_more g seed n fresh order i j k before within low high is =
    let bs = blocks_of g seed n in
    let b = drilled_block g seed (suc n) in
    let sum = length-append bs (b ∷ []) in
    ⊎_elim (λ (early : j < length bs).
    let first = ordered_still g seed n order i j k before early low high (is ∙ get_or_append_left bs (b ∷ []) 0 j early) in
    (first.0, first.1, first.2, first.3 ∙ sym (get_or_append_left bs (b ∷ []) 0 i (omega arith))))
    (λ (late : length bs ≤ j).
    let inside : i < length bs = omega arith in
    let place : j - length bs ≡ 0 = omega arith in
    let named = only_named g seed n (get_or bs i 0) (Contains-get_or bs i 0 inside) in
    let new : drilled_block g seed k ≡ b = is ∙ get_or-append_right bs (b ∷ []) (length bs) j 0 refl late ∙ ap (λ (m : ℕ). get_or (b ∷ []) m 0) place in (
      named.0,
      named.1,
      ⊎_elim (λ (last : k ≡ suc n). let most = named.2 in omega arith)
          (λ other. absurd (both_ways (list_any (nat_eq b) bs) fresh
          (list_any-from_Contains nat_eq_equiv b bs (subst (Contains bs) new (each_named g seed n k low (omega arith)))))) (cases_eq k (suc n)),
      named.3 ∙ sym (get_or_append_left bs (b ∷ []) 0 i inside),
    ))
    (cases_lt j (length bs))

ordered_by : (g : Geometry) (seed n : ℕ) (t : Bool) → list_any (nat_eq (drilled_block g seed (suc n))) (blocks_of g seed n) ≡ t → Ordered g seed n (blocks_of g seed n)
    → Ordered g seed (suc n) (if t then blocks_of g seed n else blocks_of g seed n ++ drilled_block g seed (suc n) ∷ [])
ordered_by g seed n true e order = ordered_still g seed n order
ordered_by g seed n false e order = ordered_more g seed n e order

ordered : (g : Geometry) (seed n : ℕ) → Ordered g seed n (blocks_of g seed n)
ordered g seed zero = λ i j k before within low high is. absurd (omega (arith, within))
ordered g seed (suc n) = ordered_by g seed n (list_any (nat_eq (drilled_block g seed (suc n))) (blocks_of g seed n)) refl (ordered g seed n)

pub first_named : (g : Geometry) (seed n i j a b k : ℕ) → i < j → slice_get (blocks_of g seed n) i ≡ Some a → slice_get (blocks_of g seed n) j ≡ Some b → 1 ≤ k → k ≤ n
    → drilled_block g seed k ≡ b → (l : ℕ) × (1 ≤ l) × (l < k) × (drilled_block g seed l ≡ a)
first_named g seed n i j a b k before early late low high is =
    let bs = blocks_of g seed n in
    let first = ordered g seed n i j k before (slice_get_within bs j b late) low high (is ∙ sym (get_or_from_slice_get bs j b 0 late)) in
    (first.0, first.1, first.2, first.3 ∙ get_or_from_slice_get bs i a 0 early)
