-- The slots of a cache while they are moved, rewritten and taken out.
use Rattle.std.proofs.Common.{◌≡◌, ℕ, zero, suc, ◌+◌, ◌<◌, true, false, cond, List, [], ◌∷◌, length, take, Some, None, nat_eq, refl, ap, sym, ◌∙◌, subst, arith}
use Rattle.std.proofs.lemmas.Bool.{eqb-true}
use Rattle.std.specs.Cmp.{nat_eq_equiv}
use Rattle.std.specs.List.{AllByRecursion}
use Rattle.std.specs.Map.{lookup, lookup_entry, remove_entry}
use Rattle.std.specs.Prelude.{slice_get, option_map}
use Rattle.trap_cache.specs.Slots.{AreDistinct, AreSlots}
use Rattle.trap_cache.specs.declared.slots.Slot.{Slot}
use Rattle.trap_cache.proofs.Hits.{taken, left_out}

-- a place that isn't there isn't there after another one was taken out
still_absent : (es : List (ℕ × Slot)) (k p : ℕ) → lookup_entry (nat_eq k) es ≡ None → lookup_entry (nat_eq k) (remove_entry (nat_eq p) es) ≡ None
still_absent [] k p h = refl
still_absent (e ∷ es) k p h = (elim (nat_eq k e.0) as (λ y. nat_eq k e.0 ≡ y → lookup_entry (nat_eq k) (remove_entry (nat_eq p) (e ∷ es)) ≡ None) [
  | true ↦ λ t. let some : Some e ≡ None = sym (taken (nat_eq k e.0) (Some e) (lookup_entry (nat_eq k) es) t) ∙ h in cc
  | false ↦ λ t.
      let absent : lookup_entry (nat_eq k) es ≡ None = sym (left_out (nat_eq k e.0) (Some e) (lookup_entry (nat_eq k) es) t) ∙ h in
      (elim (nat_eq p e.0) as (λ y. nat_eq p e.0 ≡ y → lookup_entry (nat_eq k) (remove_entry (nat_eq p) (e ∷ es)) ≡ None) [
        | true ↦ λ u. ap (lookup_entry (nat_eq k)) (taken (nat_eq p e.0) es (e ∷ remove_entry (nat_eq p) es) u) ∙ absent
        | false ↦ λ u. ap (lookup_entry (nat_eq k)) (left_out (nat_eq p e.0) es (e ∷ remove_entry (nat_eq p) es) u)
            ∙ left_out (nat_eq k e.0) (Some e) (lookup_entry (nat_eq k) (remove_entry (nat_eq p) es)) t ∙ still_absent es k p absent
      ]) refl
]) refl

-- one that was taken out isn't there
gone : (es : List (ℕ × Slot)) (p : ℕ) → AreDistinct es → lookup_entry (nat_eq p) (remove_entry (nat_eq p) es) ≡ None
gone [] p d = refl
gone (e ∷ es) p d = (elim (nat_eq p e.0) as (λ y. nat_eq p e.0 ≡ y → lookup_entry (nat_eq p) (remove_entry (nat_eq p) (e ∷ es)) ≡ None) [
  | true ↦ λ u.
      let same : e.0 ≡ p = sym (eqb-true p e.0 u) in
      ap (lookup_entry (nat_eq p)) (taken (nat_eq p e.0) es (e ∷ remove_entry (nat_eq p) es) u) ∙ subst (λ k. lookup_entry (nat_eq k) es ≡ None) same d.0
  | false ↦ λ u. ap (lookup_entry (nat_eq p)) (left_out (nat_eq p e.0) es (e ∷ remove_entry (nat_eq p) es) u)
      ∙ left_out (nat_eq p e.0) (Some e) (lookup_entry (nat_eq p) (remove_entry (nat_eq p) es)) u ∙ gone es p d.1
]) refl

still_distinct : (es : List (ℕ × Slot)) (p : ℕ) → AreDistinct es → AreDistinct (remove_entry (nat_eq p) es)
still_distinct [] p d = tt
still_distinct (e ∷ es) p d = (elim (nat_eq p e.0) as (λ y. nat_eq p e.0 ≡ y → AreDistinct (remove_entry (nat_eq p) (e ∷ es))) [
  | true ↦ λ u. subst AreDistinct (sym (taken (nat_eq p e.0) es (e ∷ remove_entry (nat_eq p) es) u)) d.1
  | false ↦ λ u. subst AreDistinct (sym (left_out (nat_eq p e.0) es (e ∷ remove_entry (nat_eq p) es) u))
      (still_absent es e.0 p d.0, still_distinct es p d.1)
]) refl

abbrev AreSized : ℕ → List (ℕ × Slot) → Type 0
AreSized size = AllByRecursion (λ e. length e.1.bytes.items ≡ size)

still_sized : (size : ℕ) (es : List (ℕ × Slot)) (p : ℕ) → AreSized size es → AreSized size (remove_entry (nat_eq p) es)
still_sized size [] p a = a
still_sized size (e ∷ es) p a = (elim (nat_eq p e.0) as (λ y. nat_eq p e.0 ≡ y → AreSized size (remove_entry (nat_eq p) (e ∷ es))) [
  | true ↦ λ u. subst (AreSized size) (sym (taken (nat_eq p e.0) es (e ∷ remove_entry (nat_eq p) es) u)) a.1
  | false ↦ λ u. subst (AreSized size) (sym (left_out (nat_eq p e.0) es (e ∷ remove_entry (nat_eq p) es) u)) (a.0, still_sized size es p a.1)
]) refl

one_fewer : (es : List (ℕ × Slot)) (p : ℕ) (e : ℕ × Slot) → lookup_entry (nat_eq p) es ≡ Some e → suc (length (remove_entry (nat_eq p) es)) ≡ length es
one_fewer [] p e h = cc
one_fewer (x ∷ es) p e h = (elim (nat_eq p x.0) as (λ y. nat_eq p x.0 ≡ y → suc (length (remove_entry (nat_eq p) (x ∷ es))) ≡ length (x ∷ es)) [
  | true ↦ λ u. ap (λ xs. suc (length xs)) (taken (nat_eq p x.0) es (x ∷ remove_entry (nat_eq p) es) u)
  | false ↦ λ u. ap (λ xs. suc (length xs)) (left_out (nat_eq p x.0) es (x ∷ remove_entry (nat_eq p) es) u)
      ∙ ap suc (one_fewer es p e (sym (left_out (nat_eq p x.0) (Some x) (lookup_entry (nat_eq p) es) u) ∙ h))
]) refl

-- a slot moved to the front, with bytes of the same size
pub fronted : (size : ℕ) (es : List (ℕ × Slot)) (p : ℕ) (e : ℕ × Slot) (slot : Slot) → AreSlots size es → lookup_entry (nat_eq p) es ≡ Some e → length slot.bytes.items ≡ size
    → AreSlots size ((p, slot) ∷ remove_entry (nat_eq p) es)
fronted size es p e slot are h fits = record {
  sixteen = one_fewer es p e h ∙ are.sixteen;
  distinct = (gone es p are.distinct, still_distinct es p are.distinct);
  sized = (fits, still_sized size es p are.sized);
}

-- a slot that is there has the size of a block
pub sized_at : (size : ℕ) (es : List (ℕ × Slot)) (p : ℕ) (e : ℕ × Slot) → AreSized size es → lookup_entry (nat_eq p) es ≡ Some e → length e.1.bytes.items ≡ size
sized_at size [] p e a h = cc
sized_at size (x ∷ es) p e a h = (elim (nat_eq p x.0) as (λ y. nat_eq p x.0 ≡ y → length e.1.bytes.items ≡ size) [
  | true ↦ λ u.
      let is : Some x ≡ Some e = sym (taken (nat_eq p x.0) (Some x) (lookup_entry (nat_eq p) es) u) ∙ h in
      let same : x ≡ e = cc in
      subst (λ (y : ℕ × Slot). length y.1.bytes.items ≡ size) same a.0
  | false ↦ λ u. sized_at size es p e a.1 (sym (left_out (nat_eq p x.0) (Some x) (lookup_entry (nat_eq p) es) u) ∙ h)
]) refl

absent_at : (n : ℕ) (es : List (ℕ × Slot)) (k p : ℕ) → lookup_entry (nat_eq k) es ≡ None → option_map (λ e. e.0) (slice_get es n) ≡ Some p → nat_eq p k ≡ false
absent_at n [] k p h f = cc
absent_at zero (e ∷ es) k p h f = (elim (nat_eq k e.0) as (λ y. nat_eq k e.0 ≡ y → nat_eq p k ≡ false) [
  | true ↦ λ t. let some : Some e ≡ None = sym (taken (nat_eq k e.0) (Some e) (lookup_entry (nat_eq k) es) t) ∙ h in cc
  | false ↦ λ t. let same : e.0 ≡ p = cc in subst (λ m. nat_eq m k ≡ false) same (nat_eq_equiv.symm e.0 k ∙ t)
]) refl
absent_at (suc n) (e ∷ es) k p h f = (elim (nat_eq k e.0) as (λ y. nat_eq k e.0 ≡ y → nat_eq p k ≡ false) [
  | true ↦ λ t. let some : Some e ≡ None = sym (taken (nat_eq k e.0) (Some e) (lookup_entry (nat_eq k) es) t) ∙ h in cc
  | false ↦ λ t. absent_at n es k p (sym (left_out (nat_eq k e.0) (Some e) (lookup_entry (nat_eq k) es) t) ∙ h) f
]) refl

-- the slot that was used least recently, taken out
pub last_out : (n : ℕ) (es : List (ℕ × Slot)) (p : ℕ) → AreDistinct es → length es ≡ suc n → option_map (λ e. e.0) (slice_get es n) ≡ Some p → remove_entry (nat_eq p) es ≡ take n es
last_out n [] p d len f = cc
last_out zero (e ∷ []) p d len f =
    let same : e.0 ≡ p = cc in
    let here : nat_eq p e.0 ≡ true = subst (λ k. nat_eq k e.0 ≡ true) same (nat_eq_equiv.refl e.0) in
    taken (nat_eq p e.0) [] (e ∷ []) here
last_out zero (e ∷ x ∷ es) p d len f = absurd (omega (arith, len))
last_out (suc n) (e ∷ es) p d len f =
    let other : nat_eq p e.0 ≡ false = absent_at n es e.0 p d.0 f in
    left_out (nat_eq p e.0) es (e ∷ remove_entry (nat_eq p) es) other ∙ ap (λ ys. e ∷ ys) (last_out n es p d.1 (omega (arith, len)) f)

-- the slot that was used least recently is there
pub last_there : (n : ℕ) (es : List (ℕ × Slot)) (p : ℕ) → AreDistinct es → option_map (λ e. e.0) (slice_get es n) ≡ Some p → (slot : Slot) × (lookup_entry (nat_eq p) es ≡ Some (p, slot))
last_there n [] p d f = cc
last_there zero (e ∷ es) p d f =
    let same : e.0 ≡ p = cc in (
      e.1,
      subst (λ m. cond (nat_eq m e.0) (Some e) (lookup_entry (nat_eq m) es) ≡ Some (m, e.1)) same
          (taken (nat_eq e.0 e.0) (Some e) (lookup_entry (nat_eq e.0) es) (nat_eq_equiv.refl e.0)),
    )
last_there (suc n) (e ∷ es) p d f =
    let other : nat_eq p e.0 ≡ false = absent_at n es e.0 p d.0 f in
    let later = last_there n es p d.1 f in
    (later.0, left_out (nat_eq p e.0) (Some e) (lookup_entry (nat_eq p) es) other ∙ later.1)

-- what is looked up under a place, as an entry and alone
pub value_of : (es : List (ℕ × Slot)) (p : ℕ) → lookup (nat_eq p) es ≡ option_map (λ e. e.1) (lookup_entry (nat_eq p) es)
value_of [] p = refl
value_of (e ∷ es) p = (elim (nat_eq p e.0) as (λ y. nat_eq p e.0 ≡ y → lookup (nat_eq p) (e ∷ es) ≡ option_map (λ e. e.1) (lookup_entry (nat_eq p) (e ∷ es))) [
  | true ↦ λ u. taken (nat_eq p e.0) (Some e.1) (lookup (nat_eq p) es) u
      ∙ sym (ap (option_map (λ (e : ℕ × Slot). e.1)) (taken (nat_eq p e.0) (Some e) (lookup_entry (nat_eq p) es) u))
  | false ↦ λ u. left_out (nat_eq p e.0) (Some e.1) (lookup (nat_eq p) es) u ∙ value_of es p
      ∙ sym (ap (option_map (λ (e : ℕ × Slot). e.1)) (left_out (nat_eq p e.0) (Some e) (lookup_entry (nat_eq p) es) u))
]) refl

-- no place is there when all are below it
pub none_there : (n : ℕ) (es : List (ℕ × Slot)) → AllByRecursion (λ e. e.0 < n) es → lookup_entry (nat_eq n) es ≡ None
none_there n [] a = refl
none_there n (e ∷ es) a = (elim (nat_eq n e.0) as (λ y. nat_eq n e.0 ≡ y → lookup_entry (nat_eq n) (e ∷ es) ≡ None) [
  | true ↦ λ u. let same : n ≡ e.0 = eqb-true n e.0 u in absurd (omega (arith, same, a.0))
  | false ↦ λ u. left_out (nat_eq n e.0) (Some e) (lookup_entry (nat_eq n) es) u ∙ none_there n es a.1
]) refl

pub below_next : (n : ℕ) (es : List (ℕ × Slot)) → AllByRecursion (λ e. e.0 < n) es → AllByRecursion (λ e. e.0 < n + 1) es
below_next n [] a = a
below_next n (e ∷ es) a = (omega (arith, a.0), below_next n es a.1)
