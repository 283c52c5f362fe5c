-- A pair that is looked for among the slots that were used last.
use Rattle.std.proofs.Common.{◌≡◌, ◌≢◌, ℕ, zero, suc, ◌-◌, Bool, true, false, cond, ◌&&◌, ◌⊎◌, inl, inr, List, [], ◌∷◌, length, take, Some, None, nat_eq, refl, ap, sym, ◌∙◌, subst, arith}
use Rattle.std.specs.Cmp.{nat_eq_equiv}
use Rattle.std.specs.Map.{lookup_entry, remove_entry}
use Rattle.std.proofs.lemmas.Bool.{and_parts, eqb-true}
use Rattle.trap_cache.specs.Cached.{KeptPair, bytes_under, without}
use Rattle.trap_cache.specs.Slots.{pair_place, has_pair, kept_in, AreDistinct}
use Rattle.trap_cache.specs.declared.slots.Slot.{Slot}

-- a choice whose test passes, and one whose test fails
pub taken : {X : Type 0} (y : Bool) (a b : X) → y ≡ true → cond y a b ≡ a
taken true a b t = refl
taken false a b t = cc

pub left_out : {X : Type 0} (y : Bool) (a b : X) → y ≡ false → cond y a b ≡ b
left_out true a b t = cc
left_out false a b t = refl

-- what is kept in a slot
abbrev show : ℕ × Slot → KeptPair
show e = record { block = e.1.block; seq = e.1.seq; bytes = e.1.bytes.items }

-- a slot that hasn't the pair is passed
pub passed : (n : ℕ) (e : ℕ × Slot) (es : List (ℕ × Slot)) (block seq : ℕ) → n ≢ 0 → has_pair block seq e.1 ≡ false
    → pair_place block seq (take (n - 1) es) ≡ pair_place block seq (take n (e ∷ es))
passed zero e es block seq some h = absurd (some refl)
passed (suc n) e es block seq some h =
    let less : suc n - 1 ≡ n = omega arith in
    ap (λ m. pair_place block seq (take m es)) less ∙ sym (left_out (has_pair block seq e.1) (Some e.0) (pair_place block seq (take n es)) h)

both_or_none : (x y : Bool) → (x ≡ false) ⊎ (y ≡ false) → (x && y) ≡ false
both_or_none true y h = elim h [ inl a ↦ cc | inr b ↦ b ]
both_or_none false y h = refl

unequal : (a b : ℕ) → (a ≡ b → ⊥) → nat_eq a b ≡ false
unequal a b h = (elim (nat_eq a b) as (λ y. nat_eq a b ≡ y → nat_eq a b ≡ false) [
  | true ↦ λ u. absurd (h (eqb-true a b u))
  | false ↦ λ u. u
]) refl

-- a slot with another block or another number hasn't the pair
pub unlike : (slot : Slot) (block seq : ℕ) → (slot.block ≡ block → ⊥) ⊎ (slot.seq ≡ seq → ⊥) → has_pair block seq slot ≡ false
unlike slot block seq h = both_or_none (nat_eq slot.block block) (nat_eq slot.seq seq)
    (elim h [ inl a ↦ inl (unequal slot.block block a) | inr b ↦ inr (unequal slot.seq seq b) ])

-- a place that is found among slots that come after one is another place
differs : (es : List (ℕ × Slot)) (k p block seq : ℕ) → lookup_entry (nat_eq k) es ≡ None → pair_place block seq es ≡ Some p → nat_eq p k ≡ false
differs [] k p block seq h f = cc
differs (e ∷ es) k p block seq h f = (elim (nat_eq k e.0) as (λ y. nat_eq k e.0 ≡ y → nat_eq p k ≡ false) [
  | true ↦ λ t. let some : Some e ≡ None = sym (taken (nat_eq k e.0) (Some e) (lookup_entry (nat_eq k) es) t) ∙ h in cc
  | false ↦ λ t. (elim (has_pair block seq e.1) as (λ y. has_pair block seq e.1 ≡ y → nat_eq p k ≡ false) [
    | true ↦ λ u.
        let is : Some e.0 ≡ Some p = sym (taken (has_pair block seq e.1) (Some e.0) (pair_place block seq es) u) ∙ f in
        let same : e.0 ≡ p = cc in
        subst (λ m. nat_eq m k ≡ false) same (nat_eq_equiv.symm e.0 k ∙ t)
    | false ↦ λ u. differs es k p block seq
        (sym (left_out (nat_eq k e.0) (Some e) (lookup_entry (nat_eq k) es) t) ∙ h)
        (sym (left_out (has_pair block seq e.1) (Some e.0) (pair_place block seq es) u) ∙ f)
  ]) refl
]) refl

-- what is found among the first is found among all
pub found_in_all : (n : ℕ) (es : List (ℕ × Slot)) (p block seq : ℕ) → pair_place block seq (take n es) ≡ Some p → pair_place block seq es ≡ Some p
found_in_all zero es p block seq f = cc
found_in_all (suc n) [] p block seq f = f
found_in_all (suc n) (e ∷ es) p block seq f = (elim (has_pair block seq e.1) as (λ y. has_pair block seq e.1 ≡ y → pair_place block seq (e ∷ es) ≡ Some p) [
  | true ↦ λ u. taken (has_pair block seq e.1) (Some e.0) (pair_place block seq es) u
      ∙ sym (taken (has_pair block seq e.1) (Some e.0) (pair_place block seq (take n es)) u) ∙ f
  | false ↦ λ u. left_out (has_pair block seq e.1) (Some e.0) (pair_place block seq es) u
      ∙ found_in_all n es p block seq (sym (left_out (has_pair block seq e.1) (Some e.0) (pair_place block seq (take n es)) u) ∙ f)
]) refl

-- the slot at the place that was found has the pair
pub record IsHit (es : List (ℕ × Slot)) (n p block seq : ℕ) : Type 0 where
  pub slot : Slot
  pub there : lookup_entry (nat_eq p) es ≡ Some (p, slot)
  pub has_block : slot.block ≡ block
  pub has_seq : slot.seq ≡ seq
  pub bytes : bytes_under block seq (kept_in (take n es)) ≡ Some slot.bytes.items

pub hit : (n : ℕ) (es : List (ℕ × Slot)) (p block seq : ℕ) → AreDistinct es → pair_place block seq (take n es) ≡ Some p → IsHit es n p block seq
hit zero es p block seq d f = cc
hit (suc n) [] p block seq d f = cc
hit (suc n) (e ∷ es) p block seq d f =
    let rest = bytes_under block seq (kept_in (take n es)) in
    (elim (has_pair block seq e.1) as (λ y. has_pair block seq e.1 ≡ y → IsHit (e ∷ es) (suc n) p block seq) [
      | true ↦ λ u.
          let is : Some e.0 ≡ Some p = sym (taken (has_pair block seq e.1) (Some e.0) (pair_place block seq (take n es)) u) ∙ f in
          let same : e.0 ≡ p = cc in
          let parts = and_parts (nat_eq e.1.block block) (nat_eq e.1.seq seq) u in
          record {
            slot = e.1;
            there = subst (λ m. cond (nat_eq m e.0) (Some e) (lookup_entry (nat_eq m) es) ≡ Some (m, e.1)) same
                (taken (nat_eq e.0 e.0) (Some e) (lookup_entry (nat_eq e.0) es) (nat_eq_equiv.refl e.0));
            has_block = eqb-true e.1.block block parts.0;
            has_seq = eqb-true e.1.seq seq parts.1;
            bytes = taken (has_pair block seq e.1) (Some e.1.bytes.items) rest u;
          }
      | false ↦ λ u.
          let found : pair_place block seq (take n es) ≡ Some p = sym (left_out (has_pair block seq e.1) (Some e.0) (pair_place block seq (take n es)) u) ∙ f in
          let later = hit n es p block seq d.1 found in
          let other : nat_eq p e.0 ≡ false = differs es e.0 p block seq d.0 (found_in_all n es p block seq found) in
          record {
            slot = later.slot;
            there = left_out (nat_eq p e.0) (Some e) (lookup_entry (nat_eq p) es) other ∙ later.there;
            has_block = later.has_block;
            has_seq = later.has_seq;
            bytes = left_out (has_pair block seq e.1) (Some e.1.bytes.items) rest u ∙ later.bytes;
          }
    ]) refl

-- the others keep their order
pub others : (n : ℕ) (es : List (ℕ × Slot)) (p block seq : ℕ) → AreDistinct es → pair_place block seq (take (suc n) es) ≡ Some p
    → kept_in (take n (remove_entry (nat_eq p) es)) ≡ without block seq (kept_in (take (suc n) es))
others n [] p block seq d f = cc
others zero (e ∷ es) p block seq d f = (elim (has_pair block seq e.1) as (λ y. has_pair block seq e.1 ≡ y → [] ≡ without block seq (show e ∷ [])) [
  | true ↦ λ u. sym (taken (has_pair block seq e.1) [] (show e ∷ []) u)
  | false ↦ λ u. let none : None ≡ Some p = sym (left_out (has_pair block seq e.1) (Some e.0) None u) ∙ f in cc
]) refl
others (suc n) (e ∷ es) p block seq d f =
    let all = kept_in (take (suc n) es) in
    (elim (has_pair block seq e.1) as (λ y. has_pair block seq e.1 ≡ y
    → kept_in (take (suc n) (remove_entry (nat_eq p) (e ∷ es))) ≡ without block seq (kept_in (take (suc (suc n)) (e ∷ es)))) [
      | true ↦ λ u.
          let is : Some e.0 ≡ Some p = sym (taken (has_pair block seq e.1) (Some e.0) (pair_place block seq (take (suc n) es)) u) ∙ f in
          let same : e.0 ≡ p = cc in
          let here : nat_eq p e.0 ≡ true = subst (λ k. nat_eq k e.0 ≡ true) same (nat_eq_equiv.refl e.0) in
          ap (λ xs. kept_in (take (suc n) xs)) (taken (nat_eq p e.0) es (e ∷ remove_entry (nat_eq p) es) here)
          ∙ sym (taken (has_pair block seq e.1) all (show e ∷ without block seq all) u)
      | false ↦ λ u.
          let found : pair_place block seq (take (suc n) es) ≡ Some p = sym (left_out (has_pair block seq e.1) (Some e.0) (pair_place block seq (take (suc n) es)) u) ∙ f in
          let other : nat_eq p e.0 ≡ false = differs es e.0 p block seq d.0 (found_in_all (suc n) es p block seq found) in
          ap (λ xs. kept_in (take (suc n) xs)) (left_out (nat_eq p e.0) es (e ∷ remove_entry (nat_eq p) es) other)
          ∙ ap (λ ks. show e ∷ ks) (others n es p block seq d.1 found)
          ∙ sym (left_out (has_pair block seq e.1) all (show e ∷ without block seq all) u)
    ]) refl

-- where the pair isn't found
pub missed : (es : List (ℕ × Slot)) (block seq : ℕ) → pair_place block seq es ≡ None → (bytes_under block seq (kept_in es) ≡ None) × (without block seq (kept_in es) ≡ kept_in es)
missed [] block seq f = (refl, refl)
missed (e ∷ es) block seq f =
    let all = kept_in es in
    (elim (has_pair block seq e.1) as (λ y. has_pair block seq e.1 ≡ y
    → (bytes_under block seq (kept_in (e ∷ es)) ≡ None) × (without block seq (kept_in (e ∷ es)) ≡ kept_in (e ∷ es))) [
      | true ↦ λ u. let some : Some e.0 ≡ None = sym (taken (has_pair block seq e.1) (Some e.0) (pair_place block seq es) u) ∙ f in cc
      | false ↦ λ u.
          let rest = missed es block seq (sym (left_out (has_pair block seq e.1) (Some e.0) (pair_place block seq es) u) ∙ f) in (
            left_out (has_pair block seq e.1) (Some e.1.bytes.items) (bytes_under block seq all) u ∙ rest.0,
            left_out (has_pair block seq e.1) all (show e ∷ without block seq all) u ∙ ap (λ ks. show e ∷ ks) rest.1,
          )
    ]) refl

-- what is kept in the first slots
pub first_kept : (n : ℕ) (es : List (ℕ × Slot)) → take n (kept_in es) ≡ kept_in (take n es)
first_kept zero es = refl
first_kept (suc n) [] = refl
first_kept (suc n) (e ∷ es) = ap (λ ks. show e ∷ ks) (first_kept n es)

pub length_kept : (es : List (ℕ × Slot)) → length (kept_in es) ≡ length es
length_kept [] = refl
length_kept (e ∷ es) = ap suc (length_kept es)
