-- What is found after a pair was kept or looked up.
use Rattle.std.proofs.Common.{◌≡◌, ℕ, zero, suc, ◌≤◌, ◌<◌, true, false, ◌&&◌, List, [], ◌∷◌, length, take, Option, Some, None, nat_eq, refl, ap, sym, ◌∙◌, subst, arith}
use Rattle.std.specs.Cmp.{nat_eq_equiv}
use Rattle.std.proofs.lemmas.Bool.{and_parts, eqb-true}
use Rattle.trap_cache.specs.Cached.{KeptPair, Cached, is_under, bytes_under, without, at_front, found_first, after_get, after_keep}
use Rattle.trap_cache.proofs.Hits.{taken, left_out}
use Rattle.trap_cache.proofs.Steps.{take_short}

abbrev pair : ℕ → ℕ → List ℕ → KeptPair
pair block seq bytes = record { block = block; seq = seq; bytes = bytes }

-- a pair is under itself
own_pair : (block seq : ℕ) (bytes : List ℕ) → is_under block seq (pair block seq bytes) ≡ true
own_pair block seq bytes = ap (λ b. b && nat_eq seq seq) (nat_eq_equiv.refl block) ∙ nat_eq_equiv.refl seq

pub got_what_was_kept : (block seq : ℕ) (bytes : List ℕ) (ks : List KeptPair) → bytes_under block seq (pair block seq bytes ∷ ks) ≡ Some bytes
got_what_was_kept block seq bytes ks = taken (is_under block seq (pair block seq bytes)) (Some bytes) (bytes_under block seq ks) (own_pair block seq bytes)

-- what is kept under one pair isn't kept under another
apart : (b s block seq : ℕ) (k : KeptPair) → ((b ≡ block) × (s ≡ seq) → ⊥) → is_under b s k ≡ true → is_under block seq k ≡ false
apart b s block seq k differ h = (elim (is_under block seq k) as (λ y. is_under block seq k ≡ y → is_under block seq k ≡ false) [
  | true ↦ λ u.
      let one = and_parts (nat_eq k.block b) (nat_eq k.seq s) h in
      let two = and_parts (nat_eq k.block block) (nat_eq k.seq seq) u in
      absurd (differ (sym (eqb-true k.block b one.0) ∙ eqb-true k.block block two.0, sym (eqb-true k.seq s one.1) ∙ eqb-true k.seq seq two.1))
  | false ↦ λ u. u
]) refl

without_other : (b s block seq : ℕ) (ks : List KeptPair) → ((b ≡ block) × (s ≡ seq) → ⊥) → bytes_under b s (without block seq ks) ≡ bytes_under b s ks
without_other b s block seq [] differ = refl
without_other b s block seq (k ∷ ks) differ = (elim (is_under b s k) as (λ y. is_under b s k ≡ y → bytes_under b s (without block seq (k ∷ ks)) ≡ bytes_under b s (k ∷ ks)) [
  | true ↦ λ t.
      ap (bytes_under b s) (left_out (is_under block seq k) ks (k ∷ without block seq ks) (apart b s block seq k differ t))
      ∙ taken (is_under b s k) (Some k.bytes) (bytes_under b s (without block seq ks)) t
      ∙ sym (taken (is_under b s k) (Some k.bytes) (bytes_under b s ks) t)
  | false ↦ λ t. (elim (is_under block seq k) as (λ y. is_under block seq k ≡ y → bytes_under b s (without block seq (k ∷ ks)) ≡ bytes_under b s (k ∷ ks)) [
    | true ↦ λ u.
        ap (bytes_under b s) (taken (is_under block seq k) ks (k ∷ without block seq ks) u)
        ∙ sym (left_out (is_under b s k) (Some k.bytes) (bytes_under b s ks) t)
    | false ↦ λ u.
        ap (bytes_under b s) (left_out (is_under block seq k) ks (k ∷ without block seq ks) u)
        ∙ left_out (is_under b s k) (Some k.bytes) (bytes_under b s (without block seq ks)) t
        ∙ without_other b s block seq ks differ
        ∙ sym (left_out (is_under b s k) (Some k.bytes) (bytes_under b s ks) t)
  ]) refl
]) refl

other_at_front : (b s block seq : ℕ) (bytes : List ℕ) (ks : List KeptPair) → ((b ≡ block) × (s ≡ seq) → ⊥) → bytes_under b s (at_front block seq bytes ks) ≡ bytes_under b s ks
other_at_front b s block seq bytes ks differ =
    left_out (is_under b s (pair block seq bytes)) (Some bytes) (bytes_under b s (without block seq ks))
    (apart block seq b s (pair block seq bytes) (λ e. differ (sym e.0, sym e.1)) (own_pair block seq bytes))
    ∙ without_other b s block seq ks differ

found_before : (n b s : ℕ) (was : List ℕ) (ks : List KeptPair) → bytes_under b s (take n ks) ≡ Some was → bytes_under b s ks ≡ Some was
found_before zero b s was ks h = cc
found_before (suc n) b s was [] h = h
found_before (suc n) b s was (k ∷ ks) h = (elim (is_under b s k) as (λ y. is_under b s k ≡ y → bytes_under b s (k ∷ ks) ≡ Some was) [
  | true ↦ λ t. taken (is_under b s k) (Some k.bytes) (bytes_under b s ks) t
      ∙ sym (taken (is_under b s k) (Some k.bytes) (bytes_under b s (take n ks)) t) ∙ h
  | false ↦ λ t. left_out (is_under b s k) (Some k.bytes) (bytes_under b s ks) t
      ∙ found_before n b s was ks (sym (left_out (is_under b s k) (Some k.bytes) (bytes_under b s (take n ks)) t) ∙ h)
]) refl

pub others_after_keep : (c : Cached) (block seq b s : ℕ) (bytes was : List ℕ) → ((b ≡ block) × (s ≡ seq) → ⊥)
    → bytes_under b s (after_keep block seq bytes c).kept ≡ Some was → bytes_under b s c.kept ≡ Some was
others_after_keep c block seq b s bytes was differ h =
    sym (other_at_front b s block seq bytes c.kept differ) ∙ found_before 16 b s was (at_front block seq bytes c.kept) h

no_longer : (block seq : ℕ) (ks : List KeptPair) → length (without block seq ks) ≤ length ks
no_longer block seq [] = omega arith
no_longer block seq (k ∷ ks) = (elim (is_under block seq k) as (λ y. is_under block seq k ≡ y → length (without block seq (k ∷ ks)) ≤ length (k ∷ ks)) [
  | true ↦ λ u. let e = ap length (taken (is_under block seq k) ks (k ∷ without block seq ks) u) in omega (arith, e)
  | false ↦ λ u. let e = ap length (left_out (is_under block seq k) ks (k ∷ without block seq ks) u) in let rest = no_longer block seq ks in omega (arith, e, rest)
]) refl

pub stays_with_room : (c : Cached) (block seq b s : ℕ) (bytes : List ℕ) → ((b ≡ block) × (s ≡ seq) → ⊥)
    → length c.kept < 16 → bytes_under b s (after_keep block seq bytes c).kept ≡ bytes_under b s c.kept
stays_with_room c block seq b s bytes differ room =
    let l = no_longer block seq c.kept in
    let fits : length (at_front block seq bytes c.kept) ≤ 16 = omega (arith, l, room) in
    ap (bytes_under b s) (take_short 16 (at_front block seq bytes c.kept) fits) ∙ other_at_front b s block seq bytes c.kept differ

same_pair : (b s block seq : ℕ) (bytes : List ℕ) (ks : List KeptPair) → nat_eq b block ≡ true → nat_eq s seq ≡ true
    → bytes_under block seq ks ≡ Some bytes → bytes_under b s (at_front block seq bytes ks) ≡ bytes_under b s ks
same_pair b s block seq bytes ks x y h =
    let one : block ≡ b = sym (eqb-true b block x) in
    let two : seq ≡ s = sym (eqb-true s seq y) in
    subst (λ m. bytes_under m s (at_front block seq bytes ks) ≡ bytes_under m s ks) one
    (subst (λ m. bytes_under block m (at_front block seq bytes ks) ≡ bytes_under block m ks) two
    (got_what_was_kept block seq bytes (without block seq ks) ∙ sym h))

still_found : (b s block seq : ℕ) (o : Option (List ℕ)) (ks : List KeptPair) → bytes_under block seq ks ≡ o → bytes_under b s (found_first block seq o ks) ≡ bytes_under b s ks
still_found b s block seq None ks h = refl
still_found b s block seq (Some bytes) ks h = (elim (nat_eq b block) as (λ y. nat_eq b block ≡ y → bytes_under b s (at_front block seq bytes ks) ≡ bytes_under b s ks) [
  | true ↦ λ t. (elim (nat_eq s seq) as (λ y. nat_eq s seq ≡ y → bytes_under b s (at_front block seq bytes ks) ≡ bytes_under b s ks) [
    | true ↦ λ u. same_pair b s block seq bytes ks t u h
    | false ↦ λ u. other_at_front b s block seq bytes ks (λ e. let x : nat_eq s seq ≡ true = subst (λ m. nat_eq s m ≡ true) e.1 (nat_eq_equiv.refl s) in let y : true ≡ false = sym x ∙ u in cc)
  ]) refl
  | false ↦ λ t. other_at_front b s block seq bytes ks (λ e. let x : nat_eq b block ≡ true = subst (λ m. nat_eq b m ≡ true) e.0 (nat_eq_equiv.refl b) in let y : true ≡ false = sym x ∙ t in cc)
]) refl

pub found_after_get : (c : Cached) (block seq b s : ℕ) → bytes_under b s (after_get block seq c).kept ≡ bytes_under b s c.kept
found_after_get c block seq b s = still_found b s block seq (bytes_under block seq c.kept) c.kept refl
