-- What a call leaves of the slots, and of what is kept in them.
use Rattle.std.proofs.Common.{◌≡◌, ℕ, zero, suc, ◌+◌, ◌-◌, ◌≤◌, ◌<◌, true, false, List, [], ◌∷◌, length, replicate, take, ◌⊎◌, inl, inr, Some, None, IsSome, nat_eq, refl, ap, sym, ◌∙◌, subst, arith}
use Rattle.std.proofs.lemmas.Bool.{eqb-true}
use Rattle.std.proofs.lemmas.List.{length-replicate}
use Rattle.std.specs.Cmp.{nat_eq_equiv}
use Rattle.std.specs.List.{AllByRecursion}
use Rattle.std.specs.Map.{lookup, lookup_entry, remove_entry, set_value}
use Rattle.std.specs.Option.{option_map_or}
use Rattle.std.specs.Prelude.{slice_get, option_map}
use Rattle.lru.specs.LruCache.{LruCache, lru_cache, promoted, put_entries, last_entry}
use Rattle.trap_cache.specs.Cached.{KeptPair, Cached, at_front, found_first, after_get, after_keep}
use Rattle.trap_cache.specs.Slots.{pair_place, kept_in, AreDistinct, IsCache, IsRewritten}
use Rattle.trap_cache.specs.declared.slots.Slot.{Slot}
use Rattle.trap_cache.proofs.Hits.{taken, left_out, IsHit, hit, others, missed, first_kept, length_kept}
use Rattle.trap_cache.proofs.Places.{fronted, last_out, value_of, none_there}

-- a cache as a contract sees it
abbrev pub seen : ℕ → ℕ → List (ℕ × Slot) → Cached
seen size used es = record { size = size; kept = kept_in (take used es) }

abbrev cached : ℕ → List KeptPair → Cached
cached size ks = record { size = size; kept = ks }

abbrev pair : ℕ → ℕ → List ℕ → KeptPair
pair block seq bytes = record { block = block; seq = seq; bytes = bytes }

pub take_short : {X : Type 0} (n : ℕ) (xs : List X) → length xs ≤ n → take n xs ≡ xs
take_short zero [] h = refl
take_short zero (x ∷ xs) h = absurd (omega (arith, h))
take_short (suc n) [] h = refl
take_short (suc n) (x ∷ xs) h = ap (λ ys. x ∷ ys) (take_short n xs (omega (arith, h)))

pub take_first : {X : Type 0} (n m : ℕ) (xs : List X) → n ≤ m → take n (take m xs) ≡ take n xs
take_first zero m xs h = refl
take_first (suc n) zero xs h = absurd (omega (arith, h))
take_first (suc n) (suc m) [] h = refl
take_first (suc n) (suc m) (x ∷ xs) h = ap (λ ys. x ∷ ys) (take_first n m xs (omega (arith, h)))

pub short : {X : Type 0} (n : ℕ) (xs : List X) → length (take n xs) ≤ n
short zero xs = omega arith
short (suc n) [] = omega arith
short (suc n) (x ∷ xs) = let rest = short n xs in omega (arith, rest)

-- a slot that is there, as `lookup` gives it
pub shown : (es : List (ℕ × Slot)) (p : ℕ) (slot : Slot) → lookup_entry (nat_eq p) es ≡ Some (p, slot) → lookup (nat_eq p) es ≡ Some slot
shown es p slot h = value_of es p ∙ ap (option_map (λ (e : ℕ × Slot). e.1)) h

pub entry_there : (es : List (ℕ × Slot)) (p : ℕ) → IsSome (lookup (nat_eq p) es) → (slot : Slot) × (lookup_entry (nat_eq p) es ≡ Some (p, slot))
entry_there [] p s = cc
entry_there (e ∷ es) p s = (elim (nat_eq p e.0) as (λ y. nat_eq p e.0 ≡ y → (slot : Slot) × (lookup_entry (nat_eq p) (e ∷ es) ≡ Some (p, slot))) [
  | true ↦ λ u.
      let same : p ≡ e.0 = eqb-true p e.0 u in
      (e.1, taken (nat_eq p e.0) (Some e) (lookup_entry (nat_eq p) es) u ∙ ap (λ k. Some (k, e.1)) (sym same))
  | false ↦ λ u.
      let later = entry_there es p (subst IsSome (left_out (nat_eq p e.0) (Some e.1) (lookup (nat_eq p) es) u) s) in
      (later.0, left_out (nat_eq p e.0) (Some e) (lookup_entry (nat_eq p) es) u ∙ later.1)
]) refl

-- the slot at a place, moved to the front and written
pub set_first : (es : List (ℕ × Slot)) (p : ℕ) (slot : Slot) → IsSome (lookup (nat_eq p) es) → set_value (nat_eq p) (promoted (nat_eq p) es) slot ≡ (p, slot) ∷ remove_entry (nat_eq p) es
set_first es p slot s =
    let e = entry_there es p s in
    let rest = remove_entry (nat_eq p) es in
    ap (λ o. set_value (nat_eq p) (option_map_or (λ x. x ∷ rest) o es) slot) e.1
    ∙ taken (nat_eq p p) ((p, slot) ∷ rest) ((p, e.0) ∷ set_value (nat_eq p) rest slot) (nat_eq_equiv.refl p)

-- it is still a cache, of as many pairs or of one more
pub still_cache : (size used more p : ℕ) (old new : LruCache ℕ Slot) (was slot : Slot) → IsCache size used old.cap old.entries → lookup_entry (nat_eq p) old.entries ≡ Some (p, was)
    → length slot.bytes.items ≡ size → more ≤ 16 → new ≡ lru_cache ((p, slot) ∷ remove_entry (nat_eq p) old.entries) old.cap → IsCache size more new.cap new.entries
still_cache size used more p old new was slot is there fits few e =
    let all : IsCache size more old.cap ((p, slot) ∷ remove_entry (nat_eq p) old.entries) = record {
      slots = fronted size old.entries p (p, was) slot is.slots there fits;
      few = few;
      room = is.room;
    } in
    subst (λ (c : LruCache ℕ Slot). IsCache size more c.cap c.entries) (sym e) all

-- the pair that was found is at the front
pub moved : (used : ℕ) (es : List (ℕ × Slot)) (p block seq : ℕ) (slot : Slot) → AreDistinct es → pair_place block seq (take used es) ≡ Some p → slot.block ≡ block → slot.seq ≡ seq
    → kept_in (take used ((p, slot) ∷ remove_entry (nat_eq p) es)) ≡ at_front block seq slot.bytes.items (kept_in (take used es))
moved zero es p block seq slot d f b s = cc
moved (suc n) es p block seq slot d f b s =
    let rest = kept_in (take n (remove_entry (nat_eq p) es)) in
    ap (λ x. pair x slot.seq slot.bytes.items ∷ rest) b
    ∙ ap (λ x. pair block x slot.bytes.items ∷ rest) s
    ∙ ap (λ ks. pair block seq slot.bytes.items ∷ ks) (others n es p block seq d f)

pub promoted_is : (used p block seq : ℕ) (old new : LruCache ℕ Slot) (h : IsHit old.entries used p block seq) → new ≡ lru_cache (promoted (nat_eq p) old.entries) old.cap
    → new ≡ lru_cache ((p, h.slot) ∷ remove_entry (nat_eq p) old.entries) old.cap
promoted_is used p block seq old new h e =
    e ∙ ap (λ o. lru_cache (option_map_or (λ x. x ∷ remove_entry (nat_eq p) old.entries) o old.entries) old.cap) h.there

pub first_shown : (used p block seq : ℕ) (old new : LruCache ℕ Slot) (h : IsHit old.entries used p block seq) → new ≡ lru_cache (promoted (nat_eq p) old.entries) old.cap
    → lookup (nat_eq p) new.entries ≡ Some h.slot
first_shown used p block seq old new h e =
    ap (λ (c : LruCache ℕ Slot). lookup (nat_eq p) c.entries) (promoted_is used p block seq old new h e)
    ∙ taken (nat_eq p p) (Some h.slot) (lookup (nat_eq p) (remove_entry (nat_eq p) old.entries)) (nat_eq_equiv.refl p)

-- a look-up that finds the pair
pub got : (size used p block seq : ℕ) (old new : LruCache ℕ Slot) (now : Cached) → seen size used old.entries ≡ now → AreDistinct old.entries → pair_place block seq (take used old.entries) ≡ Some p
    → new ≡ lru_cache (promoted (nat_eq p) old.entries) old.cap → seen size used new.entries ≡ after_get block seq now
got size used p block seq old new now view d f e =
    let h = hit used old.entries p block seq d f in
    ap (λ (c : LruCache ℕ Slot). seen size used c.entries) (promoted_is used p block seq old new h e)
    ∙ ap (cached size) (moved used old.entries p block seq h.slot d f h.has_block h.has_seq)
    ∙ sym (ap (λ o. cached size (found_first block seq o (kept_in (take used old.entries)))) h.bytes)
    ∙ ap (after_get block seq) view

-- one that doesn't
pub not_got : (size used block seq : ℕ) (es : List (ℕ × Slot)) (now : Cached) → seen size used es ≡ now → pair_place block seq (take used es) ≡ None → seen size used es ≡ after_get block seq now
not_got size used block seq es now view f =
    sym (ap (λ o. cached size (found_first block seq o (kept_in (take used es)))) (missed (take used es) block seq f).0) ∙ ap (after_get block seq) view

-- a pair that is kept already is rewritten
pub kept_again : (size used p block seq : ℕ) (bytes : List ℕ) (old new : LruCache ℕ Slot) (now : Cached) → seen size used old.entries ≡ now → IsCache size used old.cap old.entries
    → pair_place block seq (take used old.entries) ≡ Some p → IsRewritten old new p block seq bytes → seen size used new.entries ≡ after_keep block seq bytes now
kept_again size used p block seq bytes old new now view is f r =
    let es = (p, r.slot) ∷ remove_entry (nat_eq p) old.entries in
    let few : length (kept_in (take used es)) ≤ 16 = let n = length_kept (take used es) in let m = short used es in let l = is.few in omega (arith, n, m, l) in
    ap (λ (c : LruCache ℕ Slot). seen size used c.entries) r.first
    ∙ ap (cached size) (sym (take_short 16 (kept_in (take used es)) few)
    ∙ ap (take 16) (moved used old.entries p block seq r.slot is.slots.distinct f r.has_block r.has_seq
    ∙ ap (λ bs. at_front block seq bs (kept_in (take used old.entries))) r.has_bytes))
    ∙ ap (after_keep block seq bytes) view

-- the last place, by the number of the slots
pub last_is : (es : List (ℕ × Slot)) (p : ℕ) → length es ≡ 16 → option_map (λ e. e.0) (last_entry es) ≡ Some p → option_map (λ e. e.0) (slice_get es 15) ≡ Some p
last_is es p len f = ap (λ n. option_map (λ (e : ℕ × Slot). e.0) (slice_get es (n - 1))) (sym len) ∙ f

-- what is kept once the slot that was used least recently has a new pair
new_first : (used more : ℕ) (es : List (ℕ × Slot)) (p : ℕ) (slot : Slot) → used ≤ 16 → more ≤ 16 → more ≤ used + 1 → (used + 1 ≤ more) ⊎ (more ≡ 16)
    → kept_in (take more ((p, slot) ∷ take 15 es)) ≡ take 16 (pair slot.block slot.seq slot.bytes.items ∷ kept_in (take used es))
new_first used zero es p slot few fits near room = absurd (elim room [ inl h ↦ omega (arith, h) | inr h ↦ omega (arith, h) ])
new_first used (suc n) es p slot few fits near room =
    let low : n ≤ 15 = omega (arith, fits) in
    let under : n ≤ used = omega (arith, near) in
    let same : take n (take used es) ≡ take 15 (take used es) =
    elim room [
      | inl h ↦ let is : used ≤ n = omega (arith, h) in let l = short used es in
          take_short n (take used es) (omega (arith, is, l)) ∙ sym (take_short 15 (take used es) (omega (arith, is, l, low)))
      | inr h ↦ let is : n ≡ 15 = omega (arith, h) in ap (λ m. take m (take used es)) is
    ] in
    ap (λ ks. pair slot.block slot.seq slot.bytes.items ∷ ks)
    (ap kept_in (take_first n 15 es low ∙ sym (take_first n used es under) ∙ same) ∙ sym (first_kept 15 (take used es)))

-- a pair that isn't kept yet takes the slot that was used least recently
pub kept_new : (size used more p block seq : ℕ) (bytes : List ℕ) (old new : LruCache ℕ Slot) (now : Cached) → seen size used old.entries ≡ now → IsCache size used old.cap old.entries
    → pair_place block seq (take used old.entries) ≡ None → option_map (λ e. e.0) (last_entry old.entries) ≡ Some p → IsRewritten old new p block seq bytes
    → more ≤ 16 → more ≤ used + 1 → (used + 1 ≤ more) ⊎ (more ≡ 16) → seen size more new.entries ≡ after_keep block seq bytes now
kept_new size used more p block seq bytes old new now view is f last r fits near room =
    let all = kept_in (take used old.entries) in
    let out = last_out 15 old.entries p is.slots.distinct is.slots.sixteen (last_is old.entries p is.slots.sixteen last) in
    ap (λ (c : LruCache ℕ Slot). seen size more c.entries) r.first
    ∙ ap (cached size)
    (ap (λ es. kept_in (take more ((p, r.slot) ∷ es))) out
    ∙ new_first used more old.entries p r.slot is.few fits near room
    ∙ ap (λ x. take 16 (pair x r.slot.seq r.slot.bytes.items ∷ all)) r.has_block
    ∙ ap (λ x. take 16 (pair block x r.slot.bytes.items ∷ all)) r.has_seq
    ∙ ap (λ x. take 16 (pair block seq x ∷ all)) r.has_bytes
    ∙ ap (λ ks. take 16 (pair block seq bytes ∷ ks)) (sym (missed (take used old.entries) block seq f).1))
    ∙ ap (after_keep block seq bytes) view

-- one more slot
pub grown : (n : ℕ) (old new : LruCache ℕ Slot) (slot : Slot) → n < 16 → length old.entries ≡ n → AllByRecursion (λ e. e.0 < n) old.entries → old.cap ≡ 16
    → new ≡ lru_cache (put_entries nat_eq old n slot) old.cap → new ≡ lru_cache ((n, slot) ∷ old.entries) 16
grown n old new slot few len below room e =
    let fits : length old.entries ≤ 15 = omega (arith, few, len) in
    e ∙ ap (λ o. lru_cache (option_map_or (λ (x : ℕ × Slot). (x.0, slot) ∷ remove_entry (nat_eq n) old.entries) o ((n, slot) ∷ take (old.cap - 1) old.entries)) old.cap)
    (none_there n old.entries below)
    ∙ ap (λ m. lru_cache ((n, slot) ∷ take (m - 1) old.entries) m) room
    ∙ ap (λ xs. lru_cache ((n, slot) ∷ xs) 16) (take_short 15 old.entries fits)

pub length_zeros : (n : ℕ) (bytes : List ℕ) → bytes ≡ replicate n 0 → length bytes ≡ n
length_zeros n bytes e = ap length e ∙ length-replicate n 0
