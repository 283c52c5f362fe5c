-- The slots in memory: where one is written over, and which writes they hold.
use Rattle.std.proofs.Common.{◌≡◌, ◌≢◌, ◌⊎◌, ℕ, zero, suc, ◌+◌, ◌-◌, ◌*◌, ◌%◌, ◌<◌, ◌≤◌, List, ◌∷◌, ◌++◌, length, get_or, take, drop, refl, ap, sym, ◌∙◌, inl, inr, ⊎_elim, arith, length-drop, take_at, drop_at}
use Rattle.std.specs.Prelude.{All}
use borrow.Rule.Slice.PartMut.{put_mid, post_of}
use Rattle.std.proofs.Math.Nat.{mod-lt}
use Rattle.std.proofs.lemmas.Bool.{cases_eq, cases_order}
use Rattle.std.proofs.lemmas.List.{length-take-le}
use Rattle.std.proofs.lemmas.List.Elements.{All-nil, All-cons}
use Rattle.std.proofs.lemmas.Slice.{between_is, take-put_mid_below, drop-put_mid}
use Rattle.trap_format.specs.LogDisk.{slot_len}
use Rattle.trap_model.specs.Image.{volume}
use Rattle.trap_model.specs.declared.numbers.Geometry.{Geometry}
use Rattle.trap_stage.specs.Staged.{IsStaged}
use Rattle.trap_stage.specs.Held.{slot_offset, slot_held, staged_from, staged_held, writes_held, HoldsWrites}
use Rattle.trap_stage.specs.Found.{no_write}
use Rattle.trap_stage.proofs.SlotAreas.{places_apart}

-- ---- where a slot stands
pub slot_room : (g : Geometry) (q : ℕ) → slot_offset g q + slot_len g ≤ g.slots * slot_len g
slot_room g q =
    let some : 0 < g.slots = omega (arith, g.within.slots_least) in
    places_apart (q % g.slots) g.slots (slot_len g) (mod-lt q some)

pub length-slot_held : (g : Geometry) (slots : List ℕ) (q : ℕ) → length slots ≡ g.slots * slot_len g → length (slot_held g slots q) ≡ slot_len g
length-slot_held g slots q size =
    let room = slot_room g q in
    let rest = length-drop (slot_offset g q) slots in
    length-take-le (slot_len g) (drop (slot_offset g q) slots) (omega arith)

-- ---- a slot written over
-- a range before or after what was written over
range_beside : (xs ys : List ℕ) (a k i n : ℕ) → length ys ≡ k → a + k ≤ length xs → (i + n ≤ a) ⊎ (a + k ≤ i) → take n (drop i (put_mid a k xs ys)) ≡ take n (drop i xs)
range_beside xs ys a k i n len room beside = ⊎_elim
    (λ (before : i + n ≤ a).
    let count : i + n - i ≡ n = omega arith in
    let over = put_mid a k xs ys in
    ap (λ (m : ℕ). take m (drop i over)) (sym count)
    ∙ between_is over i (i + n)
    ∙ ap (λ (l : List ℕ). drop i l) (take-put_mid_below a k xs ys (i + n) before (omega arith))
    ∙ sym (between_is xs i (i + n))
    ∙ ap (λ (m : ℕ). take m (drop i xs)) count)
    (λ (behind : a + k ≤ i). ap (λ (l : List ℕ). take n l) (drop-put_mid a k xs ys i behind (omega arith) len))
    beside

-- two slots of other places of the round stand beside one another
slots_beside : (g : Geometry) (p q : ℕ) → p % g.slots ≢ q % g.slots → (slot_offset g p + slot_len g ≤ slot_offset g q) ⊎ (slot_offset g q + slot_len g ≤ slot_offset g p)
slots_beside g p q other = ⊎_elim
    (λ (same : p % g.slots ≡ q % g.slots). absurd (other same))
    (λ apart. ⊎_elim
    (λ (less : p % g.slots < q % g.slots). inl (places_apart (p % g.slots) (q % g.slots) (slot_len g) less))
    (λ (more : q % g.slots < p % g.slots). inr (places_apart (q % g.slots) (p % g.slots) (slot_len g) more))
    apart)
    (cases_order (p % g.slots) (q % g.slots))

-- what was written over, with the offset and the length as a program computes them
pub record IsOver (g : Geometry) (slots fresh : List ℕ) (at k q : ℕ) : Type 0 where
  pub size : length slots ≡ g.slots * slot_len g
  pub place : at ≡ slot_offset g q
  pub count : k ≡ slot_len g
  pub len : length fresh ≡ slot_len g

pub held_over : (g : Geometry) (slots fresh : List ℕ) (at k q : ℕ) → IsOver g slots fresh at k q → slot_held g (put_mid at k slots fresh) q ≡ fresh
held_over g slots fresh at k q is =
    let room = slot_room g q in
    let size = is.size in
    let place = is.place in
    let count = is.count in
    let len = is.len in
    let front : length (take at slots) ≡ slot_offset g q = length-take-le at slots (omega arith) ∙ place in
    ap (λ (l : List ℕ). take (slot_len g) l) (drop_at (take at slots) (fresh ++ post_of at k slots) (slot_offset g q) front)
    ∙ take_at fresh (post_of at k slots) (slot_len g) len

pub held_beside : (g : Geometry) (slots fresh : List ℕ) (at k q p : ℕ) → IsOver g slots fresh at k q → p % g.slots ≢ q % g.slots → slot_held g (put_mid at k slots fresh) p ≡ slot_held g slots p
held_beside g slots fresh at k q p is other =
    let room = slot_room g q in
    let size = is.size in
    let place = is.place in
    let count = is.count in
    let len = is.len in
    range_beside slots fresh at k (slot_offset g p) (slot_len g) (omega arith) (omega arith)
    (⊎_elim
    (λ (before : slot_offset g p + slot_len g ≤ slot_offset g q). inl (let h : slot_offset g p + slot_len g ≤ at = omega arith in h))
    (λ (behind : slot_offset g q + slot_len g ≤ slot_offset g p). inr (let h : at + k ≤ slot_offset g p = omega arith in h))
    (slots_beside g p q other))

-- ---- the writes that slots hold
-- a slot's write is one of the array where its block is
pub staged_sound : (g : Geometry) (slot : List ℕ) → length slot ≡ slot_len g → (staged_from g slot).block < volume g → IsStaged g (staged_from g slot)
staged_sound g slot len inside = record {
  block = inside;
  bytes = (let rest = length-drop 12 slot in length-take-le g.block (drop 12 slot) (omega arith));
  parity = (let rest = length-drop (12 + g.block) slot in omega arith);
}

pub held_sound : (g : Geometry) (drained last : ℕ) (slots : List ℕ) (q : ℕ) → HoldsWrites g drained last slots → drained < q → q ≤ last → IsStaged g (staged_held g slots q)
held_sound g drained last slots q held low high = staged_sound g (slot_held g slots q) (length-slot_held g slots q held.size) (held.blocks q low high)

pub length-writes_held : (g : Geometry) (slots : List ℕ) (drained k : ℕ) → length (writes_held g slots drained k) ≡ k
length-writes_held g slots drained zero = refl
length-writes_held g slots drained (suc k) = ap suc (length-writes_held g slots drained k)

-- the same slots hold the same writes
pub writes_same : (g : Geometry) (old new : List ℕ) (drained k : ℕ) → ((q : ℕ) → drained < q → q ≤ drained + k → slot_held g new q ≡ slot_held g old q)
    → writes_held g new drained k ≡ writes_held g old drained k
writes_same g old new drained zero same = refl
writes_same g old new drained (suc k) same =
    ap (λ (l : List ℕ). staged_from g l ∷ writes_held g new drained k) (same (drained + suc k) (omega arith) (omega arith))
    ∙ ap (λ ws. staged_held g old (drained + suc k) ∷ ws) (writes_same g old new drained k (λ q low high. same q low (omega arith)))

-- all of them are writes of the array
pub all_sound : (g : Geometry) (slots : List ℕ) (drained k : ℕ) → ((q : ℕ) → drained < q → q ≤ drained + k → IsStaged g (staged_held g slots q)) → All (IsStaged g) (writes_held g slots drained k)
all_sound g slots drained zero each = All-nil (IsStaged g)
all_sound g slots drained (suc k) each =
    All-cons (IsStaged g) (staged_held g slots (drained + suc k)) (writes_held g slots drained k) (each (drained + suc k) (omega arith) (omega arith))
    (all_sound g slots drained k (λ q low high. each q low (omega arith)))

-- the write with a number
pub write_numbered : (g : Geometry) (slots : List ℕ) (drained k q : ℕ) → drained < q → q ≤ drained + k → get_or (writes_held g slots drained k) (drained + k - q) no_write ≡ staged_held g slots q
write_numbered g slots drained zero q low high = absurd (omega arith)
write_numbered g slots drained (suc k) q low high = ⊎_elim
    (λ (newest : q ≡ drained + suc k).
    let none : drained + suc k - q ≡ 0 = omega arith in
    ap (λ (n : ℕ). get_or (writes_held g slots drained (suc k)) n no_write) none ∙ ap (λ (n : ℕ). staged_held g slots n) (sym newest))
    (λ (other : q ≡ drained + suc k → ⊥).
    let count : drained + suc k - q ≡ suc (drained + k - q) = omega (arith, other) in
    ap (λ (n : ℕ). get_or (writes_held g slots drained (suc k)) n no_write) count ∙ write_numbered g slots drained k q low (omega (arith, other)))
    (cases_eq q (drained + suc k))

-- those above a later number
pub writes_later : (g : Geometry) (slots : List ℕ) (drained upto newer older k : ℕ) → upto ≡ drained + older → k ≡ newer + older
    → take newer (writes_held g slots drained k) ≡ writes_held g slots upto newer
writes_later g slots drained upto zero older k is sum = refl
writes_later g slots drained upto (suc newer) older k is sum =
    let count : k ≡ suc (newer + older) = omega arith in
    let number : drained + suc (newer + older) ≡ upto + suc newer = omega arith in
    ap (λ (n : ℕ). take (suc newer) (writes_held g slots drained n)) count
    ∙ ap (λ (q : ℕ). staged_held g slots q ∷ take newer (writes_held g slots drained (newer + older))) number
    ∙ ap (λ ws. staged_held g slots (upto + suc newer) ∷ ws) (writes_later g slots drained upto newer older (newer + older) is refl)
