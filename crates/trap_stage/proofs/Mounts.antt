-- Reading the slots one after the other.
use Rattle.std.proofs.Common.{◌≡◌, ℕ, zero, suc, ◌+◌, ◌-◌, ◌<◌, ◌≤◌, List, length, IsTrue, ap, sym, ◌∙◌, subst, ⊎_elim, arith}
use Rattle.std.proofs.lemmas.Bool.{cases_eq}
use Rattle.trap_bank.specs.Disks.{Disks, Contents, View, region}
use Rattle.trap_bank.specs.Steps.{OnlyReads}
use Rattle.trap_bank.specs.Called.{CalledTimes, CalledAtMost}
use Rattle.trap_bank.proofs.Called.{not_called, called_then, called_at_most}
use Rattle.trap_bank.proofs.OnlyReads.{reads_none, reads_then}
use Rattle.trap_format.specs.LogDisk.{slot_len}
use Rattle.trap_model.specs.Image.{volume}
use Rattle.trap_model.specs.declared.numbers.Geometry.{Geometry}
use Rattle.trap_stage.specs.Staged.{Staged}
use Rattle.trap_stage.specs.Slots.{slot_start, slot_bytes, SlotHas, SlotsAre}
use Rattle.trap_stage.specs.Held.{slot_held, staged_from, staged_held, writes_held, SpellsNumber, AllSpell}
use Rattle.trap_stage.specs.Mounting.{AreSlotsRead, OthersStay}
use Rattle.trap_stage.specs.Found.{IsSlot, IsDamagedSlot}
use Rattle.trap_stage.proofs.SlotAreas.{round_apart}
use Rattle.trap_stage.proofs.HeldSlots.{length-writes_held}
use Rattle.trap_stage.proofs.HeldSpellings.{staged_again}

-- the slots up to a number were read
pub record ReadsTo (g : Geometry) (drained upto : ℕ) (old new : View) (slots : List ℕ) : Type 0 where
  pub spelled : AllSpell g slots drained upto
  pub blocks : (q : ℕ) → drained < q → q ≤ upto → (staged_held g slots q).block < volume g
  pub read : IsTrue old.tells → AreSlotsRead g slots drained upto old.now.disks
  pub reads : OnlyReads old new
  pub order : drained ≤ upto
  pub calls : CalledTimes (upto - drained) old new

pub no_slot_read : (g : Geometry) (drained : ℕ) (v : View) (slots : List ℕ) → ReadsTo g drained drained v v slots
no_slot_read g drained v slots = record {
  spelled = λ q low high. absurd (omega arith);
  blocks = λ q low high. absurd (omega arith);
  read = λ told q low high. absurd (omega arith);
  reads = reads_none v;
  order = omega arith;
  calls = subst (λ (n : ℕ). CalledTimes n v v) (omega arith) (not_called v);
}

-- what reading one more slot gives
pub record ReadsOne (g : Geometry) (q : ℕ) (old new : View) (before after : List ℕ) : Type 0 where
  pub spelled : SpellsNumber g q (slot_held g after q)
  pub block : (staged_held g after q).block < volume g
  pub read : IsTrue old.tells → slot_held g after q ≡ region old.now.disks 0 (slot_start g q) (slot_len g)
  pub others : OthersStay g q before after
  pub reads : OnlyReads old new
  pub calls : CalledTimes 1 old new

-- each number before the next one, or that one itself
next_or : (P : ℕ → Type 0) (drained upto q : ℕ) → P (upto + 1) → ((p : ℕ) → drained < p → p ≤ upto → P p) → drained < q → q ≤ upto + 1 → P q
next_or P drained upto q here before low high = ⊎_elim
    (λ (newest : q ≡ upto + 1). subst P (sym newest) here)
    (λ (other : q ≡ upto + 1 → ⊥). before q low (omega (arith, other)))
    (cases_eq q (upto + 1))

pub reads_more : (g : Geometry) (drained upto : ℕ) (a b c : View) (before after : List ℕ) → upto + 1 ≤ drained + g.slots → ReadsTo g drained upto a b before
    → ReadsOne g (upto + 1) b c before after → ReadsTo g drained (upto + 1) a c after
reads_more g drained upto a b c before after round to one = record {
  spelled = λ q low high. next_or (λ p. SpellsNumber g p (slot_held g after p)) drained upto q one.spelled
      (λ p low high. subst (λ (l : List ℕ). SpellsNumber g p l) (sym (same p low high)) (to.spelled p low high)) low high;
  blocks = λ q low high. next_or (λ p. (staged_held g after p).block < volume g) drained upto q one.block
      (λ p low high. subst (λ (l : List ℕ). (staged_from g l).block < volume g) (sym (same p low high)) (to.blocks p low high)) low high;
  read = λ told q low high. next_or (λ p. slot_held g after p ≡ region a.now.disks 0 (slot_start g p) (slot_len g)) drained upto q
      (one.read (below told) ∙ ap (λ (x : Contents). region x.disks 0 (slot_start g (upto + 1)) (slot_len g)) (to.reads.same told))
      (λ p low high. same p low high ∙ to.read told p low high) low high;
  reads = reads_then a b c to.reads one.reads;
  order = (let order = to.order in omega arith);
  calls = subst (λ (n : ℕ). CalledTimes n a c) (let order = to.order in omega arith) (called_then (upto - drained) 1 a b c to.calls one.calls);
}
  where
    below : IsTrue a.tells → IsTrue b.tells
    below told = subst IsTrue (sym to.reads.moves.tells) told

    same : (p : ℕ) → drained < p → p ≤ upto → slot_held g after p ≡ slot_held g before p
    same p low high =
        let some : 0 < g.slots = omega (arith, g.within.slots_least) in
        one.others p (round_apart p (upto + 1) g.slots some (omega arith) (omega arith))

-- where one more read fails, no more calls were made than there are slots to read
pub calls_most : (g : Geometry) (drained upto last : ℕ) (a b c : View) (slots : List ℕ) → upto + 1 ≤ last → ReadsTo g drained upto a b slots → CalledTimes 1 b c → CalledAtMost (last - drained) a c
calls_most g drained upto last a b c slots high to one =
    called_at_most (upto - drained + 1) (last - drained) a c (let order = to.order in omega arith) (called_then (upto - drained) 1 a b c to.calls one)

-- a slot that was read and spells a write holds one
pub read_is_slot : (g : Geometry) (q : ℕ) (slots : List ℕ) (disks : Disks) → SpellsNumber g q (slot_held g slots q)
    → slot_held g slots q ≡ region disks 0 (slot_start g q) (slot_len g) → IsSlot g q disks
read_is_slot g q slots disks spelled read = (spelled.0, spelled.1, sym read ∙ spelled.2)

-- the first damaged slot is that of the number after those that were read
pub damaged_next : (g : Geometry) (drained upto last : ℕ) (a b : View) (slots : List ℕ) (offset : ℕ) → drained ≤ upto → upto + 1 ≤ last → ReadsTo g drained upto a b slots
    → IsTrue a.tells → (IsTrue b.tells → (IsSlot g (upto + 1) b.now.disks → ⊥) × (offset ≡ slot_start g (upto + 1))) → IsDamagedSlot g drained last a.now.disks offset
damaged_next g drained upto last a b slots offset low high to told why =
    let damaged = why (subst IsTrue (sym to.reads.moves.tells) told) in
    record {
      number = upto + 1;
      low = omega arith;
      high = high;
      sound = λ q above before. read_is_slot g q slots a.now.disks (to.spelled q above (omega arith)) (to.read told q above (omega arith));
      broken = λ is. damaged.0 (subst (λ (x : Contents). IsSlot g (upto + 1) x.disks) (sym (to.reads.same told)) is);
      place = damaged.1;
    }

-- the slots hold the writes that are read from memory
pub are_held : (g : Geometry) (slots : List ℕ) (drained k last : ℕ) (disks : Disks) → drained + k ≤ last → AllSpell g slots drained last
    → AreSlotsRead g slots drained last disks → SlotsAre g drained (writes_held g slots drained k) disks
are_held g slots drained zero last disks high spell read = tt
are_held g slots drained (suc k) last disks high spell read =
    let q = drained + suc k in
    let spelled = spell q (omega arith) high in
    let again : slot_held g slots q ≡ slot_bytes q (staged_held g slots q) =
    spelled.2 ∙ ap (λ (w : Staged). slot_bytes q w) (sym (ap (λ (l : List ℕ). staged_from g l) spelled.2 ∙ staged_again g q spelled.0 spelled.1)) in
    let count : length (writes_held g slots drained k) ≡ k = length-writes_held g slots drained k in
    let number : q ≡ drained + length (writes_held g slots drained k) + 1 = omega arith in (
      subst (λ n. SlotHas g n (staged_held g slots q) disks) number (sym (read q (omega arith) high) ∙ again),
      are_held g slots drained k last disks (omega arith) spell read,
    )
