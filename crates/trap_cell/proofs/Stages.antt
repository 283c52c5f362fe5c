-- The stages of a put, as a crash at any moment leaves them.
use Rattle.std.proofs.Common.{◌≡◌, Bool, Result, if◌then◌else◌, ℕ, List, length, IsTrue, true, not, inl, inr, sym, subst, ◌∙◌, arith}
use Rattle.trap_bank.specs.Disks.{View, Disks, Within, Differs, Quiet, byte}
use Rattle.trap_bank.specs.Called.{TakesCalls}
use Rattle.trap_bank.specs.Steps.{Moves, Always, PlacedThrough}
use Rattle.trap_bank.proofs.Regions.{differs_again, differs_none, byte_of_disk}
use Rattle.trap_bank.proofs.Moves.{moves_then, moves_weaken, no_moves}
use Rattle.trap_cell.specs.Slots.{Slots, slot_at, turn_of, value_in, other_slot, other_gate, next_turn}
use Rattle.trap_cell.specs.Steps.{Keeps, Shuts, StaysShut, FillsSlot, IsFilling, IsOpening, PutStage}
use Rattle.trap_cell.proofs.Keeping.{gate_part, beyond_gate, value_beyond}
use Rattle.trap_cell.proofs.Putting.{at_gate}

-- a write of the other slot's gate, where disk and start have names of their own
pub gate_moves : (s : Slots) (d start : ℕ) (a b : View) → d ≡ s.place.disk → start ≡ slot_at s.place (not s.second)
    → Moves a b (Differs (Within d start 1)) (Differs (Within d start 1))
    → Moves a b (Differs (other_gate s)) (Differs (other_gate s))
gate_moves s d start a b same place moves = moves_weaken a b _ _ (Differs (other_gate s)) (Differs (other_gate s)) moves
    (λ x y was torn. at_gate s d start x.disks y.disks same place torn)
    (λ x y was left torn. at_gate s d start x.disks y.disks same place torn)

-- no write of it
pub gate_left : (s : Slots) (a : View) → Moves a a (Differs (other_gate s)) (Differs (other_gate s))
gate_left s a = no_moves a (Differs (other_gate s)) (Differs (other_gate s)) (λ x was. differs_none (other_gate s) x.disks)

-- after a write that went through every crash leaves of the disk what a read gives
pub disk_stable : (s : Slots) (d at : ℕ) (bytes : List ℕ) (a b : View) → d ≡ s.place.disk
    → Moves a b (Differs (Within d at (length bytes))) (PlacedThrough b d at bytes)
    → Always b (λ disks. disks s.place.disk ≡ b.now.disks s.place.disk)
disk_stable s d at bytes a b same moves w left = subst (λ (e : ℕ). w.disks e ≡ b.now.disks e) same (moves.now w left).by.disks.read

-- the gate is being shut
pub stage_shut : (s : Slots) (fresh : List ℕ) (read : Disks) (a b : View)
    → Moves a b (Differs (other_gate s)) (Differs (other_gate s))
    → Moves a b (PutStage read s fresh) (PutStage read s fresh)
stage_shut s fresh read a b moves = moves_weaken a b _ _ (PutStage read s fresh) (PutStage read s fresh) moves
    (λ x y was torn. inl torn) (λ x y was left torn. inl torn)

-- the slot is filled after the gate that is off
filling : (s : Slots) (x y z : Disks) → Shuts s x y → StaysShut s y z → IsFilling s x z
filling s x y z one two = record {
  differs = differs_again (other_slot s) x y z one.keeps.differs two.keeps.differs;
  off = two.shut;
  zero = λ was. two.gate ∙ one.zero was;
  still = λ was. two.gate ∙ one.still was;
}

-- the gate as it is shut, and then what its sync left
shut_then : (s : Slots) (a b : View) → Moves a b (Differs (other_gate s)) (Differs (other_gate s)) → Moves a b (Keeps s) (Shuts s) → Moves a b (Differs (other_gate s)) (Shuts s)
shut_then s a b gate shut = record {
  tells = gate.tells;
  faults = gate.faults;
  port_faults = gate.port_faults;
  later = gate.later;
  in_run = gate.in_run;
  now = shut.now;
}

pub stage_fill : (s : Slots) (fresh : List ℕ) (read : Disks) (a b c : View)
    → Moves a b (Differs (other_gate s)) (Differs (other_gate s)) → Moves a b (Keeps s) (Shuts s) → Moves b c (StaysShut s) (StaysShut s)
    → Moves a c (PutStage read s fresh) (PutStage read s fresh)
stage_fill s fresh read a b c gate shut fill = moves_then a b c _ _ _ _ (PutStage read s fresh) (PutStage read s fresh) (shut_then s a b gate shut) fill
    (λ x y was torn. inl torn)
    (λ x y z was one mid two. inr (inl (filling s x.disks y.disks z.disks one two)))
    (λ x y z was one mid two. inr (inl (filling s x.disks y.disks z.disks one two)))

-- the slot is filled
abbrev IsFilled : Slots → List ℕ → Disks → Disks → Type 0
IsFilled s fresh x z = IsFilling s x z × (turn_of s.place (not s.second) z ≡ next_turn s.turn) × (value_in s.place (not s.second) z ≡ fresh)

filled : (s : Slots) (fresh : List ℕ) (read : Disks) (a b c : View)
    → Moves a b (Differs (other_gate s)) (Differs (other_gate s)) → Moves a b (Keeps s) (Shuts s) → Moves b c (StaysShut s) (FillsSlot s fresh)
    → Moves a c (PutStage read s fresh) (IsFilled s fresh)
filled s fresh read a b c gate shut fill = moves_then a b c _ _ _ _ (PutStage read s fresh) (IsFilled s fresh) (shut_then s a b gate shut) fill
    (λ x y was torn. inl torn)
    (λ x y z was one mid two. inr (inl (filling s x.disks y.disks z.disks one two)))
    (λ x y z was one mid two. (filling s x.disks y.disks z.disks one two.shuts, two.turn, two.value))

-- the slot is filled, and the rest of the disk is stable
ready : (s : Slots) (fresh : List ℕ) (a b c : View)
    → Moves a b (Differs (other_gate s)) (Differs (other_gate s)) → Moves a b (Keeps s) (Shuts s) → Moves b c (StaysShut s) (FillsSlot s fresh)
    → Always c (λ disks. disks s.place.disk ≡ c.now.disks s.place.disk)
    → (IsTrue a.tells → Quiet (Keeps s) a.now b.now) → (IsTrue b.tells → Quiet (StaysShut s) b.now c.now)
    → Moves a c (PutStage a.now.disks s fresh) (IsOpening a.now.disks s fresh)
ready s fresh a b c gate shut fill stable first second = moves_weaken a c _ _ (PutStage a.now.disks s fresh) (IsOpening a.now.disks s fresh)
    (filled s fresh a.now.disks a b c gate shut fill)
    (λ x y was stage. stage)
    (λ x y was left is. record { differs = is.0.differs; turn = is.1; value = is.2; rest = rest y.disks (stable y left) (first was.told) (second (subst IsTrue (sym gate.tells) was.told)) })
  where
    rest : (z : Disks) → z s.place.disk ≡ c.now.disks s.place.disk → Quiet (Keeps s) a.now b.now → Quiet (StaysShut s) b.now c.now
        → (i : ℕ) → (other_slot s s.place.disk i → ⊥) → byte z s.place.disk i ≡ byte a.now.disks s.place.disk i
    rest z same one two i out = byte_of_disk c.now.disks z s.place.disk i same ∙ two.disks.keeps.differs.bytes s.place.disk i out ∙ one.disks.differs.bytes s.place.disk i out

-- the gate is being opened
opening : (s : Slots) (fresh : List ℕ) (read x y z : Disks) → IsOpening read s fresh x y → Differs (other_gate s) y z → IsOpening read s fresh x z
opening s fresh read x y z is torn = record {
  differs = differs_again (other_slot s) x y z is.differs (gate_part s y z torn);
  turn = beyond_gate s y z torn ∙ is.turn;
  value = value_beyond s y z torn ∙ is.value;
  rest = λ i out. torn.bytes s.place.disk i (λ within. out (record { disk = within.disk; from = within.from; to = omega (arith, within.to) })) ∙ is.rest i out;
}

pub stage_open : (s : Slots) (fresh : List ℕ) (a b c d : View)
    → Moves a b (Differs (other_gate s)) (Differs (other_gate s)) → Moves a b (Keeps s) (Shuts s) → Moves b c (StaysShut s) (FillsSlot s fresh)
    → Always c (λ disks. disks s.place.disk ≡ c.now.disks s.place.disk)
    → (IsTrue a.tells → Quiet (Keeps s) a.now b.now) → (IsTrue b.tells → Quiet (StaysShut s) b.now c.now)
    → Moves c d (Differs (other_gate s)) (Differs (other_gate s))
    → Moves a d (PutStage a.now.disks s fresh) (PutStage a.now.disks s fresh)
stage_open s fresh a b c d gate shut fill stable first second last = moves_then a c d _ _ _ _ (PutStage a.now.disks s fresh) (PutStage a.now.disks s fresh)
    (ready s fresh a b c gate shut fill stable first second) last
    (λ x y was stage. stage)
    (λ x y z was is mid torn. inr (inr (opening s fresh a.now.disks x.disks y.disks z.disks is torn)))
    (λ x y z was is mid torn. inr (inr (opening s fresh a.now.disks x.disks y.disks z.disks is torn)))

-- a number of calls that depends on the other gate
pub takes_along : {T E : Type 0} (result : Result T E) (is_open : Bool) (n m : ℕ) (x y : View) → is_open ≡ true
    → TakesCalls n result x y → TakesCalls (if is_open then n else m) result x y
takes_along result is_open n m x y open_ takes = subst (λ (b : Bool). TakesCalls (if b then n else m) result x y) (sym open_) takes
