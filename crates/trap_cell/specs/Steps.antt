-- What the steps of a cell do to disks, old before new.
use Rattle.std.specs.Prelude.{◌≡◌, ◌⊎◌, ℕ, ◌+◌, List, not, ◌==◌, Some, false, IsTrue, if◌then◌else◌}
use Rattle.std.specs.Prelude.{Result, OnOk, OnErr, IsErrOf}
use Rattle.trap_bank.specs.Disks.{Disks, View, Differs, byte}
use Rattle.trap_bank.specs.Called.{CalledTimes, CalledAtMost, TakesCalls}
use Rattle.trap_bank.specs.Steps.{Always}
use Rattle.trap_model.specs.Limits.{open_gate}
use Rattle.trap_cell.specs.declared.fault.CellFault.{CellFault}
use Rattle.trap_cell.specs.declared.fault.CellFault.TheVariants.{NoValue}
use Rattle.trap_cell.specs.Slots.{Place, Slots, Stands, cell_area, other_slot, other_gate, shut_of}
use Rattle.trap_cell.specs.Slots.{turned, next_turn, gate_of, turn_of, value_in, current_slot}
use Rattle.trap_cell.specs.Slots.{cell_value}

-- the cell has its value from before, or this one, and no byte outside the slot that wasn't current
-- changed
pub record PutsIn (s : Slots) (fresh : List ℕ) (old new : Disks) : Type 0 where
  pub differs : Differs (other_slot s) old new
  pub either : (cell_value s.place new ≡ cell_value s.place old)
      ⊎ (cell_value s.place new ≡ Some fresh)

-- the cell has this value, stands as the program then knows it, and a crash leaves of its disk what
-- a read gives
pub record IsPut (v : View) (s t : Slots) (fresh : List ℕ) (old new : Disks) : Type 0 where
  pub differs : Differs (other_slot s) old new
  pub value : cell_value s.place new ≡ Some fresh
  pub stands : Stands t new
  pub read : new s.place.disk ≡ v.now.disks s.place.disk

-- the same of a cell's first value, which may have changed both slots
pub record IsFirst (v : View) (s : Slots) (value_ : List ℕ) (old new : Disks) : Type 0 where
  pub differs : Differs (cell_area s.place) old new
  pub value : cell_value s.place new ≡ Some value_
  pub stands : Stands s new
  pub read : new s.place.disk ≡ v.now.disks s.place.disk

-- the current slot and its value are as they were
pub record Keeps (s : Slots) (old new : Disks) : Type 0 where
  pub differs : Differs (other_slot s) old new
  pub current : current_slot s.place new ≡ Some s.second
  pub turn : turn_of s.place s.second new ≡ s.turn
  pub value : value_in s.place s.second new ≡ value_in s.place s.second old

-- and the other gate is off: its byte is 0 where it was a5, and else what it was
pub record Shuts (s : Slots) (old new : Disks) : Type 0 where
  pub keeps : Keeps s old new
  pub shut : (gate_of s.place (not s.second) new == open_gate) ≡ false
  pub zero : IsTrue s.other_open → gate_of s.place (not s.second) new ≡ 0
  pub still : s.other_open ≡ false → gate_of s.place (not s.second) new
      ≡ gate_of s.place (not s.second) old

-- the current slot and its value are as they were, and so is the other gate, which is off
pub record StaysShut (s : Slots) (old new : Disks) : Type 0 where
  pub keeps : Keeps s old new
  pub shut : (gate_of s.place (not s.second) new == open_gate) ≡ false
  pub gate : gate_of s.place (not s.second) new ≡ gate_of s.place (not s.second) old

-- and after it come the next turn and this value
pub record FillsSlot (s : Slots) (fresh : List ℕ) (old new : Disks) : Type 0 where
  pub shuts : StaysShut s old new
  pub turn : turn_of s.place (not s.second) new ≡ next_turn s.turn
  pub value : value_in s.place (not s.second) new ≡ fresh

-- the other slot is ready to be opened
pub record IsSlotReady (s : Slots) (fresh : List ℕ) (disks : Disks) : Type 0 where
  pub stands : Stands (shut_of s) disks
  pub turn : turn_of s.place (not s.second) disks ≡ next_turn s.turn
  pub value : value_in s.place (not s.second) disks ≡ fresh

-- the other slot's gate is off: its byte is 0 where it was a5, and else what it was. What comes
-- after it may be anything.
pub record IsFilling (s : Slots) (old new : Disks) : Type 0 where
  pub differs : Differs (other_slot s) old new
  pub off : (gate_of s.place (not s.second) new == open_gate) ≡ false
  pub zero : IsTrue s.other_open → gate_of s.place (not s.second) new ≡ 0
  pub still : s.other_open ≡ false → gate_of s.place (not s.second) new
      ≡ gate_of s.place (not s.second) old

-- The next turn and the value are after the other slot's gate, which may be anything, and the rest
-- of the disk is stable: it is what a read gave when the put began.
pub record IsOpening (read : Disks) (s : Slots) (fresh : List ℕ) (old new : Disks) : Type 0 where
  pub differs : Differs (other_slot s) old new
  pub turn : turn_of s.place (not s.second) new ≡ next_turn s.turn
  pub value : value_in s.place (not s.second) new ≡ fresh
  pub rest : (i : ℕ) → (other_slot s s.place.disk i → ⊥)
      → byte new s.place.disk i ≡ byte read s.place.disk i

-- The stages of a put: first only the other slot's gate may change, then what is after the gate
-- that is off, and the gate is opened only when all else is stable.
abbrev pub PutStage : Disks → Slots → List ℕ → Disks → Disks → Type 0
PutStage read s fresh old new = Differs (other_gate s) old new
    ⊎ (IsFilling s old new ⊎ IsOpening read s fresh old new)

-- how often a put calls the bank: three times for turn and value with their sync, twice for each
-- gate with its sync
abbrev pub put_calls : Slots → ℕ
put_calls s = (if s.other_open then 2 else 0) + (3 + 2)

-- after a put the other slot is current with the next turn; after a fault the program knows of the
-- cell what it knew
pub record AfterPut {T E : Type 0} (result : Result T E) (s t : Slots) (old new : View)
    : Type 0 where
  pub ok : OnOk result (t ≡ turned s)
  pub err : OnErr result (t ≡ s)
  pub calls : TakesCalls (put_calls s) result old new

-- a mount reads both heads, and then the value if there is one
pub record MountCalls {T : Type 0} (result : Result T CellFault) (old new : View) : Type 0 where
  pub ok : OnOk result (CalledTimes 3 old new)
  pub no_value : IsErrOf result NoValue → CalledTimes 2 old new
  pub most : CalledAtMost 3 old new

-- the program has read the cell's value, and every crash leaves the cell as the program knows it
pub record IsMounted (old new : View) (p : Place) (value_ : List ℕ) (s : Slots) : Type 0 where
  pub place : s.place ≡ p
  pub value : IsTrue old.tells → cell_value p old.now.disks ≡ Some value_
  pub stands : Always new (Stands s)
