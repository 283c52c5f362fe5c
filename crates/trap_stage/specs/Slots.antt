-- The staging slots on disk 0.
use Rattle.std.specs.Prelude.{◌≡◌, ℕ, ◌+◌, ◌*◌, ◌%◌, ◌<◌, ◌≤◌, List, [], ◌∷◌, ◌++◌, length}
use Rattle.std.specs.Int.{w32, w64, to_be_bytes}
use Rattle.trap_bank.specs.Disks.{Disks, Area, Within, region}
use Rattle.trap_format.specs.LogDisk.{slots_at, slot_len}
use Rattle.trap_model.specs.State.{last}
use Rattle.trap_model.specs.declared.numbers.Geometry.{Geometry}
use Rattle.trap_model.specs.declared.history.State.{State}
use Rattle.trap_stage.specs.Staged.{Staged}
use Rattle.trap_stage.specs.Pending.{staged_of}

-- where the slot of a write's number begins
abbrev pub slot_start : Geometry → ℕ → ℕ
slot_start g q = slots_at + q % g.slots * slot_len g

-- the positions of that slot
abbrev pub slot_area : Geometry → ℕ → Area
slot_area g q = Within 0 (slot_start g q) (slot_len g)

-- a slot's bytes: the write's number, its block, the block's new bytes, and the parity of its row
abbrev pub slot_bytes : ℕ → Staged → List ℕ
slot_bytes q staged = to_be_bytes w64 q ++ to_be_bytes w32 staged.block
    ++ (staged.bytes ++ staged.parity)

-- the slot of number q holds this
abbrev pub SlotHas : Geometry → ℕ → Staged → Disks → Type 0
SlotHas g q staged disks = region disks 0 (slot_start g q) (slot_len g) ≡ slot_bytes q staged

-- the slots of all writes above number `drained` hold them
abbrev pub SlotsHold : Geometry → State → ℕ → Disks → Type 0
SlotsHold g s drained disks = (q : ℕ) → drained < q → q ≤ last s
    → SlotHas g q (staged_of g s q) disks

-- the slots hold these writes, the newest first, of which the oldest has the number after
-- `drained`
abbrev pub SlotsAre : Geometry → ℕ → List Staged → Disks → Type 0
SlotsAre g drained [] disks = Unit {0}
SlotsAre g drained (staged ∷ older) disks =
    SlotHas g (drained + length older + 1) staged disks × SlotsAre g drained older disks

-- the positions of the slots of the numbers above one and up to another
pub record InSlots (g : Geometry) (drained last e i : ℕ) : Type 0 where
  pub number : ℕ
  pub low : drained < number
  pub high : number ≤ last
  pub within : slot_area g number e i

-- what contracts see of a stage: the writes above number `drained`, the newest first
pub record Stage : Type 0 where
  pub g : Geometry
  pub drained : ℕ
  pub pending : List Staged

-- the number of the newest write, or of the last drained one where none is pending
abbrev pub last_of : Stage → ℕ
last_of stage = stage.drained + length stage.pending
