-- What the calls of a stage give, in terms of what stands on disk 0.
use Rattle.std.specs.Prelude.{◌≡◌, ℕ, ◌-◌, ◌^◌, ◌<◌, ◌≤◌, [], length, get_or, All}
use Rattle.trap_bank.specs.Disks.{Disks}
use Rattle.trap_model.specs.declared.numbers.Geometry.{Geometry}
use Rattle.trap_stage.specs.Staged.{Staged, IsStaged}
use Rattle.trap_stage.specs.Slots.{Stage, slot_start, SlotHas, SlotsAre, last_of}

-- what stands for a pending write where there is none
abbrev pub no_write : Staged
no_write = record { block = 0; bytes = []; parity = [] }

-- the pending write with a number above the drained ones
abbrev pub staged_numbered : Stage → ℕ → Staged
staged_numbered stage q = get_or stage.pending (last_of stage - q) no_write

-- the slot of a number holds a write of the array with this number
abbrev pub IsSlot : Geometry → ℕ → Disks → Type 0
IsSlot g q disks = (staged : Staged) × IsStaged g staged × SlotHas g q staged disks

-- the slot of a number above the drained ones is the first that doesn't hold a write of the array
-- with its number, and it begins at this offset of disk 0
pub record IsDamagedSlot (g : Geometry) (drained last : ℕ) (disks : Disks) (offset : ℕ)
    : Type 0 where
  pub number : ℕ
  pub low : drained < number
  pub high : number ≤ last
  pub sound : (q : ℕ) → drained < q → q < number → IsSlot g q disks
  pub broken : IsSlot g number disks → ⊥
  pub place : offset ≡ slot_start g number

-- the stage has the writes of the slots above number `drained` and up to `last`
pub record IsFound (g : Geometry) (drained last : ℕ) (disks : Disks) (stage : Stage) : Type 0 where
  pub g_ : stage.g ≡ g
  pub drained_ : stage.drained ≡ drained
  pub last_ : last_of stage ≡ last
  pub slots : SlotsAre g drained stage.pending disks

-- the pending writes are of the array's blocks, and no more than there are slots
pub record IsStage (stage : Stage) : Type 0 where
  pub writes : All (IsStaged stage.g) stage.pending
  pub most : length stage.pending ≤ stage.g.slots
  pub last_most : last_of stage < 2 ^ 64
