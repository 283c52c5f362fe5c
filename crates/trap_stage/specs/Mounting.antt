-- What reading slots into memory gives.
use Rattle.std.specs.Prelude.{◌≡◌, ◌≢◌, ℕ, ◌%◌, ◌<◌, ◌≤◌, List}
use Rattle.trap_bank.specs.Disks.{Disks, region}
use Rattle.trap_format.specs.LogDisk.{slot_len}
use Rattle.trap_model.specs.declared.numbers.Geometry.{Geometry}
use Rattle.trap_stage.specs.Slots.{slot_start}
use Rattle.trap_stage.specs.Held.{slot_held}

-- the slots in memory of the numbers above one and up to another are those of disk 0
abbrev pub AreSlotsRead : Geometry → List ℕ → ℕ → ℕ → Disks → Type 0
AreSlotsRead g slots drained upto disks =
    (q : ℕ) → drained < q → q ≤ upto → slot_held g slots q
    ≡ region disks 0 (slot_start g q) (slot_len g)

-- no slot in memory has changed but that of this number
abbrev pub OthersStay : Geometry → ℕ → List ℕ → List ℕ → Type 0
OthersStay g number old new =
    (q : ℕ) → q % g.slots ≢ number % g.slots → slot_held g new q ≡ slot_held g old q
