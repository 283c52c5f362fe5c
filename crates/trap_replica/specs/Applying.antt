-- How a replica applies frames, stopped at any moment.
use Rattle.std.specs.Prelude.{◌≡◌, ◌≢◌, ◌⊎◌, ℕ, zero, suc, ◌+◌, ◌*◌, List, IsTrue}
use Rattle.trap_bank.specs.Disks.{Disks, View, Quiet}
use Rattle.trap_bank.specs.Steps.{Moves, Always}
use Rattle.trap_cell.specs.Slots.{Slots, Stands, turned}
use Rattle.trap_cell.specs.Steps.{put_calls}
use Rattle.trap_format.specs.declared.shape.Shape.{Shape}
use Rattle.trap_model.specs.Receiver.{xored}
use Rattle.trap_model.specs.declared.arrival.Arrival.{Arrival}
use Rattle.trap_replica.specs.OnDisk.{ReplicaHolds}

-- every other disk is the same
abbrev pub Elsewhere : Disks → Disks → Type 0
Elsewhere old new = (e : ℕ) → e ≢ 17 → new e ≡ old e

-- each disk has the size that it had, and none but the replica's changed, now or at any moment
pub record LeavesOthers (old new : View) : Type 0 where
  pub sizes : (e : ℕ) → new.sizes e ≡ old.sizes e
  pub elsewhere : Moves old new Elsewhere Elsewhere
  pub touches : IsTrue old.tells → Quiet Elsewhere old.now new.now

-- the cell was put: its other slot is current, and every crash leaves it so
pub record TurnsCell (was cell : Slots) (new : View) : Type 0 where
  pub turned : cell ≡ turned was
  pub stands : Always new (Stands cell)

-- each crash in the run, and each one now, leaves disks with this
abbrev pub Leaves : View → View → (Disks → Type 0) → Type 0
Leaves old new has = Moves old new (λ x y. has y) (λ x y. has y)

-- the replica holds the image before the frame or the one after it, with its number and its time
abbrev pub HoldsEither : Shape → ℕ → ℕ → List (List ℕ) → Arrival → Disks → Type 0
HoldsEither s number time image f disks =
    ReplicaHolds s number time image disks
    ⊎ ReplicaHolds s (number + 1) f.time (xored image f) disks

-- how often the bank is called to apply that many frames: the block that the cell names goes home
-- with a sync, the frame's own is read, and the cell is put; a later put finds the other gate open
abbrev pub take_calls : Slots → ℕ → ℕ
take_calls c zero = 0
take_calls c (suc k) = 3 + put_calls c + 10 * k

-- the cell after that many puts
abbrev pub cell_after : Slots → ℕ → Slots
cell_after c zero = c
cell_after c (suc k) = turned (cell_after c k)
