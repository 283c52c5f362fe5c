-- What making an array answers, and what that says.
use Rattle.std.specs.Prelude.{◌≡◌, ℕ, ◌+◌, ◌*◌, ◌<◌, Some, IsTrue}
use Rattle.trap_bank.specs.Called.{CalledTimes}
use Rattle.trap_bank.specs.Disks.{Disks, View, Quiet}
use Rattle.trap_bank.specs.Steps.{Moves, Always}
use Rattle.trap_cell.specs.Slots.{Stands, begun}
use Rattle.trap_format.specs.LogDisk.{log_size}
use Rattle.trap_model.specs.State.{fresh}
use Rattle.trap_model.specs.declared.numbers.Geometry.{Geometry}
use Rattle.trap_mount.specs.Creating.{Creates, HasCreated, AreSized, MembersFirst, fresh_head}
use Rattle.trap_mount.specs.Holding.{head_place, HoldsBy}

-- The array was made: its log and each of its members has its exact size, and every crash leaves
-- disks that hold the fresh array by the head before the first write, which calls no member lost.
-- The head's cell is as it begins: slot 0 is current with turn 0, and slot 1 is off. Each member
-- took three calls of the bank, and the log nine.
pub record IsMade (g : Geometry) (old new : View) : Type 0 where
  pub log : new.sizes 0 ≡ Some (log_size g)
  pub members : AreSized g g.members new
  pub holds : Always new (HoldsBy g fresh_head (fresh g))
  pub cell : Always new (Stands (begun head_place))
  pub moves : Moves old new (Creates g) (HasCreated g)
  pub calls : CalledTimes (3 * g.members + 9) old new

-- The log's gate is off, or the disks hold the fresh array: a read gives this afterwards, and a
-- crash leaves it at any moment.
pub record IsMaking (g : Geometry) (old new : View) : Type 0 where
  pub contents : IsTrue old.tells → Quiet (Creates g) old.now new.now
  pub any_moment : Moves old new (Creates g) (Creates g)

-- Disk 0 is as it was until each member's disk is new: so a read gives it afterwards, and a crash
-- leaves it at any moment.
pub record KeepsOrder (g : Geometry) (old new : View) : Type 0 where
  pub contents : IsTrue old.tells → Quiet (MembersFirst g) old.now new.now
  pub any_moment : Moves old new (MembersFirst g) (MembersFirst g)

-- the disks beyond the members are the same
abbrev pub StaysBeyond : Geometry → Disks → Disks → Type 0
StaysBeyond g old new = (e : ℕ) → g.members < e → new e ≡ old e

-- The disks beyond the members stay: their sizes, what a read gives of them, and what a crash
-- leaves of them at any moment.
pub record DisksBeyondStay (g : Geometry) (old new : View) : Type 0 where
  pub sizes : (e : ℕ) → g.members < e → new.sizes e ≡ old.sizes e
  pub contents : IsTrue old.tells → StaysBeyond g old.now.disks new.now.disks
  pub any_moment : Moves old new (StaysBeyond g) (StaysBeyond g)
