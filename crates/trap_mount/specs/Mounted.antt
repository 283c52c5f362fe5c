-- A mounted array, and what it stands for.
use Rattle.std.specs.Prelude.{◌≡◌, ℕ, ◌+◌, ◌<◌, List, length, Option, Some, Bool, false}
use Rattle.trap_bank.specs.Disks.{Disks, View}
use Rattle.trap_bank.specs.Calls.{Fits}
use Rattle.trap_bank.specs.Steps.{Always}
use Rattle.trap_cell.specs.Slots.{Slots, Stands, cell_value}
use Rattle.trap_format.specs.HeadValue.{head_value}
use Rattle.trap_format.specs.LogDisk.{log_size}
use Rattle.trap_format.specs.MemberDisk.{member_size}
use Rattle.trap_format.specs.declared.head.Head.{Head}
use Rattle.trap_index.specs.Indexed.{Indexed}
use Rattle.trap_index.specs.Describes.{Describes}
use Rattle.trap_model.specs.declared.numbers.Geometry.{Geometry}
use Rattle.trap_model.specs.declared.history.State.{State}
use Rattle.trap_raid.specs.Members.{Counts}
use Rattle.trap_stage.specs.Staged.{Staged}
use Rattle.trap_stage.specs.Pending.{pending}
use Rattle.trap_mount.specs.Holding.{head_place, HoldsBy}

-- what contracts see of a mounted array: its numbers, the head that was put last, the head's cell,
-- the pending writes with the newest first, the index of the retained records, how many blocks its
-- region has and how many of them are free, and whether a fault has stopped it
pub record Mounted : Type 0 where
  pub g : Geometry
  pub head : Head
  pub cell : Slots
  pub pending : List Staged
  pub index : Indexed
  pub blocks : ℕ
  pub free : ℕ
  pub is_stopped : Bool

-- the disks hold the state by the array's head, and the array knows their cell, their pending
-- writes and their records
pub record StandsFor (a : Mounted) (s : State) (disks : Disks) : Type 0 where
  pub by : HoldsBy a.g a.head s disks
  pub cell : Stands a.cell disks
  pub pending : a.pending ≡ pending a.g s a.head.drained
  pub index : Describes a.index s

-- the log's disk, and each member's of which some row counts, are there and have at least their
-- sizes
pub record HasSizes (g : Geometry) (lost : Option ℕ) (rebuilt : ℕ) (v : View) : Type 0 where
  pub log : Fits v 0 (log_size g)
  pub members : (m : ℕ) → m < g.members → Counts lost rebuilt 0 m → Fits v (m + 1) (member_size g)

-- disk 0, and each member's of which some row counts, have their exact sizes
pub record HasExactSizes (g : Geometry) (lost : Option ℕ) (rebuilt : ℕ) (v : View) : Type 0 where
  pub log : v.sizes 0 ≡ Some (log_size g)
  pub members : (m : ℕ) → m < g.members → Counts lost rebuilt 0 m
      → v.sizes (m + 1) ≡ Some (member_size g)

-- Unless the array is stopped, the disks have their sizes, every crash leaves the head's cell as
-- the array knows it, with its head as the value, and as many writes are pending as the head says.
-- Stopped or not, its region has six blocks, all of them free.
pub record IsReady (a : Mounted) (v : View) : Type 0 where
  pub sizes : a.is_stopped ≡ false → HasSizes a.g a.head.lost a.head.rebuilt v
  pub stands : a.is_stopped ≡ false → Always v (Stands a.cell)
  pub value : a.is_stopped ≡ false
      → Always v (λ disks. cell_value head_place disks ≡ Some (head_value a.head))
  pub count : a.is_stopped ≡ false → a.head.drained + length a.pending ≡ a.head.last
  pub room : (a.blocks ≡ 6) × (a.free ≡ 6)
