-- What mounting finds on the disks, step by step: each of these asks that all before it stands. The
-- disks are the contents that a bank tells on entry.
use Rattle.std.specs.Prelude.{◌≡◌, ℕ, ◌-◌, ◌^◌, ◌<◌, ◌≤◌, List, Some}
use Rattle.trap_bank.specs.Disks.{Disks, region, size_of}
use Rattle.trap_cell.specs.Slots.{cell_value}
use Rattle.trap_format.specs.LogDisk.{log_size, IsLogHeader}
use Rattle.trap_format.specs.HeadValue.{IsHead, head_value}
use Rattle.trap_format.specs.declared.head.Head.{Head}
use Rattle.trap_model.specs.Image.{volume}
use Rattle.trap_model.specs.declared.numbers.Geometry.{Geometry}
use Rattle.trap_raid.specs.Members.{IsOut}
use Rattle.trap_scan.specs.Chain.{History, AreRecords}
use Rattle.trap_scan.specs.Window.{IsWindow}
use Rattle.trap_stage.specs.Found.{IsSlot}
use Rattle.trap_mount.specs.Holding.{head_place, log_ring}
use Rattle.trap_mount.specs.Creating.{BeginsLog}

-- disk 0 begins with the header of these numbers, and has the size that they give
pub record HasHeader (g : Geometry) (disks : Disks) : Type 0 where
  pub begins : BeginsLog disks
  pub header : IsLogHeader g (region disks 0 0 64)
  pub id : g.id < 2 ^ 64
  pub size : size_of (disks 0) ≡ Some (log_size g)

-- and the head's cell has the value of this head
pub record HasHead (g : Geometry) (h : Head) (disks : Disks) : Type 0 where
  pub header : HasHeader g disks
  pub value : cell_value head_place disks ≡ Some (head_value h)
  pub head : IsHead g h

-- and the slots of the pending writes hold writes of the array
pub record HasSlots (g : Geometry) (h : Head) (disks : Disks) : Type 0 where
  pub head : HasHead g h disks
  pub slots : (q : ℕ) → h.drained < q → q ≤ h.last → IsSlot g q disks

-- what the records of the retained entries are of
abbrev pub head_history : Geometry → Head → History
head_history g h = record { size = g.block; volume = volume g; last_time = h.last_time }

-- and the records of the retained entries stand in the ring
pub record HasRecords (g : Geometry) (h : Head) (disks : Disks) : Type 0 where
  pub slots : HasSlots g h disks
  pub window : List ℕ
  pub is : IsWindow (log_ring g) h.first_off h.end_off window disks
  pub records : AreRecords (head_history g h) h.first h.base_time (h.last - h.first) window

-- and no second member is out
pub record HasMembers (g : Geometry) (h : Head) (disks : Disks) : Type 0 where
  pub records : HasRecords g h disks
  pub one_out : (m k : ℕ) → m < g.members → k < g.members → IsOut h.lost disks m
      → IsOut h.lost disks k → m ≡ k
