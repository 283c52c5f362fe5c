-- Making an array on disks that aren't there.
use Rattle.std.specs.Prelude.{◌≡◌, ◌≢◌, ◌⊎◌, ℕ, ◌+◌, ◌*◌, ◌<◌, ◌≤◌, take, drop, Some, None}
use Rattle.trap_bank.specs.Called.{CalledAtMost}
use Rattle.trap_bank.specs.Disks.{Disks, View, byte, region, size_of}
use Rattle.trap_bank.specs.Faults.{Rose}
use Rattle.trap_cell.specs.Slots.{Stands, begun, cell_value}
use Rattle.trap_format.specs.LogDisk.{log_start, log_size, log_header, slots_at}
use Rattle.trap_format.specs.MemberDisk.{member_size}
use Rattle.trap_format.specs.HeadValue.{head_value}
use Rattle.trap_format.specs.declared.head.Head.{Head}
use Rattle.trap_model.specs.Limits.{open_gate}
use Rattle.trap_model.specs.State.{fresh}
use Rattle.trap_model.specs.declared.numbers.Geometry.{Geometry}
pub use Rattle.trap_raid.specs.OwnDisk.{OnlyDisk, new_member, HasMember}
use Rattle.trap_mount.specs.Holding.{head_place, HasLog, Holds}
use Rattle.trap_mount.specs.declared.fault.CreateFault.{CreateFault}
use Rattle.trap_mount.specs.declared.fault.CreateFault.TheVariants.{Exists, LogFault, MemberFault}

-- disk 0 has room for the log's header and the head's cell, and begins with an open gate and the
-- magic bytes
pub record BeginsLog (disks : Disks) : Type 0 where
  pub bytes : ℕ
  pub there : size_of (disks 0) ≡ Some bytes
  pub least : slots_at ≤ bytes
  pub start : take 5 (region disks 0 0 64) ≡ log_start

-- the gate of disk 0 is off, or the disk is absent: mounting refuses it as no array
abbrev pub IsLogGateOff : Disks → Type 0
IsLogGateOff disks = byte disks 0 0 ≢ open_gate

-- while an array is made: the log's gate is off, or the disks hold the fresh array
abbrev pub Creates : Geometry → Disks → Disks → Type 0
Creates g old new = IsLogGateOff new ⊎ Holds g (fresh g) new

-- the disks hold the fresh array
abbrev pub HasCreated : Geometry → Disks → Disks → Type 0
HasCreated g old new = Holds g (fresh g) new

-- the lowest of the disks of an array, the log and its members, that has a size
pub record IsLowest (g : Geometry) (v : View) (d : ℕ) : Type 0 where
  pub inside : d ≤ g.members
  pub there : v.sizes d ≢ None
  pub lowest : (e : ℕ) → e < d → v.sizes e ≡ None

-- none of them has a size
abbrev pub NoneIsThere : Geometry → View → Type 0
NoneIsThere g v = (d : ℕ) → d ≤ g.members → v.sizes d ≡ None

-- What failed has a count of faults that rose, after no more calls of the bank than making an array
-- takes. A member that did has both numbers, and disk 0 has its size from before then: the log
-- isn't made yet.
abbrev pub CreateFails : Geometry → CreateFault → View → View → Type 0
CreateFails g (Exists disk) old new = Unit {0}
CreateFails g LogFault old new =
    Rose (old.faults 0) (new.faults 0) × CalledAtMost (3 * g.members + 9) old new
CreateFails g (MemberFault first second) old new =
    (first ≡ second) × (second < g.members)
    × Rose (old.faults (second + 1)) (new.faults (second + 1)) × (new.sizes 0 ≡ old.sizes 0)
    × CalledAtMost (3 * g.members) old new

-- every disk but those of the members is the same
abbrev pub OnlyMembers : Geometry → Disks → Disks → Type 0
OnlyMembers g old new = (e : ℕ) → (e ≡ 0) ⊎ (g.members < e) → new e ≡ old e

-- the disks of the first members are new
pub record HasNewMembers (g : Geometry) (count : ℕ) (old new : Disks) : Type 0 where
  pub others : OnlyMembers g old new
  pub disks : (m : ℕ) → m < count → new (m + 1) ≡ Some (new_member g m)

-- the members are made before the log: disk 0 is as it was, or each member's disk is new
abbrev pub MembersFirst : Geometry → Disks → Disks → Type 0
MembersFirst g old new =
    (new 0 ≡ old 0) ⊎ ((m : ℕ) → m < g.members → new (m + 1) ≡ Some (new_member g m))

-- the head before the first write
abbrev pub fresh_head : Head
fresh_head = record {
  version = 1;
  lost = None;
  rebuilt = 0;
  first = 0;
  base_time = 0;
  first_off = 0;
  last = 0;
  end_off = 0;
  drained = 0;
  last_time = 0;
}

-- disk 0 is a new log but for its gate, which is off
pub record IsShutLog (g : Geometry) (disks : Disks) : Type 0 where
  pub gate : IsLogGateOff disks
  pub size : size_of (disks 0) ≡ Some (log_size g)
  pub rest : region disks 0 1 63 ≡ drop 1 (log_header g)
  pub value : cell_value head_place disks ≡ Some (head_value fresh_head)
  pub cell : Stands (begun head_place) disks

-- disk 0 is a new log: it has its size and its header, and the head's cell was begun with the head
-- before the first write
pub record IsNewLog (g : Geometry) (disks : Disks) : Type 0 where
  pub log : HasLog g disks
  pub value : cell_value head_place disks ≡ Some (head_value fresh_head)
  pub cell : Stands (begun head_place) disks

-- while the log is made with its gate off
pub record ShutsLog (old new : Disks) : Type 0 where
  pub others : OnlyDisk 0 old new
  pub disk : (new 0 ≡ old 0) ⊎ IsLogGateOff new

-- and when it is made, with the gate off
pub record HasShutLog (g : Geometry) (old new : Disks) : Type 0 where
  pub others : OnlyDisk 0 old new
  pub log : IsShutLog g new

-- while the log is made, with its gate last
pub record MakesLog (g : Geometry) (old new : Disks) : Type 0 where
  pub others : OnlyDisk 0 old new
  pub disk : (new 0 ≡ old 0) ⊎ (IsLogGateOff new ⊎ IsNewLog g new)

-- and when it is made
pub record HasNewLog (g : Geometry) (old new : Disks) : Type 0 where
  pub others : OnlyDisk 0 old new
  pub log : IsNewLog g new

-- the disks of the first members have their exact size
abbrev pub AreSized : Geometry → ℕ → View → Type 0
AreSized g count v = (m : ℕ) → m < count → v.sizes (m + 1) ≡ Some (member_size g)
