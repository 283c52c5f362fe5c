-- What each refusal of mounting says of the disks, and what failed.
use Rattle.std.specs.Prelude.{◌≡◌, ◌≢◌, ◌⊎◌, ℕ, ◌+◌, ◌-◌, ◌<◌, List, slice_index, Some, None, Bool}
use Rattle.std.specs.Prelude.{true, false}
use Rattle.trap_bank.specs.Faults.{Rose}
use Rattle.trap_bank.specs.Disks.{Disks, View, size_of}
use Rattle.trap_cell.specs.Slots.{cell_value}
use Rattle.trap_format.specs.MemberDisk.{member_size}
use Rattle.trap_format.specs.HeadValue.{IsHeadValue}
use Rattle.trap_format.specs.LogDisk.{cell_at}
use Rattle.trap_format.specs.declared.head.Head.{Head}
use Rattle.trap_model.specs.declared.numbers.Geometry.{Geometry}
use Rattle.trap_raid.specs.Members.{IsMember, IsOut}
use Rattle.trap_ring.specs.Ring.{ring_pos}
use Rattle.trap_scan.specs.Chain.{IsBroken}
use Rattle.trap_scan.specs.Window.{IsWindow}
use Rattle.trap_stage.specs.Found.{IsDamagedSlot}
use Rattle.trap_mount.specs.Holding.{head_place, log_ring}
use Rattle.trap_mount.specs.Creating.{BeginsLog}
use Rattle.trap_mount.specs.OnDisks.{HasHeader, HasHead, HasSlots, HasRecords, HasMembers}
use Rattle.trap_mount.specs.OnDisks.{head_history}
use Rattle.trap_mount.specs.declared.fault.MountFault.{MountFault}
use Rattle.trap_mount.specs.declared.fault.MountFault.TheVariants.{NotAnArray, BadVersion}
use Rattle.trap_mount.specs.declared.fault.MountFault.TheVariants.{WrongMember, TooManyLost}
use Rattle.trap_mount.specs.declared.fault.MountFault.TheVariants.{Damaged, LogFault, MemberFault}
use Rattle.trap_mount.specs.declared.fault.MountFault.TheVariants.{OutOfMemory}

-- Below, `disks` are the contents that a bank tells on entry.

-- the first member that is out, and the lowest absent one beside it
pub record AreOut (g : Geometry) (h : Head) (disks : Disks) (first second : ℕ) : Type 0 where
  pub first_ : (h.lost ≡ Some first)
      ⊎ ((h.lost ≡ None) × (first < g.members) × (disks (first + 1) ≡ None)
      × ((m : ℕ) → m < first → disks (m + 1) ≢ None))
  pub inside : second < g.members
  pub apart : second ≢ first
  pub absent : disks (second + 1) ≡ None
  pub lowest : (m : ℕ) → m < second → m ≢ first → disks (m + 1) ≢ None

-- the lowest member that isn't out and whose disk isn't its own
pub record IsWrong (g : Geometry) (h : Head) (disks : Disks) (member : ℕ) : Type 0 where
  pub inside : member < g.members
  pub counts : IsOut h.lost disks member → ⊥
  pub wrong : IsMember g disks member → ⊥
  pub lowest : (m : ℕ) → m < member → (IsOut h.lost disks m → ⊥) → IsMember g disks m

-- a member that isn't out, and whose disk has its size, where each lower one that isn't out has its
-- own disk
pub record IsFailing (g : Geometry) (h : Head) (disks : Disks) (member : ℕ) : Type 0 where
  pub inside : member < g.members
  pub counts : IsOut h.lost disks member → ⊥
  pub sized : size_of (disks (member + 1)) ≡ Some (member_size g)
  pub lowest : (m : ℕ) → m < member → (IsOut h.lost disks m → ⊥) → IsMember g disks m

-- at this offset of disk 0: the header; the head; a pending write; a record
abbrev pub IsDamage : Disks → ℕ → Type 0
IsDamage disks offset =
    (BeginsLog disks × (offset ≡ 0) × ((g : Geometry) → HasHeader g disks → ⊥))
    ⊎ (((g : Geometry) × HasHeader g disks × (offset ≡ cell_at)
    × ((bytes : List ℕ) → cell_value head_place disks ≡ Some bytes
    → (slice_index bytes 0 ≡ 1) × ((h : Head) → IsHeadValue g h bytes → ⊥)))
    ⊎ (((g : Geometry) × (h : Head) × HasHead g h disks
    × IsDamagedSlot g h.drained h.last disks offset)
    ⊎ ((g : Geometry) × (h : Head) × (window : List ℕ) × (at : ℕ) × HasSlots g h disks
    × IsWindow (log_ring g) h.first_off h.end_off window disks
    × IsBroken (head_history g h) h.first h.base_time (h.last - h.first) window at
    × (offset ≡ ring_pos (log_ring g) (h.first_off + at)))))

-- the head has another version
pub record IsOtherVersion (disks : Disks) (version : ℕ) : Type 0 where
  pub g : Geometry
  pub header : HasHeader g disks
  pub bytes : List ℕ
  pub value : cell_value head_place disks ≡ Some bytes
  pub is : slice_index bytes 0 ≡ version
  pub other : version ≢ 1

-- what a refusal says of the disks, and which member may be the one that failed; the other faults
-- say nothing of them
abbrev pub RefusesAs : Disks → MountFault → Type 0
RefusesAs disks NotAnArray = BeginsLog disks → ⊥
RefusesAs disks (BadVersion version) = IsOtherVersion disks version
RefusesAs disks (WrongMember member) = (g : Geometry) × (h : Head) × HasMembers g h disks
    × IsWrong g h disks member
RefusesAs disks (TooManyLost first second) = (g : Geometry) × (h : Head) × HasRecords g h disks
    × AreOut g h disks first second
RefusesAs disks (Damaged offset) = IsDamage disks offset
RefusesAs disks LogFault = Unit {0}
RefusesAs disks (MemberFault first second) = (g : Geometry) × (h : Head) × HasMembers g h disks
    × IsFailing g h disks second
RefusesAs disks OutOfMemory = Unit {0}

abbrev pub Refuses : View → MountFault → Type 0
Refuses v why = RefusesAs v.now.disks why

abbrev pub is_refusal : MountFault → Bool
is_refusal NotAnArray = true
is_refusal (BadVersion version) = true
is_refusal (WrongMember member) = true
is_refusal (TooManyLost first second) = true
is_refusal (Damaged offset) = true
is_refusal LogFault = false
is_refusal (MemberFault first second) = false
is_refusal OutOfMemory = false

abbrev pub names_member : MountFault → Bool
names_member NotAnArray = false
names_member (BadVersion version) = false
names_member (WrongMember member) = true
names_member (TooManyLost first second) = true
names_member (Damaged offset) = false
names_member LogFault = false
names_member (MemberFault first second) = true
names_member OutOfMemory = false

-- the lowest absent member beside the first one that is out
pub record AreAbsent (g : Geometry) (first second : ℕ) (v : View) : Type 0 where
  pub first_inside : first < g.members
  pub inside : second < g.members
  pub apart : second ≢ first
  pub absent : v.sizes (second + 1) ≡ None
  pub lowest : (m : ℕ) → m < second → m ≢ first → v.sizes (m + 1) ≢ None

-- what failed has a count of faults that rose
abbrev pub MountFails : MountFault → View → View → Type 0
MountFails NotAnArray old new = Unit {0}
MountFails (BadVersion version) old new = Unit {0}
MountFails (WrongMember member) old new = Unit {0}
MountFails (TooManyLost first second) old new = Unit {0}
MountFails (Damaged offset) old new = Unit {0}
MountFails LogFault old new = Rose (old.faults 0) (new.faults 0)
MountFails (MemberFault first second) old new =
    (first ≡ second) × (second < 16) × Rose (old.faults (second + 1)) (new.faults (second + 1))
MountFails OutOfMemory old new = Unit {0}

-- What the sizes show of an answer, whatever the bank tells: its members are members of the array,
-- `second` is the lowest absent one beside `first`, and the disk of one that failed is there with
-- its size.
abbrev pub SizesShow : Geometry → MountFault → View → Type 0
SizesShow g NotAnArray v = Unit {0}
SizesShow g (BadVersion version) v = Unit {0}
SizesShow g (WrongMember member) v = member < g.members
SizesShow g (TooManyLost first second) v = AreAbsent g first second v
SizesShow g (Damaged offset) v = Unit {0}
SizesShow g LogFault v = Unit {0}
SizesShow g (MemberFault first second) v = (second < g.members)
    × (v.sizes (second + 1) ≡ Some (member_size g))
SizesShow g OutOfMemory v = Unit {0}
