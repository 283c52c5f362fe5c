-- What the steps of mounting have found, each over the disks as they were on entry to it.
use Rattle.std.specs.Prelude.{◌≡◌, ◌≢◌, ◌⊎◌, ℕ, ◌+◌, ◌<◌, Option, Some, None, IsTrue}
use Rattle.trap_bank.specs.Disks.{Disks, View}
use Rattle.trap_bank.specs.Calls.{Fits}
use Rattle.trap_bank.specs.Faults.{Rose}
use Rattle.trap_bank.specs.Steps.{Always}
use Rattle.trap_cell.specs.Slots.{Slots, Stands, cell_value}
use Rattle.trap_cell.specs.Steps.{PutsIn, IsPut}
use Rattle.trap_format.specs.LogDisk.{log_size, slots_at}
use Rattle.trap_format.specs.HeadValue.{IsHead, head_value}
use Rattle.trap_format.specs.declared.head.Head.{Head}
use Rattle.trap_model.specs.declared.numbers.Geometry.{Geometry}
use Rattle.trap_raid.specs.Members.{IsMember, IsOut}
pub use Rattle.trap_raid.specs.OwnDisk.{IsStable, ReadsMember}
use Rattle.trap_stage.specs.Found.{IsFound, IsStage}
use Rattle.trap_stage.specs.Slots.{Stage, last_of}
use Rattle.trap_mount.specs.Holding.{head_place}
use Rattle.trap_mount.specs.Mounting.{HasHeader, HasRecords, FoundLost}

-- the log's header was read, and its disk synced
pub record ReadsHeader (g : Geometry) (old new : View) : Type 0 where
  pub size : old.sizes 0 ≡ Some (log_size g)
  pub one_slot : g.slots ≡ 1
  pub header : IsTrue old.tells → HasHeader g old.now.disks
  pub stable : IsStable new 0

-- the head was read from its cell
pub record ReadsHead (h : Head) (g : Geometry) (cell : Slots) (old new : View) : Type 0 where
  pub head : IsHead g h
  pub value : IsTrue old.tells → cell_value head_place old.now.disks ≡ Some (head_value h)
  pub place : cell.place ≡ head_place
  pub stands : Always new (Stands cell)

-- the pending writes were read from their slots
pub record ReadsStage (g : Geometry) (h : Head) (stage : Stage) (old : View) : Type 0 where
  pub same : stage.g ≡ g
  pub drained : stage.drained ≡ h.drained
  pub last : last_of stage ≡ h.last
  pub is : IsStage stage
  pub slots : IsTrue old.tells → IsFound g h.drained h.last old.now.disks stage

-- all that stands on the log's disk was read
pub record ReadsLog (g : Geometry) (h : Head) (cell : Slots) (stage : Stage) (old new : View)
    : Type 0 where
  pub header : ReadsHeader g old new
  pub head : ReadsHead h g cell old new
  pub slots : ReadsStage g h stage old
  pub records : IsTrue old.tells → HasRecords g h old.now.disks

-- `lost` is the member that is out, if one is
pub record IsOnlyOut (g : Geometry) (recorded lost : Option ℕ) (disks : Disks) : Type 0 where
  pub only : (m : ℕ) → m < g.members → IsOut recorded disks m → lost ≡ Some m
  pub out : (m : ℕ) → lost ≡ Some m → IsOut recorded disks m

-- the first member that is out, if one is: the recorded lost one, or else the lowest absent one
abbrev pub IsFirstOut : Geometry → Option ℕ → View → Option ℕ → Type 0
IsFirstOut g recorded v None = (recorded ≡ None)
    × ((m : ℕ) → m < g.members → v.sizes (m + 1) ≢ None)
IsFirstOut g recorded v (Some first) = (first < g.members)
    × ((recorded ≡ Some first) ⊎ ((recorded ≡ None)
    × (v.sizes (first + 1) ≡ None) × ((m : ℕ) → m < first → v.sizes (m + 1) ≢ None)))

-- a member is lost where it is recorded so, or where its disk is absent and none is recorded
pub record FindsLost (g : Geometry) (recorded lost : Option ℕ) (old : View) : Type 0 where
  pub from : (m : ℕ) → lost ≡ Some m → (recorded ≡ Some m)
      ⊎ ((recorded ≡ None) × (old.sizes (m + 1) ≡ None))
  pub still : (m : ℕ) → recorded ≡ Some m → lost ≡ Some m
  pub inside : (m : ℕ) → lost ≡ Some m → m < g.members
  pub others : (m : ℕ) → m < g.members → lost ≢ Some m → old.sizes (m + 1) ≢ None

-- of each member below a number, but for the lost one, the disk is its own, and every crash leaves
-- of it what a read gives
abbrev pub ReadsMembers : Geometry → Option ℕ → ℕ → View → View → Type 0
ReadsMembers g lost n old new = (m : ℕ) → m < n → lost ≢ Some m → ReadsMember g m old new

-- the member that is looked at: it isn't out, and each lower one that isn't out has its own disk
pub record IsNextMember (g : Geometry) (h : Head) (disks : Disks) (member : ℕ) : Type 0 where
  pub inside : member < g.members
  pub counts : IsOut h.lost disks member → ⊥
  pub lowest : (m : ℕ) → m < member → (IsOut h.lost disks m → ⊥) → IsMember g disks m

-- The rows of the recorded lost member that count still are those that did, or none. If some do,
-- the disk is the member's own; if none does any longer, its count of faults rose, or it is absent
-- or not the member's own.
pub record KeepsRows (g : Geometry) (m before now : ℕ) (old new : View) : Type 0 where
  pub mark : (now ≡ before) ⊎ ((now ≡ 0) × (IsTrue old.tells
      → Rose (old.faults (m + 1)) (new.faults (m + 1)) ⊎ (IsMember g old.now.disks m → ⊥)))
  pub own : 0 < now → ReadsMember g m old new

-- the members' disks were read; this is the head with the lost member, and with how many of its
-- rows count
pub record FindsMembers (g : Geometry) (h k : Head) (old new : View) : Type 0 where
  pub head : IsHead g k
  pub same : k ≡ record h { lost = k.lost; rebuilt = k.rebuilt }
  pub lost : FindsLost g h.lost k.lost old
  pub others : ReadsMembers g k.lost g.members old new
  pub own : (m : ℕ) → k.lost ≡ Some m → 0 < k.rebuilt → ReadsMember g m old new
  pub found : IsTrue old.tells → FoundLost g h k old new

-- the head's cell is known, whatever a crash leaves, and disk 0 has room for it
pub record IsHeadCell (cell : Slots) (v : View) : Type 0 where
  pub place : cell.place ≡ head_place
  pub stands : Always v (Stands cell)
  pub room : Fits v 0 slots_at

-- the head is put where it isn't the one that was found, or nothing is done
abbrev pub MayPut : Slots → Head → Head → Disks → Disks → Type 0
MayPut cell h k old new = (new ≡ old) ⊎ ((k ≢ h) × PutsIn cell (head_value k) old new)

-- the head was put, or it was there already and nothing was done
abbrev pub HasPut : View → Slots → Slots → Head → Head → Disks → Disks → Type 0
HasPut v cell after h k old new =
    ((new ≡ old) × (k ≡ h) × (after ≡ cell)) ⊎ ((k ≢ h) × IsPut v cell after (head_value k) old new)
