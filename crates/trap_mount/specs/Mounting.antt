-- What mounting does to the disks, and what it has found.
use Rattle.std.specs.Prelude.{◌≡◌, ◌≢◌, ◌⊎◌, ℕ, ◌+◌, ◌<◌, Option, Some, None, IsTrue}
use Rattle.trap_bank.specs.Faults.{Rose}
use Rattle.trap_bank.specs.Disks.{Disks, View, Quiet, Differs}
use Rattle.trap_bank.specs.Steps.{Moves}
use Rattle.trap_cell.specs.Slots.{Slots, current_slot, cell_value, other_slot}
use Rattle.trap_format.specs.HeadValue.{IsHead, head_value}
use Rattle.trap_format.specs.LogDisk.{slots_at}
use Rattle.trap_format.specs.declared.head.Head.{Head}
use Rattle.trap_model.specs.declared.numbers.Geometry.{Geometry}
use Rattle.trap_model.specs.declared.history.State.{State}
use Rattle.trap_raid.specs.Members.{IsMember, IsOut}
use Rattle.trap_mount.specs.Holding.{head_place, HoldsBy}
use Rattle.trap_mount.specs.Mounted.{Mounted}
pub use Rattle.trap_mount.specs.OnDisks.{HasHeader, HasHead, HasSlots, HasRecords, HasMembers}
pub use Rattle.trap_mount.specs.OnDisks.{head_history}
pub use Rattle.trap_mount.specs.Refusing.{AreOut, IsWrong, IsFailing, IsDamage, IsOtherVersion}
pub use Rattle.trap_mount.specs.Refusing.{RefusesAs, Refuses, is_refusal, names_member, AreAbsent}
pub use Rattle.trap_mount.specs.Refusing.{MountFails, SizesShow}

-- nothing but the slot of the head's cell that isn't current changed, and the cell has the same
-- value
pub record SameHead (old new : Disks) : Type 0 where
  pub cell : Slots
  pub place : cell.place ≡ head_place
  pub current : current_slot head_place old ≡ Some cell.second
  pub differs : Differs (other_slot cell) old new
  pub value : cell_value head_place new ≡ cell_value head_place old

-- nothing but the slot of the head's cell that isn't current changed
pub record InOtherSlot (old new : Disks) : Type 0 where
  pub cell : Slots
  pub place : cell.place ≡ head_place
  pub current : current_slot head_place old ≡ Some cell.second
  pub differs : Differs (other_slot cell) old new

-- disk 0 is absent or too short for a log
abbrev pub IsNoLog : Option ℕ → Type 0
IsNoLog size = (n : ℕ) → size ≡ Some n → n < slots_at

-- A member is recorded lost where it was so before, or its disk is absent; else the head is the
-- same. A lost member's mark is as it was, or 0: that only where the count of its disk rose, or its
-- disk is absent or not its own.
pub record FoundLost (g : Geometry) (h k : Head) (old new : View) : Type 0 where
  pub same : k ≡ record h { lost = k.lost; rebuilt = k.rebuilt }
  pub lost : (m : ℕ) → k.lost ≡ Some m → (h.lost ≡ Some m)
      ⊎ ((h.lost ≡ None) × (old.sizes (m + 1) ≡ None))
  pub still : (m : ℕ) → h.lost ≡ Some m → k.lost ≡ Some m
  pub mark : (k.rebuilt ≡ h.rebuilt) ⊎ ((k.rebuilt ≡ 0) × ((m : ℕ) → k.lost ≡ Some m
      → Rose (old.faults (m + 1)) (new.faults (m + 1)) ⊎ (IsMember g old.now.disks m → ⊥)))

-- The disks hold each state that the contents held on entry. The lost member is the one that those
-- contents' head called lost, or where it called none lost, an absent one.
abbrev pub KeepsWhoIsLost : View → View → Disks → Type 0
KeepsWhoIsLost v w new = (g : Geometry) (h : Head) (s : State) → HoldsBy g h s v.now.disks
    → (k : Head) × HoldsBy g k s new × FoundLost g h k v w

-- at any moment of mounting
abbrev pub Mounts : View → View → Disks → Disks → Type 0
Mounts v w old new = (new ≡ old) ⊎ (SameHead old new ⊎ KeepsWhoIsLost v w new)

-- No state that the contents held on entry is lost: a read gives it afterwards, and a crash leaves
-- it at any moment. Only a member that was out is lost.
pub record KeepsEachState (old new : View) : Type 0 where
  pub contents : IsTrue old.tells → Quiet (Mounts old new) old.now new.now
  pub any_moment : Moves old new (Mounts old new) (Mounts old new)
  pub lost : (g : Geometry) (h k : Head) (s t : State) → IsTrue old.tells
      → HoldsBy g h s old.now.disks → HoldsBy g k t new.now.disks → FoundLost g h k old new

-- What was found, where the bank tells: every step passed, and the head is the one on the disks,
-- but for the lost member and its mark. The disk of each member that isn't out is its own, and so
-- is the lost one's where some of its rows count.
pub record HasFound (a : Mounted) (old new : View) : Type 0 where
  pub passed : IsTrue old.tells → (h : Head) × HasMembers a.g h old.now.disks
      × FoundLost a.g h a.head old new
      × ((m : ℕ) → m < a.g.members → (IsOut h.lost old.now.disks m → ⊥)
      → IsMember a.g old.now.disks m)
      × ((m : ℕ) → a.head.lost ≡ Some m → 0 < a.head.rebuilt → IsMember a.g old.now.disks m)

-- The head that was found is put with another lost member, or with another mark, once every step
-- has passed, the disk of each member that isn't out is its own, and disk 0 is synced. The cell has
-- the value that it had, or that head.
pub record PutsHead (v w : View) (put : Head) (old new : Disks) : Type 0 where
  pub g : Geometry
  pub found : Head
  pub passed : HasMembers g found v.now.disks
  pub own : (m : ℕ) → m < g.members → (IsOut found.lost v.now.disks m → ⊥)
      → IsMember g v.now.disks m
  pub head : IsHead g put
  pub lost : FoundLost g found put v w
  pub changed : put ≢ found
  pub synced : old 0 ≡ v.now.disks 0
  pub slot : InOtherSlot old new
  pub value : (cell_value head_place new ≡ Some (head_value found))
      ⊎ (cell_value head_place new ≡ Some (head_value put))

-- nothing is written, or such a head
abbrev pub MayPutHead : View → View → Disks → Disks → Type 0
MayPutHead v w old new = (new ≡ old) ⊎ ((put : Head) × PutsHead v w put old new)

-- the cell's value is this head: nothing was written, or this head was put
abbrev pub HasPutHead : View → View → Head → Disks → Disks → Type 0
HasPutHead v w head old new = ((new ≡ old) ⊎ PutsHead v w head old new)
    × (cell_value head_place new ≡ Some (head_value head))

-- Mounting writes nothing but a head, and that only where the lost member or its mark changed,
-- whatever the disks hold: as a read gives them, and at any moment.
pub record WritesHead (old new : View) : Type 0 where
  pub contents : IsTrue old.tells → Quiet (MayPutHead old new) old.now new.now
  pub any_moment : Moves old new (MayPutHead old new) (MayPutHead old new)
