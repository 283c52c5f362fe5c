-- What mounting answers, and what that says.
use Rattle.std.specs.Prelude.{◌≡◌, ℕ, ◌+◌, ◌<◌, Some, IsTrue, true, false}
use Rattle.trap_bank.specs.Disks.{View}
use Rattle.trap_bank.specs.Faults.{Rose}
use Rattle.trap_bank.specs.Steps.{Always, Moves, OnlyReads}
use Rattle.trap_format.specs.LogDisk.{log_size}
use Rattle.trap_format.specs.declared.head.Head.{Head}
use Rattle.trap_model.specs.declared.history.State.{State}
use Rattle.trap_model.specs.declared.numbers.Geometry.{Geometry}
use Rattle.trap_raid.specs.Members.{IsOut}
use Rattle.trap_stage.specs.Slots.{SlotsAre}
use Rattle.trap_mount.specs.Mounted.{Mounted, StandsFor, HasExactSizes, IsReady}
use Rattle.trap_mount.specs.Holding.{Holds, HoldsBy}
use Rattle.trap_mount.specs.Mounting.{HasFound, Refuses, MountFails, SizesShow, MayPutHead}
use Rattle.trap_mount.specs.Mounting.{HasPutHead, is_refusal, names_member}
use Rattle.trap_mount.specs.Reading.{ReadsIndex}
use Rattle.trap_mount.specs.declared.fault.MountFault.{MountFault}
use Rattle.trap_mount.specs.declared.fault.MountFault.TheVariants.{LogFault, OutOfMemory}

-- An array was mounted. Where the disks held a state, it stands for that state after every crash.
-- It isn't stopped. The disks that it needs have their exact sizes, over any bank. What it knows of
-- its log is what was read, whatever the disks hold: the pending writes are those of the slots that
-- its head names, and the index is that of the records between its head's offsets.
pub record MountsFor (a : Mounted) (old new : View) : Type 0 where
  pub stands : (g : Geometry) (s : State) → IsTrue old.tells → Holds g s old.now.disks → (a.g ≡ g)
      × Always new (StandsFor a s)
  pub ready : IsReady a new
  pub running : a.is_stopped ≡ false
  pub exact : HasExactSizes a.g a.head.lost a.head.rebuilt old
  pub found : HasFound a old new
  pub slots : IsTrue old.tells → SlotsAre a.g a.head.drained a.pending old.now.disks
  pub index : ReadsIndex a.g a.head a.index old
  pub head : Moves old new (MayPutHead old new) (HasPutHead old new a.head)

-- Why no array was mounted. A refusal says what the disks hold. Where a disk failed, its count of
-- faults rose. The members named are those of an array whose log has disk 0's size, over any bank.
pub record MountCause (why : MountFault) (old new : View) : Type 0 where
  pub refused : IsTrue old.tells → Refuses old why
  pub failed : MountFails why old new
  pub shown : names_member why ≡ true → (g : Geometry) × (old.sizes 0 ≡ Some (log_size g))
      × SizesShow g why old
  -- over disks that hold a state, where disk 0 didn't fail and no member did but one that was out,
  -- only memory is wanting
  pub complete : (g : Geometry) (h : Head) (s : State) → IsTrue old.tells
      → HoldsBy g h s old.now.disks
      → (Rose (old.faults 0) (new.faults 0) → ⊥)
      → ((m : ℕ) → m < g.members → Rose (old.faults (m + 1)) (new.faults (m + 1))
      → IsOut h.lost old.now.disks m)
      → why ≡ OutOfMemory

-- None was mounted, for this cause. A refusal never comes over disks that hold a state. Unless the
-- log's disk failed, nothing was written, at any moment.
pub record MountEnds (why : MountFault) (old new : View) : Type 0 where
  pub cause : MountCause why old new
  pub held : (g : Geometry) (s : State) → IsTrue old.tells → Holds g s old.now.disks
      → is_refusal why ≡ false
  pub nothing_written : (why ≡ LogFault → ⊥) → OnlyReads old new
