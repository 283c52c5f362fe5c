-- What a run changes on the disks, and what it leaves as it was.
pub use Rattle.trap_remote.specs.Found.{ByDisks, ChangesBy, ChangesNothing}
use Rattle.std.specs.Prelude.{◌≡◌, ◌≢◌, ◌⊎◌, ℕ, ◌+◌, ◌<◌, Option, Some, None, IsTrue}
use Rattle.trap_bank.specs.Faults.{Rose}
use Rattle.trap_bank.specs.Disks.{Disks, View, Differs}
use Rattle.trap_model.specs.declared.asked.Asked.{Asked}
use Rattle.trap_model.specs.declared.numbers.Geometry.{Geometry}
use Rattle.trap_model.specs.declared.history.State.{State}
use Rattle.trap_format.specs.Checked.{HasNumbers}
use Rattle.trap_format.specs.declared.head.Head.{Head}
use Rattle.trap_raid.specs.Members.{IsMember}
use Rattle.trap_array.specs.Areas.{MayTouch}
use Rattle.trap_array.specs.Calls.{Mounted}
use Rattle.trap_mount.specs.CreateEnds.{StaysBeyond}
use Rattle.trap_array.specs.Holding.{HoldsBy}
use Rattle.trap_array.specs.Mounting.{HasFound, MayPutHead}
use Rattle.trap_mount.specs.declared.fault.MountFault.{MountFault}
use Rattle.trap_replica.specs.Applying.{Elsewhere}
use Rattle.trap_cli.specs.declared.command.Command.{Command}
use Rattle.trap_cli.specs.declared.command.Command.TheVariants.{Create, Session, History, Send}
use Rattle.trap_cli.specs.declared.command.Command.TheVariants.{ReplicaCreate, ReplicaLoad}
use Rattle.trap_cli.specs.declared.command.Command.TheVariants.{Apply, ReplicaExport}
use Rattle.trap_cli.specs.declared.outcome.Ended.{Ended}
use Rattle.trap_cli.specs.declared.outcome.Ended.TheVariants.{NotMounted}

-- no byte differs but those that calls of the array may touch that mounting found
abbrev pub InMounted : View → View → Disks → Disks → Type 0
InMounted v w old new = (a : Mounted) × HasFound a v w × Differs (MayTouch a) old new

-- nothing differs, or disks of the array that was asked for
abbrev pub InAsked : Asked → Disks → Disks → Type 0
InAsked asked old new =
    (new ≡ old) ⊎ ((g : Geometry) × HasNumbers g asked × StaysBeyond g old new)

-- What a command changes, whatever the disks hold. Mounting puts a head, or nothing; a history and
-- `send` change no more. A replica's command changes disk 17 alone, its export nothing.
abbrev pub MayChange : Option Command → View → View → Disks → Disks → Type 0
MayChange None v w old new = new ≡ old
MayChange (Some Session) v w old new = MayPutHead v w old new ⊎ InMounted v w old new
MayChange (Some History) v w old new = MayPutHead v w old new
MayChange (Some (Send seq)) v w old new = MayPutHead v w old new
MayChange (Some (Create asked)) v w old new = InAsked asked old new
MayChange (Some (ReplicaCreate asked)) v w old new = Elsewhere old new
MayChange (Some (ReplicaLoad asked start)) v w old new = Elsewhere old new
MayChange (Some Apply) v w old new = Elsewhere old new
MayChange (Some ReplicaExport) v w old new = new ≡ old

-- the command makes no such disk: `create` those of the array asked for, `replica-create` and
-- `replica-load` disk 17, the others none
abbrev pub MakesNone : Option Command → ℕ → Type 0
MakesNone None e = Unit {0}
MakesNone (Some Session) e = Unit {0}
MakesNone (Some History) e = Unit {0}
MakesNone (Some (Send seq)) e = Unit {0}
MakesNone (Some (ReplicaCreate asked)) e = e ≢ 17
MakesNone (Some (ReplicaLoad asked start)) e = e ≢ 17
MakesNone (Some Apply) e = Unit {0}
MakesNone (Some ReplicaExport) e = Unit {0}
MakesNone (Some (Create asked)) e = (g : Geometry) → HasNumbers g asked → g.members < e

-- Nothing changes but what the command may change, at the end and at any moment, whatever the disks
-- hold. Whether the bank tells or not, no disk has another size but one that the command makes.
pub record Frames (command : Option Command) (old new : View) : Type 0 where
  pub changes : ChangesBy (MayChange command old new) old new
  pub sizes : (e : ℕ) → MakesNone command e → new.sizes e ≡ old.sizes e

-- where mounting ended in a fault, nothing was written, or the head that was found
abbrev pub LeavesUnmounted : Ended → View → View → Type 0
LeavesUnmounted ended old new =
    (why : MountFault) → ended ≡ NotMounted why → ChangesBy (MayPutHead old new) old new

-- A member is recorded lost only where it was so on entry, or its disk was absent. The mark of one
-- that was lost is smaller only where the count of its disk rose, or its disk was absent or not its
-- own.
pub record KeepsMembers (g : Geometry) (h k : Head) (old new : View) : Type 0 where
  pub lost : (m : ℕ) → k.lost ≡ Some m → (h.lost ≡ Some m) ⊎ (old.sizes (m + 1) ≡ None)
  pub mark : (m : ℕ) → h.lost ≡ Some m → k.lost ≡ Some m → k.rebuilt < h.rebuilt
      → Rose (old.faults (m + 1)) (new.faults (m + 1)) ⊎ (IsMember g old.now.disks m → ⊥)

-- a state is held at exit, by a head that keeps what was known of the members
pub record HoldsStill (g : Geometry) (h : Head) (old new : View) : Type 0 where
  pub state : State
  pub head : Head
  pub by : HoldsBy g head state new.now.disks
  pub keeps : KeepsMembers g h head old new

-- Where the bank tells, and the disks held a state on entry, they hold one at exit, whether the
-- input is known or not.
abbrev pub StaysHeld : View → View → Type 0
StaysHeld old new = (g : Geometry) (s : State) (h : Head) → IsTrue old.tells
    → HoldsBy g h s old.now.disks → HoldsStill g h old new
