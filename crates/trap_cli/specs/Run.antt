-- What a run says and leaves.
pub use Rattle.trap_cli.specs.Reached.{reads_input, only_mounts, takes_input, ends_silent}
pub use Rattle.trap_cli.specs.Reached.{IsUncalled}
use Rattle.std.specs.Prelude.{◌≡◌, ◌⊎◌, ℕ, ◌++◌, List, [], Option, Some, None, IsTrue, true}
use Rattle.std.specs.Prelude.{false}
use Rattle.trap_bank.specs.Faults.{Rose}
use Rattle.trap_bank.specs.Disks.{View}
use Rattle.trap_bank.specs.Steps.{Steps}
use Rattle.trap_bank.specs.Stream.{Stream}
use Rattle.trap_model.specs.declared.numbers.Geometry.{Geometry}
use Rattle.trap_format.specs.Checked.{first_broken, HasNumbers}
use Rattle.trap_format.specs.declared.limits.Field.{Field}
use Rattle.trap_array.specs.Creating.{IsLowest}
use Rattle.trap_array.specs.Mounting.{IsNoLog}
use Rattle.trap_mount.specs.declared.fault.CreateFault.TheVariants.{Exists}
use Rattle.trap_mount.specs.declared.fault.MountFault.TheVariants.{NotAnArray}
use Rattle.trap_session.specs.Serving.{Took}
use Rattle.trap_remote.specs.Making.{MakeFirst}
use Rattle.trap_remote.specs.Found.{MountFirst}
use Rattle.trap_cli.specs.ReplicaRuns.{GoesByReplica}
use Rattle.trap_cli.specs.Ended.{status_of, last_line, leaves_disks, EndsReplica}
use Rattle.trap_cli.specs.Session.{SaysInOne, GoesByLines, GoesByMounting}
use Rattle.trap_cli.specs.Frame.{Frames, LeavesUnmounted, ChangesNothing, StaysHeld}
use Rattle.trap_cli.specs.Cause.{CauseOf}
use Rattle.trap_cli.specs.Said.{SaidAndHeld}
use Rattle.trap_cli.specs.Crash.{LeavesNow, LeavesWithFront}
use Rattle.trap_cli.specs.declared.command.Command.{Command}
use Rattle.trap_cli.specs.declared.command.Command.TheVariants.{Create, Session, History, Send}
use Rattle.trap_cli.specs.declared.command.Command.TheVariants.{ReplicaCreate, ReplicaLoad}
use Rattle.trap_cli.specs.declared.command.Command.TheVariants.{Apply, ReplicaExport}
use Rattle.trap_cli.specs.declared.outcome.Ended.{Ended}
use Rattle.trap_cli.specs.declared.outcome.Ended.TheVariants.{BadGeometry, NotCreated, NotMounted}

-- those bytes were said, and then the line; or a first part of it, where the port failed
pub record SaysLast (line before : List ℕ) (old new : View) : Type 0 where
  pub part : List ℕ
  pub rest : List ℕ
  pub whole : part ++ rest ≡ line
  pub said : new.now.said ≡ before ++ part
  pub port : (rest ≡ []) ⊎ Rose old.port_faults new.port_faults

-- the refusals that are decided by what was asked and by sizes alone
abbrev pub IsRefusedFirst : Option Command → Ended → View → Type 0
IsRefusedFirst None ended old = Unit {0}
IsRefusedFirst (Some Session) ended old = IsNoLog (old.sizes 0) → ended ≡ NotMounted NotAnArray
IsRefusedFirst (Some History) ended old = IsNoLog (old.sizes 0) → ended ≡ NotMounted NotAnArray
IsRefusedFirst (Some (Send seq)) ended old =
    IsNoLog (old.sizes 0) → ended ≡ NotMounted NotAnArray
IsRefusedFirst (Some (Create asked)) ended old =
    ((field : Field) → first_broken asked ≡ Some field → ended ≡ BadGeometry field)
    × ((g : Geometry) (d : ℕ) → first_broken asked ≡ None → HasNumbers g asked → IsLowest g old d
    → ended ≡ NotCreated (Exists d))
IsRefusedFirst (Some (ReplicaCreate asked)) ended old =
    EndsReplica (λ end. MakeFirst asked 0 end old) ended
IsRefusedFirst (Some (ReplicaLoad asked start)) ended old =
    EndsReplica (λ end. MakeFirst asked start.seq end old) ended
IsRefusedFirst (Some Apply) ended old = EndsReplica (λ end. MountFirst end old) ended
IsRefusedFirst (Some ReplicaExport) ended old = EndsReplica (λ end. MountFirst end old) ended

-- A command ended so; its last line isn't said yet.
pub record CommandOutcome (command : Option Command) (ended : Ended) (old new : View)
    (from to : Stream) : Type 0 where
  pub cause : CauseOf command ended old new from to
  pub first : IsRefusedFirst command ended old
  pub unchanged : leaves_disks ended ≡ true → ChangesNothing old new
  pub unmounted : LeavesUnmounted ended old new
  pub frame : Frames command old new
  pub stops : SaidAndHeld command ended old new.now from to
  pub unread : takes_input command ended ≡ false → to ≡ from
  pub took : Took from to
  pub silent : ends_silent ended ≡ true → IsTrue old.tells → new.now.said ≡ old.now.said
  pub held : StaysHeld old new
  pub steps : Steps old new (LeavesNow command old from)
      (LeavesWithFront (last_line ended) command old from)

-- the command stopped so, and then the last line was said
pub record ThenLastLine (command : Option Command) (ended : Ended) (old new : View)
    (from to : Stream) : Type 0 where
  pub before : List ℕ
  pub stops : SaidAndHeld command ended old
      (record { disks = new.now.disks; said = before }) from to
  pub last : SaysLast (last_line ended) before old new

-- A run of the command ended in this way, and its status is that one's.
pub record EndsAs (status : ℕ) (command : Option Command) (ended : Ended) (old new : View)
    (from to : Stream) : Type 0 where
  pub number : status ≡ status_of ended
  pub cause : CauseOf command ended old new from to
  pub first : IsRefusedFirst command ended old
  pub unchanged : leaves_disks ended ≡ true → ChangesNothing old new
  pub unmounted : LeavesUnmounted ended old new
  pub unread : takes_input command ended ≡ false → to ≡ from
  pub took : Took from to
  pub silent : ends_silent ended ≡ true → IsTrue old.tells
      → SaysLast (last_line ended) old.now.said old new
  pub told : IsTrue old.tells → ThenLastLine command ended old new from to

-- The command ended so, and then its last line was said in one call, or in none where it is empty.
-- Where all was decided before the bank was called, that was the only call.
pub record ThenSays {B : Type 0} (view : B → View) (command : Option Command) (ended : Ended)
    (first last : B) (from to : Stream) : Type 0 where
  pub done : B
  pub outcome : CommandOutcome command ended (view first) (view done) from to
  pub untouched : IsUncalled command ended (view first) → done ≡ first
  pub said : SaysInOne view (last_line ended) done last

-- A run of the command ended in one of the ways. Where the input was read, its lines were answered
-- one after another, each reply in one call of the bank. Where the array was mounted and no line
-- was read, no disk changed after mounting, and the last line was said in one call.
pub record RunOutcome {B : Type 0} (view : B → View) (status : ℕ) (command : Option Command)
    (first last : B) (from to : Stream) : Type 0 where
  pub ended : Ended
  pub ends : EndsAs status command ended (view first) (view last) from to
  pub lines : reads_input command ended ≡ true → GoesByLines view ended first last from to
  pub mounted : only_mounts command ended ≡ true → GoesByMounting view command ended first last
  pub replica : GoesByReplica view command ended first last from to
  pub says : ThenSays view command ended first last from to
