-- How a replica's command goes on, and what it does where nothing fails.
use Rattle.std.specs.Prelude.{◌≡◌, ◌+◌, Option, Some, true}
use Rattle.trap_bank.specs.Called.{CalledAtMost}
use Rattle.trap_bank.specs.Disks.{View}
use Rattle.trap_bank.specs.Stream.{Stream}
use Rattle.trap_remote.specs.Applying.{ApplyCompletes}
use Rattle.trap_remote.specs.Creating.{CreateCompletes}
use Rattle.trap_remote.specs.Ended.{changes_no_disk}
use Rattle.trap_remote.specs.Exporting.{ExportCompletes, GoesByImage}
use Rattle.trap_remote.specs.Loading.{LoadCompletes, LoadTaken}
use Rattle.trap_remote.specs.Running.{GoesByFrames}
use Rattle.trap_cli.specs.Ended.{last_line}
use Rattle.trap_cli.specs.Session.{SaysInOne}
use Rattle.trap_cli.specs.declared.command.Command.{Command}
use Rattle.trap_cli.specs.declared.command.Command.TheVariants.{ReplicaCreate, ReplicaLoad}
use Rattle.trap_cli.specs.declared.command.Command.TheVariants.{Apply, ReplicaExport}
use Rattle.trap_cli.specs.declared.outcome.Ended.{Ended}
use Rattle.trap_cli.specs.declared.outcome.Ended.TheVariants.{Replica}

-- A replica was mounted, and then its frames were taken, or its image was said; or a replica was
-- made. The bank was called at most so often. What a load took, and left by that, is said of any
-- source.
abbrev pub ReplicaGoes : {B : Type 0} → (B → View) → Option Command → Ended → B → B → Stream
    → Stream → Type 0
ReplicaGoes view (Some (ReplicaCreate asked)) (Replica end) first last from to =
    CalledAtMost 10 (view first) (view last)
ReplicaGoes view (Some (ReplicaLoad asked start)) (Replica end) first last from to =
    CalledAtMost (asked.volume + 11) (view first) (view last)
    × LoadTaken asked start end (view first) (view last) from to
ReplicaGoes view (Some Apply) (Replica end) first last from to =
    GoesByFrames view end first last from to
    × (changes_no_disk end ≡ true → CalledAtMost 5 (view first) (view last))
ReplicaGoes view (Some ReplicaExport) (Replica end) first last from to =
    GoesByImage view end first last
    × (changes_no_disk end ≡ true → CalledAtMost 5 (view first) (view last))
ReplicaGoes view command ended first last from to = Unit {0}

-- and then the last line was said
pub record GoesByReplica {B : Type 0} (view : B → View) (command : Option Command)
    (ended : Ended) (first last : B) (from to : Stream) : Type 0 where
  pub done : B
  pub goes : ReplicaGoes view command ended first done from to
  pub said : SaysInOne view (last_line ended) done last

-- a replica's command is done where nothing fails, before its last line is said
abbrev pub ReplicaCompletes : Option Command → Ended → View → View → Stream → Stream → Type 0
ReplicaCompletes (Some (ReplicaCreate asked)) (Replica end) old new from to =
    CreateCompletes asked end old new
ReplicaCompletes (Some (ReplicaLoad asked start)) (Replica end) old new from to =
    LoadCompletes asked start end old new from to
ReplicaCompletes (Some Apply) (Replica end) old new from to = ApplyCompletes end old new from to
ReplicaCompletes (Some ReplicaExport) (Replica end) old new from to = ExportCompletes end old new
ReplicaCompletes command ended old new from to = Unit {0}
