-- How far a run came, by its command and by how it ended.
use Rattle.std.specs.Prelude.{◌≡◌, Option, Some, None, Bool, true, false}
use Rattle.trap_bank.specs.Disks.{View}
use Rattle.trap_array.specs.Mounting.{IsNoLog}
use Rattle.trap_remote.specs.Ended.{reads_source, ends_unspoken}
use Rattle.trap_remote.specs.Found.{LacksHeader}
use Rattle.trap_cli.specs.Ended.{leaves_disks}
use Rattle.trap_cli.specs.declared.command.Command.{Command}
use Rattle.trap_cli.specs.declared.command.Command.TheVariants.{Create, Session, History, Send}
use Rattle.trap_cli.specs.declared.command.Command.TheVariants.{ReplicaCreate, ReplicaLoad}
use Rattle.trap_cli.specs.declared.command.Command.TheVariants.{Apply, ReplicaExport}
use Rattle.trap_cli.specs.declared.outcome.Ended.{Ended}
use Rattle.trap_cli.specs.declared.outcome.Ended.TheVariants.{Done, Usage, BadGeometry, NotCreated}
use Rattle.trap_cli.specs.declared.outcome.Ended.TheVariants.{NotMounted, NotRetained, Stopped}
use Rattle.trap_cli.specs.declared.outcome.Ended.TheVariants.{Memory, Port, Replica}

-- Lines are read only by a session, and only when its array is mounted and its memory taken.
abbrev pub reads_input : Option Command → Ended → Bool
reads_input (Some Session) Done = true
reads_input (Some Session) (Stopped why) = true
reads_input command ended = false

-- the array was mounted and no line of the input was read: `history`, `send`, and a session without
-- memory
abbrev pub only_mounts : Option Command → Ended → Bool
only_mounts (Some Session) Memory = true
only_mounts (Some History) Done = true
only_mounts (Some History) Port = true
only_mounts (Some (Send seq)) Done = true
only_mounts (Some (Send seq)) (NotRetained why) = true
only_mounts (Some (Send seq)) (Stopped why) = true
only_mounts (Some (Send seq)) Port = true
only_mounts (Some (Send seq)) Memory = true
only_mounts command ended = false

-- the input is read by a session, `apply` and `replica-load`, each only once what comes before has
-- passed
abbrev pub takes_input : Option Command → Ended → Bool
takes_input (Some Apply) (Replica end) = reads_source end
takes_input (Some (ReplicaLoad asked start)) (Replica end) = reads_source end
takes_input command ended = reads_input command ended

-- decided before the bank was called: the words are no command, it was refused to make a disk, or
-- the disk to mount is absent or too short
abbrev pub IsUncalled : Option Command → Ended → View → Type 0
IsUncalled None ended old = Unit {0}
IsUncalled (Some (Create asked)) ended old = leaves_disks ended ≡ true
IsUncalled (Some (ReplicaCreate asked)) ended old = leaves_disks ended ≡ true
IsUncalled (Some (ReplicaLoad asked start)) ended old = leaves_disks ended ≡ true
IsUncalled (Some Session) ended old = IsNoLog (old.sizes 0)
IsUncalled (Some History) ended old = IsNoLog (old.sizes 0)
IsUncalled (Some (Send seq)) ended old = IsNoLog (old.sizes 0)
IsUncalled (Some Apply) ended old = LacksHeader old
IsUncalled (Some ReplicaExport) ended old = LacksHeader old

-- the command ended before it said anything
abbrev pub ends_silent : Ended → Bool
ends_silent Usage = true
ends_silent (BadGeometry field) = true
ends_silent (NotCreated why) = true
ends_silent (NotMounted why) = true
ends_silent (NotRetained why) = true
ends_silent Memory = true
ends_silent (Replica end) = ends_unspoken end
ends_silent ended = false
