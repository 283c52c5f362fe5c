-- What the words after the program's name are.
use Rattle.std.specs.Prelude.{◌≡◌, ℕ, List, [], ◌∷◌, map, codes, string_bytes, String, Option, Some}
use Rattle.std.specs.Prelude.{None}
use Rattle.std.specs.declared.alloc.Global.{Global}
use Rattle.trap_model.specs.declared.asked.Asked.{Asked}
use Rattle.trap_script.specs.Numbers.{number_of}
use Rattle.trap_remote.specs.declared.outcome.AskedReplica.{AskedReplica}
use Rattle.trap_remote.specs.declared.outcome.Start.{Start}
use Rattle.trap_cli.specs.declared.command.Command.{Command}
use Rattle.trap_cli.specs.declared.command.Command.TheVariants.{Create, Session, History, Send}
use Rattle.trap_cli.specs.declared.command.Command.TheVariants.{ReplicaCreate, ReplicaLoad}
use Rattle.trap_cli.specs.declared.command.Command.TheVariants.{Apply, ReplicaExport}

-- the command's name
abbrev pub name_of : Command → List ℕ
name_of (Create asked) = codes "create"
name_of Session = codes "session"
name_of History = codes "history"
name_of (Send seq) = codes "send"
name_of (ReplicaCreate asked) = codes "replica-create"
name_of (ReplicaLoad asked start) = codes "replica-load"
name_of Apply = codes "apply"
name_of ReplicaExport = codes "replica-export"

-- the nine numbers of an array, in their order
abbrev pub array_numbers : Asked → List ℕ
array_numbers asked =
    asked.id ∷ asked.members ∷ asked.chunk ∷ asked.block ∷ asked.rows ∷ asked.slots ∷ asked.gap
    ∷ asked.entries
    ∷ asked.ring ∷ []

-- the three numbers of a replica, and then the number and the time that its image begins with
abbrev pub replica_numbers : AskedReplica → List ℕ
replica_numbers asked = asked.id ∷ asked.block ∷ asked.volume ∷ []

abbrev pub image_numbers : AskedReplica → Start → List ℕ
image_numbers asked start = asked.id ∷ asked.block ∷ asked.volume ∷ start.seq ∷ start.time ∷ []

-- the numbers that follow the name, in their order
abbrev pub numbers_in : Command → List ℕ
numbers_in (Create asked) = array_numbers asked
numbers_in Session = []
numbers_in History = []
numbers_in (Send seq) = seq ∷ []
numbers_in (ReplicaCreate asked) = replica_numbers asked
numbers_in (ReplicaLoad asked start) = image_numbers asked start
numbers_in Apply = []
numbers_in ReplicaExport = []

-- each word is a number, and these are the numbers
abbrev pub AreNumbers : List (String Global) → List ℕ → Type 0
AreNumbers words numbers =
    map (λ word. number_of (string_bytes word)) words ≡ map Some numbers

-- the words are this name, and then these numbers
pub record AreWords (name numbers : List ℕ) (words : List (String Global)) : Type 0 where
  pub first : String Global
  pub others : List (String Global)
  pub parts : words ≡ first ∷ others
  pub named : string_bytes first ≡ name
  pub counted : AreNumbers others numbers

-- the words are those of the command
abbrev pub Spells : List (String Global) → Command → Type 0
Spells words command = AreWords (name_of command) (numbers_in command) words

-- the words are this command, or none
abbrev pub IsCommand : Option Command → List (String Global) → Type 0
IsCommand (Some command) words = Spells words command
IsCommand None words = (command : Command) → Spells words command → ⊥

abbrev pub command_session : Option Command
command_session = Some Session

abbrev pub command_history : Option Command
command_history = Some History

abbrev pub command_create : Asked → Option Command
command_create asked = Some (Create asked)

abbrev pub command_send : ℕ → Option Command
command_send seq = Some (Send seq)

abbrev pub command_replica_create : AskedReplica → Option Command
command_replica_create asked = Some (ReplicaCreate asked)

abbrev pub command_replica_load : AskedReplica → Start → Option Command
command_replica_load asked start = Some (ReplicaLoad asked start)

abbrev pub command_apply : Option Command
command_apply = Some Apply

abbrev pub command_replica_export : Option Command
command_replica_export = Some ReplicaExport
