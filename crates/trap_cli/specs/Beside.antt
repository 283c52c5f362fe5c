-- The disks that a command leaves exactly as they were.
use Rattle.std.specs.Prelude.{◌≡◌, ◌≢◌, ℕ, ◌≤◌, Option, Some, None}
use Rattle.trap_bank.specs.Disks.{Disks, View}
use Rattle.trap_cli.specs.Frame.{ChangesBy}
use Rattle.trap_cli.specs.declared.command.Command.{Command}
use Rattle.trap_cli.specs.declared.command.Command.TheVariants.{Create, Session, History, Send}
use Rattle.trap_cli.specs.declared.command.Command.TheVariants.{ReplicaCreate, ReplicaLoad}
use Rattle.trap_cli.specs.declared.command.Command.TheVariants.{Apply, ReplicaExport}

-- the disk is none of the command's: a command of the array has no disk from 17 on, one of the
-- replica has none but 17; words that are no command have none
abbrev pub IsApart : Option Command → ℕ → Type 0
IsApart None e = Unit {0}
IsApart (Some Session) e = 17 ≤ e
IsApart (Some History) e = 17 ≤ e
IsApart (Some (Send seq)) e = 17 ≤ e
IsApart (Some (Create asked)) e = 17 ≤ e
IsApart (Some (ReplicaCreate asked)) e = e ≢ 17
IsApart (Some (ReplicaLoad asked start)) e = e ≢ 17
IsApart (Some Apply) e = e ≢ 17
IsApart (Some ReplicaExport) e = e ≢ 17

-- each of these disks is the same, byte for byte, or absent as before
abbrev pub KeepsApart : Option Command → Disks → Disks → Type 0
KeepsApart command old new = (e : ℕ) → IsApart command e → new e ≡ old e

-- They keep their sizes and, as a read gives them and as a crash at any moment leaves them, every
-- byte.
pub record LeavesApart (command : Option Command) (old new : View) : Type 0 where
  pub sizes : (e : ℕ) → IsApart command e → new.sizes e ≡ old.sizes e
  pub disks : ChangesBy (KeepsApart command) old new
