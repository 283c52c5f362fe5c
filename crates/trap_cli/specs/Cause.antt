-- Why a run ends so.
use Rattle.std.specs.Prelude.{◌≡◌, ℕ, ◌+◌, ◌<◌, Option, Some, None}
use Rattle.trap_bank.specs.Faults.{Rose}
use Rattle.trap_bank.specs.Disks.{View}
use Rattle.trap_bank.specs.Stream.{Stream}
use Rattle.trap_model.specs.declared.asked.Asked.{Asked}
use Rattle.trap_model.specs.declared.numbers.Geometry.{Geometry}
use Rattle.trap_format.specs.LogDisk.{log_size}
use Rattle.trap_format.specs.Checked.{first_broken, HasNumbers}
use Rattle.trap_array.specs.Creating.{IsLowest, AreSized}
use Rattle.trap_mount.specs.declared.fault.CreateFault.{CreateFault}
use Rattle.trap_mount.specs.declared.fault.CreateFault.TheVariants as creating
use Rattle.trap_remote.specs.Applying.{ApplyCause}
use Rattle.trap_remote.specs.Creating.{ReplicaCreateCause}
use Rattle.trap_remote.specs.Exporting.{ExportCause}
use Rattle.trap_remote.specs.Loading.{LoadCause}
use Rattle.trap_cli.specs.Ended.{EndsReplica}
use Rattle.trap_cli.specs.Mounting.{IsMountable}
use Rattle.trap_array.specs.MountEnds.{MountCause}
use Rattle.trap_cli.specs.Sending.{SendCause}
use Rattle.trap_cli.specs.Stopping.{TookAll, StopCause}
use Rattle.trap_cli.specs.declared.command.Command.{Command}
use Rattle.trap_cli.specs.declared.command.Command.TheVariants.{Create, Session, History, Send}
use Rattle.trap_cli.specs.declared.command.Command.TheVariants.{ReplicaCreate, ReplicaLoad}
use Rattle.trap_cli.specs.declared.command.Command.TheVariants.{Apply, ReplicaExport}
use Rattle.trap_cli.specs.declared.outcome.Ended.{Ended}
use Rattle.trap_cli.specs.declared.outcome.Ended.TheVariants.{Done, Usage, BadGeometry, NotCreated}
use Rattle.trap_cli.specs.declared.outcome.Ended.TheVariants.{NotMounted, Stopped, Port, Memory}

-- both numbers are those of a member whose count rose
abbrev pub MemberRose : ℕ → ℕ → View → View → Type 0
MemberRose first second old new =
    (first ≡ second) × Rose (old.faults (second + 1)) (new.faults (second + 1))

-- why no array was made: a disk is there, or one failed; where a member did, disk 0 still has the
-- size that it had
abbrev pub CreateDenied : Geometry → CreateFault → View → View → Type 0
CreateDenied g (creating.Exists disk) old new = IsLowest g old disk
CreateDenied g creating.LogFault old new = Rose (old.faults 0) (new.faults 0)
CreateDenied g (creating.MemberFault first second) old new =
    (second < g.members) × MemberRose first second old new × (new.sizes 0 ≡ old.sizes 0)

-- Why `session` ends so. What is said of the disks holds where the bank tells. No other end comes.
abbrev pub SessionCause : Ended → View → View → Stream → Stream → Type 0
SessionCause Done old new from to = IsMountable old × TookAll old from to
SessionCause (NotMounted why) old new from to = MountCause why old new
SessionCause (Stopped why) old new from to = IsMountable old × StopCause why old new from to
SessionCause Memory old new from to = IsMountable old
SessionCause ended old new from to = ⊥

-- why `history` ends so; no other end comes
abbrev pub HistoryCause : Ended → View → View → Type 0
HistoryCause Done old new = IsMountable old
HistoryCause (NotMounted why) old new = MountCause why old new
HistoryCause Port old new = IsMountable old × Rose old.port_faults new.port_faults
HistoryCause ended old new = ⊥

-- whatever the bank tells: disk 0 and each member's disk have the sizes of the array asked for
abbrev pub HasNewSizes : Asked → View → Type 0
HasNewSizes asked new = (g : Geometry) → HasNumbers g asked
    → (new.sizes 0 ≡ Some (log_size g)) × AreSized g g.members new

-- why `create` ends so, and what the sizes show where the array was made; no other end comes
abbrev pub CreateCause : Asked → Ended → View → View → Type 0
CreateCause asked Done old new = (first_broken asked ≡ None) × HasNewSizes asked new
CreateCause asked (BadGeometry field) old new = first_broken asked ≡ Some field
CreateCause asked (NotCreated why) old new =
    (g : Geometry) × HasNumbers g asked × CreateDenied g why old new
CreateCause asked Port old new =
    (first_broken asked ≡ None) × Rose old.port_faults new.port_faults × HasNewSizes asked new
CreateCause asked ended old new = ⊥

abbrev pub CauseOf : Option Command → Ended → View → View → Stream → Stream → Type 0
CauseOf None ended old new from to = ended ≡ Usage
CauseOf (Some Session) ended old new from to = SessionCause ended old new from to
CauseOf (Some History) ended old new from to = HistoryCause ended old new
CauseOf (Some (Send seq)) ended old new from to = SendCause seq ended old new
CauseOf (Some (Create asked)) ended old new from to = CreateCause asked ended old new
CauseOf (Some (ReplicaCreate asked)) ended old new from to =
    EndsReplica (λ end. ReplicaCreateCause asked end old new) ended
CauseOf (Some (ReplicaLoad asked start)) ended old new from to =
    EndsReplica (λ end. LoadCause asked start end old new from to) ended
CauseOf (Some Apply) ended old new from to =
    EndsReplica (λ end. ApplyCause end old new from to) ended
CauseOf (Some ReplicaExport) ended old new from to =
    EndsReplica (λ end. ExportCause end old new) ended
