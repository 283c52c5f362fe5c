-- How a run ends: its status, and the last line that it says.
pub use Rattle.trap_remote.specs.Ended.{created_line}
use Rattle.std.specs.Prelude.{ℕ, ◌++◌, List, [], codes, decimal, Bool, true, false}
use Rattle.trap_mount.specs.declared.fault.CreateFault.{CreateFault}
use Rattle.trap_mount.specs.declared.fault.CreateFault.TheVariants as creating
use Rattle.trap_mount.specs.declared.fault.MountFault.{MountFault}
use Rattle.trap_mount.specs.declared.fault.MountFault.TheVariants as mounting
use Rattle.trap_array.specs.declared.fault.Denied.TheVariants as denied
use Rattle.trap_session.specs.declared.outcome.SessionFault.{SessionFault}
use Rattle.trap_session.specs.declared.outcome.SessionFault.TheVariants as serving
use Rattle.trap_cli.specs.Faults.{create_status, mount_status, session_status, field_name, pair}
use Rattle.trap_cli.specs.Faults.{create_text, mount_text, unretained_text, fault_line}
use Rattle.trap_cli.specs.Faults.{end_status, replica_text, apply_text}
use Rattle.trap_remote.specs.Ended.{changes_no_disk}
use Rattle.trap_remote.specs.declared.outcome.ReplicaEnd.{ReplicaEnd}
use Rattle.trap_remote.specs.declared.outcome.ReplicaEnd.TheVariants as ending
use Rattle.trap_cli.specs.declared.outcome.Ended.{Ended}
use Rattle.trap_cli.specs.declared.outcome.Ended.TheVariants.{Done, Usage, BadGeometry, NotCreated}
use Rattle.trap_cli.specs.declared.outcome.Ended.TheVariants.{NotMounted, NotRetained, Stopped}
use Rattle.trap_cli.specs.declared.outcome.Ended.TheVariants.{Port}
use Rattle.trap_cli.specs.declared.outcome.Ended.TheVariants.{Memory, Replica}

abbrev pub status_of : Ended → ℕ
status_of Done = 0
status_of Usage = 2
status_of (BadGeometry field) = 3
status_of (NotCreated why) = create_status why
status_of (NotMounted why) = mount_status why
status_of (NotRetained why) = 14
status_of (Stopped why) = session_status why
status_of Port = 9
status_of Memory = 10
status_of (Replica end) = end_status end

abbrev pub session_line : SessionFault → List ℕ
session_line (serving.Array (denied.Refused why)) = fault_line (codes "log")
session_line (serving.Array denied.LogFault) = fault_line (codes "log")
session_line (serving.Array (denied.MemberFault first second)) =
    fault_line (codes "members " ++ pair first second)
session_line (serving.Array (denied.Damaged offset)) =
    fault_line (codes "damaged " ++ decimal offset)
session_line (serving.Array denied.Stopped) = fault_line (codes "log")
session_line serving.ReadFault = fault_line (codes "input")
session_line serving.WriteFault = []
session_line serving.TooLong = fault_line (codes "too long")

-- the last line of a replica's command
abbrev pub end_line : ReplicaEnd → List ℕ
end_line ending.Done = []
end_line ending.Memory = fault_line (codes "memory")
end_line ending.Port = []
end_line (ending.BadGeometry field) = fault_line (codes "geometry " ++ field_name field)
end_line (ending.NoReplica why) = fault_line (replica_text why)
end_line (ending.NotMade why) = fault_line (replica_text why)
end_line (ending.NotApplied why) = fault_line (apply_text why)
end_line ending.NotExported = fault_line (codes "replica")

-- the last line that is said; none where the command was done, or the port failed
abbrev pub last_line : Ended → List ℕ
last_line Done = []
last_line Usage = fault_line (codes "usage")
last_line (BadGeometry field) = fault_line (codes "geometry " ++ field_name field)
last_line (NotCreated why) = fault_line (create_text why)
last_line (NotMounted why) = fault_line (mount_text why)
last_line (NotRetained why) = fault_line (unretained_text why)
last_line (Stopped why) = session_line why
last_line Port = []
last_line Memory = fault_line (codes "memory")
last_line (Replica end) = end_line end

abbrev pub is_create_refusal : CreateFault → Bool
is_create_refusal (creating.Exists disk) = true
is_create_refusal creating.LogFault = false
is_create_refusal (creating.MemberFault first second) = false

-- mounting that ended so wrote nothing: only a fault of disk 0 may leave a head half put
abbrev pub leaves_log : MountFault → Bool
leaves_log mounting.LogFault = false
leaves_log why = true

-- no disk changed: the run was refused, or mounting failed and disk 0 didn't
abbrev pub leaves_disks : Ended → Bool
leaves_disks Usage = true
leaves_disks (BadGeometry field) = true
leaves_disks (NotCreated why) = is_create_refusal why
leaves_disks (NotMounted why) = leaves_log why
leaves_disks (Replica end) = changes_no_disk end
leaves_disks ended = false

-- so it is with a replica's command, which ends in no other way
abbrev pub EndsReplica : (ReplicaEnd → Type 0) → Ended → Type 0
EndsReplica has (Replica end) = has end
EndsReplica has ended = ⊥
