-- The status and the text of each fault.
use Rattle.std.specs.Prelude.{ℕ, ◌++◌, List, codes, decimal}
use Rattle.trap_format.specs.declared.limits.Field.{Field}
use Rattle.trap_format.specs.declared.limits.Field.TheVariants as field
use Rattle.trap_mount.specs.declared.fault.CreateFault.{CreateFault}
use Rattle.trap_mount.specs.declared.fault.CreateFault.TheVariants as creating
use Rattle.trap_mount.specs.declared.fault.MountFault.{MountFault}
use Rattle.trap_mount.specs.declared.fault.MountFault.TheVariants as mounting
use Rattle.trap_array.specs.declared.fault.Denied.TheVariants as denied
use Rattle.trap_session.specs.declared.outcome.SessionFault.{SessionFault}
use Rattle.trap_session.specs.declared.outcome.SessionFault.TheVariants as serving
use Rattle.trap_frame.specs.declared.found.FrameFault.{FrameFault}
use Rattle.trap_frame.specs.declared.found.FrameFault.TheVariants as framing
use Rattle.trap_replica.specs.declared.fault.ReplicaFault.{ReplicaFault}
use Rattle.trap_replica.specs.declared.fault.ReplicaFault.TheVariants as replica
use Rattle.trap_apply.specs.declared.outcome.ApplyFault.{ApplyFault}
use Rattle.trap_apply.specs.declared.outcome.ApplyFault.TheVariants as applying
use Rattle.trap_remote.specs.declared.outcome.ReplicaEnd.{ReplicaEnd}
use Rattle.trap_remote.specs.declared.outcome.ReplicaEnd.TheVariants as ending
use Rattle.trap_cli.specs.declared.outcome.Unretained.{Unretained}
use Rattle.trap_cli.specs.declared.outcome.Unretained.TheVariants.{NotKept, Ahead}

abbrev pub create_status : CreateFault → ℕ
create_status (creating.Exists disk) = 3
create_status creating.LogFault = 6
create_status (creating.MemberFault first second) = 7

abbrev pub mount_status : MountFault → ℕ
mount_status mounting.NotAnArray = 3
mount_status (mounting.BadVersion version) = 3
mount_status (mounting.WrongMember member) = 5
mount_status (mounting.TooManyLost first second) = 5
mount_status (mounting.Damaged offset) = 4
mount_status mounting.LogFault = 6
mount_status (mounting.MemberFault first second) = 7
mount_status mounting.OutOfMemory = 10

-- a refusal and a stopped array end no session
abbrev pub session_status : SessionFault → ℕ
session_status (serving.Array (denied.Refused why)) = 6
session_status (serving.Array denied.LogFault) = 6
session_status (serving.Array (denied.MemberFault first second)) = 7
session_status (serving.Array (denied.Damaged offset)) = 4
session_status (serving.Array denied.Stopped) = 6
session_status serving.ReadFault = 8
session_status serving.WriteFault = 9
session_status serving.TooLong = 12

abbrev pub replica_status : ReplicaFault → ℕ
replica_status (replica.Exists disk) = 3
replica_status replica.NotAReplica = 3
replica_status (replica.Damaged offset) = 4
replica_status replica.DiskFault = 13
replica_status replica.ReadFault = 8
replica_status (replica.ShortImage at) = 11
replica_status (replica.LongImage at) = 11
replica_status (replica.Stranger id) = 11
replica_status (replica.NoBlock block) = 11
replica_status replica.Stopped = 13
replica_status replica.OutOfMemory = 10

abbrev pub frame_status : FrameFault → ℕ
frame_status (framing.BadFrame at) = 11
frame_status (framing.Cut at) = 11
frame_status framing.ReadFault = 8
frame_status framing.TooLong = 12

abbrev pub apply_status : ApplyFault → ℕ
apply_status (applying.Stream why) = frame_status why
apply_status (applying.Replica why) = replica_status why

-- how a replica's command ended
abbrev pub end_status : ReplicaEnd → ℕ
end_status ending.Done = 0
end_status ending.Memory = 10
end_status ending.Port = 9
end_status (ending.BadGeometry field) = 3
end_status (ending.NoReplica why) = replica_status why
end_status (ending.NotMade why) = replica_status why
end_status (ending.NotApplied why) = apply_status why
end_status ending.NotExported = 13

abbrev pub field_name : Field → List ℕ
field_name field.Members = codes "members"
field_name field.Chunk = codes "chunk"
field_name field.Block = codes "block"
field_name field.Rows = codes "rows"
field_name field.Volume = codes "volume"
field_name field.Slots = codes "slots"
field_name field.Gap = codes "gap"
field_name field.Entries = codes "entries"
field_name field.Ring = codes "ring"
field_name field.Seq = codes "seq"

-- two numbers
abbrev pub pair : ℕ → ℕ → List ℕ
pair first second = decimal first ++ codes " " ++ decimal second

abbrev pub create_text : CreateFault → List ℕ
create_text (creating.Exists disk) = codes "exists " ++ decimal disk
create_text creating.LogFault = codes "log"
create_text (creating.MemberFault first second) = codes "members " ++ pair first second

abbrev pub mount_text : MountFault → List ℕ
mount_text mounting.NotAnArray = codes "not an array"
mount_text (mounting.BadVersion version) = codes "version " ++ decimal version
mount_text (mounting.WrongMember member) = codes "wrong member " ++ decimal member
mount_text (mounting.TooManyLost first second) = codes "lost " ++ pair first second
mount_text (mounting.Damaged offset) = codes "damaged " ++ decimal offset
mount_text mounting.LogFault = codes "log"
mount_text (mounting.MemberFault first second) = codes "members " ++ pair first second
mount_text mounting.OutOfMemory = codes "memory"

abbrev pub unretained_text : Unretained → List ℕ
unretained_text (NotKept bound) = codes "not kept " ++ decimal bound
unretained_text (Ahead last) = codes "ahead " ++ decimal last

abbrev pub replica_text : ReplicaFault → List ℕ
replica_text (replica.Exists disk) = codes "exists " ++ decimal disk
replica_text replica.NotAReplica = codes "not a replica"
replica_text (replica.Damaged offset) = codes "damaged " ++ decimal offset
replica_text replica.DiskFault = codes "replica"
replica_text replica.ReadFault = codes "input"
replica_text (replica.ShortImage at) = codes "short image " ++ decimal at
replica_text (replica.LongImage at) = codes "long image " ++ decimal at
replica_text (replica.Stranger id) = codes "stranger " ++ decimal id
replica_text (replica.NoBlock block) = codes "no block " ++ decimal block
replica_text replica.Stopped = codes "replica"
replica_text replica.OutOfMemory = codes "memory"

abbrev pub frame_text : FrameFault → List ℕ
frame_text (framing.BadFrame at) = codes "frame " ++ decimal at
frame_text (framing.Cut at) = codes "cut " ++ decimal at
frame_text framing.ReadFault = codes "input"
frame_text framing.TooLong = codes "too long"

abbrev pub apply_text : ApplyFault → List ℕ
apply_text (applying.Stream why) = frame_text why
apply_text (applying.Replica why) = replica_text why

-- the line of a fault with this text
abbrev pub fault_line : List ℕ → List ℕ
fault_line text = codes "fault " ++ text ++ codes "\n"
