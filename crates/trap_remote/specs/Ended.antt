-- The ends of the commands of a replica, and the lines of a replica that is made.
use Rattle.std.specs.Prelude.{ℕ, ◌++◌, List, codes, decimal, Bool, true, false, not}
use Rattle.trap_replica.specs.declared.fault.ReplicaFault.{ReplicaFault}
use Rattle.trap_replica.specs.declared.fault.ReplicaFault.TheVariants.{Exists, DiskFault}
use Rattle.trap_replica.specs.declared.fault.ReplicaFault.TheVariants.{OutOfMemory}
use Rattle.trap_apply.specs.declared.outcome.ApplyFault.{ApplyFault}
use Rattle.trap_apply.specs.declared.outcome.ApplyFault.TheVariants.{Stream as InStream}
use Rattle.trap_apply.specs.declared.outcome.ApplyFault.TheVariants.{Replica as InReplica}
use Rattle.trap_remote.specs.declared.outcome.ReplicaEnd.{ReplicaEnd}
use Rattle.trap_remote.specs.declared.outcome.ReplicaEnd.TheVariants.{Done, Memory, Port}
use Rattle.trap_remote.specs.declared.outcome.ReplicaEnd.TheVariants.{BadGeometry, NoReplica}
use Rattle.trap_remote.specs.declared.outcome.ReplicaEnd.TheVariants.{NotMade, NotApplied}
use Rattle.trap_remote.specs.declared.outcome.ReplicaEnd.TheVariants.{NotExported}

-- what `replica-create` says
abbrev pub created_line : ℕ → List ℕ
created_line id = codes "created " ++ decimal id ++ codes "\n"

-- what `replica-load` says
abbrev pub loaded_line : ℕ → List ℕ
loaded_line seq = codes "loaded " ++ decimal seq ++ codes "\n"

-- no disk was made: it is there already, or there was no memory
abbrev pub makes_nothing : ReplicaFault → Bool
makes_nothing (Exists disk) = true
makes_nothing OutOfMemory = true
makes_nothing other = false

-- the replica's disk failed
abbrev pub is_disk_fault : ReplicaFault → Bool
is_disk_fault DiskFault = true
is_disk_fault other = false

-- the replica's disk failed while frames were taken
abbrev pub fails_by_disk : ApplyFault → Bool
fails_by_disk (InStream fault) = false
fails_by_disk (InReplica why) = is_disk_fault why

-- no disk changed
abbrev pub changes_no_disk : ReplicaEnd → Bool
changes_no_disk Done = false
changes_no_disk Memory = true
changes_no_disk Port = false
changes_no_disk (BadGeometry field) = true
changes_no_disk (NoReplica why) = true
changes_no_disk (NotMade why) = makes_nothing why
changes_no_disk (NotApplied why) = false
changes_no_disk NotExported = false

-- the source was read, by a command that reads one
abbrev pub reads_source : ReplicaEnd → Bool
reads_source Done = true
reads_source Memory = false
reads_source Port = true
reads_source (BadGeometry field) = false
reads_source (NoReplica why) = false
reads_source (NotMade why) = not (makes_nothing why)
reads_source (NotApplied why) = true
reads_source NotExported = false

-- nothing was said
abbrev pub ends_unspoken : ReplicaEnd → Bool
ends_unspoken Done = false
ends_unspoken Memory = true
ends_unspoken Port = false
ends_unspoken (BadGeometry field) = true
ends_unspoken (NoReplica why) = true
ends_unspoken (NotMade why) = true
ends_unspoken (NotApplied why) = fails_by_disk why
ends_unspoken NotExported = false
