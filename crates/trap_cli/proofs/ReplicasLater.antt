-- What is known of a replica's command stays so while its last line is said.
use Rattle.std.proofs.Common.{◌≡◌, ◌⊎◌, inl, inr, ℕ, ◌≤◌, List, ◌++◌, length, IsTrue, ap, subst, ◌∙◌}
use Rattle.trap_bank.specs.Disks.{View}
use Rattle.trap_bank.specs.Faults.{Rose}
use Rattle.trap_bank.specs.Stream.{Stream}
use Rattle.trap_bank.proofs.Rising.{rose_later}
use Rattle.trap_format.specs.declared.shape.Shape.{Shape}
use Rattle.trap_replica.specs.Loading.{IsLoadFault}
use Rattle.trap_replica.specs.declared.fault.ReplicaFault.{ReplicaFault}
use Rattle.trap_replica.specs.declared.fault.ReplicaFault.TheVariants as fault
use Rattle.trap_remote.specs.Applying.{ApplyCause, IsApplied}
use Rattle.trap_remote.specs.Creating.{ReplicaCreateCause}
use Rattle.trap_remote.specs.Exporting.{ExportCause, IsExported}
use Rattle.trap_remote.specs.Loading.{LoadCause, IsImageLoaded}
use Rattle.trap_remote.specs.Found.{NoReplicaCause, NoFaultRose}
use Rattle.trap_remote.specs.declared.outcome.AskedReplica.{AskedReplica}
use Rattle.trap_remote.specs.declared.outcome.Start.{Start}
use Rattle.trap_remote.specs.declared.outcome.ReplicaEnd.{ReplicaEnd}
use Rattle.trap_remote.specs.declared.outcome.ReplicaEnd.TheVariants.{Done, Memory, Port, NoReplica, NotMade, NotApplied, NotExported}
use Rattle.trap_cli.specs.Completes.{IsDone}
use Rattle.trap_cli.specs.Ended.{status_of, last_line}
use Rattle.trap_cli.specs.Run.{SaysLast}
use Rattle.trap_cli.specs.declared.outcome.Ended.TheVariants.{Replica}
use Rattle.trap_cli.proofs.Saying.{nothing_more}

module _ (old mid new : View) (later : (e : ℕ) → mid.faults e ≤ new.faults e) (port : mid.port_faults ≤ new.port_faults) (sizes : (e : ℕ) → new.sizes e ≡ mid.sizes e) where
  disk_later : Rose (old.faults 17) (mid.faults 17) → Rose (old.faults 17) (new.faults 17)
  disk_later rose = rose_later (old.faults 17) (mid.faults 17) (new.faults 17) rose (later 17)

  port_later : Rose old.port_faults mid.port_faults → Rose old.port_faults new.port_faults
  port_later rose = rose_later old.port_faults mid.port_faults new.port_faults rose port

  unmounted_later : (why : ReplicaFault) → NoReplicaCause why old mid → NoReplicaCause why old new
  unmounted_later why by = record { kind = by.kind; refused = by.refused; failed = λ is. disk_later (by.failed is) }

  pub apply_later : (end : ReplicaEnd) (from to : Stream) → ApplyCause end old mid from to → ApplyCause end old new from to
  apply_later Port from to by = (by.0, by.1, by.2, port_later by.3)
  apply_later (NoReplica why) from to by = unmounted_later why by
  apply_later (NotApplied why) from to by = (by.0, λ is. disk_later (by.1 is))
  apply_later end from to by = by

  pub export_later : (end : ReplicaEnd) → ExportCause end old mid → ExportCause end old new
  export_later Port by = (by.0, by.1, port_later by.2)
  export_later (NoReplica why) by = unmounted_later why by
  export_later NotExported by = (by.0, by.1, disk_later by.2)
  export_later end by = by

  pub create_later : (asked : AskedReplica) (end : ReplicaEnd) → ReplicaCreateCause asked end old mid → ReplicaCreateCause asked end old new
  create_later asked Done by = (by.0, sizes 17 ∙ by.1)
  create_later asked Port by = ((by.0.0, sizes 17 ∙ by.0.1), port_later by.1)
  create_later asked (NotMade fault.DiskFault) by = (by.0, disk_later by.1)
  create_later asked (NotMade (fault.Exists disk)) by = by
  create_later asked (NotMade why) by = by
  create_later asked end by = by

  load_fault_later : (s : Shape) (taken : ℕ) (from to : Stream) (why : ReplicaFault) → IsLoadFault s taken old mid from to why → IsLoadFault s taken old new from to why
  load_fault_later s taken from to fault.DiskFault by = (by.0, disk_later by.1)
  load_fault_later s taken from to why by = by

  pub load_later : (asked : AskedReplica) (start : Start) (end : ReplicaEnd) (from to : Stream) → LoadCause asked start end old mid from to → LoadCause asked start end old new from to
  load_later asked start Done from to by = record { may = by.may; size = sizes 17 ∙ by.size; bytes = by.bytes; took = by.took; long = by.long; ended = by.ended }
  load_later asked start Port from to by = (
    record { may = by.0.may; size = sizes 17 ∙ by.0.size; bytes = by.0.bytes; took = by.0.took; long = by.0.long; ended = by.0.ended },
    port_later by.1,
  )
  load_later asked start (NotMade (fault.Exists disk)) from to by = by
  load_later asked start (NotMade why) from to by =
      record { may = by.may; bytes = by.bytes; took = by.took; fault = load_fault_later by.may.shape (length by.bytes) from to why by.fault }
  load_later asked start end from to by = by

  -- nothing had failed before
  pub fails_before : (from to : Stream) → NoFaultRose old new from to → NoFaultRose old mid from to
  fails_before from to fails = record { disk = λ rose. fails.disk (disk_later rose); port = λ rose. fails.port (port_later rose); source = fails.source }

module _ (status : ℕ) (end : ReplicaEnd) (old mid new : View) (number : status ≡ status_of (Replica end))
    (last : IsTrue old.tells → SaysLast (last_line (Replica end)) mid.now.said mid new) where
  -- after what was said no line is said
  pub said_whole : IsTrue old.tells → end ≡ Done → (line : List ℕ) → mid.now.said ≡ old.now.said ++ line → new.now.said ≡ old.now.said ++ line
  said_whole told is line said =
      let last = subst (λ (end : ReplicaEnd). SaysLast (last_line (Replica end)) mid.now.said mid new) is (last told) in
      nothing_more new.now.said mid.now.said last.part last.rest last.whole last.said ∙ said

  pub status_is : (other : ReplicaEnd) → end ≡ other → status ≡ status_of (Replica other)
  status_is other is = number ∙ ap (λ (end : ReplicaEnd). status_of (Replica end)) is

  pub applied_done : IsTrue old.tells → (line : List ℕ) → IsApplied end line old mid → IsDone status line old new
  applied_done told line (inl done) = inl (status_is Done done.0, said_whole told done.0 line done.1)
  applied_done told line (inr (inl memory)) = inr (status_is Memory memory)
  applied_done told line (inr (inr memory)) = inr (status_is (NoReplica fault.OutOfMemory) memory)

  pub exported_done : IsTrue old.tells → (line : List ℕ) → IsExported end line old mid → IsDone status line old new
  exported_done told line (inl done) = inl (status_is Done done.0, said_whole told done.0 line done.1)
  exported_done told line (inr (inl memory)) = inr (status_is Memory memory)
  exported_done told line (inr (inr memory)) = inr (status_is (NoReplica fault.OutOfMemory) memory)

  pub loaded_done : (line : List ℕ) → IsImageLoaded end line old mid → ((status ≡ 0) × (IsTrue old.tells → new.now.said ≡ old.now.said ++ line)) ⊎ (status ≡ 10)
  loaded_done line (inl done) = inl (status_is Done done.0, λ told. said_whole told done.0 line (done.1 told))
  loaded_done line (inr memory) = inr (status_is (NotMade fault.OutOfMemory) memory)
