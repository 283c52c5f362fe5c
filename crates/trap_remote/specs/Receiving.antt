-- What a replica holds that was given frames of an input, and what is said of it.
use Rattle.std.specs.Prelude.{◌≡◌, ◌≢◌, ℕ, List, ◌++◌, Option, Some}
use Rattle.trap_bank.specs.Calls.{SaysPart}
use Rattle.trap_bank.specs.Disks.{Contents, Disks}
use Rattle.trap_bank.specs.Stream.{Stream}
use Rattle.trap_format.specs.declared.shape.Shape.{Shape}
use Rattle.trap_model.specs.Frame.{Sent}
use Rattle.trap_model.specs.Receiver.{Receiver}
use Rattle.trap_replica.specs.OnDisk.{ReplicaHolds}
use Rattle.trap_apply.specs.Reached.{arrivals, received, HoldsReached}
use Rattle.trap_apply.specs.Summary.{summary_line, summary_of}
use Rattle.trap_apply.specs.declared.outcome.ApplyFault.{ApplyFault}
use Rattle.trap_apply.specs.declared.outcome.ApplyFault.TheVariants.{Replica as InReplica}
use Rattle.trap_replica.specs.declared.fault.ReplicaFault.TheVariants.{DiskFault}
use Rattle.trap_remote.specs.Found.{IsFirstPart}
use Rattle.trap_remote.specs.Stream.{EndsInput, BeginsFor}

-- the summary of a receiver that was given these frames
abbrev pub received_line : Receiver → List Sent → List ℕ
received_line r frames = summary_line (summary_of r (arrivals frames))

-- the replica holds what the receiver has after these frames, with its number and its time
abbrev pub HoldsReceived : Shape → Receiver → List Sent → Disks → Type 0
HoldsReceived s r frames disks = let q = received r frames in
    ReplicaHolds s q.number q.time q.image disks

-- The frames of the input up to this fault, or to its end, were given to the replica, which holds
-- what the receiver has after them.
pub record GivesFrames (s : Shape) (r : Receiver) (input : List ℕ) (frames : List Sent)
    (fault : Option ApplyFault) (disks : Disks) (from to : Stream) : Type 0 where
  pub begins : BeginsFor s input frames
  pub ends : EndsInput s input frames fault from to
  pub holds : HoldsReceived s r frames disks

-- and its summary was said whole
pub record SaysSummary (s : Shape) (r : Receiver) (input : List ℕ) (fault : Option ApplyFault)
    (old new : Contents) (from to : Stream) : Type 0 where
  pub frames : List Sent
  pub applied : GivesFrames s r input frames fault new.disks from to
  pub said : new.said ≡ old.said ++ received_line r frames

-- the port failed in the summary
pub record CutsSummary (s : Shape) (r : Receiver) (input : List ℕ) (old new : Contents)
    (from to : Stream) : Type 0 where
  pub fault : Option ApplyFault
  pub other : fault ≢ Some (InReplica DiskFault)
  pub frames : List Sent
  pub applied : GivesFrames s r input frames fault new.disks from to
  pub part : SaysPart (received_line r frames) old new

-- the replica's disk failed: it holds the receiver's image, stopped while it takes these frames
pub record FailsApplying (s : Shape) (r : Receiver) (input : List ℕ) (old new : Contents)
    : Type 0 where
  pub frames : List Sent
  pub begins : BeginsFor s input frames
  pub reached : HoldsReached s r (arrivals frames) new.disks
  pub said : new.said ≡ old.said

-- The replica holds the receiver's image, stopped while it takes first frames of the input. A front
-- of the summary was said at most; where it was said whole, the replica holds exactly what the
-- receiver has after them.
pub record LeavesApplied (s : Shape) (r : Receiver) (input part : List ℕ) (disks : Disks)
    : Type 0 where
  pub frames : List Sent
  pub begins : BeginsFor s input frames
  pub reached : HoldsReached s r (arrivals frames) disks
  pub front : IsFirstPart part (received_line r frames)
  pub whole : part ≡ received_line r frames → HoldsReceived s r frames disks
