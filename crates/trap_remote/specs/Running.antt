-- How a run of `apply` or of `replica-export` goes on over the replica that it mounted.
use Rattle.std.specs.Prelude.{◌≡◌, ℕ, List, Option, Some, None, Result, Ok, Err, Bool, true, false}
use Rattle.trap_bank.specs.Calls.{Says}
use Rattle.trap_bank.specs.Called.{CalledTimes}
use Rattle.trap_bank.specs.Disks.{View}
use Rattle.trap_bank.specs.Steps.{OnlyReads}
use Rattle.trap_bank.specs.Stream.{Stream}
use Rattle.trap_bank.specs.declared.disks.Failed.{Failed}
use Rattle.trap_replica.specs.Mounted.{MountedReplica, StaysBeside}
use Rattle.trap_replica.specs.Mounting.{MountsReplica}
use Rattle.trap_replica.specs.declared.fault.ReplicaFault.TheVariants.{DiskFault}
use Rattle.trap_apply.specs.Applies.{Applies}
use Rattle.trap_apply.specs.Summary.{summary_line}
use Rattle.trap_apply.specs.declared.outcome.ApplyFault.{ApplyFault}
use Rattle.trap_apply.specs.declared.outcome.ApplyFault.TheVariants.{Replica as InReplica}
use Rattle.trap_apply.specs.declared.outcome.Outcome.{Outcome}
use Rattle.trap_remote.specs.Ended.{reads_source, fails_by_disk}
use Rattle.trap_remote.specs.declared.outcome.ReplicaEnd.{ReplicaEnd}
use Rattle.trap_remote.specs.declared.outcome.ReplicaEnd.TheVariants.{Done, Port, NotApplied}

-- how `apply` ends by this fault of the frames, where the port doesn't fail
abbrev pub end_of : Option ApplyFault → ReplicaEnd
end_of None = Done
end_of (Some why) = NotApplied why

-- no summary is said where the replica's disk failed
abbrev pub is_unsaid : Option ApplyFault → Bool
is_unsaid None = false
is_unsaid (Some why) = fails_by_disk why

-- and by what became of the summary
abbrev pub end_after_line : {T E : Type 0} → Option ApplyFault → Result T E → ReplicaEnd
end_after_line fault (Ok value) = end_of fault
end_after_line fault (Err e) = Port

-- the line was said in one call of the bank, and so it ended
pub record SaysAndEnds {B : Type 0} (view : B → View) (line : List ℕ) (fault : Option ApplyFault)
    (ended : ReplicaEnd) (old new : B) : Type 0 where
  pub result : Result (Unit {0}) Failed
  pub says : Says line result (view old) (view new)
  pub is : ended ≡ end_after_line fault result

-- with a failing disk no line is said
abbrev pub SaysUnless : {B : Type 0} → (B → View) → List ℕ → Option ApplyFault → ReplicaEnd → B → B
    → Type 0
SaysUnless view line (Some (InReplica DiskFault)) ended old new =
    (ended ≡ NotApplied (InReplica DiskFault)) × (new ≡ old)
SaysUnless view line fault ended old new = SaysAndEnds view line fault ended old new

-- what became of a run's frames was said
abbrev pub SaysOutcome : {B : Type 0} → (B → View) → Outcome → ReplicaEnd → B → B → Type 0
SaysOutcome view outcome ended old new =
    SaysUnless view (summary_line outcome.summary) outcome.fault ended old new

-- the frames of the source were taken over a replica, and then their summary was said, unless disk
-- 17 failed
pub record TakesOver {B : Type 0} (view : B → View) (a : MountedReplica) (ended : ReplicaEnd)
    (first last : B) (from to : Stream) : Type 0 where
  pub b : MountedReplica
  pub outcome : Outcome
  pub applied : B
  pub applies : Applies a b outcome (view first) (view applied) from to
  pub stays : StaysBeside a b (view first) (view applied)
  pub says : SaysOutcome view outcome ended applied last

-- The replica was mounted in five calls of the bank, and then its frames were taken.
pub record AppliesMounted {B : Type 0} (view : B → View) (ended : ReplicaEnd) (first last : B)
    (from to : Stream) : Type 0 where
  pub a : MountedReplica
  pub mounted : B
  pub mounts : MountsReplica a (view first) (view mounted)
  pub reads : OnlyReads (view first) (view mounted)
  pub called : CalledTimes 5 (view first) (view mounted)
  pub takes : TakesOver view a ended mounted last from to

-- where frames were taken
abbrev pub GoesByFrames : {B : Type 0} → (B → View) → ReplicaEnd → B → B → Stream → Stream → Type 0
GoesByFrames view ended first last from to =
    reads_source ended ≡ true → AppliesMounted view ended first last from to
