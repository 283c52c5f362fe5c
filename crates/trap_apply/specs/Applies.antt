-- A stream of frames, applied to a replica.
use Rattle.std.specs.Prelude.{ℕ, List, [], ◌∷◌, ◌++◌, All, length, Option, Some, None}
use Rattle.trap_bank.specs.Disks.{View}
use Rattle.trap_bank.specs.Stream.{Stream}
use Rattle.trap_frame.specs.Filling.{TakesBytes}
use Rattle.trap_frame.specs.Reading.{FindsNoFrame}
use Rattle.trap_format.specs.declared.shape.Shape.{Shape}
use Rattle.trap_model.specs.Frame.{Sent, BeginsWithFrames, IsPart}
use Rattle.trap_replica.specs.Mounted.{MountedReplica, receiver}
use Rattle.trap_replica.specs.declared.fault.ReplicaFault.{ReplicaFault}
use Rattle.trap_replica.specs.declared.fault.ReplicaFault.TheVariants.{Exists, NotAReplica, Damaged}
use Rattle.trap_replica.specs.declared.fault.ReplicaFault.TheVariants.{DiskFault, ReadFault}
use Rattle.trap_replica.specs.declared.fault.ReplicaFault.TheVariants.{ShortImage, LongImage}
use Rattle.trap_replica.specs.declared.fault.ReplicaFault.TheVariants.{Stranger, NoBlock, Stopped}
use Rattle.trap_replica.specs.declared.fault.ReplicaFault.TheVariants.{OutOfMemory}
use Rattle.trap_apply.specs.Summary.{IsSummary}
use Rattle.trap_apply.specs.Fitting.{FitsReplica, IsStrangers, IsBeyondVolume}
use Rattle.trap_apply.specs.Reached.{arrivals, HasReceived, LeavesReached}
use Rattle.trap_apply.specs.Stepping.{FindsSent, FindsEnd, FailsIn}
use Rattle.trap_apply.specs.declared.outcome.ApplyFault.{ApplyFault}
use Rattle.trap_apply.specs.declared.outcome.ApplyFault.TheVariants.{Stream as InStream}
use Rattle.trap_apply.specs.declared.outcome.ApplyFault.TheVariants.{Replica as InReplica}
use Rattle.trap_apply.specs.declared.outcome.Outcome.{Outcome}

-- these frames were taken of the source, one after the other, and no other bytes
pub record TakesFrames (size : ℕ) (frames : List Sent) (used : ℕ) (s s' : Stream) : Type 0 where
  pub bytes : List ℕ
  pub spelled : BeginsWithFrames size frames [] bytes
  pub took : TakesBytes bytes 0 used s s'

-- these frames lie whole in the bytes, one after the other, and no other does after them
pub record AreWholeIn (size : ℕ) (bytes : List ℕ) (frames : List Sent) : Type 0 where
  pub rest : List ℕ
  pub begins : BeginsWithFrames size frames rest bytes
  pub part : IsPart size rest

-- At most 2^40 bytes were taken of the source. They begin with these frames, each of which is for
-- the replica.
pub record BringsFrames (s : Shape) (frames : List Sent) (from to : Stream) : Type 0 where
  pub bytes : List ℕ
  pub took : TakesBytes bytes 0 (length bytes) from to
  pub rest : List ℕ
  pub begins : BeginsWithFrames s.block frames rest bytes
  pub fits : All (λ sent. FitsReplica s sent.frame) frames

-- the replica received the frames, and refused the next; or its disk failed in that one
abbrev pub EndsIn : ReplicaFault → List Sent → Sent → MountedReplica → MountedReplica → View
    → View → Type 0
EndsIn (Stranger id) frames next a b old new =
    IsStrangers a.store.shape next.frame id × HasReceived frames a b old new
EndsIn (NoBlock block) frames next a b old new =
    IsBeyondVolume a.store.shape next.frame block × HasReceived frames a b old new
EndsIn DiskFault frames next a b old new = FailsIn (frames ++ next ∷ []) next a b old new
EndsIn (Exists disk) frames next a b old new = ⊥
EndsIn NotAReplica frames next a b old new = ⊥
EndsIn (Damaged offset) frames next a b old new = ⊥
EndsIn ReadFault frames next a b old new = ⊥
EndsIn (ShortImage at) frames next a b old new = ⊥
EndsIn (LongImage at) frames next a b old new = ⊥
EndsIn Stopped frames next a b old new = ⊥
EndsIn OutOfMemory frames next a b old new = ⊥

-- why the run ended after these frames, of which the last byte was byte number `used`
abbrev pub EndsApplying : Option ApplyFault → List Sent → MountedReplica → MountedReplica → View
    → View → ℕ → Stream → Stream → Type 0
EndsApplying None frames a b old new used s s' = (used' : ℕ)
    × FindsEnd a.store.shape.block used used' s s' × HasReceived frames a b old new
EndsApplying (Some (InStream fault)) frames a b old new used s s' = (used' : ℕ)
    × FindsNoFrame a.store.shape.block fault used used' s s' × HasReceived frames a b old new
EndsApplying (Some (InReplica why)) frames a b old new used s s' = (next : Sent) × (used' : ℕ)
    × FindsSent a.store.shape.block next used used' s s' × EndsIn why frames next a b old new

-- Frames were taken of the source, and each was given to the replica in this order, up to the end
-- of the stream or a fault.
pub record Applies (a b : MountedReplica) (outcome : Outcome) (old new : View) (from to : Stream)
    : Type 0 where
  pub frames : List Sent
  pub used : ℕ
  pub mid : Stream
  pub taken : TakesFrames a.store.shape.block frames used from mid
  pub fits : All (λ sent. FitsReplica a.store.shape sent.frame) frames
  pub summary : (image : List (List ℕ))
      → IsSummary b (receiver a image) (arrivals frames) outcome.summary
  pub ends : EndsApplying outcome.fault frames a b old new used mid to
  -- with these frames it reached whatever a crash leaves: the same, or one more, in which its disk
  -- failed
  pub any_moment : (delivered : List Sent) × BringsFrames a.store.shape delivered from to
      × LeavesReached delivered a old new
