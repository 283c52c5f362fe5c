-- The frames that `apply` takes: of the source, whatever it tells, and of an input that it tells.
use Rattle.std.specs.Prelude.{◌≡◌, ℕ, ◌^◌, List, [], ◌∷◌, ◌++◌, All, length}
use Rattle.std.specs.Prelude.{Option, Some, None}
use Rattle.std.specs.Io.KnownBytes.{Consumes}
use Rattle.trap_bank.specs.Faults.{Rose}
use Rattle.trap_bank.specs.Stream.{Stream}
use Rattle.trap_format.specs.declared.shape.Shape.{Shape}
use Rattle.trap_frame.specs.Reading.{FindsNoFrame}
use Rattle.trap_frame.specs.declared.found.FrameFault.{FrameFault}
use Rattle.trap_frame.specs.declared.found.FrameFault.TheVariants.{BadFrame, Cut, ReadFault}
use Rattle.trap_frame.specs.declared.found.FrameFault.TheVariants.{TooLong}
use Rattle.trap_model.specs.Frame.{Sent, BeginsWithFrames, AreFrames}
use Rattle.trap_model.specs.Frame.Ending.{AtEnd, CutAt, BadAt}
use Rattle.trap_model.specs.declared.frame.Frame.{Frame}
use Rattle.trap_replica.specs.declared.fault.ReplicaFault.{ReplicaFault}
use Rattle.trap_replica.specs.declared.fault.ReplicaFault.TheVariants.{DiskFault, Stranger, NoBlock}
use Rattle.trap_apply.specs.Stepping.{FindsSent, FindsEnd}
use Rattle.trap_apply.specs.Fitting.{FitsReplica, IsStrangers, IsBeyondVolume}
use Rattle.trap_apply.specs.Applies.{TakesFrames, AreWholeIn}
use Rattle.trap_apply.specs.declared.outcome.ApplyFault.{ApplyFault}
use Rattle.trap_apply.specs.declared.outcome.ApplyFault.TheVariants.{Stream as InStream}
use Rattle.trap_apply.specs.declared.outcome.ApplyFault.TheVariants.{Replica as InReplica}

-- every frame is for the replica
abbrev pub AreFor : Shape → List Sent → Type 0
AreFor s frames = All (λ sent. FitsReplica s sent.frame) frames

-- why the replica didn't take the frame: it is another array's, it is of a block that the replica
-- doesn't have, or the replica's disk failed
abbrev pub LeavesOut : Shape → ReplicaFault → Frame → Type 0
LeavesOut s (Stranger id) f = IsStrangers s f id
LeavesOut s (NoBlock block) f = IsBeyondVolume s f block
LeavesOut s DiskFault f = FitsReplica s f
LeavesOut s other f = ⊥

-- after so many bytes, this ended the frames of the source
abbrev pub EndsReading : Shape → Option ApplyFault → ℕ → Stream → Stream → Type 0
EndsReading s None used mid to = (end : ℕ) × FindsEnd s.block used end mid to
EndsReading s (Some (InStream fault)) used mid to =
    (end : ℕ) × FindsNoFrame s.block fault used end mid to
EndsReading s (Some (InReplica why)) used mid to = (next : Sent) × (end : ℕ)
    × FindsSent s.block next used end mid to × LeavesOut s why next.frame

-- Frames were taken of the source, one after the other, each of them for the replica, and then this
-- ended it.
pub record ReadsStream (s : Shape) (frames : List Sent) (fault : Option ApplyFault)
    (from to : Stream) : Type 0 where
  pub used : ℕ
  pub mid : Stream
  pub taken : TakesFrames s.block frames used from mid
  pub fits : AreFor s frames
  pub ends : EndsReading s fault used mid to

-- how the frames of an input end: what was taken of it counts where the source failed, or where
-- 2^40 bytes were taken
abbrev pub EndsFrames : ℕ → List ℕ → List Sent → FrameFault → Stream → Stream → Type 0
EndsFrames size input frames (BadFrame at) from to = AreFrames size input frames (BadAt at)
EndsFrames size input frames (Cut at) from to = AreFrames size input frames (CutAt at)
EndsFrames size input frames ReadFault from to = (bytes : List ℕ)
    × Consumes from.left to.left bytes × AreWholeIn size bytes frames
    × Rose from.faults to.faults
EndsFrames size input frames TooLong from to = (bytes : List ℕ)
    × Consumes from.left to.left bytes × AreWholeIn size bytes frames
    × (length bytes ≡ 2 ^ 40)

-- these are the frames of the input that were given to the replica, and what ended them
abbrev pub EndsInput : Shape → List ℕ → List Sent → Option ApplyFault → Stream → Stream → Type 0
EndsInput s input frames None from to = AreFrames s.block input frames AtEnd
EndsInput s input frames (Some (InStream fault)) from to =
    EndsFrames s.block input frames fault from to
EndsInput s input frames (Some (InReplica why)) from to = (next : Sent) × (rest : List ℕ)
    × BeginsWithFrames s.block (frames ++ next ∷ []) rest input × LeavesOut s why next.frame

-- these frames begin the input, and each of them is for the replica
pub record BeginsFor (s : Shape) (input : List ℕ) (frames : List Sent) : Type 0 where
  pub rest : List ℕ
  pub begins : BeginsWithFrames s.block frames rest input
  pub fits : AreFor s frames
