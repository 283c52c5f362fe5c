-- The next frame of a stream, given to a replica.
use Rattle.std.specs.Prelude.{◌≡◌, ℕ, ◌+◌, List, [], ◌∷◌, length, Option, Some, None}
use Rattle.std.specs.Prelude.{Result, Ok, Err, true}
use Rattle.trap_bank.specs.Called.{CalledAtMost}
use Rattle.trap_bank.specs.Disks.{View}
use Rattle.trap_bank.specs.Faults.{Rose}
use Rattle.trap_bank.specs.Stream.{Stream}
use Rattle.trap_frame.specs.Reading.{FindsFrame, FindsNoFrame}
use Rattle.trap_frame.specs.declared.found.Next.TheVariants as found
use Rattle.trap_model.specs.Frame.{Sent}
use Rattle.trap_model.specs.Receiver.{answer}
use Rattle.trap_model.specs.declared.arrival.Taken.{Taken}
use Rattle.trap_replica.specs.Applying.{take_calls}
use Rattle.trap_replica.specs.Mounted.{MountedReplica, arrival, receiver}
use Rattle.trap_replica.specs.declared.fault.ReplicaFault.{ReplicaFault}
use Rattle.trap_replica.specs.declared.fault.ReplicaFault.TheVariants.{Exists, NotAReplica, Damaged}
use Rattle.trap_replica.specs.declared.fault.ReplicaFault.TheVariants.{DiskFault, ReadFault}
use Rattle.trap_replica.specs.declared.fault.ReplicaFault.TheVariants.{ShortImage, LongImage}
use Rattle.trap_replica.specs.declared.fault.ReplicaFault.TheVariants.{Stranger, NoBlock, Stopped}
use Rattle.trap_replica.specs.declared.fault.ReplicaFault.TheVariants.{OutOfMemory}
use Rattle.trap_apply.specs.Fitting.{FitsReplica, IsStrangers, IsBeyondVolume}
use Rattle.trap_apply.specs.Reached.{LeavesReached, HasReceived}
use Rattle.trap_apply.specs.declared.outcome.ApplyFault.{ApplyFault}
use Rattle.trap_apply.specs.declared.outcome.ApplyFault.TheVariants.{Stream as InStream}
use Rattle.trap_apply.specs.declared.outcome.ApplyFault.TheVariants.{Replica as InReplica}

-- the frame came next in the stream
abbrev pub FindsSent : ℕ → Sent → ℕ → ℕ → Stream → Stream → Type 0
FindsSent size sent used used' s s' =
    FindsFrame size (found.Frame sent.frame) sent.parity used used' s s'

-- nothing was left of the stream
abbrev pub FindsEnd : ℕ → ℕ → ℕ → Stream → Stream → Type 0
FindsEnd size used used' s s' = FindsFrame size found.End [] used used' s s'

-- the replica took the frame, and this became of it
pub record AnswersFrame (sent : Sent) (given : Taken) (a b : MountedReplica) (old new : View)
    : Type 0 where
  pub fits : FitsReplica a.store.shape sent.frame
  pub answer : (image : List (List ℕ))
      → given ≡ answer (receiver a image) (arrival sent.frame sent.parity)
  pub received : HasReceived (sent ∷ []) a b old new

-- the replica's disk failed while these frames were taken, the last of which it would have taken;
-- the bank was called at most as often as each of them takes, and each frame that waited
pub record FailsIn (frames : List Sent) (last : Sent) (a b : MountedReplica) (old new : View)
    : Type 0 where
  pub fits : FitsReplica a.store.shape last.frame
  pub cause : Rose (old.faults 17) (new.faults 17)
  pub stopped : b.is_stopped ≡ true
  pub most : CalledAtMost (take_calls a.store.cell (length a.held.frames + length frames)) old new
  pub any_moment : LeavesReached frames a old new

-- nothing was done
pub record Rests {B : Type 0} (a b : MountedReplica) (first last : B) : Type 0 where
  pub replica : b ≡ a
  pub bank : last ≡ first

-- why the replica didn't take the frame: it refused it, and nothing was done, or its disk failed
abbrev pub RefusesFrame : {B : Type 0} → (B → View) → ReplicaFault → Sent → MountedReplica
    → MountedReplica → B → B → Type 0
RefusesFrame view (Stranger id) sent a b first last =
    IsStrangers a.store.shape sent.frame id × Rests a b first last
RefusesFrame view (NoBlock block) sent a b first last =
    IsBeyondVolume a.store.shape sent.frame block × Rests a b first last
RefusesFrame view DiskFault sent a b first last =
    FailsIn (sent ∷ []) sent a b (view first) (view last)
RefusesFrame view (Exists disk) sent a b first last = ⊥
RefusesFrame view NotAReplica sent a b first last = ⊥
RefusesFrame view (Damaged offset) sent a b first last = ⊥
RefusesFrame view ReadFault sent a b first last = ⊥
RefusesFrame view (ShortImage at) sent a b first last = ⊥
RefusesFrame view (LongImage at) sent a b first last = ⊥
RefusesFrame view Stopped sent a b first last = ⊥
RefusesFrame view OutOfMemory sent a b first last = ⊥

-- what came next in the stream, and what the replica made of it
abbrev pub TakesNextFrame : {B : Type 0} → (B → View) → Result (Option Taken) ApplyFault
    → MountedReplica → MountedReplica → B → B → ℕ → ℕ → Stream → Stream → Type 0
TakesNextFrame view (Ok (Some given)) a b first last used used' s s' = (sent : Sent)
    × FindsSent a.store.shape.block sent used used' s s'
    × AnswersFrame sent given a b (view first) (view last)
TakesNextFrame view (Ok None) a b first last used used' s s' =
    FindsEnd a.store.shape.block used used' s s' × Rests a b first last
TakesNextFrame view (Err (InStream fault)) a b first last used used' s s' =
    FindsNoFrame a.store.shape.block fault used used' s s' × Rests a b first last
TakesNextFrame view (Err (InReplica why)) a b first last used used' s s' = (sent : Sent)
    × FindsSent a.store.shape.block sent used used' s s'
    × RefusesFrame view why sent a b first last
