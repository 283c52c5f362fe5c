-- What a contract sees of a mounted replica, and what becomes of a frame there.
use Rattle.std.specs.Prelude.{◌≡◌, ℕ, List, [], length, ◌+◌, ◌-◌, ◌==◌, Bool, false, not, nat_lt}
use Rattle.std.specs.Prelude.{if◌then◌else◌, Option, Some, None, Result, IfErr, is_err, IsTrue}
use Rattle.trap_bank.specs.Called.{CalledTimes, CalledAtMost}
use Rattle.trap_bank.specs.Disks.{Quiet, View}
use Rattle.trap_bank.specs.Faults.{Rose}
use Rattle.trap_bank.specs.Steps.{Moves}
use Rattle.trap_model.specs.Receiver.{Receiver, after_frame, is_known, is_beyond}
use Rattle.trap_model.specs.declared.arrival.Arrival.{Arrival}
use Rattle.trap_model.specs.declared.arrival.Taken.{Taken}
use Rattle.trap_model.specs.declared.arrival.Taken.TheVariants.{Repeat, Beyond}
use Rattle.trap_model.specs.declared.frame.Frame.{Frame}
use Rattle.trap_replica.specs.Applying.{Elsewhere, take_calls, cell_after}
use Rattle.trap_replica.specs.Holding.{HeldFrames, SuitAll}
use Rattle.trap_replica.specs.Standing.{IsStoreReady, Mirrors, seen}
use Rattle.trap_replica.specs.declared.fault.ReplicaFault.{ReplicaFault}
use Rattle.trap_replica.specs.declared.fault.ReplicaFault.TheVariants.{DiskFault, Stranger, NoBlock}
use Rattle.trap_replica.specs.declared.fault.ReplicaFault.TheVariants.{Stopped}
use Rattle.trap_replica.specs.declared.store.Store.{Store}

-- the image on the disk by its cell, the frames that wait, and whether the replica is of no further
-- use
pub record MountedReplica : Type 0 where
  pub store : Store
  pub held : HeldFrames
  pub is_stopped : Bool

-- the frames that wait fit the replica, and the next isn't among them
abbrev pub WaitsInOrder : MountedReplica → Type 0
WaitsInOrder r =
    r.is_stopped ≡ false → SuitAll r.store.shape (r.store.number + 1) r.store.number r.held

-- it may be called, unless it is stopped
abbrev pub IsUsable : MountedReplica → View → Type 0
IsUsable r v = r.is_stopped ≡ false → IsStoreReady r.store v

-- the receiver that it is, over an image
abbrev pub receiver : MountedReplica → List (List ℕ) → Receiver
receiver r image = seen r.store r.held image

-- a frame with its parity, as a receiver takes it
abbrev pub arrival : Frame → List ℕ → Arrival
arrival f parity = record { seq = f.seq; time = f.time; block = f.block; parity = parity }

-- why a frame is refused, if it is: the first of these
abbrev pub frame_refusal : MountedReplica → Frame → Option ReplicaFault
frame_refusal r f =
    if not (f.id == r.store.shape.id) then Some (Stranger f.id)
    else (if not (nat_lt f.block r.store.shape.volume) then Some (NoBlock f.block)
    else (if r.is_stopped then Some Stopped else None))

-- what becomes of a frame of this number that is left out
abbrev pub left_out : Store → HeldFrames → Arrival → Option Taken
left_out p h f =
    if is_known (seen p h []) f then Some Repeat
    else (if is_beyond (seen p h []) f then Some Beyond else None)

-- the replica is the receiver after the frame, and every crash leaves that receiver's image; the
-- bank was called for each frame that was applied, and no more
pub record Receives (p q : MountedReplica) (f : Arrival) (a b : View) : Type 0 where
  pub numbers : (image : List (List ℕ)) → receiver q (after_frame (receiver p image) f).image
      ≡ after_frame (receiver p image) f
  pub mirrors : (image : List (List ℕ)) → Mirrors p.store a image
      → Mirrors q.store b (after_frame (receiver p image) f).image
  pub calls : CalledTimes (take_calls p.store.cell (q.store.number - p.store.number)) a b
  pub cell : q.store.cell ≡ cell_after p.store.cell (q.store.number - p.store.number)

-- no frame changes the shape, a disk's size, or a disk but 17, and the replica may be called again
pub record StaysBeside (p q : MountedReplica) (a b : View) : Type 0 where
  pub usable : IsUsable q b
  pub shape : q.store.shape ≡ p.store.shape
  pub sizes : (e : ℕ) → b.sizes e ≡ a.sizes e
  pub elsewhere : Moves a b Elsewhere Elsewhere
  pub touches : IsTrue a.tells → Quiet Elsewhere a.now b.now

-- nothing fails but disk 17, whose count rose, and then the replica is stopped; the bank was called
-- at most as often as each frame that waited, and this one, take
pub record StopsByDisk {T : Type 0} (result : Result T ReplicaFault) (p q : MountedReplica)
    (a b : View) : Type 0 where
  pub cause : IfErr result (λ why. (why ≡ DiskFault) × Rose (a.faults 17) (b.faults 17))
  pub stops : q.is_stopped ≡ is_err result
  pub most : CalledAtMost (take_calls p.store.cell (length p.held.frames + 1)) a b
