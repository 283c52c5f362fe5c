-- How far a replica came with a list of frames, and what a crash leaves of it.
use Rattle.std.specs.Prelude.{◌≡◌, ◌⊎◌, ℕ, ◌-◌, ◌≤◌, List, [], ◌∷◌, map, Contains, false}
use Rattle.trap_bank.specs.Called.{CalledTimes}
use Rattle.trap_bank.specs.Disks.{Disks, View}
use Rattle.trap_format.specs.declared.shape.Shape.{Shape}
use Rattle.trap_model.specs.Frame.{Sent}
use Rattle.trap_model.specs.Receiver.{Receiver, receive}
use Rattle.trap_model.specs.declared.arrival.Arrival.{Arrival}
use Rattle.trap_replica.specs.Applying.{Leaves, take_calls, cell_after}
use Rattle.trap_replica.specs.Mounted.{MountedReplica, arrival, receiver}
use Rattle.trap_replica.specs.OnDisk.{ReplicaHolds}
use Rattle.trap_replica.specs.Standing.{Mirrors, HoldsApplied, arrived}

-- the frames as a receiver takes them
abbrev pub arrivals : List Sent → List Arrival
arrivals frames = map (λ sent. arrival sent.frame sent.parity) frames

-- the receiver after these frames, each in turn
abbrev pub received : Receiver → List Sent → Receiver
received r frames = receive r (arrivals frames)

-- The disk holds the image of the receiver, stopped while it takes these frames: the one before
-- them, or the one after some of those that a frame lets apply.
abbrev pub HoldsReached : Shape → Receiver → List Arrival → Disks → Type 0
HoldsReached s r [] disks = ReplicaHolds s r.number r.time r.image disks
HoldsReached s r (f ∷ frames) disks =
    HoldsApplied s (arrived r f) disks ⊎ HoldsReached s (receive r (f ∷ [])) frames disks

-- whatever image the replica had, each crash in the run, and each one now, leaves one that it
-- reached with these frames
abbrev pub LeavesReached : List Sent → MountedReplica → View → View → Type 0
LeavesReached frames a old new = (image : List (List ℕ)) → Mirrors a.store old image
    → Leaves old new (HoldsReached a.store.shape (receiver a image) (arrivals frames))

-- The replica received these frames and no others: it is the receiver after them, and every crash
-- leaves that receiver's image. The bank was called for each frame that was applied, and no more.
pub record HasReceived (frames : List Sent) (a b : MountedReplica) (old new : View)
    : Type 0 where
  pub running : b.is_stopped ≡ false
  pub numbers : (image : List (List ℕ))
      → receiver b (received (receiver a image) frames).image ≡ received (receiver a image) frames
  pub mirrors : (image : List (List ℕ)) → Mirrors a.store old image
      → Mirrors b.store new (received (receiver a image) frames).image
  pub calls : CalledTimes (take_calls a.store.cell (b.store.number - a.store.number)) old new
  pub cell : b.store.cell ≡ cell_after a.store.cell (b.store.number - a.store.number)
  pub any_moment : LeavesReached frames a old new

-- the disk holds an image after a number between these
pub record HoldsBetween (s : Shape) (least most : ℕ) (disks : Disks) : Type 0 where
  pub number : ℕ
  pub time : ℕ
  pub image : List (List ℕ)
  pub holds : ReplicaHolds s number time image disks
  pub above : least ≤ number
  pub below : number ≤ most

-- the number and the time are those of a frame, or the ones on entry
abbrev pub IsTimed : List Arrival → ℕ → ℕ → ℕ → ℕ → Type 0
IsTimed frames first begun number time = ((number ≡ first) × (time ≡ begun))
    ⊎ ((f : Arrival) × Contains frames f × (f.seq ≡ number) × (f.time ≡ time))

-- the disk holds an image with such a number and its time
pub record HoldsTimed (s : Shape) (frames : List Arrival) (first begun : ℕ) (disks : Disks)
    : Type 0 where
  pub number : ℕ
  pub time : ℕ
  pub image : List (List ℕ)
  pub holds : ReplicaHolds s number time image disks
  pub of_frame : IsTimed frames first begun number time
