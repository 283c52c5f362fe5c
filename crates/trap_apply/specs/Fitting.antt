-- Which frames are for a replica, by its shape.
use Rattle.std.specs.Prelude.{◌≡◌, ◌≢◌, ℕ, ◌<◌, ◌≤◌}
use Rattle.trap_format.specs.declared.shape.Shape.{Shape}
use Rattle.trap_model.specs.declared.frame.Frame.{Frame}

-- the frame is of the replica's array, and of a block that it has
pub record FitsReplica (s : Shape) (f : Frame) : Type 0 where
  pub own : f.id ≡ s.id
  pub inside : f.block < s.volume

-- the frame is of another array, which has this id
pub record IsStrangers (s : Shape) (f : Frame) (id : ℕ) : Type 0 where
  pub named : f.id ≡ id
  pub other : id ≢ s.id

-- the frame is of the replica's array, and of this block, which lies beyond the volume
pub record IsBeyondVolume (s : Shape) (f : Frame) (block : ℕ) : Type 0 where
  pub own : f.id ≡ s.id
  pub named : f.block ≡ block
  pub beyond : s.volume ≤ block
