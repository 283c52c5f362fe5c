-- The fields of a frame's header at their places.
use Rattle.std.specs.Prelude.{◌≡◌, ℕ, ◌^◌, ◌<◌, List, slice_range}
use Rattle.std.specs.Int.{w16, w32, w64, to_be_bytes}
use Rattle.trap_model.specs.declared.frame.Frame.{Frame}

-- the fields stand there, and fit
pub record HasFrameFields (bytes : List ℕ) (f : Frame) : Type 0 where
  pub id : to_be_bytes w64 f.id ≡ slice_range bytes 4 12
  pub seq : to_be_bytes w64 f.seq ≡ slice_range bytes 12 20
  pub time : to_be_bytes w64 f.time ≡ slice_range bytes 20 28
  pub block : to_be_bytes w32 f.block ≡ slice_range bytes 28 32
  pub length : to_be_bytes w16 f.length ≡ slice_range bytes 32 34
  pub id_fits : f.id < 2 ^ 64
  pub seq_fits : f.seq < 2 ^ 64
  pub time_fits : f.time < 2 ^ 64
  pub block_fits : f.block < 2 ^ 32
  pub length_fits : f.length < 2 ^ 16
