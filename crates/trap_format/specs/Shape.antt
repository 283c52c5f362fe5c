-- Which numbers a replica can have.
use Rattle.std.specs.Prelude.{◌≡◌, ℕ, ◌^◌, ◌≤◌, true}
use Rattle.trap_model.specs.Limits.{is_block_size}

-- the numbers of a replica are within their limits
pub record AreShapeLimits (block volume : ℕ) : Type 0 where
  pub block_size : is_block_size block ≡ true
  pub block_least : 16 ≤ block
  pub block_most : block ≤ 4096
  pub volume_least : 1 ≤ volume
  pub volume_most : volume ≤ 2 ^ 20
