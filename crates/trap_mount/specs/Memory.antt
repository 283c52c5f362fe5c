-- The memory that the calls of a mounted array need.
use Rattle.std.specs.Prelude.{◌≡◌, ℕ, ◌+◌, List, length}
use Rattle.trap_model.specs.Limits.{greatest_record}
use Rattle.trap_pool.specs.Pooled.{Pooled, free_of}

-- the memory that the calls of an array need
pub record Buffers : Type 0 where
  -- blocks to lease
  pub pool : Pooled
  -- room for a code, and for a record
  pub code : List ℕ
  pub spelled : List ℕ

-- the pool has six blocks of that size, all of them free, and there is room for the longest code
-- and for the longest record
pub record HaveBlocksOf (block : ℕ) (room : Buffers) : Type 0 where
  pub size : room.pool.size ≡ block
  pub blocks : length room.pool.blocks ≡ 6
  pub free : free_of room.pool ≡ 6
  pub code : length room.code ≡ block + 7
  pub spelled : length room.spelled ≡ greatest_record block
