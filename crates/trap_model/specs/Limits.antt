-- The limits of an array's numbers.
use Rattle.std.specs.Prelude.{◌≡◌, ℕ, ◌+◌, ◌-◌, ◌*◌, ◌%◌, ◌^◌, ◌≤◌, Bool, true, ◌||◌, ◌==◌}

-- the byte at the front of what is whole: a header, or a slot of a cell
abbrev pub open_gate : ℕ
open_gate = 165

-- how many bytes head a record of the log
abbrev pub record_header_len : ℕ
record_header_len = 26

-- the block sizes, in bytes: the powers of two from 16 to 4096
abbrev pub is_block_size : ℕ → Bool
is_block_size size = (size == 16) || (size == 32) || (size == 64) || (size == 128) || (size == 256)
    || (size == 512) || (size == 1024) || (size == 2048) || (size == 4096)

-- the greatest length of a log record over blocks of a size: its header, and two codes
abbrev pub greatest_record : ℕ → ℕ
greatest_record block = record_header_len + 2 * (block + 7)

-- the numbers of an array are within their limits
pub record AreWithinLimits (members chunk block rows slots gap entries ring : ℕ) : Type 0 where
  pub members_least : 3 ≤ members
  pub members_most : members ≤ 16
  pub chunk_least : 1 ≤ chunk
  pub chunk_most : chunk ≤ 128
  pub block_size : is_block_size block ≡ true
  pub block_least : 16 ≤ block
  pub block_most : block ≤ 4096
  pub rows_least : chunk ≤ rows
  pub rows_most : rows ≤ 2 ^ 20
  pub whole_chunks : rows % chunk ≡ 0
  pub volume_most : rows * (members - 1) ≤ 2 ^ 20
  pub slots_least : 1 ≤ slots
  pub slots_most : slots ≤ 64
  pub gap_least : 2 ≤ gap
  pub gap_most : gap ≤ 255
  pub entries_least : 1 ≤ entries
  pub entries_most : entries ≤ 2 ^ 20
  pub ring_least : 2 * greatest_record block ≤ ring
  pub ring_most : ring ≤ 2 ^ 32
