-- The log's disk: its size, and its header.
use Rattle.std.specs.Prelude.{◌≡◌, ℕ, ◌+◌, ◌*◌, ◌^◌, ◌<◌, List, ◌∷◌, ◌++◌, replicate, codes}
use Rattle.std.specs.Prelude.{slice_index, slice_range}
use Rattle.std.specs.Int.{w16, w32, w64, to_be_bytes}
use Rattle.trap_model.specs.Limits.{open_gate}
use Rattle.trap_model.specs.declared.asked.Asked.{Asked}
use Rattle.trap_model.specs.declared.numbers.Geometry.{Geometry}

-- where the head's cell stands, and the staging slots
abbrev pub cell_at : ℕ
cell_at = 64

abbrev pub slots_at : ℕ
slots_at = 192

-- a staging slot: a number, a block's number, its bytes, and those of its row's parity
abbrev pub slot_len : Geometry → ℕ
slot_len g = 12 + 2 * g.block

-- where the ring stands
abbrev pub ring_at : Geometry → ℕ
ring_at g = slots_at + g.slots * slot_len g

-- how many bytes the ring has there
abbrev pub ring_len : Geometry → ℕ
ring_len g = g.ring

-- the size of the log's disk: the header, the head's cell, the slots, the ring
abbrev pub log_size : Geometry → ℕ
log_size g = ring_at g + ring_len g

-- an open gate and the magic bytes
abbrev pub log_start : List ℕ
log_start = open_gate ∷ codes "TRPL"

-- the 64 bytes of the header
abbrev pub log_header : Geometry → List ℕ
log_header g =
    log_start ++ to_be_bytes w64 g.id ++ (g.members ∷ g.chunk ∷ to_be_bytes w16 g.block)
    ++ to_be_bytes w32 g.rows
    ++ (g.slots ∷ g.gap ∷ to_be_bytes w32 g.entries) ++ to_be_bytes w64 g.ring ++ replicate 29 0

-- the bytes are the header of these numbers; an array has one staging slot
pub record IsLogHeader (g : Geometry) (bytes : List ℕ) : Type 0 where
  pub one_slot : g.slots ≡ 1
  pub spelled : bytes ≡ log_header g

-- the numbers at their places of a header
pub record StandsIn (bytes : List ℕ) (asked : Asked) : Type 0 where
  pub id : to_be_bytes w64 asked.id ≡ slice_range bytes 5 13
  pub members : asked.members ≡ slice_index bytes 13
  pub chunk : asked.chunk ≡ slice_index bytes 14
  pub block : to_be_bytes w16 asked.block ≡ slice_range bytes 15 17
  pub rows : to_be_bytes w32 asked.rows ≡ slice_range bytes 17 21
  pub slots : asked.slots ≡ slice_index bytes 21
  pub gap : asked.gap ≡ slice_index bytes 22
  pub entries : to_be_bytes w32 asked.entries ≡ slice_range bytes 23 27
  pub ring : to_be_bytes w64 asked.ring ≡ slice_range bytes 27 35
  pub block_fits : asked.block < 2 ^ 16
  pub rows_fit : asked.rows < 2 ^ 32
  pub entries_fit : asked.entries < 2 ^ 32
  pub ring_fits : asked.ring < 2 ^ 64
