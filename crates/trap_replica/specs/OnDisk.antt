-- What a replica holds on disk 17: its number, its time and its image.
use Rattle.std.specs.Prelude.{◌≡◌, ◌≢◌, ℕ, ◌^◌, ◌<◌, ◌≤◌, List, ◌++◌, length, Some}
use Rattle.std.specs.Int.{w32, w64, to_be_bytes}
use Rattle.trap_bank.specs.Disks.{Disks, Area, Within, region, size_of}
use Rattle.trap_cell.specs.Slots.{Place, place_of, cell_value}
use Rattle.trap_format.specs.ReplicaDisk.{replica_cell_at, replica_value_len, home_at, replica_size}
use Rattle.trap_format.specs.ReplicaDisk.{replica_header}
use Rattle.trap_format.specs.declared.shape.Shape.{Shape}
use Rattle.trap_model.specs.Image.{block_of}

-- where the cell stands
abbrev pub cell_place : Shape → Place
cell_place s = place_of 17 replica_cell_at (replica_value_len s)

-- the positions of a block in the image area
abbrev pub home : Shape → ℕ → Area
home s b = Within 17 (home_at s b) s.block

-- the value of the cell: the number applied, its time, and a block with its contents
abbrev pub value_bytes : ℕ → ℕ → ℕ → List ℕ → List ℕ
value_bytes number time block contents = to_be_bytes w64 number ++ to_be_bytes w64 time
    ++ to_be_bytes w32 block ++ contents

-- disk 17 holds the image after this number, of this time: the image area, with the contents in the
-- cell laid over the block that the cell names
pub record HoldsImageBy (s : Shape) (block number time : ℕ) (image : List (List ℕ)) (disks : Disks)
    : Type 0 where
  pub id : s.id < 2 ^ 64
  pub header : region disks 17 0 32 ≡ replica_header s
  pub size : size_of (disks 17) ≡ Some (replica_size s)
  pub most : number ≤ 2 ^ 40
  pub fits : time < 2 ^ 64
  pub inside : block < s.volume
  pub long : length image ≡ s.volume
  pub sized : (b : ℕ) → b < s.volume → length (block_of image b) ≡ s.block
  pub value : cell_value (cell_place s) disks
      ≡ Some (value_bytes number time block (block_of image block))
  pub others : (b : ℕ) → b < s.volume → b ≢ block
      → region disks 17 (home_at s b) s.block ≡ block_of image b

-- the replica holds the image after this number, of this time
abbrev pub ReplicaHolds : Shape → ℕ → ℕ → List (List ℕ) → Disks → Type 0
ReplicaHolds s number time image disks = (block : ℕ) × HoldsImageBy s block number time image disks
