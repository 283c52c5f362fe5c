-- The replica's disk: its size, and its header.
use Rattle.std.specs.Prelude.{◌≡◌, ℕ, ◌+◌, ◌*◌, ◌^◌, List, ◌∷◌, ◌++◌, replicate, codes, Option}
use Rattle.std.specs.Prelude.{Some, None, not, nat_le, if◌then◌else◌}
use Rattle.std.specs.Int.{w16, w32, w64, to_be_bytes}
use Rattle.trap_model.specs.Limits.{open_gate, is_block_size}
use Rattle.trap_format.specs.Checked.{is_between}
use Rattle.trap_format.specs.declared.limits.Field.{Field}
use Rattle.trap_format.specs.declared.limits.Field.TheVariants.{Block, Volume, Seq}
use Rattle.trap_format.specs.declared.shape.Shape.{Shape}

-- the first number that breaks its limit, where one does
abbrev pub first_broken_shape : ℕ → ℕ → ℕ → Option Field
first_broken_shape block volume seq =
    if not (is_block_size block) then Some Block
    else (if not (is_between 1 (2 ^ 20) volume) then Some Volume
    else (if not (nat_le seq (2 ^ 40)) then Some Seq else None))

-- the shape has these numbers
pub record HasShape (s : Shape) (i b v : ℕ) : Type 0 where
  pub id : s.id ≡ i
  pub block : s.block ≡ b
  pub volume : s.volume ≡ v

-- where the replica's cell stands
abbrev pub replica_cell_at : ℕ
replica_cell_at = 32

-- how long the cell's value is: a number, a time, a block's number and its contents
abbrev pub replica_value_len : Shape → ℕ
replica_value_len s = 20 + s.block

-- where a block of the image area stands, after the header and the cell's two slots
abbrev pub home_at : Shape → ℕ → ℕ
home_at s b = 32 + 2 * (2 + replica_value_len s) + b * s.block

-- the size of the replica's disk: the header, the cell, a place for each block
abbrev pub replica_size : Shape → ℕ
replica_size s = home_at s s.volume

-- an open gate and the magic bytes
abbrev pub replica_start : List ℕ
replica_start = open_gate ∷ codes "TRPR"

-- the 32 bytes of the header, of version 1
abbrev pub replica_header : Shape → List ℕ
replica_header s =
    replica_start ++ (1 ∷ to_be_bytes w64 s.id) ++ to_be_bytes w16 s.block
    ++ to_be_bytes w32 s.volume ++ replicate 12 0
