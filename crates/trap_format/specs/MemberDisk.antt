-- A member's disk: its size, and its header.
use Rattle.std.specs.Prelude.{ℕ, ◌+◌, ◌*◌, List, ◌∷◌, ◌++◌, replicate, codes}
use Rattle.std.specs.Int.{w64, to_be_bytes}
use Rattle.trap_model.specs.declared.numbers.Geometry.{Geometry}

-- where the place of a row stands
abbrev pub row_at : Geometry → ℕ → ℕ
row_at g row = 16 + row * g.block

-- the size of a member's disk: the header, and a place for each row
abbrev pub member_size : Geometry → ℕ
member_size g = row_at g g.rows

-- the 16 bytes of the header
abbrev pub member_header : ℕ → ℕ → List ℕ
member_header id member = codes "TRPM" ++ to_be_bytes w64 id ++ member ∷ replicate 3 0
