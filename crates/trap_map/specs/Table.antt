-- The bytes of each place, computed from an image.
use Rattle.std.specs.Prelude.{ℕ, List, [], slice_index_or, ◌==◌, if◌then◌else◌}
use Rattle.trap_block.specs.Xor.{xor_but}
use Rattle.trap_map.specs.Layout.{parity_member, block_at}
use Rattle.trap_model.specs.declared.numbers.Geometry.{Geometry}

-- the block that stands on a member in a row, where that isn't the row's parity
abbrev pub data_place : Geometry → List (List ℕ) → ℕ → ℕ → List ℕ
data_place g image row member = slice_index_or image (block_at g member row) []

-- the exclusive-or of a row's data places
abbrev pub row_parity : Geometry → List (List ℕ) → ℕ → List ℕ
row_parity g image row = xor_but g.block (parity_member g row) (data_place g image row) g.members

-- a data place holds its block, a parity place the exclusive-or of the row's data places
abbrev pub table : Geometry → List (List ℕ) → ℕ → ℕ → List ℕ
table g image row member =
    if member == parity_member g row then row_parity g image row else data_place g image row member
