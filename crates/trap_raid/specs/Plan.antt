-- What a write of one block changes in its row.
use Rattle.std.specs.Prelude.{◌≡◌, ℕ, List, [], slice_index_or, slice_set}
use Rattle.trap_block.specs.Xor.{xor}
use Rattle.trap_model.specs.declared.numbers.Geometry.{Geometry}
use Rattle.trap_map.specs.Layout.{parity_member, block_place}
use Rattle.trap_map.specs.Table.{row_parity}

-- the write's parity is old xor fresh, and the row's is that of the image with the block written
pub record IsPlan (g : Geometry) (image : List (List ℕ)) (block : ℕ)
    (fresh delta parity : List ℕ) : Type 0 where
  pub write_parity : delta ≡ xor (slice_index_or image block []) fresh
  pub row_parity_after :
      parity ≡ row_parity g (slice_set image block fresh) (block_place g block).row

-- the write's parity is what stands at the block's place xor fresh, and the row's is what stands at
-- the place of the row's parity xor the write's parity
pub record IsPlanFrom (g : Geometry) (standing : ℕ → ℕ → List ℕ) (block : ℕ)
    (fresh delta parity : List ℕ) : Type 0 where
  pub write_parity :
      delta ≡ xor (standing (block_place g block).row (block_place g block).member) fresh
  pub row_parity_after : parity ≡
      xor (standing (block_place g block).row (parity_member g (block_place g block).row)) delta
