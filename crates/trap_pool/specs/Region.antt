-- How the blocks of a pool lie in its region.
use Rattle.std.specs.Prelude.{◌≡◌, ℕ, zero, suc, ◌+◌, ◌*◌, List, [], ◌∷◌, length, take, drop}

-- this many blocks, one at each stride of the region
abbrev pub blocks_in : ℕ → ℕ → ℕ → List ℕ → List (List ℕ)
blocks_in zero size stride bytes = []
blocks_in (suc n) size stride bytes = take size bytes ∷ blocks_in n size stride (drop stride bytes)

-- a stride is a block and a gap of 64 bytes, and the region is this many of them
pub record IsRegion (count size stride : ℕ) (bytes : List ℕ) : Type 0 where
  pub gap : stride ≡ size + 64
  pub whole : length bytes ≡ count * stride
