-- Images of a volume, and entries written over them.
use Rattle.std.specs.Prelude.{◌≡◌, ℕ, ◌-◌, ◌*◌, ◌<◌, List, [], length, replicate, set, fold}
use Rattle.std.specs.Prelude.{slice_index_or}
use Rattle.trap_block.specs.Xor.{xor}
use Rattle.trap_model.specs.declared.numbers.Geometry.{Geometry}
use Rattle.trap_model.specs.declared.history.Entry.{Entry}

-- how many blocks an array has
abbrev pub volume : Geometry → ℕ
volume g = g.rows * (g.members - 1)

-- the block of an image with this number
abbrev pub block_of : List (List ℕ) → ℕ → List ℕ
block_of image number = slice_index_or image number []

-- an image has a block of the array's size for each number below the volume
pub record IsImage (g : Geometry) (image : List (List ℕ)) : Type 0 where
  pub long : length image ≡ volume g
  pub sized : (number : ℕ) → number < volume g → length (block_of image number) ≡ g.block

-- zero blocks
abbrev pub zero_image : Geometry → List (List ℕ)
zero_image g = replicate (volume g) (replicate g.block 0)

-- the image with the entry's bytes as its block
abbrev pub written : List (List ℕ) → Entry → List (List ℕ)
written image entry = set image entry.block entry.bytes

-- the parity of an entry over an image: the block's old contents xor its new ones
abbrev pub entry_parity : List (List ℕ) → Entry → List ℕ
entry_parity image entry = xor (block_of image entry.block) entry.bytes

-- the image after these entries, each in turn
abbrev pub image_after : List (List ℕ) → List Entry → List (List ℕ)
image_after base entries = fold written base entries
