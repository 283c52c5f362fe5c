-- The exclusive-or of two blocks, which are lists of bytes of one length, and over a row's members.
use Rattle.std.specs.Prelude.{◌≡◌, ℕ, ◌<◌, zero, suc, List, [], ◌∷◌, length, replicate, bit_xor}
use Rattle.std.specs.Prelude.{◌==◌, if◌then◌else◌}

-- a block of this many zero bytes
abbrev pub zeros : ℕ → List ℕ
zeros size = replicate size 0

-- the exclusive-or of two blocks, byte by byte
abbrev pub xor : List ℕ → List ℕ → List ℕ
xor [] ys = []
xor (x ∷ xs) [] = []
xor (x ∷ xs) (y ∷ ys) = bit_xor x y ∷ xor xs ys

-- the exclusive-or over the members below n, each with its block
abbrev pub xor_over : ℕ → (ℕ → List ℕ) → ℕ → List ℕ
xor_over size block_of zero = zeros size
xor_over size block_of (suc n) = xor (xor_over size block_of n) (block_of n)

-- the exclusive-or over the members below n but one
abbrev pub xor_but : ℕ → ℕ → (ℕ → List ℕ) → ℕ → List ℕ
xor_but size one block_of zero = zeros size
xor_but size one block_of (suc n) =
    if n == one then xor_but size one block_of n else xor (xor_but size one block_of n) (block_of n)

-- each member below n has a block of this size
abbrev pub HaveSize : ℕ → (ℕ → List ℕ) → ℕ → Type 0
HaveSize size block_of n = (m : ℕ) → m < n → length (block_of m) ≡ size
