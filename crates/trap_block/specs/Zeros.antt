-- Zero bytes in succession.
use Rattle.std.specs.Prelude.{◌≡◌, ℕ, ◌+◌, ◌<◌, ◌≤◌, List, length, slice_index}
use Rattle.std.specs.Int.{bit_at}

-- that many zero bytes stand from a place on
pub record AreZeros (bytes : List ℕ) (at count : ℕ) : Type 0 where
  pub inside : at + count ≤ length bytes
  pub zeros : (k : ℕ) → k < count → slice_index bytes (at + k) ≡ 0

-- four bits in succession are set from a place on
abbrev pub FourSet : ℕ → ℕ → Type 0
FourSet mask place = (k : ℕ) → k < 4 → bit_at mask (place + k) ≡ 1
