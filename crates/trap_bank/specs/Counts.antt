-- Counts that are kept in 64 bits.
use Rattle.std.specs.Prelude.{ℕ, ◌+◌, ◌-◌, ◌^◌, min, max, List, slice_index, slice_set}

-- a count and one more, where there is one
abbrev pub one_more : ℕ → ℕ
one_more n = max n (min (n + 1) (2 ^ 64 - 1))

-- the counts, with one of them raised
abbrev pub with_raised : List ℕ → ℕ → List ℕ
with_raised counts d = slice_set counts d (one_more (slice_index counts d))
