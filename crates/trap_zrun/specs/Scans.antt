-- Words of the contracts inside this crate.
use Rattle.std.specs.Prelude.{◌≡◌, ℕ, ◌+◌, ◌<◌, List, ◌++◌, length, drop, slice_index}
use Rattle.trap_model.specs.ZeroRun.{Segment, spelling, KeepsRules}

-- four zero bytes stand from a place on, or zero bytes to the end
abbrev pub ZerosFollow : List ℕ → ℕ → Type 0
ZerosFollow bytes at = (k : ℕ) → k < 4 → slice_index bytes (at + k) ≡ 0

-- the bytes begin with this segment, which keeps the rules
pub record IsNextSegment (least owed : ℕ) (bytes : List ℕ) (s : Segment) : Type 0 where
  pub rules : KeepsRules least owed s
  pub spelled : bytes ≡ spelling s ++ drop (4 + length s.literal) bytes
