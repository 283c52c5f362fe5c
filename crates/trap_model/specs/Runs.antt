-- What is kept of segments to know how long a code is.
use Rattle.std.specs.Prelude.{◌≡◌, ℕ, List, [], ◌∷◌, length, flat_map, nat_lt}
use Rattle.trap_model.specs.ZeroRun.{Segment, spelling}
use Rattle.trap_model.specs.declared.code.Run.{Run}

abbrev pub first_zeros : List Segment → ℕ
first_zeros [] = 0
first_zeros (s ∷ later) = s.zeros

abbrev pub first_literal : List Segment → List ℕ
first_literal [] = []
first_literal (s ∷ later) = s.literal

-- the first segment's zero bytes, whether it has a literal, and how many bytes all segments take
pub record Summarizes (run : Run) (segments : List Segment) : Type 0 where
  pub zeros : run.zeros ≡ first_zeros segments
  pub literal : run.literal ≡ nat_lt 0 (length (first_literal segments))
  pub len : run.len ≡ length (flat_map spelling segments)
