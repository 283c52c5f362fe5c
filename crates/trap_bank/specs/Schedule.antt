-- What turns mean: how often they were asked, and the answer at each such number.
use Rattle.std.specs.Prelude.{◌≡◌, ℕ, ◌+◌}
use Rattle.trap_bank.specs.declared.turning.Turn.{Turn}

pub record Schedule : Type 0 where
  pub asked : ℕ
  -- the answer at each number of askings before it; it never changes
  pub answer : ℕ → Turn

-- one asking, and its answer
pub record AnswersTurn (given : Turn) (old new : Schedule) : Type 0 where
  pub asked : new.asked ≡ old.asked + 1
  pub given_ : given ≡ old.answer old.asked
  pub same : (k : ℕ) → new.answer k ≡ old.answer k
