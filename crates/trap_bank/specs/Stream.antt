-- What a source means: the bytes that are left, and what it has given.
use Rattle.std.specs.Prelude.{◌≡◌, ℕ, ◌+◌, ◌==◌, List, take, Option, None, Bool, Result}
use Rattle.std.specs.Prelude.{MatchResult}
use Rattle.std.specs.Io.KnownBytes.{Consumes, IsAtEnd}

pub record Stream : Type 0 where
  -- the bytes left, where the source tells them
  pub left : Option (List ℕ)
  -- how many bytes it has given
  pub given : ℕ
  -- whether its last answer, failures not counted, was 0
  pub ended : Bool
  -- how often it has failed
  pub faults : ℕ

-- the source gave these bytes, and 0 of them only at its end
pub record Gave (bytes : List ℕ) (count : ℕ) (old new : Stream) : Type 0 where
  pub left : Consumes old.left new.left bytes
  pub given : new.given ≡ old.given + count
  pub ended : new.ended ≡ (count == 0)
  pub at_end : count ≡ 0 → IsAtEnd new.left
  -- a source that doesn't tell its bytes never begins to
  pub untold : old.left ≡ None → new.left ≡ None

-- nothing but the count of faults changed
pub record GaveNothing (old new : Stream) : Type 0 where
  pub left : new.left ≡ old.left
  pub given : new.given ≡ old.given
  pub ended : new.ended ≡ old.ended

-- what a call of `take` does, with the buffer after it
abbrev pub Takes : {E : Type 0} → Result ℕ E → List ℕ → Stream → Stream → Type 0
Takes result buf old new =
    MatchResult result (λ count. Gave (take count buf) count old new) (λ e. GaveNothing old new)
