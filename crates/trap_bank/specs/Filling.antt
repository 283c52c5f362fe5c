-- What was taken of a source to fill a buffer, however it cuts the bytes into pieces.
use Rattle.std.specs.Prelude.{◌≡◌, ℕ, ◌+◌, ◌<◌, ◌≤◌, List, length, take, true, None, Result}
use Rattle.std.specs.Prelude.{MatchResult}
use Rattle.std.specs.Io.KnownBytes.{Consumes, IsAtEnd}
use Rattle.trap_bank.specs.Faults.{Rose}
use Rattle.trap_bank.specs.Stream.{Stream}

-- these bytes were taken of the source, and counted
pub record CountsBytes (bytes : List ℕ) (used used' : ℕ) (old new : Stream) : Type 0 where
  pub left : Consumes old.left new.left bytes
  pub counted : used' ≡ used + length bytes
  pub given : new.given ≡ old.given + length bytes
  pub faults : old.faults ≤ new.faults
  -- a source that doesn't tell its bytes never begins to
  pub untold : old.left ≡ None → new.left ≡ None

-- nothing is left, and the source has said so
pub record IsInputEnd (s : Stream) : Type 0 where
  pub left : IsAtEnd s.left
  pub ended : s.ended ≡ true

-- These bytes were taken, and stand at the front of the buffer: they fill it, or the input ended
-- before, or the source failed.
pub record FillsFrom {E : Type 0} (bytes : List ℕ) (result : Result ℕ E) (buf : List ℕ)
    (used used' : ℕ) (old new : Stream) : Type 0 where
  pub took : CountsBytes bytes used used' old new
  pub front : take (length bytes) buf ≡ bytes
  pub within : length bytes ≤ length buf
  pub ended : MatchResult result
      (λ have. (have ≡ length bytes) × (have < length buf → IsInputEnd new))
      (λ e. (length bytes < length buf) × Rose old.faults new.faults)
