-- What was taken of a source for a frame, within what a reader takes.
use Rattle.std.specs.Prelude.{◌≡◌, ℕ, ◌^◌, ◌<◌, ◌≤◌, List, length, Result, MatchResult}
use Rattle.trap_bank.specs.Faults.{Rose}
use Rattle.trap_bank.specs.Filling.{CountsBytes, IsInputEnd}
use Rattle.trap_bank.specs.Stream.{Stream}
use Rattle.trap_frame.specs.declared.filling.Stop.{Stop}
use Rattle.trap_frame.specs.declared.filling.Stop.TheVariants.{Source, TooLong}

-- these bytes were taken of the source, and counted
pub record TakesBytes (bytes : List ℕ) (used used' : ℕ) (s s' : Stream) : Type 0 where
  pub counts : CountsBytes bytes used used' s s'
  pub most : used' ≤ 2 ^ 40

-- nothing is left, the source has said so, and more could have been taken
pub record IsStreamEnd (used : ℕ) (s : Stream) : Type 0 where
  pub ends : IsInputEnd s
  pub more : used < 2 ^ 40

-- why no more bytes were taken
abbrev pub Stops : Stop → ℕ → Stream → Stream → Type 0
Stops Source used s s' = Rose s.faults s'.faults
Stops TooLong used s s' = used ≡ 2 ^ 40

-- Bytes were taken: all that there was room for or, at the end of the input, fewer.
pub record FillsBuffer (front : List ℕ) (room : ℕ) (result : Result ℕ Stop) (used used' : ℕ)
    (s s' : Stream) : Type 0 where
  pub took : TakesBytes front used used' s s'
  pub within : length front ≤ room
  pub ended : MatchResult result (λ have. (have ≡ length front)
      × (have < room → IsStreamEnd used' s'))
      (λ stop. (length front < room) × Stops stop used' s s')
