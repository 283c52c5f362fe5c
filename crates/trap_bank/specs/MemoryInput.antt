-- A source of bytes in memory.
use Rattle.std.specs.Prelude.{◌≡◌, ◌↔◌, ℕ, ◌-◌, ◌^◌, min, max, List, length, drop, replicate, Some}
use Rattle.std.specs.Prelude.{Result, Contains, IsErr, IfOk, MatchResult, false}
use Rattle.trap_bank.specs.declared.memory_input.MemorySource.{MemorySource}
use Rattle.trap_bank.specs.Counts.{one_more}
use Rattle.trap_bank.specs.Stream.{Stream}

-- the bytes after those that were given are left
abbrev pub stream_of : MemorySource → Stream
stream_of s = record {
  left = Some (drop s.given s.bytes.items);
  given = s.given;
  ended = s.ended;
  faults = s.faults;
}

-- nothing was given or asked, and no call is chosen to fail
pub record IsFresh (bytes : List ℕ) (s : MemorySource) : Type 0 where
  pub stream : stream_of s ≡ record { left = Some bytes; given = 0; ended = false; faults = 0 }
  pub calls : s.calls ≡ 0
  pub chosen : s.chosen.numbers ≡ replicate 8 0
  pub piece : s.piece ≡ 2 ^ 64 - 1

-- the call fails exactly where its number was chosen, and exactly then the count of faults rises
pub record FailsAsChosen {T E : Type 0} (result : Result T E) (old new : MemorySource)
    : Type 0 where
  pub calls : new.calls ≡ one_more old.calls
  pub chosen : new.chosen ≡ old.chosen
  pub fails : IsErr result ↔ Contains old.chosen.numbers (one_more old.calls)
  pub faults : MatchResult result (λ value. new.faults ≡ old.faults) (λ error. new.faults
      ≡ one_more old.faults)

-- a call gives what is left, as far as there is room and one piece goes; a piece of 0 counts as one
-- of 1
pub record GivesPieces {E : Type 0} (result : Result ℕ E) (room : ℕ) (old new : MemorySource)
    : Type 0 where
  pub bytes : new.bytes.items ≡ old.bytes.items
  pub piece : new.piece ≡ old.piece
  pub count : IfOk result (λ count. count
      ≡ min (max old.piece 1) (min room (length old.bytes.items - old.given)))
