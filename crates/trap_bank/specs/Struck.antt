-- When a call of a bank in memory fails, and which counts rise.
use Rattle.std.specs.Prelude.{◌≡◌, ◌⊎◌, ◌↔◌, ℕ, ◌+◌, ◌<◌, Result, IsErr, MatchResult}
use Rattle.trap_bank.specs.Memory.{Memory}
use Rattle.trap_bank.specs.MemorySteps.{IsStruck, IsStruckOn, counted_on}
use Rattle.trap_bank.specs.Counts.{one_more, with_raised}

-- The call fails exactly where it is to fail, or where it found no memory. What is to fail stays
-- the same, and one more call was made.
pub record Fails {T E : Type 0} (is_struck : Type 0) (result : Result T E) (old new : Memory)
    : Type 0 where
  pub exactly : IsErr result ↔ (is_struck ⊎ (old.starved < new.starved))
  pub starved : (new.starved ≡ old.starved) ⊎ (new.starved ≡ old.starved + 1)
  pub calls : new.moment ≡ one_more old.moment
  pub since : new.since ≡ old.since
  pub chosen : new.chosen ≡ old.chosen
  pub fuse : new.fuse ≡ old.fuse

-- a call on a disk: its count rises exactly where the call fails, no other count does, and one call
-- less is spared on it
pub record DiskCall {T E : Type 0} (d : ℕ) (result : Result T E) (old new : Memory) : Type 0 where
  pub fails : Fails (IsStruckOn old d) result old new
  pub faults : MatchResult result (λ value. new.faults ≡ old.faults)
      (λ error. new.faults ≡ with_raised old.faults d)
  pub port : new.port_faults ≡ old.port_faults
  pub spared : new.spared ≡ (counted_on old d).spared

-- a call on the port, likewise
pub record PortCall {T E : Type 0} (result : Result T E) (old new : Memory) : Type 0 where
  pub fails : Fails (IsStruck old) result old new
  pub port : MatchResult result (λ value. new.port_faults
      ≡ old.port_faults) (λ error. new.port_faults ≡ one_more old.port_faults)
  pub faults : new.faults ≡ old.faults
  pub spared : new.spared ≡ old.spared
