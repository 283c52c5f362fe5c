-- The whole effect of each call of a bank in memory: the bank after it, by the one before and the
-- answer.
use Rattle.std.specs.Prelude.{◌≡◌, ◌⊎◌, ℕ, List, Result, OnOk, OnErr}
use Rattle.trap_bank.specs.Memory.{Memory}
use Rattle.trap_bank.specs.MemorySteps.{IsStruck, IsStruckOn, IsWorn, counted_on, passed}
use Rattle.trap_bank.specs.MemorySteps.{found_no_memory, blamed, port_blamed, overwritten, synced}
use Rattle.trap_bank.specs.MemorySteps.{made, spoken}

-- The call did its work, or it was to fail, or it found no memory.
pub record Effect {T E : Type 0} (is_struck : Type 0) (result : Result T E)
    (done failed starved new : Memory) : Type 0 where
  pub ok : OnOk result (new ≡ done)
  pub err : OnErr result ((is_struck × (new ≡ failed)) ⊎ ((is_struck → ⊥) × (new ≡ starved)))

-- the disk has n zero bytes, and the record of calls says so; a failed call changes counts alone
abbrev pub MakeEffect : {T E : Type 0} → ℕ → ℕ → Result T E → Memory → Memory → Type 0
MakeEffect d n result old new = let m = counted_on old d in
    Effect (IsStruckOn old d) result (made m d n) (blamed (passed m) d)
    (blamed (found_no_memory m) d) new

-- what was written is stable, and the record of calls says so; a failed call changes counts alone
abbrev pub SyncEffect : {T E : Type 0} → ℕ → Result T E → Memory → Memory → Type 0
SyncEffect d result old new = let m = counted_on old d in
    Effect (IsStruckOn old d) result (synced m d) (blamed (passed m) d)
    (blamed (found_no_memory m) d) new

-- the bytes were said, and the record of calls says so; a failed call changes counts alone
abbrev pub SayEffect : {T E : Type 0} → List ℕ → Result T E → Memory → Memory → Type 0
SayEffect bytes result old new =
    Effect (IsStruck old) result (spoken old bytes) (port_blamed (passed old))
    (port_blamed (found_no_memory old)) new

-- a read changes counts alone, on every answer, and takes no memory
pub record ReadEffect {T E : Type 0} (d : ℕ) (result : Result T E) (old new : Memory) : Type 0 where
  pub ok : OnOk result (new ≡ passed (counted_on old d))
  pub err : OnErr result (new ≡ blamed (passed (counted_on old d)) d)

-- The bytes are laid down, also where the call is to fail, and the record of calls says so. They
-- are not where there was no memory, nor where no further call has a number.
pub record WriteEffect {T E : Type 0} (d at : ℕ) (bytes : List ℕ) (result : Result T E)
    (old new : Memory) : Type 0 where
  pub ok : OnOk result (new ≡ overwritten (counted_on old d) d at bytes)
  pub worn : IsWorn old → new ≡ blamed (counted_on old d) d
  pub err : OnErr result (IsWorn old
      ⊎ (IsStruckOn old d × (new ≡ blamed (overwritten (counted_on old d) d at bytes) d))
      ⊎ (new ≡ blamed (found_no_memory (counted_on old d)) d))
