-- How often a run of calls called a bank, by the moments of one that counts each call.
use Rattle.std.specs.Prelude.{◌≡◌, ℕ, ◌+◌, ◌-◌, ◌^◌, ◌≤◌, min, max, IsTrue, Result, OnOk}
use Rattle.trap_bank.specs.Disks.{View}

-- the moment after that many calls, up to the end of 64 bits
abbrev pub moment_after : ℕ → ℕ → ℕ
moment_after calls moment = max moment (min (moment + calls) (2 ^ 64 - 1))

-- the bank was called exactly that many times, `size` not counted
pub record CalledTimes (calls : ℕ) (old new : View) : Type 0 where
  pub tells : new.tells ≡ old.tells
  pub by_one : new.by_one ≡ old.by_one
  pub moment : IsTrue old.tells → IsTrue old.by_one → new.moment ≡ moment_after calls old.moment

-- the bank was called at most that many times, `size` not counted
pub record CalledAtMost (calls : ℕ) (old new : View) : Type 0 where
  pub tells : new.tells ≡ old.tells
  pub by_one : new.by_one ≡ old.by_one
  pub moment : IsTrue old.tells → IsTrue old.by_one → new.moment ≤ moment_after calls old.moment

-- exactly that many calls where the answer is Ok, and no more on any other
pub record TakesCalls {T E : Type 0} (calls : ℕ) (result : Result T E) (old new : View)
    : Type 0 where
  pub ok : OnOk result (CalledTimes calls old new)
  pub most : CalledAtMost calls old new
