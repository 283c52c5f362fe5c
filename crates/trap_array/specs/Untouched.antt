-- A call of an array that makes no call of its bank.
use Rattle.std.specs.Prelude.{◌≡◌, ◌↔◌, ℕ}
use Rattle.trap_bank.specs.Disks.{Contents, View}

-- All that a contract sees of the bank is as it was: sizes, contents, counts of faults, its moment,
-- and what a crash may leave.
pub record Untouched (old new : View) : Type 0 where
  pub tells : new.tells ≡ old.tells
  pub sizes : (e : ℕ) → new.sizes e ≡ old.sizes e
  pub now : new.now ≡ old.now
  pub unsynced : (e i : ℕ) → new.unsynced e i ↔ old.unsynced e i
  pub faults : (e : ℕ) → new.faults e ≡ old.faults e
  pub port_faults : new.port_faults ≡ old.port_faults
  pub moment : new.moment ≡ old.moment
  pub by_one : new.by_one ≡ old.by_one
  pub left : (t : ℕ) (c : Contents) → new.left t c ↔ old.left t c
