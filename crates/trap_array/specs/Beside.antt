-- What no call of an array changes: the disks beside its own.
use Rattle.std.specs.Prelude.{◌≡◌, ℕ, ◌≤◌, IsTrue}
use Rattle.trap_bank.specs.Disks.{View}

-- where the bank tells, no disk from this one on changed
abbrev pub StaysFrom : ℕ → View → View → Type 0
StaysFrom d old new = IsTrue old.tells → (e : ℕ) → d ≤ e → new.now.disks e ≡ old.now.disks e
