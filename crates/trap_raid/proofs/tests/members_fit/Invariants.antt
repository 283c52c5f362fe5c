use Rattle.std.proofs.Common.{◌≢◌, ℕ, ◌+◌, ◌<◌, Some}
use Rattle.trap_bank.specs.Calls.{Fits}
use Rattle.trap_raid.proofs.tests.members_fit.Given as goal

-- the members so far have all rows
abbrev pub invariant-loop-member : goal.invariant-loop-member
invariant-loop-member g l = (m : ℕ) → m < l.member → l.lost ≢ Some m → Fits (g.B.Bank.view l.bank) (m + 1) l.end
