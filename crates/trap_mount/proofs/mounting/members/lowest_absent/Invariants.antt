use Rattle.std.proofs.Common.{◌≢◌, ℕ, ◌+◌, ◌<◌, Some, None}
use Rattle.trap_mount.proofs.mounting.members.lowest_absent.Given as goal

-- the members so far are there
abbrev pub invariant-loop-member : goal.invariant-loop-member
invariant-loop-member g l = (k : ℕ) → k < l.member → l.but ≢ Some k → (g.B.Bank.view l.bank).sizes (k + 1) ≢ None
