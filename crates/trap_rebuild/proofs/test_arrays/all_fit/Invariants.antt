use Rattle.std.proofs.Common.{ℕ, ◌+◌, ◌<◌}
use Rattle.trap_bank.specs.Calls.{Fits}
use Rattle.trap_rebuild.proofs.test_arrays.all_fit.Given as goal

-- the members so far have all rows
abbrev pub invariant-loop-member : goal.invariant-loop-member
invariant-loop-member g l = (m : ℕ) → m < l.member → Fits (g.B.Bank.view l.bank) (m + 1) l.end
