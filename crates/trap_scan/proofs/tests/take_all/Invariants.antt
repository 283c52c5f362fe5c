use Rattle.std.proofs.Common.{◌-◌}
use Rattle.trap_scan.proofs.Chains.{Scanned}
use Rattle.trap_scan.proofs.tests.take_all.Given as goal

-- Some records were taken, and all of them are right.
abbrev pub invariant-records : goal.invariant-records
invariant-records g l = Scanned l.ring (g.B.Bank.view l.fn.bank) (g.B.Bank.view l.bank) l.fn.scan l.scan

abbrev pub decreases-records : goal.decreases-records
decreases-records g l = l.scan.expected.last - l.scan.seq
