use Rattle.std.proofs.Common.{◌-◌}
use Rattle.trap_mount.proofs.MountRecords.{Taken}
use Rattle.trap_mount.proofs.mounting.records.take_records.Given as goal

-- Some records were taken, all of them are right, and the index has them.
abbrev pub invariant-records : goal.invariant-records
invariant-records g l = Taken l.ring (g.B.Bank.view l.fn.bank) (g.B.Bank.view l.bank) l.fn.scan l.scan l.fn.index l.index

abbrev pub decreases-records : goal.decreases-records
decreases-records g l = l.scan.expected.last - l.scan.seq
