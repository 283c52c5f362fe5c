use Rattle.std.proofs.Common.{Err, ap}
use Rattle.trap_mount.proofs.MountHistory.{bad_slot}
use Rattle.trap_mount.proofs.mounting.history.find_stage.Goals as goal

pub returns-in-Err-Damaged-clause-refused : goal.returns-in-Err-Damaged-clause-refused
returns-in-Err-Damaged-clause-refused g c = λ told head.
    bad_slot c.args.g.now c.args.head.now (g.B.Bank.view c.args.bank.now).now.disks _ head (c.in-Err-Damaged.ensures.damaged _ (ap Err c.in-Err-Damaged.field-0-is) told)
