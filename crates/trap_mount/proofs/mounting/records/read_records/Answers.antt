use Rattle.std.proofs.Common.{Err, ap}
use Rattle.std.proofs.lemmas.Result.{err_from_is_err_and}
use Rattle.trap_scan.proofs.Chains.{was_damaged, breaks_first}
use Rattle.trap_mount.proofs.mounting.records.read_records.Goals as goal

pub returns-in_err-take_records-clause-damaged : goal.returns-in_err-take_records-clause-damaged
returns-in_err-take_records-clause-damaged g c = λ told at is bytes window.
    let out = err_from_is_err_and c.from_residual-in_err-take_records.result c.from_residual-in_err-take_records.ensures.1 in
    breaks_first c.args.ring.now c.args.expected.now c.in_ok-scan.scan bytes _ at c.in_ok-scan.ensures window
    (c.in_err-take_records.ensures.damaged told at (ap Err (was_damaged c.in_err-take_records.field-0.0 at (cc (out.1, out.2, is)))) bytes)
