use Rattle.std.proofs.Common.{refl}
use Rattle.trap_mount.proofs.MountHistory.{exit, no_head}
use Rattle.trap_mount.proofs.mounting.history.find_head.Goals as goal

pub returns-in_err-cell-clause-refused : goal.returns-in_err-cell-clause-refused
returns-in_err-cell-clause-refused g c = exit _ c.from_residual.result c.in_err-cell.field-0.0 c.from_residual.ensures.1 (c.in_err-cell.ensures.refused c.args.g.now)

pub returns-then-version-ne-VERSION-clause-refused : goal.returns-then-version-ne-VERSION-clause-refused
returns-then-version-ne-VERSION-clause-refused g c = λ told header. record {
  g = c.args.g.now;
  header = header;
  bytes = c.mount_cell.new.value;
  value = c.in_ok-cell.ensures.mounted.value told;
  is = refl;
  other = c.if-version-ne-VERSION.true;
}

pub returns-in_default-clause-refused : goal.returns-in_default-clause-refused
returns-in_default-clause-refused g c = λ told header.
    no_head c.args.g.now (g.B.Bank.view c.args.bank.now).now.disks c.mount_cell.new.value header (c.in_ok-cell.ensures.mounted.value told) c.if-version-ne-VERSION.false c.in_default.ensures.none
