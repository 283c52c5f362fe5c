use Rattle.std.proofs.Common.{◌≡◌, ℕ, length, None, Result, Err, ap, subst, arith}
use Rattle.trap_cell.specs.Slots.{place_of, cell_value}
use Rattle.trap_cell.specs.declared.fault.CellFault.{CellFault}
use Rattle.trap_cell.specs.declared.fault.CellFault.TheVariants as cell
use Rattle.trap_mount.proofs.MountHistory.{no_value}
use Rattle.trap_mount.proofs.mounting.history.mount_cell.Goals as goal

other : {T : Type 0} (fault : CellFault) → fault ≡ cell.NoValue → ◌≡◌ {A = Result T CellFault} (Err fault) (Err cell.DiskFault) → ⊥
other fault is e = cc

pub returns-in-Err-NoValue-clause-refused : goal.returns-in-Err-NoValue-clause-refused
returns-in-Err-NoValue-clause-refused g c = λ numbers told header.
    let long : length c.args.value.now ≡ 62 = omega arith in
    let none = (c.in-Err-NoValue.ensures.no_value told (other _ c.in-Err-NoValue.field-0-is)).0 (ap Err c.in-Err-NoValue.field-0-is) in
    no_value numbers (g.B.Bank.view c.args.bank.now).now.disks header
    (subst (λ (n : ℕ). cell_value (place_of 0 64 n) (g.B.Bank.view c.args.bank.now).now.disks ≡ None) long none)
