use Rattle.std.proofs.Common.{◌≡◌, ℕ, None, Result, Err, inr, refl, ap, subst}
use Rattle.trap_cell.specs.Slots.{place_of, cell_value}
use Rattle.trap_cell.specs.declared.fault.CellFault.{CellFault}
use Rattle.trap_cell.specs.declared.fault.CellFault.TheVariants as cell
use Rattle.trap_replica.proofs.MountedDisk.{no_value}
use Rattle.trap_replica.proofs.mounting.read_cell.Goals as goal

other : {T : Type 0} (fault : CellFault) → fault ≡ cell.NoValue → ◌≡◌ {A = Result T CellFault} (Err fault) (Err cell.DiskFault) → ⊥
other fault is e = cc

pub returns-in-Err-NoValue-clause-refused : goal.returns-in-Err-NoValue-clause-refused
returns-in-Err-NoValue-clause-refused g c = λ told has.
    let none = (c.in-Err-NoValue.ensures.no_value told (other _ c.in-Err-NoValue.field-0-is)).0 (ap Err c.in-Err-NoValue.field-0-is) in
    inr (
      refl,
      no_value c.args.s.now (g.B.Bank.view c.args.bank.now).now.disks has
          (subst (λ (n : ℕ). cell_value (place_of 17 32 n) (g.B.Bank.view c.args.bank.now).now.disks ≡ None) c.requires.long none),
    )
