use Rattle.trap_mount.proofs.MountHistory.{exit}
use Rattle.trap_mount.proofs.MountMembers.{finds_only, finds_one, members_found}
use Rattle.trap_mount.proofs.mounting.members.find_members.Goals as goal

pub returns-in_err-lost-clause-refused : goal.returns-in_err-lost-clause-refused
returns-in_err-lost-clause-refused g c = exit _ c.from_residual.result c.in_err-lost.field-0.0 c.from_residual.ensures.1 c.in_err-lost.ensures.refused

pub returns-in_err-check_members-clause-refused : goal.returns-in_err-check_members-clause-refused
returns-in_err-check_members-clause-refused g c =
    exit _ c.from_residual-in_err-check_members.result c.in_err-check_members.field-0.0 c.from_residual-in_err-check_members.ensures.1
    (λ told records. c.in_err-check_members.ensures.refused told c.args.head.now
    (finds_only c.args.g.now c.args.head.now c.in_ok-lost.lost (g.B.Bank.view c.args.bank.now) (g.met.B.Bank.lawful c.args.bank.now) told c.in_ok-lost.ensures.ok)
    (finds_one c.args.g.now c.args.head.now c.in_ok-lost.lost (g.B.Bank.view c.args.bank.now) (g.met.B.Bank.lawful c.args.bank.now) told c.in_ok-lost.ensures.ok records))

pub returns-in_err-lost-clause-shown : goal.returns-in_err-lost-clause-shown
returns-in_err-lost-clause-shown g c = exit _ c.from_residual.result c.in_err-lost.field-0.0 c.from_residual.ensures.1 c.in_err-lost.ensures.shown

pub returns-in_err-check_members-clause-shown : goal.returns-in_err-check_members-clause-shown
returns-in_err-check_members-clause-shown g c =
    exit _ c.from_residual-in_err-check_members.result c.in_err-check_members.field-0.0 c.from_residual-in_err-check_members.ensures.1 c.in_err-check_members.ensures.shown

pub returns-clause-ok : goal.returns-clause-ok
returns-clause-ok g c =
    members_found c.args.g.now c.args.head.now c.in_ok-lost.lost c.rebuilt_rows-rebuilt.result (g.B.Bank.view c.args.bank.now) (g.B.Bank.view c.check_members.new.bank)
    (g.B.Bank.view c.rebuilt_rows-rebuilt.new.bank)
    c.check_members.ensures.reads c.rebuilt_rows-rebuilt.ensures.reads c.requires.head c.in_ok-lost.ensures.ok c.in_ok-check_members.ensures.ok c.rebuilt_rows-rebuilt.ensures.none
    c.rebuilt_rows-rebuilt.ensures.some
