use Rattle.std.proofs.Common.{arith}
use Rattle.trap_format.specs.LogDisk.{log_size}
use Rattle.trap_raid.proofs.OwnDisks.{touches_then}
use Rattle.trap_mount.proofs.LogGate.{shut_part, gate_part}
use Rattle.trap_mount.proofs.LogGate.{gate_done}
use Rattle.trap_mount.proofs.creating.create_log.Goals as goal

pub write_through-requires-clause-room : goal.write_through-requires-clause-room
write_through-requires-clause-room g c = (log_size c.args.g.now, c.in_ok-shut_log.ensures.size, omega arith)

-- ---- the gate fails, or what stood before it
pub returns-in_err-shut_log-clause-any_moment : goal.returns-in_err-shut_log-clause-any_moment
returns-in_err-shut_log-clause-any_moment g c =
    shut_part c.args.g.now c.requires.one_slot (omega arith) (g.B.Bank.view c.args.bank.now) (g.B.Bank.view c.shut_log.new.bank) c.shut_log.ensures.any_moment

pub returns-in_err-write_through-clause-touches : goal.returns-in_err-write_through-clause-touches
returns-in_err-write_through-clause-touches g c =
    let torn = c.write_through.ensures.contents in
    let left = g.B.Bank.view c.write_through.new.bank in
    touches_then _ _ _ (g.B.Bank.view c.args.bank.now) (g.B.Bank.view c.shut_log.new.bank) left c.shut_log.ensures.any_moment.tells c.shut_log.ensures.touches torn

pub returns-in_err-write_through-clause-any_moment : goal.returns-in_err-write_through-clause-any_moment
returns-in_err-write_through-clause-any_moment g c =
    let part = c.write_through.ensures.any_moment in
    gate_part c.args.g.now c.requires.one_slot (omega arith) (g.B.Bank.view c.args.bank.now) (g.B.Bank.view c.shut_log.new.bank) _ c.in_ok-shut_log.ensures.ok part

-- ---- the gate is open, and stays so
pub returns-clause-ok : goal.returns-clause-ok
returns-clause-ok g c =
    gate_done c.args.g.now c.requires.one_slot (omega arith) (g.B.Bank.view c.args.bank.now) (g.B.Bank.view c.shut_log.new.bank)
    (g.B.Bank.view c.write_through.new.bank) c.in_ok-shut_log.ensures.ok c.in_ok-write_through.ensures.ok

-- ---- only disk 0 was touched
pub returns-clause-touches : goal.returns-clause-touches
returns-clause-touches g c =
    let whole = c.write_through.ensures.contents in
    let open_now = g.B.Bank.view c.write_through.new.bank in
    touches_then _ _ _ (g.B.Bank.view c.args.bank.now) (g.B.Bank.view c.shut_log.new.bank) open_now c.shut_log.ensures.any_moment.tells c.shut_log.ensures.touches whole

pub returns-clause-any_moment : goal.returns-clause-any_moment
returns-clause-any_moment g c =
    let gate = c.write_through.ensures.any_moment in
    gate_part c.args.g.now c.requires.one_slot (omega arith) (g.B.Bank.view c.args.bank.now) (g.B.Bank.view c.shut_log.new.bank) _ c.in_ok-shut_log.ensures.ok gate
