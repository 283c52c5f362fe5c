use Rattle.std.proofs.Common.{IsTrue, ◌∙◌}
use Rattle.trap_bank.specs.Disks.{View}
use Rattle.trap_bank.specs.Steps.{Moves}
use Rattle.trap_mount.specs.Creating.{OnlyDisk, ShutsLog}
use Rattle.trap_bank.proofs.Moves.{make_steps, made_steps}
use Rattle.trap_raid.proofs.OwnDisks.{touches_then}
use Rattle.trap_mount.proofs.LogGate.{make_part, cell_part, cell_done, header_part, header_done, header_rest, header_rest_length, cell_touches}
use Rattle.trap_mount.proofs.creating.shut_log.Goals as goal
use Rattle.trap_mount.proofs.creating.shut_log.Goals.{After-write_through}

pub returns-in_err-make-clause-any_moment : goal.returns-in_err-make-clause-any_moment
returns-in_err-make-clause-any_moment g c = make_part _ _ _ (make_steps _ _ _ _ _ c.make.ensures.call)

-- ---- the head's cell
pub returns-in_err-first-clause-touches : goal.returns-in_err-first-clause-touches
returns-in_err-first-clause-touches g c =
    cell_touches _ (g.B.Bank.view c.args.bank.now) (g.B.Bank.view c.make.new.self) (g.B.Bank.view c.first.new.bank) c.make.ensures.call.goes.tells
    (λ told. (c.make.ensures.call.step told).others) c.first.ensures.contents

pub returns-in_err-first-clause-any_moment : goal.returns-in_err-first-clause-any_moment
returns-in_err-first-clause-any_moment g c =
    cell_part _ _ (g.B.Bank.view c.args.bank.now) (g.B.Bank.view c.make.new.self) (g.B.Bank.view c.first.new.bank) c.spell_head.array_long
    (made_steps _ _ _ _ _ c.in_ok-make.ensures.call) c.first.ensures.any_moment

-- ---- the header is written, whether or not that failed
abbrev written : (g : _) → After-write_through g → View
written g c = g.B.Bank.view c.write_through.new.bank

touched : (g : _) (c : After-write_through g) → IsTrue (g.B.Bank.view c.args.bank.now).tells → OnlyDisk 0 (g.B.Bank.view c.args.bank.now).now.disks (written g c).now.disks
touched g c =
    touches_then _ _ _ (g.B.Bank.view c.args.bank.now) (g.B.Bank.view c.first.new.bank) (written g c) (c.first.ensures.any_moment.tells ∙ c.make.ensures.call.goes.tells)
    (cell_touches _ (g.B.Bank.view c.args.bank.now) (g.B.Bank.view c.make.new.self) (g.B.Bank.view c.first.new.bank) c.make.ensures.call.goes.tells
    (λ told. (c.make.ensures.call.step told).others) c.first.ensures.contents)
    c.write_through.ensures.contents

moved : (g : _) (c : After-write_through g) → Moves (g.B.Bank.view c.args.bank.now) (written g c) ShutsLog ShutsLog
moved g c =
    header_part c.args.g.now _ (g.B.Bank.view c.args.bank.now) (g.B.Bank.view c.first.new.bank) (written g c)
    (cell_done c.args.g.now _ _ c.in_ok-first.field-0 c.spell_head.new.out (g.B.Bank.view c.args.bank.now) (g.B.Bank.view c.make.new.self)
    (g.B.Bank.view c.first.new.bank) c.log_len.ensures c.spell_head.array_long c.in_ok-first.ensures.cell c.spell_head.ensures
    (made_steps _ _ _ _ _ c.in_ok-make.ensures.call) c.in_ok-first.ensures.ok)
    c.write_through.ensures.any_moment

pub returns-in_err-write_through-clause-touches : goal.returns-in_err-write_through-clause-touches
returns-in_err-write_through-clause-touches g c = touched g (goal.at.returns-in_err-write_through-clause-touches g c).After-write_through

pub returns-in_err-write_through-clause-any_moment : goal.returns-in_err-write_through-clause-any_moment
returns-in_err-write_through-clause-any_moment g c = moved g (goal.at.returns-in_err-write_through-clause-any_moment g c).After-write_through

pub returns-clause-touches : goal.returns-clause-touches
returns-clause-touches g c = touched g (goal.at.returns-clause-touches g c).After-write_through

pub returns-clause-any_moment : goal.returns-clause-any_moment
returns-clause-any_moment g c = moved g (goal.at.returns-clause-any_moment g c).After-write_through

-- ---- and stays
pub returns-clause-ok : goal.returns-clause-ok
returns-clause-ok g c =
    header_done c.args.g.now _ (g.B.Bank.view c.args.bank.now) (g.B.Bank.view c.first.new.bank) (g.B.Bank.view c.write_through.new.bank) (header_rest_length c.spell_log.new.out c.spell_log.array_long)
    (header_rest c.args.g.now c.spell_log.new.out c.spell_log.array_long c.spell_log.ensures)
    (cell_done c.args.g.now _ _ c.in_ok-first.field-0 c.spell_head.new.out (g.B.Bank.view c.args.bank.now) (g.B.Bank.view c.make.new.self)
    (g.B.Bank.view c.first.new.bank) c.log_len.ensures c.spell_head.array_long c.in_ok-first.ensures.cell c.spell_head.ensures
    (made_steps _ _ _ _ _ c.in_ok-make.ensures.call) c.in_ok-first.ensures.ok)
    c.in_ok-write_through.ensures.ok
