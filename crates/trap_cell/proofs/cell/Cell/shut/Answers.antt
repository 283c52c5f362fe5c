use Rattle.std.proofs.Common.{rules, sym, ◌∙◌}
use Rattle.trap_cell.proofs.Stages.{gate_moves, takes_along}
use Rattle.trap_cell.proofs.Putting.{shut_torn, shut_done, shut_contents}
use Rattle.trap_cell.proofs.cell.Cell.shut.Goals as goal

pub returns-in_err-write_through-clause-any_moment : goal.returns-in_err-write_through-clause-any_moment
returns-in_err-write_through-clause-any_moment g c = let last = c.write_through.ensures.any_moment in
    shut_torn _ _ _ _ _ (sym c.is_other_open-is_open.ensures ∙ c.if-is_open.true) c.requires.stands c.disk-disk.ensures.is c.other_start-start.ensures.is last

pub returns-in_ok-write_through-clause-any_moment : goal.returns-in_ok-write_through-clause-any_moment
returns-in_ok-write_through-clause-any_moment g c = let last = c.write_through.ensures.any_moment in
    shut_torn _ _ _ _ _ (sym c.is_other_open-is_open.ensures ∙ c.if-is_open.true) c.requires.stands c.disk-disk.ensures.is c.other_start-start.ensures.is last

pub returns-in_ok-write_through-clause-ok : goal.returns-in_ok-write_through-clause-ok
returns-in_ok-write_through-clause-ok g c = shut_done _ _ _ _ _ (sym c.is_other_open-is_open.ensures ∙ c.if-is_open.true) c.requires.stands
    c.disk-disk.ensures.is c.other_start-start.ensures.is c.in_ok-write_through.ensures.ok

pub returns-in_err-write_through-clause-contents : goal.returns-in_err-write_through-clause-contents
returns-in_err-write_through-clause-contents g c = let last = c.write_through.ensures.contents in let end = g.B.Bank.view c.write_through.new.bank in
    shut_contents _ _ _ (g.B.Bank.view c.args.bank.now) end (sym c.is_other_open-is_open.ensures ∙ c.if-is_open.true) c.requires.stands
    c.disk-disk.ensures.is c.other_start-start.ensures.is last

pub returns-in_ok-write_through-clause-contents : goal.returns-in_ok-write_through-clause-contents
returns-in_ok-write_through-clause-contents g c = let last = c.write_through.ensures.contents in let end = g.B.Bank.view c.write_through.new.bank in
    shut_contents _ _ _ (g.B.Bank.view c.args.bank.now) end (sym c.is_other_open-is_open.ensures ∙ c.if-is_open.true) c.requires.stands
    c.disk-disk.ensures.is c.other_start-start.ensures.is last

pub returns-in_err-write_through-clause-gate : goal.returns-in_err-write_through-clause-gate
returns-in_err-write_through-clause-gate g c = gate_moves c.args.self.now _ _ _ _ c.disk-disk.ensures.is c.other_start-start.ensures.is c.write_through.ensures.any_moment

pub returns-in_ok-write_through-clause-gate : goal.returns-in_ok-write_through-clause-gate
returns-in_ok-write_through-clause-gate g c = gate_moves c.args.self.now _ _ _ _ c.disk-disk.ensures.is c.other_start-start.ensures.is c.write_through.ensures.any_moment

pub returns-in_err-write_through-clause-calls : goal.returns-in_err-write_through-clause-calls
returns-in_err-write_through-clause-calls g c = takes_along _ _ 2 _ _ _ (sym c.is_other_open-is_open.ensures ∙ c.if-is_open.true)
    (record { ok = search rules; most = c.write_through.ensures.calls.most })

pub returns-in_ok-write_through-clause-calls : goal.returns-in_ok-write_through-clause-calls
returns-in_ok-write_through-clause-calls g c = takes_along _ _ 2 _ _ _ (sym c.is_other_open-is_open.ensures ∙ c.if-is_open.true)
    (record { ok = c.in_ok-write_through.ensures.calls.ok; most = c.write_through.ensures.calls.most })
