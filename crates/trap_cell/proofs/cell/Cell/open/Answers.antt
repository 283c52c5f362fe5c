use Rattle.std.proofs.Common.{rules}
use Rattle.trap_cell.proofs.Putting.{open_torn, open_done, open_contents}
use Rattle.trap_cell.proofs.Stages.{gate_moves}
use Rattle.trap_cell.proofs.cell.Cell.open.Goals as goal

pub returns-in_err-write_through-clause-any_moment : goal.returns-in_err-write_through-clause-any_moment
returns-in_err-write_through-clause-any_moment g c = open_torn _ _ _ _ _ _ c.requires.ready c.disk-disk.ensures.is c.other_start-start.ensures.is c.write_through.ensures.any_moment

pub returns-clause-any_moment : goal.returns-clause-any_moment
returns-clause-any_moment g c = open_torn _ _ _ _ _ _ c.requires.ready c.disk-disk.ensures.is c.other_start-start.ensures.is c.write_through.ensures.any_moment

pub returns-clause-ok : goal.returns-clause-ok
returns-clause-ok g c = open_done _ _ _ _ _ _ c.requires.ready c.disk-disk.ensures.is c.other_start-start.ensures.is c.in_ok-write_through.ensures.ok

pub returns-in_err-write_through-clause-contents : goal.returns-in_err-write_through-clause-contents
returns-in_err-write_through-clause-contents g c = let last = c.write_through.ensures.contents in let end = g.B.Bank.view c.write_through.new.bank in
    open_contents _ _ _ _ (g.B.Bank.view c.args.bank.now) end c.requires.ready c.disk-disk.ensures.is c.other_start-start.ensures.is last

pub returns-clause-contents : goal.returns-clause-contents
returns-clause-contents g c = let last = c.write_through.ensures.contents in let end = g.B.Bank.view c.write_through.new.bank in
    open_contents _ _ _ _ (g.B.Bank.view c.args.bank.now) end c.requires.ready c.disk-disk.ensures.is c.other_start-start.ensures.is last

pub returns-in_err-write_through-clause-gate : goal.returns-in_err-write_through-clause-gate
returns-in_err-write_through-clause-gate g c = gate_moves c.args.self.now _ _ _ _ c.disk-disk.ensures.is c.other_start-start.ensures.is c.write_through.ensures.any_moment

pub returns-clause-gate : goal.returns-clause-gate
returns-clause-gate g c = gate_moves c.args.self.now _ _ _ _ c.disk-disk.ensures.is c.other_start-start.ensures.is c.write_through.ensures.any_moment

pub returns-in_err-write_through-clause-calls : goal.returns-in_err-write_through-clause-calls
returns-in_err-write_through-clause-calls g c = record { ok = search rules; most = c.write_through.ensures.calls.most }

pub returns-clause-calls : goal.returns-clause-calls
returns-clause-calls g c = record { ok = c.in_ok-write_through.ensures.calls.ok; most = c.write_through.ensures.calls.most }
