use Rattle.std.proofs.Common.{arith, rules}
use Rattle.trap_bank.proofs.Called.{called_once, called_at_most, at_most_then, called_then, took_calls}
use Rattle.trap_bank.proofs.Moves.{write_steps}
use Rattle.trap_cell.proofs.Putting.{fill_torn, fill_both, fill_done, fill_part, fill_contents}
use Rattle.trap_cell.proofs.Stages.{disk_stable}
use Rattle.trap_cell.proofs.cell.Cell.fill.Goals as goal

pub returns-in_err-write-clause-any_moment : goal.returns-in_err-write-clause-any_moment
returns-in_err-write-clause-any_moment g c = fill_torn c.args.self.now _ _ _ _ _ c.requires.stands c.disk-disk.ensures.is (omega (arith, c.other_start-start.ensures.is))
    (omega (arith, c.other_start-start.ensures.is)) (write_steps _ _ _ _ _ _ c.write.ensures.call)

pub returns-in_err-write_through-clause-any_moment : goal.returns-in_err-write_through-clause-any_moment
returns-in_err-write_through-clause-any_moment g c = let last = c.write_through.ensures.any_moment in
    fill_both c.args.self.now _ _ _ _ _ _ c.requires.stands c.disk-disk.ensures.is c.other_start-start.ensures.is c.requires.len
    (write_steps _ _ _ _ _ _ c.write.ensures.call) last

pub returns-clause-any_moment : goal.returns-clause-any_moment
returns-clause-any_moment g c = let last = c.write_through.ensures.any_moment in
    fill_both c.args.self.now _ _ _ _ _ _ c.requires.stands c.disk-disk.ensures.is c.other_start-start.ensures.is c.requires.len
    (write_steps _ _ _ _ _ _ c.write.ensures.call) last

pub returns-clause-ok : goal.returns-clause-ok
returns-clause-ok g c = fill_done c.args.self.now _ _ _ _ _ _ _ c.requires.stands c.disk-disk.ensures.is c.other_start-start.ensures.is c.requires.len
    c.next_turn-turn.ensures (write_steps _ _ _ _ _ _ c.write.ensures.call) c.in_ok-write.ensures.call.written
    c.in_ok-write_through.ensures.ok c.write_through.ensures.contents

pub returns-in_err-write-clause-contents : goal.returns-in_err-write-clause-contents
returns-in_err-write-clause-contents g c = fill_part c.args.self.now _ _ _ (g.B.Bank.view c.args.bank.now) (g.B.Bank.view c.write.new.self) c.requires.stands
    c.disk-disk.ensures.is (omega (arith, c.other_start-start.ensures.is)) (omega (arith, c.other_start-start.ensures.is)) c.write.ensures.call.torn

pub returns-in_err-write_through-clause-contents : goal.returns-in_err-write_through-clause-contents
returns-in_err-write_through-clause-contents g c = let last = c.write_through.ensures.contents in let end = g.B.Bank.view c.write_through.new.bank in
    fill_contents c.args.self.now _ _ _ (g.B.Bank.view c.args.bank.now) (g.B.Bank.view c.write.new.self) end c.requires.stands c.disk-disk.ensures.is
    c.other_start-start.ensures.is c.requires.len c.write.ensures.call.goes.tells c.write.ensures.call.torn last

pub returns-clause-contents : goal.returns-clause-contents
returns-clause-contents g c = let last = c.write_through.ensures.contents in let end = g.B.Bank.view c.write_through.new.bank in
    fill_contents c.args.self.now _ _ _ (g.B.Bank.view c.args.bank.now) (g.B.Bank.view c.write.new.self) end c.requires.stands c.disk-disk.ensures.is
    c.other_start-start.ensures.is c.requires.len c.write.ensures.call.goes.tells c.write.ensures.call.torn last

pub returns-clause-stable : goal.returns-clause-stable
returns-clause-stable g c = disk_stable c.args.self.now _ _ _ _ _ c.disk-disk.ensures.is c.in_ok-write_through.ensures.ok

pub returns-in_err-write-clause-calls : goal.returns-in_err-write-clause-calls
returns-in_err-write-clause-calls g c = record { ok = search rules; most = called_at_most 1 3 _ _ (omega arith) (called_once _ _ _ c.write.ensures.call.goes) }

pub returns-in_err-write_through-clause-calls : goal.returns-in_err-write_through-clause-calls
returns-in_err-write_through-clause-calls g c = record {
  ok = search rules;
  most = at_most_then 1 2 3 _ _ _ (omega arith) (called_at_most 1 1 _ _ (omega arith) (called_once _ _ _ c.write.ensures.call.goes)) c.write_through.ensures.calls.most;
}

pub returns-clause-calls : goal.returns-clause-calls
returns-clause-calls g c = took_calls _ 3 _ _ (called_then 1 2 _ _ _ (called_once _ _ _ c.write.ensures.call.goes) c.in_ok-write_through.ensures.calls.ok)
