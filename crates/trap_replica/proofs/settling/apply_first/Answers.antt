use Rattle.std.proofs.Common.{drop}
use Rattle.trap_replica.proofs.HeldSteps.{first_passes, first_passed}
use Rattle.trap_replica.proofs.settling.apply_first.Goals as goal

pub returns-in_err-apply_next-clause-passes : goal.returns-in_err-apply_next-clause-passes
returns-in_err-apply_next-clause-passes g c = first_passes c.args.store.now c.apply_next.new.self c.args.held.now c.args.held.now c.in-Some.frame.now (drop 1 c.args.held.now.frames)
    (g.B.Bank.view c.args.bank.now) (g.B.Bank.view c.apply_next.new.bank) c.in-Some.ensures.some c.requires.next
    c.apply_next.ensures.fields.shape c.apply_next.ensures.calls.most c.apply_next.ensures.beside.sizes c.apply_next.ensures.beside.elsewhere c.apply_next.ensures.beside.touches
    c.apply_next.ensures.any_moment

pub returns-clause-passes : goal.returns-clause-passes
returns-clause-passes g c = first_passes c.args.store.now c.apply_next.new.self c.args.held.now c.drop_first.new.self c.in-Some.frame.now (drop 1 c.args.held.now.frames)
    (g.B.Bank.view c.args.bank.now) (g.B.Bank.view c.apply_next.new.bank) c.in-Some.ensures.some c.requires.next
    c.apply_next.ensures.fields.shape c.apply_next.ensures.calls.most c.apply_next.ensures.beside.sizes c.apply_next.ensures.beside.elsewhere c.apply_next.ensures.beside.touches
    c.apply_next.ensures.any_moment

pub returns-clause-ok : goal.returns-clause-ok
returns-clause-ok g c = first_passed c.args.store.now c.apply_next.new.self c.args.held.now c.drop_first.new.self c.in-Some.frame.now (drop 1 c.args.held.now.frames)
    (g.B.Bank.view c.args.bank.now) (g.B.Bank.view c.apply_next.new.bank) c.in-Some.ensures.some c.requires.next
    c.apply_next.ensures.fields.shape c.in_ok-apply_next.ensures.fields.number c.in_ok-apply_next.ensures.fields.time c.drop_first.ensures.size c.drop_first.ensures.frames
    c.in_ok-apply_next.ensures.ready c.requires.suit c.in_ok-apply_next.ensures.fields.cell c.in_ok-apply_next.ensures.calls.ok c.in_ok-apply_next.ensures.ok
