use Rattle.std.proofs.lemmas.Result.{on_ok_weaker}
use Rattle.trap_mount.proofs.HeadTests.{heads_differ}
use Rattle.trap_mount.proofs.MountPuts.{may_put, may_put_now, has_put}
use Rattle.trap_mount.proofs.mounting.put_changed.Goals as goal

pub returns-clause-ok : goal.returns-clause-ok
returns-clause-ok g c = on_ok_weaker c.put.result
    (has_put (g.B.Bank.view c.args.bank.now) (g.B.Bank.view c.put.new.bank) c.args.cell.now c.args.found.now c.args.head.now
    (heads_differ c.args.head.now c.args.found.now c.eq.result c.eq.ensures c.if-eq.false) _ c.spell_head.ensures c.put.new.self) c.put.ensures.ok

pub returns-clause-contents : goal.returns-clause-contents
returns-clause-contents g c = λ told. may_put_now (g.B.Bank.view c.args.bank.now) (g.B.Bank.view c.put.new.bank) c.args.cell.now c.args.found.now c.args.head.now
    (heads_differ c.args.head.now c.args.found.now c.eq.result c.eq.ensures c.if-eq.false) _ c.spell_head.ensures (c.put.ensures.contents told)

pub returns-clause-any_moment : goal.returns-clause-any_moment
returns-clause-any_moment g c = may_put (g.B.Bank.view c.args.bank.now) (g.B.Bank.view c.put.new.bank) c.args.cell.now c.args.found.now c.args.head.now
    (heads_differ c.args.head.now c.args.found.now c.eq.result c.eq.ensures c.if-eq.false) _ c.spell_head.ensures c.put.ensures.any_moment
