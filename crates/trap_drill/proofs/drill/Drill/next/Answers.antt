use Rattle.trap_drill.proofs.Requests.{next_is}
use Rattle.trap_drill.proofs.drill.Drill.next.Goals as goal

pub returns-clause-request : goal.returns-clause-request
returns-clause-request c =
    let d = c.self.inside in
    next_is c.args.self.now d.g d.seed d.count d.made d.number c.number_after-self-inside.result c.block_named.result c.from.result c.args.fresh.now c.fill_contents.new.fresh
    c.self.view_is c.self.invariant.reached c.number_after-self-inside.ensures c.block_named.ensures c.from.ensures c.requires c.fill_contents.ensures
