use Rattle.trap_rebuild.proofs.LeaseLemmas.{both_given}
use Rattle.trap_rebuild.proofs.stepping.step.Goals as goal

-- both blocks are given back
pub returns-then-upto-geometry-clause-pool : goal.returns-then-upto-geometry-clause-pool
returns-then-upto-geometry-clause-pool g c =
    both_given c.in-Some-take.into c.in-Some-take-2.scratch c.args.pool.now c.take.new.self c.take-2.new.self c.rebuild_rows-done.new.pool c.give.new.self c.give-2.new.self
    c.in-Some-take.ensures.pool c.in-Some-take-2.ensures.pool c.rebuild_rows-done.ensures.rest c.give.ensures c.give-2.ensures

pub returns-else-upto-geometry-clause-pool : goal.returns-else-upto-geometry-clause-pool
returns-else-upto-geometry-clause-pool g c =
    both_given c.in-Some-take.into c.in-Some-take-2.scratch c.args.pool.now c.take.new.self c.take-2.new.self c.rebuild_rows-done.new.pool c.give.new.self c.give-2.new.self
    c.in-Some-take.ensures.pool c.in-Some-take-2.ensures.pool c.rebuild_rows-done.ensures.rest c.give.ensures c.give-2.ensures
