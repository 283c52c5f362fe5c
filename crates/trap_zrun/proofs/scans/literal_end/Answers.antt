use Rattle.trap_zrun.proofs.Scanning.{literal-found, zeros-after}
use Rattle.trap_zrun.proofs.scans.literal_end.Goals as goal

pub returns-clause-literal : goal.returns-clause-literal
returns-clause-literal c = λ some.
    literal-found c.args.block.now c.args.at c.four_zeros-stop.result c.without_zeros.result c.without_zeros.ensures.from c.without_zeros.ensures.within
    c.four_zeros-stop.ensures.within (c.requires.some some) c.without_zeros.ensures.last
    c.four_zeros-stop.ensures.first

pub returns-clause-zeros : goal.returns-clause-zeros
returns-clause-zeros c =
    zeros-after c.args.block.now c.four_zeros-stop.result c.without_zeros.result c.without_zeros.ensures.within c.without_zeros.ensures.zeros
    c.four_zeros-stop.ensures.found c.four_zeros-stop.ensures.within
