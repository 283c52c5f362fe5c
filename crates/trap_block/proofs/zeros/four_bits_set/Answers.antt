use Rattle.trap_block.proofs.LaneLemmas.{fours-first}
use Rattle.trap_block.proofs.zeros.four_bits_set.Goals as goal

pub returns-clause-found : goal.returns-clause-found
returns-clause-found c = (fours-first c.args.mask c.ranges.mask.fits).0

pub returns-clause-first : goal.returns-clause-first
returns-clause-first c = (fours-first c.args.mask c.ranges.mask.fits).1
