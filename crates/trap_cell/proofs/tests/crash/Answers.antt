use Rattle.std.proofs.Common.{◌∙◌}
use Rattle.trap_cell.proofs.tests.crash.Goals as goal

pub returns : goal.returns
returns c = c.crash.ensures.left.torn.disks.sizes 0 ∙ c.requires
