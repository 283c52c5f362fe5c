use Rattle.std.proofs.Common.{sym, ◌∙◌}
use Rattle.trap_format.proofs.Numbers.{within_limits}
use Rattle.trap_format.proofs.limits.check.Goals as goal

pub invariant_of-result : goal.invariant_of-result
invariant_of-result c = record { within = (within_limits c.args.asked.now (sym c.first_broken.ensures ∙ c.in_default.is)).0 }
