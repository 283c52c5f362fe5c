use Rattle.std.proofs.Common.{◌≡◌}
use Rattle.trap_model.proofs.plain.tests.run.Given as goal

abbrev pub invariant-loop-i : goal.invariant-loop-i
invariant-loop-i g l = l.plain.geometry.block ≡ 16
