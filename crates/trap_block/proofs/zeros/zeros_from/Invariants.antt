use Rattle.std.proofs.Common.{length, ◌-◌}
use Rattle.trap_block.proofs.ScanLemmas.{AreZerosTo}
use Rattle.trap_block.proofs.zeros.zeros_from.Given as goal

abbrev pub invariant-loop-end : goal.invariant-loop-end
invariant-loop-end l = AreZerosTo l.bytes l.at l.end

abbrev pub decreases-loop-end : goal.decreases-loop-end
decreases-loop-end l = length l.bytes - l.end
