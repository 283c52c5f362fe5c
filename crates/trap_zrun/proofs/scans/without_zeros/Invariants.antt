use Rattle.std.proofs.Common.{◌<◌}
use Rattle.trap_block.proofs.ScanLemmas.{AreZerosTo}
use Rattle.trap_zrun.proofs.scans.without_zeros.Given as goal

abbrev pub invariant-loop-end : goal.invariant-loop-end
invariant-loop-end l = (l.at < l.end) × AreZerosTo l.bytes l.end l.stop

abbrev pub decreases-loop-end : goal.decreases-loop-end
decreases-loop-end l = l.end
