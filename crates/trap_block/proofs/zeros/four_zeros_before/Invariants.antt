use Rattle.std.proofs.Common.{length, ◌-◌, ◌≤◌}
use Rattle.trap_block.proofs.ScanLemmas.{IsApart}
use Rattle.trap_block.proofs.zeros.four_zeros_before.Given as goal

abbrev pub invariant-loop-place : goal.invariant-loop-place
invariant-loop-place l = (l.place ≤ length l.bytes) × IsApart l.bytes l.at l.place

abbrev pub decreases-loop-place : goal.decreases-loop-place
decreases-loop-place l = l.stop - l.place
