use Rattle.std.proofs.Common.{length, ◌-◌, ◌≤◌, take}
use Rattle.trap_zrun.proofs.Coding.{IsCoded}
use Rattle.trap_zrun.proofs.writer.code.Given as goal

abbrev pub invariant-loop-at : goal.invariant-loop-at
invariant-loop-at l = record { inside : l.at ≤ length l.block; room : l.end ≤ length l.out; coded : IsCoded l.block l.at (take l.end l.out) }

abbrev pub decreases-loop-at : goal.decreases-loop-at
decreases-loop-at l = length l.block - l.at
