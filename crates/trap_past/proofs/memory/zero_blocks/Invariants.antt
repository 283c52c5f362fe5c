use Rattle.std.proofs.Common.{◌≡◌, replicate}
use Rattle.trap_past.proofs.memory.zero_blocks.Given as goal

abbrev pub invariant-loop : goal.invariant-loop
invariant-loop l = l.blocks.items ≡ replicate l.counter (replicate l.g.block 0)
