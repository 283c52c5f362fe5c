use Rattle.std.proofs.Common.{◌≡◌}
use Rattle.trap_drill.specs.Drilled.{number, blocks_of}
use Rattle.trap_drill.proofs.drill.Drill.new.Given as goal

-- so far the number and the blocks are those of the requests that were gone over
abbrev pub invariant-loop-request : goal.invariant-loop-request
invariant-loop-request l = record {
  number : l.number ≡ number l.seed l.request;
  blocks : l.blocks.keys ≡ blocks_of l.g l.seed l.request;
}
