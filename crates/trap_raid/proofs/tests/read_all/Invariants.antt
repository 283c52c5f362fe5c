use Rattle.std.proofs.Common.{[], ◌∷◌}
use Rattle.trap_pool.specs.Frames.{Only}
use Rattle.trap_raid.proofs.tests.read_all.Given as goal

-- at most the two blocks of a read changed
abbrev pub invariant-loop-row : goal.invariant-loop-row
invariant-loop-row g l = Only (l.blocks.parity ∷ l.blocks.scratch ∷ []) l.fn.pool l.pool

abbrev pub invariant-loop-member : goal.invariant-loop-member
invariant-loop-member g l = Only (l.blocks.parity ∷ l.blocks.scratch ∷ []) l.fn.pool l.pool
