use Rattle.std.proofs.Common.{[], ◌∷◌}
use Rattle.trap_pool.specs.Frames.{Only}
use Rattle.trap_raid.proofs.tests.plan_all.Given as goal

-- at most the four blocks of a plan changed
abbrev pub invariant-loop-at : goal.invariant-loop-at
invariant-loop-at g l = Only (l.blocks.fresh ∷ l.blocks.delta ∷ l.blocks.parity ∷ l.blocks.scratch ∷ []) l.fn.pool l.pool
