use Rattle.std.proofs.Common.{[], ◌∷◌}
use Rattle.trap_pool.specs.Frames.{Only}
use Rattle.trap_pool.specs.Pooled.{pool_block}
use Rattle.trap_past.proofs.Tracing.{Traced}
use Rattle.trap_past.proofs.undo.block_at.Given as goal

abbrev pub invariant-loop-number : goal.invariant-loop-number
invariant-loop-number g l =
    Traced l.index (g.P.Present.view l.fn.source) (g.P.Present.view l.source) l.block l.seq l.number (pool_block l.pool l.into)
    × g.P.Present.acts l.fn.source l.source
    × Only (l.into ∷ l.scratch ∷ []) l.fn.pool l.pool

abbrev pub decreases-loop-number : goal.decreases-loop-number
decreases-loop-number g l = l.number
