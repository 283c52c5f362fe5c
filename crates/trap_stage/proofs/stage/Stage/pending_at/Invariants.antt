use Rattle.trap_stage.proofs.Looking.{LooksFrom}
use Rattle.trap_stage.proofs.stage.Stage.pending_at.Given as goal

abbrev pub invariant-loop-seq : goal.invariant-loop-seq
invariant-loop-seq l = LooksFrom l.self-inside.g l.self-inside.slots.items l.self l.self-inside.drained l.self-inside.last l.seq l.place.row l.place.member

abbrev pub decreases-loop-seq : goal.decreases-loop-seq
decreases-loop-seq l = l.seq
