use Rattle.trap_index.proofs.Walking.{Walked}
use Rattle.trap_index.proofs.index.Index.path.Given as goal

abbrev pub invariant-loop-number : goal.invariant-loop-number
invariant-loop-number l = Walked l.self l.block l.seq l.turns l.number

abbrev pub decreases-loop-number : goal.decreases-loop-number
decreases-loop-number l = l.number
