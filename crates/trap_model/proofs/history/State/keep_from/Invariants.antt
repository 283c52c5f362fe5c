use Rattle.std.proofs.Common.{◌-◌}
use Rattle.trap_model.proofs.Dropping.{KeptTo}
use Rattle.trap_model.proofs.history.State.keep_from.Given as goal

abbrev pub invariant-loop-self : goal.invariant-loop-self
invariant-loop-self l = KeptTo l.initial.self l.self l.seq

abbrev pub decreases-loop-self : goal.decreases-loop-self
decreases-loop-self l = l.seq - l.self.first
