use Rattle.std.proofs.Common.{◌≡◌, take}
use Rattle.trap_model.specs.State.{time_after}
use Rattle.trap_model.proofs.history.State.last_time.Given as goal

abbrev pub invariant-loop-entry : goal.invariant-loop-entry
invariant-loop-entry l = l.time ≡ time_after l.self.base_time (take l.entry-index l.entry-items)
