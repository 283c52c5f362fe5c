use Rattle.std.proofs.Common.{◌≡◌, take}
use Rattle.trap_model.specs.Size.{size_over}
use Rattle.trap_model.proofs.history.State.kept.Given as goal

abbrev pub invariant-loop-i : goal.invariant-loop-i
invariant-loop-i l = l.sum ≡ size_over l.self.base (take l.i l.self.entries)
