use Rattle.std.proofs.Common.{◌≡◌, drop}
use Rattle.trap_model.specs.Receiver.{is_held}
use Rattle.trap_replica.proofs.held.is_among.Given as goal

abbrev pub invariant-loop-frame : goal.invariant-loop-frame
invariant-loop-frame l = is_held l.seq (drop l.frame-index l.frames) ≡ is_held l.seq l.frames
