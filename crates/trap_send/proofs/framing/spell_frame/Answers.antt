use Rattle.std.proofs.Common.{Err, ap}
use Rattle.trap_send.proofs.framing.spell_frame.Goals as goal

pub returns-in-Err-clause-fails : goal.returns-in-Err-clause-fails
returns-in-Err-clause-fails g c = record {
  fails = c.in-Err.ensures.denied.cause c.requires.running;
  damaged = λ offset is told s stands. c.in-Err.ensures.denied.damaged offset (ap Err is) told s stands;
}
