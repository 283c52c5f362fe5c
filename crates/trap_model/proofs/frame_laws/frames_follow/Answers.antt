use Rattle.std.proofs.Common.{[], refl, arith}
use Rattle.trap_model.proofs.Frames.{frames-bad, frames-next, part-no_frame}
use Rattle.trap_model.proofs.frame_laws.frames_follow.Goals as goal

pub returns-clause-end : goal.returns-clause-end
returns-clause-end c size = record { rest = []; at = 0; begins = refl; offset = refl; ends = refl }

pub returns-clause-cut : goal.returns-clause-cut
returns-clause-cut c size bytes cut = record { rest = bytes; at = 0; begins = refl; offset = omega arith; ends = (refl, cut) }

pub returns-clause-bad : goal.returns-clause-bad
returns-clause-bad c = frames-bad

pub returns-clause-next : goal.returns-clause-next
returns-clause-next c = frames-next

pub returns-clause-part : goal.returns-clause-part
returns-clause-part c = part-no_frame
