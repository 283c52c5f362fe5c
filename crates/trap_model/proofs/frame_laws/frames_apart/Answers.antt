use Rattle.trap_model.proofs.Frames.{SpellsFrame-apart}
use Rattle.trap_model.proofs.frame_laws.frames_apart.Goals as goal

pub returns : goal.returns
returns c = SpellsFrame-apart
