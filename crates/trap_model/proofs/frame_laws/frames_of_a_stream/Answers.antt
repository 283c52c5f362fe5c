use Rattle.trap_model.proofs.Frames.{AreFrames-one}
use Rattle.trap_model.proofs.frame_laws.frames_of_a_stream.Goals as goal

pub returns : goal.returns
returns c = AreFrames-one
