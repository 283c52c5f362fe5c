use Rattle.trap_index.proofs.Describing.{describes_fresh, describes-added, describes-dropped}
use Rattle.trap_index.proofs.laws.described.Goals as goal

pub returns : goal.returns
returns c = record { fresh = describes_fresh; further = describes-added; dropped = describes-dropped }
