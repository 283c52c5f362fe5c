use Rattle.trap_replica.proofs.Worlds.{happen_all}
use Rattle.trap_replica.proofs.laws.world.Goals as goal

pub returns : goal.returns
returns c = happen_all
