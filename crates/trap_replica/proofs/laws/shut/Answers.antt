use Rattle.trap_replica.proofs.NewReplica.{off_no_replica}
use Rattle.trap_replica.proofs.laws.shut.Goals as goal

pub returns : goal.returns
returns c = off_no_replica
