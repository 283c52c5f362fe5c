use Rattle.trap_format.proofs.ReplicaHeaders.{shapes_same}
use Rattle.trap_format.proofs.replica_laws.one_shape.Goals as goal

pub returns : goal.returns
returns c = shapes_same
