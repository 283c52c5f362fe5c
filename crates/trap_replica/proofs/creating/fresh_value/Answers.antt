use Rattle.std.proofs.Common.{arith}
use Rattle.trap_replica.proofs.NewReplica.{fresh_is}
use Rattle.trap_replica.proofs.creating.fresh_value.Goals as goal

pub returns : goal.returns
returns c = fresh_is 4116 c.args.s.now.block c.args.zeros.now c.requires (omega arith)
