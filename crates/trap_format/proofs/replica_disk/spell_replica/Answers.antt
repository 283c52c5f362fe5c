use Rattle.std.proofs.Common.{arith}
use Rattle.trap_format.proofs.ReplicaHeaders.{replica_written}
use Rattle.trap_format.proofs.replica_disk.spell_replica.Goals as goal

pub returns : goal.returns
returns c = replica_written c.args.s.now c.args.out.now _ _ _ _ _ _ (omega arith) c.put_bytes.ensures c.put_byte.ensures c.put_u64.ensures c.put_u16.ensures c.put_u32.ensures c.put_bytes-2.ensures
