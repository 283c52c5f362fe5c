use Rattle.std.proofs.Common.{arith}
use Rattle.trap_format.proofs.MemberHeaders.{member_written}
use Rattle.trap_format.proofs.member_disk.spell_member.Goals as goal

pub returns : goal.returns
returns c = member_written c.args.id c.args.member c.args.out.now _ _ _ _ (omega arith) c.put_bytes.ensures c.put_u64.ensures c.put_byte.ensures c.put_bytes-2.ensures
