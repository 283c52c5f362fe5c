use Rattle.std.proofs.Common.{arith, refl}
use Rattle.trap_format.proofs.MemberHeaders.{member_read}
use Rattle.trap_format.proofs.member_disk.read_member.Goals as goal

pub returns-clause-some : goal.returns-clause-some
returns-clause-some c = member_read c.args.bytes.now c.get_u64.result (omega arith) (c.if-not-begins_with.ensures.0 refl) c.get_u64.ensures (c.if-not-ends_in_zeros.ensures.0 refl)
