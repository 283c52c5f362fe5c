use Rattle.std.proofs.Common.{Some, refl}
use Rattle.trap_mount.proofs.MountMembers.{are_out, are_absent}
use Rattle.trap_mount.proofs.mounting.members.find_lost.Goals as goal

pub returns-in-Some-lowest_absent-clause-refused : goal.returns-in-Some-lowest_absent-clause-refused
returns-in-Some-lowest_absent-clause-refused g c = λ told records. (
  c.args.g.now,
  c.args.head.now,
  records,
  are_out c.args.g.now c.args.head.now (g.B.Bank.view c.args.bank.now) (g.met.B.Bank.lawful c.args.bank.now) told
      (Some c.in-Some.first) _ _ refl c.in-Some.ensures c.in-Some-lowest_absent.ensures.some,
)

pub returns-in-Some-lowest_absent-clause-shown : goal.returns-in-Some-lowest_absent-clause-shown
returns-in-Some-lowest_absent-clause-shown g c =
    are_absent c.args.g.now c.args.head.now.lost (g.B.Bank.view c.args.bank.now) (Some c.in-Some.first) _ _ refl c.in-Some.ensures c.in-Some-lowest_absent.ensures.some
