use Rattle.trap_mount.proofs.MountMembers.{wrong_next, failing_next}
use Rattle.trap_mount.proofs.MountReads.{false_true}
use Rattle.trap_mount.proofs.mounting.members.check_member.Goals as goal

pub returns-in-Ok-false-clause-wrong : goal.returns-in-Ok-false-clause-wrong
returns-in-Ok-false-clause-wrong g c = λ told head next members. (
  c.args.g.now,
  head,
  members,
  wrong_next _ _ _ _ next (λ own. false_true _ c.in-Ok-false.field-0-test ((c.in-Ok-false.ensures.own told).1 own)),
)

pub returns-in-Err-clause-wrong : goal.returns-in-Err-clause-wrong
returns-in-Err-clause-wrong g c = λ told head next members. (
  c.args.g.now,
  head,
  members,
  failing_next c.args.g.now head (g.B.Bank.view c.args.bank.now) c.args.member (g.met.B.Bank.lawful c.args.bank.now) told c.in-Err.ensures.sized next,
)
