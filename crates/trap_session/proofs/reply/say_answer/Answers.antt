use Rattle.trap_session.proofs.Replying.{one_say}
use Rattle.trap_session.proofs.reply.say_answer.Goals as goal

pub returns-in-Ok-clause-once : goal.returns-in-Ok-clause-once
returns-in-Ok-clause-once g c = one_say _ c.say.result _ _ (g.met.B.Bank.lawful c.args.bank.now) c.say.ensures.call

pub returns-in-Err-clause-once : goal.returns-in-Err-clause-once
returns-in-Err-clause-once g c = one_say _ c.say.result _ _ (g.met.B.Bank.lawful c.args.bank.now) c.say.ensures.call
