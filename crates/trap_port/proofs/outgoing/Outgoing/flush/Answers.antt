use Rattle.std.proofs.Common.{take, ap, ◌∙◌}
use Rattle.trap_bank.specs.declared.disks.Failed.{Failed}
use Rattle.trap_port.specs.Outgoing.{Waiting}
use Rattle.trap_port.proofs.Saying.{says_part, says_all}
use Rattle.trap_port.proofs.outgoing.Outgoing.flush.Goals as goal

pub returns-in_err-say-clause-says : goal.returns-in_err-say-clause-says
returns-in_err-say-clause-says g c = says_part _ c.from_residual.result _ c.args.self.now.bytes (g.B.Bank.view c.args.bank.now) (g.B.Bank.view c.say.new.self) c.from_residual.ensures.0
    (ap (take c.self.inside.len) c.deref.ensures.value ∙ ap (λ (o : Waiting). o.bytes) c.self.view_is) c.in_err-say.ensures.call

pub returns-clause-says : goal.returns-clause-says
returns-clause-says g c = says_all {E = Failed} _ _ c.args.self.now.bytes (g.B.Bank.view c.args.bank.now) (g.B.Bank.view c.say.new.self)
    (ap (take c.self.inside.len) c.deref.ensures.value ∙ ap (λ (o : Waiting). o.bytes) c.self.view_is) c.in_ok-say.ensures.call
