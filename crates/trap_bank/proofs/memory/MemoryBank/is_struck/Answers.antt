use Rattle.std.proofs.Common.{◌+◌, inl, subst, refl, Contains}
use Rattle.trap_bank.specs.Memory.{Memory}
use Rattle.trap_bank.proofs.memory.MemoryBank.is_struck.Goals as goal

pub returns-then-has-clause-struck : goal.returns-then-has-clause-struck
returns-then-has-clause-struck c =
    let listed : Contains c.args.self.now.chosen (c.args.self.now.moment + 1) =
    subst (λ (m : Memory). Contains m.chosen (m.moment + 1)) c.self.view_is (c.has.ensures.0 c.if-has.true) in
    (λ _. inl listed, λ _. refl)
