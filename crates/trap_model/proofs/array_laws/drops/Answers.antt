use Rattle.std.proofs.Common.{ap}
use Rattle.trap_model.specs.declared.history.State.{State}
use Rattle.trap_model.proofs.Dropping.{kept_from-first, kept_from-twice}
use Rattle.trap_model.proofs.array_laws.drops.Goals as goal

pub returns-clause-none : goal.returns-clause-none
returns-clause-none c = kept_from-first

pub returns-clause-twice : goal.returns-clause-twice
returns-clause-twice c = kept_from-twice

pub returns-clause-instants : goal.returns-clause-instants
returns-clause-instants c = λ s p q low high. ap (λ (t : State). t.base) (kept_from-twice s p q low high)
