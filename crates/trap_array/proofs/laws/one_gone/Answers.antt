use Rattle.trap_array.proofs.Removed.{removed_holds, removed_but}
use Rattle.trap_array.proofs.laws.one_gone.Goals as goal

pub returns-clause-holds : goal.returns-clause-holds
returns-clause-holds c = removed_holds

pub returns-clause-others : goal.returns-clause-others
returns-clause-others c = removed_but
