use Rattle.trap_pool.proofs.Leases.{leases_taken, leases_given, leases_changed}
use Rattle.trap_pool.proofs.laws.leases.Goals as goal

pub returns-clause-take : goal.returns-clause-take
returns-clause-take c = λ k ks old new takes are. leases_taken k ks old new takes are

pub returns-clause-give : goal.returns-clause-give
returns-clause-give c = λ k ks old new gives are. leases_given k ks old new gives are

pub returns-clause-change : goal.returns-clause-change
returns-clause-change c = λ js ks old new only are. leases_changed js ks old new only are
