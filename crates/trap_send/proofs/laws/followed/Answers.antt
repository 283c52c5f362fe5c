use Rattle.trap_send.proofs.Copies.{sent_of, sent_fits}
use Rattle.trap_send.proofs.laws.followed.Goals as goal

pub returns-clause-primary : goal.returns-clause-primary
returns-clause-primary c = λ id q s w is. sent_of s w is id q

pub returns-clause-fits : goal.returns-clause-fits
returns-clause-fits c = sent_fits
