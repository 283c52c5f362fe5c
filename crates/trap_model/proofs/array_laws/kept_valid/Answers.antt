use Rattle.trap_model.proofs.KeptValid.{fresh_valid, kept_valid}
use Rattle.trap_model.proofs.array_laws.kept_valid.Goals as goal

pub returns-clause-fresh : goal.returns-clause-fresh
returns-clause-fresh c = fresh_valid

pub returns-clause-kept : goal.returns-clause-kept
returns-clause-kept c = kept_valid
