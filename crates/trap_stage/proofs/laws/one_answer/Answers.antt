use Rattle.trap_stage.proofs.OneAnswer.{found_not_damaged, found_same, first_damaged}
use Rattle.trap_stage.proofs.laws.one_answer.Goals as goal

pub returns-clause-found : goal.returns-clause-found
returns-clause-found c = found_not_damaged

pub returns-clause-stage : goal.returns-clause-stage
returns-clause-stage c = found_same

pub returns-clause-first : goal.returns-clause-first
returns-clause-first c = first_damaged
