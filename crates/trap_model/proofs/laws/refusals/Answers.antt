use Rattle.trap_model.proofs.ZeroRuns.{IsRefused-not, IsRefused-same}
use Rattle.trap_model.proofs.laws.refusals.Goals as goal

pub returns-clause-none : goal.returns-clause-none
returns-clause-none c = IsRefused-not

pub returns-clause-place : goal.returns-clause-place
returns-clause-place c = IsRefused-same
