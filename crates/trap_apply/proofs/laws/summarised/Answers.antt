use Rattle.trap_apply.proofs.Summaries.{summarised}
use Rattle.trap_apply.proofs.laws.summarised.Goals as goal

pub returns : goal.returns
returns c = summarised
