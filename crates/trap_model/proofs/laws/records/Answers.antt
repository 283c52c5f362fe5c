use Rattle.trap_model.proofs.AnySizes.{records_apart}
use Rattle.trap_model.proofs.laws.records.Goals as goal

pub returns : goal.returns
returns c = records_apart
