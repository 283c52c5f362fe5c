use Rattle.trap_record.proofs.Getting.{one_reading}
use Rattle.trap_record.proofs.laws.one_answer.Goals as goal

pub returns : goal.returns
returns c = one_reading
