use Rattle.trap_record.proofs.Getting.{read_again}
use Rattle.trap_record.proofs.laws.read_again.Goals as goal

pub returns : goal.returns
returns c = read_again
