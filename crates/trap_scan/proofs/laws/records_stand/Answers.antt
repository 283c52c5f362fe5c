use Rattle.trap_scan.proofs.Standing as law
use Rattle.trap_scan.proofs.laws.records_stand.Goals as goal

pub returns : goal.returns
returns c = law.records_stand
