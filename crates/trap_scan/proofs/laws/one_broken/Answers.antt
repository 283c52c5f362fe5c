use Rattle.trap_scan.proofs.ChainLaws as law
use Rattle.trap_scan.proofs.laws.one_broken.Goals as goal

pub returns : goal.returns
returns c = record { one = law.one_broken; none = law.right_unbroken }
