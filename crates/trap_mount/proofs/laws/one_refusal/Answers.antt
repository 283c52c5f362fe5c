use Rattle.trap_mount.proofs.OneRefusal as law
use Rattle.trap_mount.proofs.laws.one_refusal.Goals as goal

pub returns : goal.returns
returns c = record { one = law.one; none = law.none }
