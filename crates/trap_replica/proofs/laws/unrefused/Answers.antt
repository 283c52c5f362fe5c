use Rattle.trap_replica.proofs.MountedDisk.{holds_unrefused}
use Rattle.trap_replica.proofs.laws.unrefused.Goals as goal

pub returns : goal.returns
returns c = λ s number time image disks why holds refused. holds_unrefused s number time image disks holds why refused
