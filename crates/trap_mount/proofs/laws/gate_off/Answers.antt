use Rattle.trap_mount.proofs.LogGate.{off_no_array}
use Rattle.trap_mount.proofs.laws.gate_off.Goals as goal

pub returns : goal.returns
returns c = off_no_array
