use Rattle.std.proofs.Common.{◌-◌}
use Rattle.trap_zrun.proofs.Decoding.{IsChecked}
use Rattle.trap_zrun.proofs.reader.check.Given as goal

abbrev pub invariant-loop-filled : goal.invariant-loop-filled
invariant-loop-filled l = IsChecked l.size l.bytes l.least l.filled l.at

abbrev pub decreases-loop-filled : goal.decreases-loop-filled
decreases-loop-filled l = l.size - l.filled
