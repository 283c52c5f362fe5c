use Rattle.std.proofs.Common.{length, ◌-◌}
use Rattle.trap_zrun.proofs.Decoding.{IsDecoded}
use Rattle.trap_zrun.proofs.reader.decode.Given as goal

abbrev pub invariant-loop-filled : goal.invariant-loop-filled
invariant-loop-filled l = IsDecoded l.out l.bytes l.least l.filled l.at

abbrev pub decreases-loop-filled : goal.decreases-loop-filled
decreases-loop-filled l = length l.out - l.filled
