use Rattle.std.proofs.Common.{◌≡◌, replicate, None}
use Rattle.trap_bank.proofs.memory.MemoryBank.new.Given as goal

abbrev pub invariant-loop-d : goal.invariant-loop-d
invariant-loop-d l = l.disks.items ≡ replicate l.d None
