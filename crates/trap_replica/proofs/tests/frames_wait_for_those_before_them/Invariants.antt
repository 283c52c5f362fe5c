use Rattle.trap_bank.specs.Memory.{view_of}
use Rattle.trap_replica.specs.Mounted.{IsUsable}
use Rattle.trap_replica.proofs.tests.frames_wait_for_those_before_them.Given as goal

abbrev pub invariant-loop-seq : goal.invariant-loop-seq
invariant-loop-seq g l = IsUsable l.replica (view_of l.bank)
