use Rattle.trap_bank.specs.Memory.{view_of}
use Rattle.trap_replica.specs.Mounted.{IsUsable}
use Rattle.trap_replica.proofs.tests.refusals_come_in_their_order.Given as goal

abbrev pub invariant-loop-id : goal.invariant-loop-id
invariant-loop-id g l = IsUsable l.replica (view_of l.bank)
