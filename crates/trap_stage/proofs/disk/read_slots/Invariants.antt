use Rattle.trap_stage.proofs.Mounts.{ReadsTo}
use Rattle.trap_stage.proofs.disk.read_slots.Given as goal

abbrev pub invariant-loop-older : goal.invariant-loop-older
invariant-loop-older g l = ReadsTo l.g l.drained l.older (g.B.Bank.view l.fn.bank) (g.B.Bank.view l.bank) l.slots
