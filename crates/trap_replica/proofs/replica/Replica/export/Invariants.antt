use Rattle.trap_replica.proofs.Exported.{HasCome}
use Rattle.trap_replica.proofs.replica.Replica.export.Given as goal

abbrev pub invariant-blocks-2 : goal.invariant-blocks-2
invariant-blocks-2 g l = HasCome l.fn.self l.self l.fn.outgoing.room l.block l.outgoing l.buffer (g.B.Bank.view l.fn.bank) (g.B.Bank.view l.bank)
