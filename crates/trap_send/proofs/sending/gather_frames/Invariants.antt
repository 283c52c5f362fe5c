use Rattle.trap_send.proofs.Gathering.{HasCome}
use Rattle.trap_send.proofs.sending.gather_frames.Given as goal

abbrev pub invariant-loop-before : goal.invariant-loop-before
invariant-loop-before g l = HasCome l.fn.array l.from l.before l.fn.outgoing.room (g.B.Bank.view l.fn.bank) (g.B.Bank.view l.bank) l.array l.outgoing
