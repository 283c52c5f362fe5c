use Rattle.trap_cli.proofs.Listings.{HasCome}
use Rattle.trap_cli.proofs.history.say_lines.Given as goal

abbrev pub invariant-loop-before : goal.invariant-loop-before
invariant-loop-before g l = HasCome l.fn.array (g.B.Bank.view l.fn.bank) (g.B.Bank.view l.bank) l.before l.piece l.len
