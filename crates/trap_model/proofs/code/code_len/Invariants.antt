use Rattle.trap_model.proofs.RunLemmas.{Reached}
use Rattle.trap_model.proofs.code.code_len.Given as goal

abbrev pub invariant-loop-i : goal.invariant-loop-i
invariant-loop-i l = Reached l.run l.bytes l.i
