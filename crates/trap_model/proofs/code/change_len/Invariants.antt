use Rattle.trap_block.specs.Xor.{xor}
use Rattle.trap_model.proofs.RunLemmas.{Reached}
use Rattle.trap_model.proofs.code.change_len.Given as goal

abbrev pub invariant-loop-i : goal.invariant-loop-i
invariant-loop-i l = Reached l.run (xor l.old l.fresh) l.i
