use Rattle.std.proofs.Common.{length, eqb-true, eq-eqb}
use Rattle.trap_block.proofs.ZeroLemmas.{zero_all, zero_whole}
use Rattle.trap_block.proofs.bits.is_zero.Goals as goal

pub returns : goal.returns
returns c = (
  λ whole. zero_all c.args.bytes.now c.zeros_from.result (eqb-true c.zeros_from.result (length c.args.bytes.now) whole) c.zeros_from.ensures.zeros,
  λ is. eq-eqb c.zeros_from.result (length c.args.bytes.now) (zero_whole c.args.bytes.now c.zeros_from.result is c.zeros_from.ensures.zeros c.zeros_from.ensures.end),
)
