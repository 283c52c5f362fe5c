use Rattle.std.proofs.Common.{arith, eqb-true, eq-eqb}
use Rattle.trap_zrun.proofs.Scanning.{literal_by, literal_whole}
use Rattle.trap_zrun.proofs.reader.is_literal.Goals as goal

pub returns : goal.returns
returns c = (
  λ whole. literal_by c.args.bytes.now c.args.len c.four_zeros_before.result c.requires.some c.requires.inside (omega arith) (omega arith)
      c.four_zeros_before.ensures.first
      (eqb-true c.four_zeros_before.result c.args.len whole),
  λ is. eq-eqb c.four_zeros_before.result c.args.len
      (literal_whole c.args.bytes.now c.args.len c.four_zeros_before.result c.requires.inside c.four_zeros_before.ensures.within
      c.four_zeros_before.ensures.found is),
)
