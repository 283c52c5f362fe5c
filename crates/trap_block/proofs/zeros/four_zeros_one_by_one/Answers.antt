use Rattle.std.proofs.Common.{arith}
use Rattle.trap_block.proofs.ScanLemmas.{apart-more}
use Rattle.trap_block.proofs.zeros.four_zeros_one_by_one.Goals as goal

pub loop-place-preserved : goal.loop-place-preserved
loop-place-preserved c =
    let inside = c.zeros_one_by_one-zeros.ensures.zeros.inside in (
      omega arith,
      apart-more c.args.bytes.now c.args.at c.loop-place.place c.zeros_one_by_one-zeros.result c.loop-place.invariant.1
          c.zeros_one_by_one-zeros.ensures.zeros (omega arith) c.zeros_one_by_one-zeros.ensures.end,
    )

pub returns-clause-first : goal.returns-clause-first
returns-clause-first c = λ place from below. c.loop-place.invariant.1.none place from (omega arith)
