use Rattle.std.proofs.Common.{◌+◌, arith}
use Rattle.trap_block.proofs.ScanLemmas.{IsMask, zeros_between, zeros-more, mask-zeros}
use Rattle.trap_block.proofs.zeros.zeros_from.Goals as goal

pub returns-then-zeros-lt32-clause-zeros : goal.returns-then-zeros-lt32-clause-zeros
returns-then-zeros-lt32-clause-zeros c =
    let room = c.loop-end-test.true in
    let is : IsMask c.args.bytes.now c.loop-end.end c.zeros_at.result = record { inside = omega arith; bits = c.zeros_at.ensures; fits = c.zeros_at.type_inv } in
    let zeros = mask-zeros c.args.bytes.now c.loop-end.end c.zeros_at.result c.low_bits_set-zeros.result is c.low_bits_set-zeros.ensures.bound c.low_bits_set-zeros.ensures.set in
    zeros_between c.args.bytes.now c.args.at (c.loop-end.end + c.low_bits_set-zeros.result)
    (zeros-more c.args.bytes.now c.args.at c.loop-end.end c.low_bits_set-zeros.result c.loop-end.invariant zeros)

pub loop-end-preserved : goal.loop-end-preserved
loop-end-preserved c =
    let room = c.loop-end-test.true in
    let is : IsMask c.args.bytes.now c.loop-end.end c.zeros_at.result = record { inside = omega arith; bits = c.zeros_at.ensures; fits = c.zeros_at.type_inv } in
    let zeros = mask-zeros c.args.bytes.now c.loop-end.end c.zeros_at.result 32 is (omega arith)
    (λ k small. c.low_bits_set-zeros.ensures.set k (let all = c.if-zeros-lt32.false in omega arith)) in
    zeros-more c.args.bytes.now c.args.at c.loop-end.end 32 c.loop-end.invariant zeros

pub returns-clause-zeros : goal.returns-clause-zeros
returns-clause-zeros c =
    zeros_between c.args.bytes.now c.args.at (c.loop-end.end + c.zeros_one_by_one.result)
    (zeros-more c.args.bytes.now c.args.at c.loop-end.end c.zeros_one_by_one.result c.loop-end.invariant c.zeros_one_by_one.ensures.zeros)
