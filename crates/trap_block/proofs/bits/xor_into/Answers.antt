use Rattle.std.proofs.Common.{arith}
use Rattle.trap_block.proofs.XorLemmas.{xor_stored}
use Rattle.trap_block.proofs.bits.xor_into.Goals as goal

pub loop-dst-preserved : goal.loop-dst-preserved
loop-dst-preserved c =
    let e = c.loop-dst.auto.dst in
    let room = c.loop-dst-test.true in
    let stored = xor_stored c.loop-dst.at c.args.dst.now c.args.src.now c.loop-dst.dst c.xor32-both.result
    (omega arith) (omega arith) c.loop-dst.invariant.done c.loop-dst.invariant.still c.xor32-both.ensures in
    record { inside = stored.inside; done = stored.done; still = stored.still }
