use Rattle.std.proofs.Common.{◌≡◌, ◌≢◌, ◌-◌, length, get_or, sym, arith, ◌∙◌}
use Rattle.std.proofs.lemmas.Grind.{common_steps}
use Rattle.trap_block.specs.Xor.{xor}
use Rattle.trap_block.proofs.XorLemmas.{length-xor, get_or-xor}
use Rattle.trap_model.proofs.SameBytes.{xor_same, same_from_xor}
use Rattle.trap_model.proofs.RunLemmas.{segments_zero, segments_byte}
use Rattle.trap_model.proofs.code.change_len.Goals as goal

pub loop-i-init : goal.loop-i-init
loop-i-init c = let long = length-xor c.args.old.now c.args.fresh.now (sym c.requires.same_size) in grind (arith, common_steps)

pub zero_before-run-requires : goal.zero_before-run-requires
zero_before-run-requires c = omega (arith, length-xor c.args.old.now c.args.fresh.now (sym c.requires.same_size))

pub byte_before-run-requires : goal.byte_before-run-requires
byte_before-run-requires c = omega (arith, length-xor c.args.old.now c.args.fresh.now (sym c.requires.same_size))

pub loop-i-preserved-then-old-i : goal.loop-i-preserved-then-old-i
loop-i-preserved-then-old-i c =
    let long : length (xor c.args.old.now c.args.fresh.now) ≡ length c.args.old.now = length-xor c.args.old.now c.args.fresh.now (sym c.requires.same_size) in
    let byte : get_or (xor c.args.old.now c.args.fresh.now) (c.loop-i.i - 1) 0 ≡ 0 =
    get_or-xor c.args.old.now c.args.fresh.now (c.loop-i.i - 1) (sym c.requires.same_size) ∙ xor_same _ _ c.if-old-i.true in
    record {
      is = rw (segments_zero (xor c.args.old.now c.args.fresh.now) c.loop-i.i (omega arith) (omega arith) byte) (c.zero_before-run.ensures.segments _ c.loop-i.invariant.is);
      zeros = omega arith;
      len = omega arith;
    }

pub loop-i-preserved : goal.loop-i-preserved
loop-i-preserved c =
    let long : length (xor c.args.old.now c.args.fresh.now) ≡ length c.args.old.now = length-xor c.args.old.now c.args.fresh.now (sym c.requires.same_size) in
    let byte : get_or (xor c.args.old.now c.args.fresh.now) (c.loop-i.i - 1) 0 ≢ 0 =
    λ e. c.if-old-i.false (same_from_xor _ _ (sym (get_or-xor c.args.old.now c.args.fresh.now (c.loop-i.i - 1) (sym c.requires.same_size)) ∙ e)) in
    record {
      is = rw (segments_byte (xor c.args.old.now c.args.fresh.now) c.loop-i.i (omega arith) (omega arith) byte) (c.byte_before-run.ensures.segments _ _ c.loop-i.invariant.is);
      zeros = omega arith;
      len = omega arith;
    }

pub returns-clause-bound : goal.returns-clause-bound
returns-clause-bound c = omega (arith, length-xor c.args.old.now c.args.fresh.now (sym c.requires.same_size))
