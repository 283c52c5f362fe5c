use Rattle.std.proofs.Common.{arith, Err, ap, refl, sym, ◌∙◌}
use Rattle.std.proofs.lemmas.Result.{err_from_is_err_and}
use Rattle.hex.proofs.Pairs.{decode_step, decode_done, decode_err, decode_sized-pairs}
use Rattle.trap_script.proofs.digits.decode_to_slice.Goals as goal

pub returns-in_err-block : goal.returns-in_err-block
returns-in_err-block c =
    let p = err_from_is_err_and c.from_residual.result c.from_residual.ensures.1 in
    let was = sym c.byte_of.ensures ∙ c.in_err-block.was in
    let d = decode_sized-pairs _ _ c.if-digits-ne0.false c.if-digits-block.false ∙ decode_err _ c.loop-i.block c.loop-i.i _ (omega arith) was c.loop-i.invariant in
    rw d (p.1 ∙ ap Err p.2)

pub loop-i-preserved : goal.loop-i-preserved
loop-i-preserved c =
    decode_step _ _ c.loop-i.i _ (omega arith) (omega arith) (sym c.byte_of.ensures ∙ c.in_ok-block.was) c.loop-i.invariant

pub returns : goal.returns
returns c =
    let d = decode_sized-pairs _ _ c.if-digits-ne0.false c.if-digits-block.false ∙ decode_done _ c.loop-i.block c.loop-i.i (omega arith) (omega arith) c.loop-i.invariant in
    rw d (refl, refl)
