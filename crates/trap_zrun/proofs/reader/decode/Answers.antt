use Rattle.std.proofs.Common.{ℕ, [], length, refl, sym, ◌∙◌, subst, arith, rules}
use Rattle.trap_model.specs.ZeroRun.{IsRefused}
use Rattle.trap_model.proofs.ZeroRuns.{segment, ZeroRun-apart, IsRefused-not}
use Rattle.trap_zrun.proofs.Decoding.{decoded-more, decoded_stops, decoded_long, decoded_done, refused_there}
use Rattle.trap_zrun.proofs.reader.decode.Goals as goal

-- no segment follows
stopped : (c : goal.After-from_residual) → IsRefused (length c.args.out.now) c.args.bytes.now c.in_err-zeros.field-0.0.at
stopped c =
    subst (λ (n : ℕ). IsRefused n c.args.bytes.now c.in_err-zeros.field-0.0.at) c.loop-filled.auto.out
    (refused_there (length c.loop-filled.out) c.args.bytes.now c.loop-filled.at c.in_err-zeros.field-0.0.at c.in_err-zeros.ensures.none.0
    (decoded_stops c.loop-filled.out c.args.bytes.now c.loop-filled.least c.loop-filled.filled c.loop-filled.at c.loop-filled.invariant c.loop-filled-test.true c.in_err-zeros.ensures.none.1))

pub returns-in_err-zeros-clause-refused : goal.returns-in_err-zeros-clause-refused
returns-in_err-zeros-clause-refused c = let refused = stopped c in let e = c.from_residual.ensures.1 in search rules

pub returns-in_err-zeros-clause-only : goal.returns-in_err-zeros-clause-only
returns-in_err-zeros-clause-only c = λ block size run.
    absurd (IsRefused-not (length c.args.out.now) c.args.bytes.now block c.in_err-zeros.field-0.0.at c.requires (stopped c) size run)

pub loop-filled-preserved : goal.loop-filled-preserved
loop-filled-preserved c =
    let p = c.put_contents-filled in
    decoded-more c.loop-filled.out p.new.out c.args.bytes.now c.loop-filled.least c.loop-filled.filled c.loop-filled.at p.result
    (segment c.in_ok-zeros.zeros c.in_ok-zeros.literal.now) c.loop-filled.invariant c.in_ok-zeros.ensures.found (omega arith) p.ensures.end p.ensures.so_far

-- bytes follow the last segment
longer : (c : goal.After-from_residual-in_err-end_at) → IsRefused (length c.args.out.now) c.args.bytes.now c.in_err-end_at.field-0.0.at
longer c =
    subst (λ (n : ℕ). IsRefused n c.args.bytes.now c.in_err-end_at.field-0.0.at) c.loop-filled.auto.out
    (refused_there (length c.loop-filled.out) c.args.bytes.now c.loop-filled.at c.in_err-end_at.field-0.0.at c.in_err-end_at.ensures.more.0
    (decoded_long c.loop-filled.out c.args.bytes.now c.loop-filled.least c.loop-filled.filled c.loop-filled.at c.loop-filled.invariant c.loop-filled-test.false c.in_err-end_at.ensures.more.1))

pub returns-in_err-end_at-clause-refused : goal.returns-in_err-end_at-clause-refused
returns-in_err-end_at-clause-refused c = let refused = longer c in let e = c.from_residual-in_err-end_at.ensures.1 in search rules

pub returns-in_err-end_at-clause-only : goal.returns-in_err-end_at-clause-only
returns-in_err-end_at-clause-only c = λ block size run.
    absurd (IsRefused-not (length c.args.out.now) c.args.bytes.now block c.in_err-end_at.field-0.0.at c.requires (longer c) size run)

pub returns-clause-decoded : goal.returns-clause-decoded
returns-clause-decoded c =
    decoded_done c.loop-filled.out c.args.bytes.now c.loop-filled.least c.loop-filled.filled c.loop-filled.at c.loop-filled.invariant c.loop-filled-test.false c.in_ok-end_at.ensures.end

pub returns-clause-only : goal.returns-clause-only
returns-clause-only c = λ block size run. (
  refl,
  (ZeroRun-apart c.loop-filled.out block c.args.bytes.now c.args.bytes.now [] [] (c.loop-filled.auto.out ∙ sym size)
      (let e = c.loop-filled.auto.out in omega arith) (returns-clause-decoded c) run refl).0,
)
