use Rattle.std.proofs.Common.{refl, rules}
use Rattle.trap_model.specs.ZeroRun.{IsRefused}
use Rattle.trap_model.proofs.ZeroRuns.{segment}
use Rattle.trap_zrun.proofs.Decoding.{checked-more, checked_stops, checked_long, checked_done, refused_there, no-code}
use Rattle.trap_zrun.proofs.reader.check.Goals as goal

-- no segment follows
stopped : (c : goal.After-from_residual) → IsRefused c.args.size c.args.bytes.now c.in_err-zeros.field-0.0.at
stopped c =
    refused_there c.args.size c.args.bytes.now c.loop-filled.at c.in_err-zeros.field-0.0.at c.in_err-zeros.ensures.none.0
    (checked_stops c.args.size c.args.bytes.now c.loop-filled.least c.loop-filled.filled c.loop-filled.at c.loop-filled.invariant c.loop-filled-test.true c.in_err-zeros.ensures.none.1)

pub returns-in_err-zeros-clause-refused : goal.returns-in_err-zeros-clause-refused
returns-in_err-zeros-clause-refused c = let refused = stopped c in let e = c.from_residual.ensures.1 in search rules

pub returns-in_err-zeros-clause-spelled : goal.returns-in_err-zeros-clause-spelled
returns-in_err-zeros-clause-spelled c =
    no-code c.from_residual.result c.args.size c.args.bytes.now c.in_err-zeros.field-0.0.at c.from_residual.ensures.0 c.requires (stopped c)

pub loop-filled-preserved : goal.loop-filled-preserved
loop-filled-preserved c =
    checked-more c.args.size c.args.bytes.now c.loop-filled.least c.loop-filled.filled c.loop-filled.at _ (segment c.in_ok-zeros.zeros c.in_ok-zeros.literal.now)
    c.loop-filled.invariant c.in_ok-zeros.ensures.found refl

-- bytes follow the last segment
longer : (c : goal.After-from_residual-in_err-end_at) → IsRefused c.args.size c.args.bytes.now c.in_err-end_at.field-0.0.at
longer c =
    refused_there c.args.size c.args.bytes.now c.loop-filled.at c.in_err-end_at.field-0.0.at c.in_err-end_at.ensures.more.0
    (checked_long c.args.size c.args.bytes.now c.loop-filled.least c.loop-filled.filled c.loop-filled.at c.loop-filled.invariant c.loop-filled-test.false c.in_err-end_at.ensures.more.1)

pub returns-in_err-end_at-clause-refused : goal.returns-in_err-end_at-clause-refused
returns-in_err-end_at-clause-refused c = let refused = longer c in let e = c.from_residual-in_err-end_at.ensures.1 in search rules

pub returns-in_err-end_at-clause-spelled : goal.returns-in_err-end_at-clause-spelled
returns-in_err-end_at-clause-spelled c =
    no-code c.from_residual-in_err-end_at.result c.args.size c.args.bytes.now c.in_err-end_at.field-0.0.at c.from_residual-in_err-end_at.ensures.0 c.requires (longer c)

pub returns-clause-spelled : goal.returns-clause-spelled
returns-clause-spelled c = (
  λ _. checked_done c.args.size c.args.bytes.now c.loop-filled.least c.loop-filled.filled c.loop-filled.at c.loop-filled.invariant c.loop-filled-test.false c.in_ok-end_at.ensures.end,
  λ _. refl,
)
