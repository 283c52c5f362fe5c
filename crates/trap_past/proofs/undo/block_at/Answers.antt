use Rattle.std.proofs.Common.{arith}
use Rattle.trap_past.proofs.Later.{later}
use Rattle.trap_past.proofs.Leased.{only_both, xored}
use Rattle.trap_past.proofs.Tracing.{trace_begins, trace_retained, trace_retained_in, trace_counts, trace_falls, trace_faulty, trace_goes_on, trace_turns, trace_at_most, trace_ends}
use Rattle.trap_past.proofs.undo.block_at.Goals as goal

pub loop-number-init : goal.loop-number-init
loop-number-init g c = (
  trace_begins _ _ _ _ _ _ _ c.requires.index c.present.ensures.told c.requires.instant.high c.newest-number.ensures.newest
      c.present.ensures.call c.present.ensures.blame.cause.later c.in_ok-present.ensures.present,
  c.present.ensures.acts,
  c.present.ensures.rest,
)

pub parity-requires-clause-retained : goal.parity-requires-clause-retained
parity-requires-clause-retained g c =
    let at = trace_retained_in _ _ _ _ _ _ _ c.newest-number.ensures.indexed c.loop-number.invariant.0 c.requires.index (omega arith) in
    record { low = at.0; high = at.1 }

pub parity-requires-clause-few : goal.parity-requires-clause-few
parity-requires-clause-few g c =
    trace_counts _ _ _ _ _ _ _ c.newest-number.ensures.indexed c.loop-number.invariant.0 c.requires.few.parities

pub returns-in_err-parity-clause-at_most : goal.returns-in_err-parity-clause-at_most
returns-in_err-parity-clause-at_most g c =
    trace_faulty _ _ _ _ _ _ _ c.newest-number.ensures.indexed c.loop-number.invariant.0 _ c.requires.index c.requires.instant.low (omega arith) c.parity.ensures.call

pub previous-number-requires-clause-low : goal.previous-number-requires-clause-low
previous-number-requires-clause-low g c =
    (trace_retained _ _ _ _ _ _ _ c.newest-number.ensures.indexed c.loop-number.invariant.0 (omega arith)).0

pub previous-number-requires-clause-high : goal.previous-number-requires-clause-high
previous-number-requires-clause-high g c =
    (trace_retained _ _ _ _ _ _ _ c.newest-number.ensures.indexed c.loop-number.invariant.0 (omega arith)).1

pub loop-number-smaller : goal.loop-number-smaller
loop-number-smaller g c =
    trace_falls _ _ _ _ _ _ _ c.newest-number.ensures.indexed c.loop-number.invariant.0 _ (omega arith) c.previous-number.ensures

pub loop-number-preserved : goal.loop-number-preserved
loop-number-preserved g c = (
  trace_goes_on _ _ _ _ _ _ _ c.newest-number.ensures.indexed c.loop-number.invariant.0 _ _ _ _ c.requires.index c.present.ensures.told c.requires.instant.block
      (omega arith) c.previous-number.ensures c.parity.ensures.call c.parity.ensures.blame.cause.later c.in_ok-parity.ensures.parity
      (xored _ _ _ _ _ _ c.requires.leases c.loop-number.invariant.2 c.parity.ensures.rest c.xor.ensures.xor),
  g.met.P.Present.acts_then _ _ _ c.loop-number.invariant.1 c.parity.ensures.acts,
  only_both _ _ _ _ _ _ c.loop-number.invariant.2 c.parity.ensures.rest c.xor.ensures.rest,
)

pub returns-clause-contents : goal.returns-clause-contents
returns-clause-contents g c =
    trace_ends _ _ _ _ _ _ _ c.newest-number.ensures.indexed c.loop-number.invariant.0 c.requires.index c.present.ensures.told c.requires.instant.low (omega arith)

pub returns-clause-turns : goal.returns-clause-turns
returns-clause-turns g c =
    trace_turns _ _ _ _ _ _ _ c.newest-number.ensures.indexed c.loop-number.invariant.0 c.requires.index c.requires.instant.low (omega arith)

pub returns-clause-at_most : goal.returns-clause-at_most
returns-clause-at_most g c =
    trace_at_most _ _ _ _ _ _ _ c.newest-number.ensures.indexed c.loop-number.invariant.0 c.requires.index c.requires.instant.low (omega arith)

pub returns-in_err-present-clause-later : goal.returns-in_err-present-clause-later
returns-in_err-present-clause-later g c k few =
    let first = c.requires.index.first in
    let low = c.requires.instant.low in
    later c.args.index.now c.args.block c.args.seq c.newest-number.ensures.indexed (omega arith) k few

pub returns-in_err-parity-clause-later : goal.returns-in_err-parity-clause-later
returns-in_err-parity-clause-later g c k few =
    let first = c.requires.index.first in
    let low = c.requires.instant.low in
    later c.args.index.now c.args.block c.args.seq c.newest-number.ensures.indexed (omega arith) k few

pub returns-clause-later : goal.returns-clause-later
returns-clause-later g c k few =
    let first = c.requires.index.first in
    let low = c.requires.instant.low in
    later c.args.index.now c.args.block c.args.seq c.newest-number.ensures.indexed (omega arith) k few
