use Rattle.std.proofs.Common.{◌≡◌, ◌+◌, ◌++◌, length, take, drop, arith, ◌∙◌, length-append}
use Rattle.trap_bank.proofs.Filled.{counts_then, counts_piece, piece_there}
use Rattle.trap_bank.proofs.filling.fill.Goals as goal

pub pieces-preserved : goal.pieces-preserved
pieces-preserved g c =
    let stream = g.S.Source.stream in
    let inv = c.pieces.invariant in
    let front = inv.0 in
    let count = c.in_ok-count.count in
    let old = c.pieces.buf in
    let new = c.take_piece.new.buf in
    let same : length new ≡ length old = omega arith in
    let bound = c.in_ok-count.ensures.bound in
    let piece = take count (drop c.pieces.at new) in
    let there = piece_there front old new c.pieces.at count inv.2 inv.3 c.take_piece.ensures.front (omega (arith, bound, same)) in
    let step = counts_piece piece c.pieces.used count (stream c.pieces.source) (stream c.take_piece.new.source) c.in_ok-count.ensures.ok there.0 c.take_piece.ensures.faults in (
      front ++ piece,
      counts_then front piece c.args.used.now c.pieces.used (c.pieces.used + count) (stream c.args.source.now) (stream c.pieces.source) (stream c.take_piece.new.source) inv.1 step,
      there.1,
      length-append front piece ∙ omega (arith, there.0, inv.3),
      omega (arith, bound, same),
    )
