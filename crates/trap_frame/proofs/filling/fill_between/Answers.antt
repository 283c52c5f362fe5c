use Rattle.std.proofs.Common.{◌+◌, ◌-◌, arith}
use Rattle.std.proofs.lemmas.Slice.{drop-put_mid}
use Rattle.trap_frame.proofs.filling.fill_between.Goals as goal

pub returns-in-Err-clause-beyond : goal.returns-in-Err-clause-beyond
returns-in-Err-clause-beyond g c =
    let same = c.fill.auto.buf in
    drop-put_mid c.args.start (c.args.start + c.min-most.result - c.args.start) c.args.buf.now c.fill.new.buf c.args.end (omega arith) (omega arith) (omega arith)

pub returns-then-most-room-clause-beyond : goal.returns-then-most-room-clause-beyond
returns-then-most-room-clause-beyond g c =
    let same = c.fill.auto.buf in
    drop-put_mid c.args.start (c.args.start + c.min-most.result - c.args.start) c.args.buf.now c.fill.new.buf c.args.end (omega arith) (omega arith) (omega arith)

pub returns-clause-beyond : goal.returns-clause-beyond
returns-clause-beyond g c =
    let same = c.fill.auto.buf in
    drop-put_mid c.args.start (c.args.start + c.min-most.result - c.args.start) c.args.buf.now c.fill.new.buf c.args.end (omega arith) (omega arith) (omega arith)
