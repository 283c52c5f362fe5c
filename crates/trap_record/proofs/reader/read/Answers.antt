use Rattle.std.proofs.Common.{refl, inr}
use Rattle.trap_record.proofs.Getting.{read_plain, read_marked, read_bad}
use Rattle.trap_record.proofs.reader.read.Goals as goal

pub returns-then-not-rec : goal.returns-then-not-rec
returns-then-not-rec c =
    read_plain c.args.size c.from-parity_end.result c.from.result c.in-Some.rec c.args.bytes.now c.from-parity_end.ensures c.from.ensures
    c.in-Some.ensures.found c.if-bytes-used.false c.if-not-rec.true (c.in_default-check.ensures.spelled.0 refl)

pub returns-in-Err-check : goal.returns-in-Err-check
returns-in-Err-check c = inr (inr
    (read_bad c.args.size c.from-parity_end.result c.from.result c.in-Err-check.bad.at c.in-Some.rec c.args.bytes.now c.from-parity_end.ensures c.from.ensures
    c.in-Some.ensures.found c.if-bytes-used.false c.if-not-rec.false (c.in_default-check.ensures.spelled.0 refl) c.in-Err-check.ensures.refused))

pub returns-in-Ok : goal.returns-in-Ok
returns-in-Ok c =
    read_marked c.args.size c.from-parity_end.result c.from.result c.in-Some.rec c.args.bytes.now c.from-parity_end.ensures c.from.ensures
    c.in-Some.ensures.found c.if-bytes-used.false c.if-not-rec.false (c.in_default-check.ensures.spelled.0 refl) (c.in-Ok.ensures.spelled.0 refl)
