use Rattle.std.proofs.Common.{ℕ, ◌+◌, ◌-◌, List, length, take, drop, refl, ◌∙◌, ap, arith}
use borrow.Rule.Slice.PartMut.{put_mid}
use Rattle.trap_model.specs.LogRecord.{header}
use Rattle.trap_record.proofs.Putting.{codes-put, record-put}
use Rattle.trap_record.proofs.writer.spell.Goals as goal

pub returns-clause-spelled : goal.returns-clause-spelled
returns-clause-spelled c =
    let p = c.args.parity.now in
    let s = c.args.snapshot.now in
    let out = c.put_header.new.out in
    let k = 26 + length p - 26 in
    let m = 26 + length p + length s - (26 + length p) in
    ap (λ (l : List ℕ). take (26 + length p + length s) (put_mid (26 + length p) m (put_mid 26 k out l) c.copy_from_slice-2.new.self)) c.copy_from_slice.ensures.after
    ∙ ap (λ (l : List ℕ). take (26 + length p + length s) (put_mid (26 + length p) m (put_mid 26 k out p) l)) c.copy_from_slice-2.ensures.after
    ∙ codes-put out (header c.args.rec.now) (drop 26 c.args.out.now) p s k m c.put_header.ensures.spelled refl (omega arith)

pub returns-clause-whole : goal.returns-clause-whole
returns-clause-whole c = λ size some first last parity snapshot.
    record-put size c.args.rec.now c.args.parity.now c.args.snapshot.now _ some first last c.put_header.ensures.time c.put_header.ensures.block
    c.requires.parity c.requires.snapshot parity snapshot (returns-clause-spelled c)
