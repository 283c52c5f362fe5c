use Rattle.std.proofs.Common.{ℕ, ◌+◌, ◌-◌, List, length, take, drop, refl, ◌∙◌, ap, arith}
use borrow.Rule.Slice.PartMut.{put_mid}
use Rattle.trap_model.specs.Frame.{frame_header}
use Rattle.trap_frame.proofs.Headers.{code-put, frame-put}
use Rattle.trap_frame.proofs.writer.spell.Goals as goal

pub returns-clause-spelled : goal.returns-clause-spelled
returns-clause-spelled c =
    let p = c.args.coded.now in
    let out = c.put_header.new.out in
    let k = 34 + length p - 34 in
    ap (λ (l : List ℕ). take (34 + length p) (put_mid 34 k out l)) c.copy_from_slice.ensures.after
    ∙ code-put out (frame_header c.args.frame.now) (drop 34 c.args.out.now) p k c.put_header.ensures.spelled refl (omega arith)

pub returns-clause-whole : goal.returns-clause-whole
returns-clause-whole c = λ size parity some sized first last coded.
    frame-put c.args.frame.now c.args.coded.now _ size parity c.put_header.ensures.id c.put_header.ensures.time c.put_header.ensures.block c.requires.coded
    (returns-clause-spelled c) some sized first last coded
