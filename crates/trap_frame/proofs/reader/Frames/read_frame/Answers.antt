use Rattle.std.proofs.Common.{◌+◌, ◌++◌, refl, sym, ◌∙◌, ap, subst, arith, slice_range}
use Rattle.trap_model.specs.ZeroRun.{IsRefused}
use Rattle.trap_model.specs.Frame.{BeginsFrame}
use Rattle.trap_frame.proofs.Joining.{whole_header, no_header, taken_frame, begins_in, code_stops, code_cut, whole_code, code_whole, code_bad, frame_most}
use Rattle.trap_frame.proofs.reader.Frames.read_frame.Goals as goal

pub returns-in_default-clause-err : goal.returns-in_default-clause-err
returns-in_default-clause-err g c =
    let size = c.args.self.now.size in
    let first = c.in-Ok.ensures.taken in
    let len = whole_header first.0 c.in-Ok.have _ _ _ _ first.1 (λ few. omega arith) in (
      refl,
      (
        first.0,
        no_header size c.fill_part.new.self.buf.items first.0 len first.2
            (λ f begins. c.in_default.ensures.none f
            (subst (λ n. BeginsFrame n f c.as_slice.result.now) (sym c.fill_part.ensures.size) (subst (λ l. BeginsFrame size f l) (sym c.as_slice.ensures.value) begins))),
        first.1.took,
        omega (arith, len),
      ),
    )

pub returns-in-Err-fill_part-clause-err : goal.returns-in-Err-fill_part-clause-err
returns-in-Err-fill_part-clause-err g c =
    let stream = g.S.Source.stream in
    let size = c.args.self.now.size in
    let first = c.in-Ok.ensures.taken in
    let second = c.in-Err-fill_part.ensures.taken in
    let len = whole_header first.0 c.in-Ok.have _ _ _ _ first.1 (λ few. omega arith) in
    let begins = begins_in size c.fill_part.new.self.size c.in-Some.frame c.as_slice.result.now c.fill_part.new.self.buf.items c.fill_part.ensures.size
    c.as_slice.ensures.value c.in-Some.ensures.found in
    let taken = taken_frame size c.in-Some.frame c.fill_part.new.self.buf.items first.0 second.0 _ _ _ _ _ _ len first.2 begins first.1.took second.1.took in
    code_stops size c.in-Some.frame first.0 second.0 c.from-len.result _ _ _ _ _ _ _ c.in-Err-fill_part.stop taken c.from-len.ensures second.1 c.fault_of-in-Err-fill_part.ensures

pub returns-then-have-len-clause-err : goal.returns-then-have-len-clause-err
returns-then-have-len-clause-err g c =
    let size = c.args.self.now.size in
    let first = c.in-Ok.ensures.taken in
    let second = c.in-Ok-fill_part.ensures.taken in
    let len = whole_header first.0 c.in-Ok.have _ _ _ _ first.1 (λ few. omega arith) in
    let begins = begins_in size c.fill_part.new.self.size c.in-Some.frame c.as_slice.result.now c.fill_part.new.self.buf.items c.fill_part.ensures.size
    c.as_slice.ensures.value c.in-Some.ensures.found in
    let taken = taken_frame size c.in-Some.frame c.fill_part.new.self.buf.items first.0 second.0 _ _ _ _ _ _ len first.2 begins first.1.took second.1.took in
    code_cut size c.in-Some.frame first.0 second.0 c.from-len.result c.in-Ok-fill_part.have _ _ _ _ _ _ taken c.from-len.ensures second.1 c.if-have-len.true

pub returns-in-Ok-decode-clause-ok : goal.returns-in-Ok-decode-clause-ok
returns-in-Ok-decode-clause-ok g c =
    let size = c.args.self.now.size in
    let first = c.in-Ok.ensures.taken in
    let second = c.in-Ok-fill_part.ensures.taken in
    let len = whole_header first.0 c.in-Ok.have _ _ _ _ first.1 (λ few. omega arith) in
    let begins = begins_in size c.fill_part.new.self.size c.in-Some.frame c.as_slice.result.now c.fill_part.new.self.buf.items c.fill_part.ensures.size
    c.as_slice.ensures.value c.in-Some.ensures.found in
    let taken = taken_frame size c.in-Some.frame c.fill_part.new.self.buf.items first.0 second.0 _ _ _ _ _ _ len first.2 begins first.1.took second.1.took in
    let code = whole_code second.0 c.fill_part-2.new.self.buf.items c.code_in.result.now c.from-len.result c.in-Ok-fill_part.have _ _ _ _ second.1 (λ few. omega arith) second.2
    (c.code_in.ensures ∙ ap (λ l. slice_range l 34 (34 + c.from-len.result)) c.as_slice-2.ensures.value) in (
      first.0 ++ second.0,
      code_whole size c.in-Some.frame first.0 second.0 c.decode.new.out c.code_in.result.now c.from-len.result _ _ _ _ _ taken c.from-len.ensures
          code.0 code.1 (omega arith) c.in-Ok-decode.ensures.decoded,
      taken.took,
    )

pub returns-in-Err-decode-clause-err : goal.returns-in-Err-decode-clause-err
returns-in-Err-decode-clause-err g c =
    let size = c.args.self.now.size in
    let first = c.in-Ok.ensures.taken in
    let second = c.in-Ok-fill_part.ensures.taken in
    let len = whole_header first.0 c.in-Ok.have _ _ _ _ first.1 (λ few. omega arith) in
    let begins = begins_in size c.fill_part.new.self.size c.in-Some.frame c.as_slice.result.now c.fill_part.new.self.buf.items c.fill_part.ensures.size
    c.as_slice.ensures.value c.in-Some.ensures.found in
    let taken = taken_frame size c.in-Some.frame c.fill_part.new.self.buf.items first.0 second.0 _ _ _ _ _ _ len first.2 begins first.1.took second.1.took in
    let code = whole_code second.0 c.fill_part-2.new.self.buf.items c.code_in.result.now c.from-len.result c.in-Ok-fill_part.have _ _ _ _ second.1 (λ few. omega arith) second.2
    (c.code_in.ensures ∙ ap (λ l. slice_range l 34 (34 + c.from-len.result)) c.as_slice-2.ensures.value) in
    let refused = subst (λ n. IsRefused n c.code_in.result.now c.in-Err-decode.field-0.at) c.requires.sized c.in-Err-decode.ensures.refused in (
      refl,
      (
        first.0 ++ second.0,
        code_bad size c.in-Some.frame first.0 second.0 c.code_in.result.now c.from-len.result c.in-Err-decode.field-0.at _ _ _ _ _
            c.args.self.now.small taken c.from-len.ensures code.0 code.1 refused,
        taken.took,
        frame_most size c.in-Some.frame first.0 second.0 c.from-len.result _ _ _ _ _ taken c.from-len.ensures code.0,
      ),
    )
