use Rattle.std.proofs.Common.{◌≡◌, None}
use Rattle.trap_model.specs.Frame.{Sent}
use Rattle.trap_replica.specs.Mounted.{frame_refusal}
use Rattle.trap_apply.proofs.Stepped.{found_sent, not_refused, fits_here, leaves_one, received_one, refuses}
use Rattle.trap_apply.proofs.stepping.take_next.Goals as goal

pub returns-in-Ok-clause-next : goal.returns-in-Ok-clause-next
returns-in-Ok-clause-next g c =
    let a = c.args.replica.now in
    let b = c.take.new.self in
    let old = g.B.Bank.view c.args.bank.now in
    let new = g.B.Bank.view c.take.new.bank in
    let sent : Sent = record { frame = c.in-Ok-Frame.frame; parity = c.next.new.parity } in
    let found = found_sent c.args.frames.now.size a.store.shape.block c.args.frames.now.used c.next.new.self.used c.in-Ok-Frame.field-0 c.in-Ok-Frame.frame c.next.new.parity
    (g.S.Source.stream c.args.source.now)
    (g.S.Source.stream c.next.new.source) c.requires.size c.in-Ok-Frame.field-0-is c.in-Ok-Frame.ensures.ok in
    let none : frame_refusal a sent.frame ≡ None = not_refused (frame_refusal a sent.frame) (λ why is. absurd (let err = (c.take.ensures.refused why is).0 in cc)) in (
      sent,
      found,
      record {
        fits = fits_here a sent.frame none;
        answer = c.in-Ok.ensures.answer;
        received = received_one a b sent old new c.take.ensures.any_moment (c.in-Ok.ensures.cause none).stops c.in-Ok.ensures.ok;
      },
    )

pub returns-in-Err-take-clause-next : goal.returns-in-Err-take-clause-next
returns-in-Err-take-clause-next g c =
    let a = c.args.replica.now in
    let b = c.take.new.self in
    let old = g.B.Bank.view c.args.bank.now in
    let new = g.B.Bank.view c.take.new.bank in
    let sent : Sent = record { frame = c.in-Ok-Frame.frame; parity = c.next.new.parity } in
    let found = found_sent c.args.frames.now.size a.store.shape.block c.args.frames.now.used c.next.new.self.used c.in-Ok-Frame.field-0 c.in-Ok-Frame.frame c.next.new.parity
    (g.S.Source.stream c.args.source.now)
    (g.S.Source.stream c.next.new.source) c.requires.size c.in-Ok-Frame.field-0-is c.in-Ok-Frame.ensures.ok in (
      sent,
      found,
      refuses g.B.Bank.view a b sent c.args.bank.now c.take.new.bank c.in-Err-take.why c.requires.running
          (λ w is. let all = c.take.ensures.refused w is in ((let err = all.0 in cc), all.1, all.2))
          (λ none. (c.in-Err-take.ensures.cause none).cause)
          (λ none. (c.in-Err-take.ensures.cause none).stops)
          (λ none. (c.in-Err-take.ensures.cause none).most)
          (leaves_one a b sent old new c.take.ensures.any_moment),
    )
