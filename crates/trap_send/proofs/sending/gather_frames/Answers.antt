use Rattle.std.proofs.Common.{◌≡◌, ◌-◌, sym, ap, ◌∙◌, arith}
use Rattle.trap_array.specs.declared.span.Span.{Span}
use Rattle.trap_index.specs.Indexed.{last_seq}
use Rattle.trap_send.proofs.Gathering.{come_first, come_more, come_failed, come_stops, come_all, pieces_failed, pieces_all}
use Rattle.trap_send.proofs.sending.gather_frames.Goals as goal

pub loop-before-init : goal.loop-before-init
loop-before-init g c = come_first c.args.array.now c.args.from (g.B.Bank.view c.args.bank.now) c.args.outgoing.now c.requires.empty c.requires.ready

pub returns-in-Err-clause-steps : goal.returns-in-Err-clause-steps
returns-in-Err-clause-steps g c =
    let view = g.B.Bank.view in
    let ends : last_seq c.args.array.now.index ≡ c.span-last.result.last = c.requires.last ∙ sym (ap (λ (span : Span). span.last) c.span-last.ensures.head) in
    come_failed c.args.array.now c.args.from c.loop-before.before c.args.outgoing.now.room (view c.args.bank.now) (view c.loop-before.bank) (view c.put_frame.new.bank)
    c.loop-before.array c.loop-before.outgoing (omega arith) (omega arith) c.loop-before.invariant c.in-Err.ensures.steps

pub returns-in-Err-clause-cause : goal.returns-in-Err-clause-cause
returns-in-Err-clause-cause g c =
    let view = g.B.Bank.view in
    let ends : last_seq c.args.array.now.index ≡ c.span-last.result.last = c.requires.last ∙ sym (ap (λ (span : Span). span.last) c.span-last.ensures.head) in
    come_stops c.args.array.now c.args.from c.loop-before.before c.args.outgoing.now.room (view c.args.bank.now) (view c.loop-before.bank) (view c.put_frame.new.bank)
    c.loop-before.array c.loop-before.outgoing (omega arith) (omega arith) c.loop-before.invariant c.in-Err.fault c.in-Err.ensures.cause

pub loop-before-preserved : goal.loop-before-preserved
loop-before-preserved g c =
    let view = g.B.Bank.view in
    let ends : last_seq c.args.array.now.index ≡ c.span-last.result.last = c.requires.last ∙ sym (ap (λ (span : Span). span.last) c.span-last.ensures.head) in
    come_more c.args.array.now c.args.from c.loop-before.before c.args.outgoing.now.room (view c.args.bank.now) (view c.loop-before.bank) (view c.put_frame.new.bank)
    c.loop-before.array c.loop-before.outgoing (omega arith) (omega arith) c.loop-before.invariant
    c.put_frame.new.array c.put_frame.new.outgoing c.requires.running c.in-Ok.ensures.same c.put_frame.ensures.room c.put_frame.ensures.ready c.put_frame.ensures.disks
    c.in-Ok.ensures.steps c.put_frame.ensures.calls c.in-Ok.ensures.pieces

pub returns-clause-steps : goal.returns-clause-steps
returns-clause-steps g c =
    let view = g.B.Bank.view in
    let ends : last_seq c.args.array.now.index ≡ c.span-last.result.last = c.requires.last ∙ sym (ap (λ (span : Span). span.last) c.span-last.ensures.head) in
    come_all c.args.array.now c.args.from c.loop-before.before c.args.outgoing.now.room (view c.args.bank.now) (view c.loop-before.bank)
    c.loop-before.array c.loop-before.outgoing (omega arith) c.loop-before.invariant

pub returns-in-Err-clause-pieces : goal.returns-in-Err-clause-pieces
returns-in-Err-clause-pieces g c =
    let view = g.B.Bank.view in
    let ends : last_seq c.args.array.now.index ≡ c.span-last.result.last = c.requires.last ∙ sym (ap (λ (span : Span). span.last) c.span-last.ensures.head) in
    let so_far = c.loop-before.invariant in
    pieces_failed c.in-Err.fault c.args.array.now c.args.from (c.loop-before.before - c.args.from) c.args.outgoing.now.room 3 c.loop-before.outgoing.bytes
    (view c.args.bank.now) (view c.loop-before.bank) (view c.put_frame.new.bank) (omega arith) (omega arith) so_far.steps.tells so_far.pieces c.put_frame.ensures.calls

pub returns-clause-pieces : goal.returns-clause-pieces
returns-clause-pieces g c =
    let view = g.B.Bank.view in
    let ends : last_seq c.args.array.now.index ≡ c.span-last.result.last = c.requires.last ∙ sym (ap (λ (span : Span). span.last) c.span-last.ensures.head) in
    pieces_all c.args.array.now c.args.from c.loop-before.before c.args.outgoing.now.room (view c.args.bank.now) (view c.loop-before.bank)
    c.loop-before.array c.loop-before.outgoing (omega arith) c.loop-before.invariant
