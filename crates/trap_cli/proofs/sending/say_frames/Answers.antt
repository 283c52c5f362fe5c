use Rattle.std.proofs.Common.{ap, arith}
use Rattle.trap_array.specs.Instants.{HasInstant}
use Rattle.trap_array.specs.declared.span.Span.{Span}
use Rattle.trap_cli.specs.declared.outcome.Ended.TheVariants.{Done, Stopped, Port}
use Rattle.trap_session.specs.declared.outcome.SessionFault.TheVariants.{Array}
use Rattle.trap_cli.proofs.Sends.{sends_steps}
use Rattle.trap_cli.proofs.sending.say_frames.Goals as goal

pub returns-in-Ok-send-clause-steps : goal.returns-in-Ok-send-clause-steps
returns-in-Ok-send-clause-steps g c =
    let low = ap (λ (s : Span). s.first) c.span-span.ensures.head in
    let high = ap (λ (s : Span). s.last) c.span-span.ensures.head in
    let has : HasInstant c.args.array.index c.args.seq = record {
      low = omega (arith, c.if-seq-span.false, low, c.requires.first);
      high = omega (arith, c.if-span-seq.false, high, c.requires.last);
    } in
    sends_steps c.args.array c.args.seq Done (g.B.Bank.view c.args.bank.now) (g.B.Bank.view c.send.new.bank) has c.in-Ok-send.ensures.steps (λ x y sends. sends)

pub returns-in-Err-Array-clause-steps : goal.returns-in-Err-Array-clause-steps
returns-in-Err-Array-clause-steps g c =
    let low = ap (λ (s : Span). s.first) c.span-span.ensures.head in
    let high = ap (λ (s : Span). s.last) c.span-span.ensures.head in
    let has : HasInstant c.args.array.index c.args.seq = record {
      low = omega (arith, c.if-seq-span.false, low, c.requires.first);
      high = omega (arith, c.if-span-seq.false, high, c.requires.last);
    } in
    sends_steps c.args.array c.args.seq (Stopped (Array c.in-Err-Array.why)) (g.B.Bank.view c.args.bank.now) (g.B.Bank.view c.send.new.bank) has
    c.in-Err-Array.ensures.steps (λ x y sends. sends)

pub returns-clause-steps : goal.returns-clause-steps
returns-clause-steps g c =
    let low = ap (λ (s : Span). s.first) c.span-span.ensures.head in
    let high = ap (λ (s : Span). s.last) c.span-span.ensures.head in
    let has : HasInstant c.args.array.index c.args.seq = record {
      low = omega (arith, c.if-seq-span.false, low, c.requires.first);
      high = omega (arith, c.if-span-seq.false, high, c.requires.last);
    } in
    sends_steps c.args.array c.args.seq Port (g.B.Bank.view c.args.bank.now) (g.B.Bank.view c.send.new.bank) has c.in-Err-Port.ensures.steps (λ x y sends. sends)
