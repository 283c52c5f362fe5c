use Rattle.std.proofs.Common.{ap}
use Rattle.trap_model.specs.declared.request.Reply.TheVariants.{Span}
use Rattle.trap_array.specs.declared.span.Span.{Span as Retained}
use Rattle.trap_session.proofs.Replying.{info_replied}
use Rattle.trap_session.proofs.buffers.Buffers.info.Goals as goal

pub returns-clause-answers : goal.returns-clause-answers
returns-clause-answers g c =
    let view = g.B.Bank.view in
    let span = c.span-retained.result in
    let said = c.say_answer in
    info_replied c.args.array.now (view c.args.bank.now) (view said.new.bank) span.first span.last span.base_time span.last_time said.result
    c.requires.ready c.span-retained.ensures.reply
    (ap (λ (s : Retained). Span s.first s.last s.base_time s.last_time) c.span-retained.ensures.head) said.ensures.says said.ensures.once said.ensures.no_quit said.ensures.port
