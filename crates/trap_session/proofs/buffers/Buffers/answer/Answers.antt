use Rattle.std.proofs.Common.{sym, subst, Ok}
use Rattle.trap_script.specs.declared.lines.Line.{Line}
use Rattle.trap_script.specs.Lines.{request_with}
use Rattle.trap_session.specs.Answers.{AnswersLine}
use Rattle.trap_session.specs.declared.outcome.Next.TheVariants.{Quit}
use Rattle.trap_session.proofs.Replying.{line_quits, bad_replied}
use Rattle.trap_session.proofs.buffers.Buffers.answer.Goals as goal

pub returns-in-Quit-clause-answers : goal.returns-in-Quit-clause-answers
returns-in-Quit-clause-answers g c =
    let view = g.B.Bank.view in
    subst (λ (line : Line). AnswersLine c.args.array.now c.args.array.now (Ok Quit) (request_with line c.args.self.now.fresh.items) (view c.args.bank.now) (view c.args.bank.now))
    (sym c.in-Quit.is) (line_quits c.args.array.now (view c.args.bank.now) c.requires.ready)

pub returns-in-Bad-clause-answers : goal.returns-in-Bad-clause-answers
returns-in-Bad-clause-answers g c =
    let view = g.B.Bank.view in
    let said = c.say_answer-in-Bad in
    subst (λ (line : Line). AnswersLine c.args.array.now c.args.array.now said.result (request_with line c.args.self.now.fresh.items) (view c.args.bank.now) (view said.new.bank))
    (sym c.in-Bad.is) (bad_replied c.args.array.now (view c.args.bank.now) (view said.new.bank) said.result c.requires.ready said.ensures.says said.ensures.once said.ensures.no_quit said.ensures.port)
