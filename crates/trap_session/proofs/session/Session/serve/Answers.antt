use Rattle.std.proofs.Common.{rules, ◌≡◌, ◌+◌, [], Result, Ok, sym, ap, subst, ◌∙◌, arith}
use Rattle.trap_lines.specs.Reader.{unread, taken, room, Finds, FindsNone}
use Rattle.trap_script.specs.Lines.{longest_line}
use Rattle.trap_session.specs.declared.outcome.Ended.{Ended}
use Rattle.trap_session.specs.declared.outcome.SessionFault.{SessionFault}
use Rattle.trap_session.proofs.Ending.{HasEnded, begins, source_failed, too_much, input_ended, line_failed, line_quitted, line_answered, last_failed, last_answered}
use Rattle.trap_session.proofs.Replying.{err_is}
use Rattle.trap_session.proofs.session.Session.serve.Goals as goal

pub lines-init : goal.lines-init
lines-init g c =
    let array = c.args.array.now in
    let reader = c.self.inside.reader in
    let none : unread reader ≡ [] = search rules in
    let untaken : taken reader ≡ 0 = search rules in
    let same : c.self.inside.buffers.g ≡ array.g = search rules in
    let wide : room reader ≡ longest_line array.g.block + 1 = search rules in
    (begins g.B.Bank.view array c.args.bank.now (g.S.Source.stream c.args.source.now) reader none untaken c.requires.running c.requires.ready, same, wide)

pub returns-in-Err-Source : goal.returns-in-Err-Source
returns-in-Err-Source g c =
    let stream = g.S.Source.stream in
    let at = stream c.lines.source in
    let to = stream c.next.new.source in
    let none = subst (λ f. FindsNone f c.lines.reader c.next.new.self at to) c.in-Err-Source.field-0-is c.in-Err-Source.ensures.err in
    let done = source_failed g.B.Bank.view c.args.array.now c.lines.array c.args.bank.now c.lines.bank (stream c.args.source.now) at to c.lines.reader c.next.new.self c.lines.invariant.0 none in
    record { stops = done.stops; no_quit = done.no_quit; exchange = done.exchange; leaves = done.leaves; held = done.held; cause = done.cause; damaged = done.damaged }

pub returns-in-Err-TooLong : goal.returns-in-Err-TooLong
returns-in-Err-TooLong g c =
    let stream = g.S.Source.stream in
    let at = stream c.lines.source in
    let to = stream c.next.new.source in
    let none = subst (λ f. FindsNone f c.lines.reader c.next.new.self at to) c.in-Err-TooLong.field-0-is c.in-Err-TooLong.ensures.err in
    let done = too_much g.B.Bank.view c.args.array.now c.lines.array c.args.bank.now c.lines.bank (stream c.args.source.now) at to c.lines.reader c.next.new.self c.lines.invariant.0 none in
    record { stops = done.stops; no_quit = done.no_quit; exchange = done.exchange; leaves = done.leaves; held = done.held; cause = done.cause; damaged = done.damaged }

pub returns-in-Ok-End : goal.returns-in-Ok-End
returns-in-Ok-End g c =
    let stream = g.S.Source.stream in
    let at = stream c.lines.source in
    let to = stream c.next.new.source in
    let end = subst (λ f. Finds f c.lines.reader c.next.new.self at to) c.in-Ok-End.field-0-is c.in-Ok-End.ensures.found in
    let done = input_ended g.B.Bank.view c.args.array.now c.lines.array c.args.bank.now c.lines.bank (stream c.args.source.now) at to c.lines.reader c.next.new.self c.lines.invariant.0 end.0 end.1 in
    record { stops = done.stops; no_quit = done.no_quit; exchange = done.exchange; leaves = done.leaves; held = done.held; cause = done.cause; damaged = done.damaged }

pub returns-in_err-next-in-Ok-Last : goal.returns-in_err-next-in-Ok-Last
returns-in_err-next-in-Ok-Last g c =
    let view = g.B.Bank.view in
    let stream = g.S.Source.stream in
    let array = c.args.array.now in
    let first = c.args.bank.now in
    let from = stream c.args.source.now in
    let at = stream c.lines.source in
    let to = stream c.next.new.source in
    let found = subst (λ f. Finds f c.lines.reader c.next.new.self at to) c.in-Ok-Last.field-0-is c.in-Ok-Last.ensures.found in
    let call = c.answer_found in
    let fault = c.in_err-next-in-Ok-Last.field-0.0 in
    let is = sym (err_is c.from_residual.result fault c.from_residual.ensures) in
    let done = subst (λ (r : Result Ended SessionFault). HasEnded view array call.new.array r first call.new.bank from to) is
    (last_failed view array c.lines.array first c.lines.bank from at to c.lines.reader c.next.new.self c.lines.invariant.0 call.new.array call.new.bank
    found.0 found.1.no_feed call.result (call.ensures.answers found.0 found.1) (call.ensures.quit found.0 found.1) found.2 (omega (arith, found.3, found.1.long)) found.4
    fault c.in_err-next-in-Ok-Last.was) in
    record { stops = done.stops; no_quit = done.no_quit; exchange = done.exchange; leaves = done.leaves; held = done.held; cause = done.cause; damaged = done.damaged }

pub returns-in-Ok-Last : goal.returns-in-Ok-Last
returns-in-Ok-Last g c =
    let view = g.B.Bank.view in
    let stream = g.S.Source.stream in
    let array = c.args.array.now in
    let first = c.args.bank.now in
    let from = stream c.args.source.now in
    let at = stream c.lines.source in
    let to = stream c.next.new.source in
    let found = subst (λ f. Finds f c.lines.reader c.next.new.self at to) c.in-Ok-Last.field-0-is c.in-Ok-Last.ensures.found in
    let call = c.answer_found in
    let done = subst (λ (ended : Ended). HasEnded view array call.new.array (Ok ended) first call.new.bank from to) (sym c.ended_by.ensures)
    (last_answered view array c.lines.array first c.lines.bank from at to c.lines.reader c.next.new.self c.lines.invariant.0 call.new.array call.new.bank
    found.0 found.1.no_feed call.result (call.ensures.answers found.0 found.1) (call.ensures.quit found.0 found.1) found.2 (omega (arith, found.3, found.1.long)) found.4
    c.in_ok-next-in-Ok-Last.next c.in_ok-next-in-Ok-Last.was) in
    record { stops = done.stops; no_quit = done.no_quit; exchange = done.exchange; leaves = done.leaves; held = done.held; cause = done.cause; damaged = done.damaged }

pub returns-in_err-answer_found-in-Ok-Line : goal.returns-in_err-answer_found-in-Ok-Line
returns-in_err-answer_found-in-Ok-Line g c =
    let view = g.B.Bank.view in
    let stream = g.S.Source.stream in
    let array = c.args.array.now in
    let first = c.args.bank.now in
    let from = stream c.args.source.now in
    let at = stream c.lines.source in
    let to = stream c.next.new.source in
    let found = subst (λ f. Finds f c.lines.reader c.next.new.self at to) c.in-Ok-Line.field-0-is c.in-Ok-Line.ensures.found in
    let call = c.answer_found-in-Ok-Line in
    let fault = c.in_err-answer_found-in-Ok-Line.field-0.0 in
    let is = sym (err_is c.from_residual-in_err-answer_found-in-Ok-Line.result fault c.from_residual-in_err-answer_found-in-Ok-Line.ensures) in
    let done = subst (λ (r : Result Ended SessionFault). HasEnded view array call.new.array r first call.new.bank from to) is
    (line_failed view array c.lines.array first c.lines.bank from at to c.lines.reader c.next.new.self c.lines.invariant.0 call.new.array call.new.bank
    found.0 found.1.no_feed call.result (call.ensures.answers found.0 found.1) (call.ensures.quit found.0 found.1) found.2 fault c.in_err-answer_found-in-Ok-Line.was) in
    record { stops = done.stops; no_quit = done.no_quit; exchange = done.exchange; leaves = done.leaves; held = done.held; cause = done.cause; damaged = done.damaged }

pub returns-in-Quit : goal.returns-in-Quit
returns-in-Quit g c =
    let stream = g.S.Source.stream in
    let at = stream c.lines.source in
    let to = stream c.next.new.source in
    let found = subst (λ f. Finds f c.lines.reader c.next.new.self at to) c.in-Ok-Line.field-0-is c.in-Ok-Line.ensures.found in
    let call = c.answer_found-in-Ok-Line in
    let done = line_quitted g.B.Bank.view c.args.array.now c.lines.array c.args.bank.now c.lines.bank (stream c.args.source.now) at to c.lines.reader c.next.new.self c.lines.invariant.0
    call.new.array call.new.bank found.0 found.1.no_feed call.result (call.ensures.answers found.0 found.1) (call.ensures.quit found.0 found.1) found.2
    (c.in_ok-answer_found-in-Ok-Line.was ∙ ap Ok c.in-Quit.is) in
    record { stops = done.stops; no_quit = done.no_quit; exchange = done.exchange; leaves = done.leaves; held = done.held; cause = done.cause; damaged = done.damaged }

pub lines-preserved : goal.lines-preserved
lines-preserved g c =
    let stream = g.S.Source.stream in
    let at = stream c.lines.source in
    let to = stream c.next.new.source in
    let found = subst (λ f. Finds f c.lines.reader c.next.new.self at to) c.in-Ok-Line.field-0-is c.in-Ok-Line.ensures.found in
    let call = c.answer_found-in-Ok-Line in (
      line_answered g.B.Bank.view c.args.array.now c.lines.array c.args.bank.now c.lines.bank (stream c.args.source.now) at to c.lines.reader c.next.new.self c.lines.invariant.0
          call.new.array call.new.bank found.0 found.1.no_feed call.result (call.ensures.answers found.0 found.1) (call.ensures.quit found.0 found.1) found.2
          (c.in_ok-answer_found-in-Ok-Line.was ∙ ap Ok c.in-More.is) found.3,
      call.ensures.same ∙ c.lines.invariant.1,
      found.2.same_room ∙ c.lines.invariant.2,
    )
