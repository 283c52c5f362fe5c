use Rattle.std.proofs.Common.{rules, refl, sym, inl, inr, ⊎_elim, ap, ◌∙◌, Err, Bool, ◌||◌}
use Rattle.trap_model.specs.declared.request.Reply.TheVariants.{Kept, No}
use Rattle.trap_model.specs.declared.request.Request.TheVariants.{Write}
use Rattle.trap_array.specs.Calls.{SameArray, is_fault}
use Rattle.trap_array.specs.Causes.{of_write}
use Rattle.trap_session.specs.declared.outcome.SessionFault.TheVariants.{Array}
use Rattle.trap_session.proofs.Calling.{write_called, write_denied, write_unsaid}
use Rattle.trap_session.proofs.Decided.{decided_well, decided_refused, decided_fault, refused_possible, early_own}
use Rattle.trap_session.proofs.Replying.{write_replied, write_struck, write_refused_after, write_failed_after, still_going, refused_write, refused_going, risen_of, refused_not_denied, denied_as, line_ended, stops_as}
use Rattle.trap_session.proofs.buffers.Buffers.write.Goals as goal

pub returns-in-Ok-clause-answers : goal.returns-in-Ok-clause-answers
returns-in-Ok-clause-answers g c =
    let view = g.B.Bank.view in
    let array = c.args.array.now in
    let old = view c.args.bank.now in
    let new = view c.write.new.bank in
    let alike : SameArray array c.write.new.self = search rules in
    let done = c.in-Ok.ensures in
    write_replied array c.write.new.self old new (view c.say_answer.new.bank) c.args.time c.args.block
    c.as_slice.result.now _ c.as_slice.ensures.value (Kept c.in-Ok.seq) c.say_answer.result done.takes.reply (done.takes.state.turned refl (λ stopped. cc stopped))
    (inr (inl (ap Kept done.takes.head.number))) ((done.takes.head, done.takes.index), done.takes.pending)
    (λ r same. absurd (decided_well array c.args.block (of_write array c.args.time) _ old new done.causes (early_own array.head c.args.time) r _ refl same))
    done.takes.touches
    done.sizes done.others done.ready
    (still_going array.is_stopped _ done.stops) alike c.say_answer.ensures.says c.say_answer.ensures.once c.say_answer.ensures.no_quit c.say_answer.ensures.port
    (λ asks stopped. cc (done.causes.stopped.1 (asks, stopped)))
    (write_called array c.write.new.self c.args.block c.in-Ok.seq c.say_answer.result old new (view c.say_answer.new.bank) done.takes.calls c.say_answer.ensures.says.goes)

pub returns-in_ok-why-in-Err-clause-answers : goal.returns-in_ok-why-in-Err-clause-answers
returns-in_ok-why-in-Err-clause-answers g c =
    let view = g.B.Bank.view in
    let array = c.args.array.now in
    let old = view c.args.bank.now in
    let new = view c.write.new.bank in
    let alike : SameArray array c.write.new.self = search rules in
    let done = c.write.ensures in
    let said = c.say_answer-in-Err in
    let why = c.in_ok-why-in-Err.why in
    let refused = c.in-Err.is ∙ ap Err c.in_ok-why-in-Err.ensures.ok in
    write_replied array c.write.new.self old new (view said.new.bank) c.args.time c.args.block
    c.as_slice.result.now _ c.as_slice.ensures.value (No why) said.result (refused_write array old (Write c.args.time c.args.block c.as_slice.result.now) c.write.result why refused done.takes.reply)
    (done.takes.state.turned (ap is_fault refused) (λ stopped. cc (sym refused ∙ stopped)))
    (⊎_elim (λ decided. inl decided) (λ full. inr (inr (ap No full.0, full.1)))
    (refused_possible array c.args.block (of_write array c.args.time) c.write.result old new done.causes why refused))
    (write_refused_after array c.write.new.self c.args.time c.args.block c.as_slice.result.now c.write.result why refused done.takes.head done.takes.index done.takes.staged done.takes.pending)
    (λ r same. decided_refused array c.args.block (of_write array c.args.time) c.write.result old new done.causes (early_own array.head c.args.time) r why refused same)
    done.takes.touches
    done.sizes done.others done.ready
    (done.stops ∙ refused_going array.is_stopped refused) alike said.ensures.says said.ensures.once said.ensures.no_quit said.ensures.port
    (refused_not_denied c.write.result why refused done.causes.stopped)
    (write_denied array c.write.new.self c.args.time c.args.block c.write.result why said.result old new (view said.new.bank) refused done.takes.head done.takes.calls said.ensures.says.goes)

pub returns-in_err-why-in-Err-clause-answers : goal.returns-in_err-why-in-Err-clause-answers
returns-in_err-why-in-Err-clause-answers g c =
    let view = g.B.Bank.view in
    let array = c.args.array.now in
    let old = view c.args.bank.now in
    let new = view c.write.new.bank in
    let alike : SameArray array c.write.new.self = search rules in
    let done = c.write.ensures in
    let denied = c.in-Err.denied in
    let ended = c.in_err-why-in-Err.ensures.err in
    line_ended array c.write.new.self old new (Write c.args.time c.args.block _) denied c.from_residual.result c.in_err-why-in-Err.field-0.0
    c.from_residual.ensures ended.0
    (write_struck array c.write.new.self old new c.args.time c.args.block
    c.as_slice.result.now _ c.as_slice.ensures.value denied done.takes.state.any_moment
    (λ r same. decided_fault array c.args.block (of_write array c.args.time) c.write.result old new done.causes (early_own array.head c.args.time) r denied c.in-Err.is ended.1 same)
    done.takes.touches
    (λ stopped. done.causes.untouched (inr stopped))
    (done.stops ∙ ap (λ (stops : Bool). array.is_stopped || stops) (stops_as c.write.result denied c.in-Err.is)) done.sizes done.others done.ready alike
    (risen_of array old new c.write.result done.causes.log done.causes.member (λ offset is. absurd (done.damaged offset is)) (λ is. (done.causes.stopped.0 is).1)
    denied c.in-Err.is ended.1)
    (λ offset same. done.damaged offset (c.in-Err.is ∙ ap Err same))
    (write_failed_after array c.write.new.self c.args.time c.args.block c.as_slice.result.now c.write.result denied c.in-Err.is done.takes.head done.takes.index)
    (denied_as c.write.result denied c.in-Err.is done.causes.stopped)
    (write_unsaid array c.write.new.self c.args.block c.write.result (Array denied) old new done.takes.calls))
