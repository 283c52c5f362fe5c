use Rattle.std.proofs.Common.{refl, inl, inr, length, ◌≡◌, ap, ◌∙◌, Err, arith, Bool, ◌||◌}
use Rattle.trap_model.specs.ArrayStep.{step}
use Rattle.trap_model.specs.declared.numbers.Geometry.{Geometry}
use Rattle.trap_model.specs.declared.request.Reply.TheVariants.{Is, No}
use Rattle.trap_model.specs.declared.request.Request.TheVariants.{Read}
use Rattle.trap_array.specs.Causes.{of_read}
use Rattle.trap_session.proofs.Calling.{read_called, read_denied, read_unsaid}
use Rattle.trap_session.proofs.Decided.{decided_well, decided_refused, decided_fault, read_possible, read_own}
use Rattle.trap_session.proofs.Replying.{same_replied, same_failed, read_still, still_going, refused_read, refused_going, filled_whole, shown, no_record, no_log, not_by_lost, risen_of, refused_not_denied, denied_as, line_ended, stops_as}
use Rattle.trap_session.specs.declared.outcome.SessionFault.TheVariants.{Array}
use Rattle.trap_session.proofs.buffers.Buffers.read.Goals as goal

pub returns-in-Ok-clause-answers : goal.returns-in-Ok-clause-answers
returns-in-Ok-clause-answers g c =
    let view = g.B.Bank.view in
    let array = c.args.array.now in
    let old = view c.args.bank.now in
    let new = view c.read.new.bank in
    let done = c.in-Ok.ensures in
    let filled : c.as_slice-bytes.result.now ≡ c.read.new.into =
    c.as_slice-bytes.ensures.value ∙ filled_whole c.args.self.now.fresh.len c.read.new.into _
    (omega (arith, c.read.auto.into, c.as_mut_slice.ensures.len, c.args.self.now.fresh.ok.0)) in
    let long : length c.as_slice-bytes.result.now ≡ array.g.block =
    omega (arith, ap length filled, c.read.auto.into, c.as_mut_slice.ensures.len, c.args.self.now.fresh.ok.0, c.args.self.now.block, ap (λ (g : Geometry). g.block) c.requires.geometry) in
    same_replied array c.read.new.self old new (view c.say_answer.new.bank) (Read c.args.block) refl
    (λ s. read_still array.g s c.args.block) _ done.same (still_going array.is_stopped _ refl)
    (Is c.as_slice-bytes.result.now) c.say_answer.result (λ told s stands. shown Is ((step array.g).reply s (Read c.args.block)) c.read.new.into c.as_slice-bytes.result.now filled
    (done.answers.reply told s stands))
    (inr (c.as_slice-bytes.result.now, long, refl)) (λ same. same)
    (λ r same. absurd (decided_well array c.args.block (of_read array) _ old new done.causes read_own r _ refl same))
    done.any_moment.moves done.any_moment.sizes done.any_moment.same done.ready
    c.say_answer.ensures.says c.say_answer.ensures.once c.say_answer.ensures.no_quit c.say_answer.ensures.port
    (λ asks stopped. cc (done.causes.stopped.1 (asks, stopped)))
    (read_called array c.args.block _ c.say_answer.result old new (view c.say_answer.new.bank) done.calls.exact c.say_answer.ensures.says.goes)

pub returns-in_ok-why-in-Err-clause-answers : goal.returns-in_ok-why-in-Err-clause-answers
returns-in_ok-why-in-Err-clause-answers g c =
    let view = g.B.Bank.view in
    let array = c.args.array.now in
    let old = view c.args.bank.now in
    let new = view c.read.new.bank in
    let done = c.read.ensures in
    let said = c.say_answer-in-Err in
    let why = c.in_ok-why-in-Err.why in
    let refused = c.in-Err.is ∙ ap Err c.in_ok-why-in-Err.ensures.ok in
    let possible = read_possible array c.args.block (of_read array) c.read.result old new done.causes (λ tight. tight) why refused in
    same_replied array c.read.new.self old new (view said.new.bank) (Read c.args.block) refl
    (λ s. read_still array.g s c.args.block) _ done.same (refused_going array.is_stopped refused)
    (No why) said.result (refused_read array old (Read c.args.block) c.read.result c.read.new.into why refused done.answers.reply)
    (inl possible) (λ same. same)
    (λ r same. decided_refused array c.args.block (of_read array) c.read.result old new done.causes read_own r why refused same)
    done.any_moment.moves done.any_moment.sizes done.any_moment.same done.ready said.ensures.says said.ensures.once said.ensures.no_quit said.ensures.port
    (refused_not_denied c.read.result why refused done.causes.stopped)
    (read_denied array c.args.block c.read.result (No why) said.result old new (view said.new.bank) done.calls.exact possible said.ensures.says.goes)

pub returns-in_err-why-in-Err-clause-answers : goal.returns-in_err-why-in-Err-clause-answers
returns-in_err-why-in-Err-clause-answers g c =
    let view = g.B.Bank.view in
    let array = c.args.array.now in
    let old = view c.args.bank.now in
    let new = view c.read.new.bank in
    let done = c.read.ensures in
    let denied = c.in-Err.denied in
    let ended = c.in_err-why-in-Err.ensures.err in
    line_ended array c.read.new.self old new (Read c.args.block) denied c.from_residual.result c.in_err-why-in-Err.field-0.0
    c.from_residual.ensures ended.0
    (same_failed array c.read.new.self old new (Read c.args.block) refl _ done.same denied (ap (λ (stops : Bool). array.is_stopped || stops) (stops_as c.read.result denied c.in-Err.is))
    (λ r same. decided_fault array c.args.block (of_read array) c.read.result old new done.causes read_own r denied c.in-Err.is ended.1 same)
    done.any_moment.moves done.any_moment.sizes done.any_moment.same done.ready
    (risen_of array old new c.read.result done.causes.log done.causes.member (λ offset is. absurd (done.damaged offset is)) (λ is. (done.causes.stopped.0 is).1)
    denied c.in-Err.is ended.1)
    (λ offset same told. absurd (done.damaged offset (c.in-Err.is ∙ ap Err same))) (
      not_by_lost array c.read.result denied c.in-Err.is done.causes.used,
      no_record denied (λ offset same. done.damaged offset (c.in-Err.is ∙ ap Err same)),
      no_log denied (λ same. done.log (c.in-Err.is ∙ ap Err same)),
    )
    (λ same. same) (λ stopped. done.causes.untouched (inr stopped))
    (denied_as c.read.result denied c.in-Err.is done.causes.stopped)
    (read_unsaid array c.args.block c.read.result (Array denied) old new done.calls.exact))
