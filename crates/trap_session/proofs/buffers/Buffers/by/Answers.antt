use Rattle.std.proofs.Common.{refl, inl, inr, length, ◌≡◌, ap, ◌∙◌, Err, arith, Bool, ◌||◌}
use Rattle.trap_model.specs.ArrayStep.{step}
use Rattle.trap_model.specs.declared.numbers.Geometry.{Geometry}
use Rattle.trap_model.specs.declared.request.Reply.TheVariants.{At, No}
use Rattle.trap_model.specs.declared.request.Request.TheVariants.{By}
use Rattle.trap_array.specs.Causes.{of_time}
use Rattle.trap_array.specs.Sources.{reads_back}
use Rattle.trap_session.proofs.Calling.{said_after, none_after}
use Rattle.trap_session.proofs.Decided.{decided_well, decided_refused, decided_fault, read_possible, time_own}
use Rattle.trap_session.proofs.Replying.{same_replied, same_failed, by_still, still_going, refused_at, refused_going, filled_whole, shown, not_by_lost, risen_of, refused_not_denied, denied_as, line_ended, stops_as}
use Rattle.trap_session.proofs.buffers.Buffers.by.Goals as goal

pub returns-in-Ok-clause-answers : goal.returns-in-Ok-clause-answers
returns-in-Ok-clause-answers g c =
    let view = g.B.Bank.view in
    let array = c.args.array.now in
    let old = view c.args.bank.now in
    let new = view c.at_time.new.bank in
    let done = c.in-Ok.ensures in
    let filled : c.as_slice-bytes.result.now ≡ c.at_time.new.into =
    c.as_slice-bytes.ensures.value ∙ filled_whole c.args.self.now.fresh.len c.at_time.new.into _
    (omega (arith, c.at_time.auto.into, c.as_mut_slice.ensures.len, c.args.self.now.fresh.ok.0)) in
    let long : length c.as_slice-bytes.result.now ≡ array.g.block =
    omega (arith, ap length filled, c.at_time.auto.into, c.as_mut_slice.ensures.len, c.args.self.now.fresh.ok.0, c.args.self.now.block, ap (λ (g : Geometry). g.block) c.requires.geometry) in
    same_replied array c.at_time.new.self old new (view c.say_answer.new.bank) (By c.args.time c.args.block) refl
    (λ s. by_still array.g s c.args.time c.args.block) _ done.same (still_going array.is_stopped _ refl)
    (At c.as_slice-bytes.result.now) c.say_answer.result (λ told s stands. shown At ((step array.g).reply s (By c.args.time c.args.block)) c.at_time.new.into c.as_slice-bytes.result.now filled
    (done.answers.reply told s stands))
    (inr (c.as_slice-bytes.result.now, long, refl)) (λ same. same)
    (λ r same. absurd (decided_well array c.args.block (of_time array c.args.time) _ old new done.causes (time_own array.index c.args.time) r _ refl same))
    done.any_moment.moves done.any_moment.sizes done.any_moment.same done.ready
    c.say_answer.ensures.says c.say_answer.ensures.once c.say_answer.ensures.no_quit c.say_answer.ensures.port
    (λ asks stopped. cc (done.causes.stopped.1 (asks, stopped)))
    (λ seq last. said_after (reads_back array c.args.block seq) c.say_answer.result old new (view c.say_answer.new.bank) done.any_moment.moves.tells (done.calls seq last)
    c.say_answer.ensures.says.goes)

pub returns-in_ok-why-in-Err-clause-answers : goal.returns-in_ok-why-in-Err-clause-answers
returns-in_ok-why-in-Err-clause-answers g c =
    let view = g.B.Bank.view in
    let array = c.args.array.now in
    let old = view c.args.bank.now in
    let new = view c.at_time.new.bank in
    let done = c.at_time.ensures in
    let said = c.say_answer-in-Err in
    let why = c.in_ok-why-in-Err.why in
    let refused = c.in-Err.is ∙ ap Err c.in_ok-why-in-Err.ensures.ok in
    same_replied array c.at_time.new.self old new (view said.new.bank) (By c.args.time c.args.block) refl
    (λ s. by_still array.g s c.args.time c.args.block) _ done.same (refused_going array.is_stopped refused)
    (No why) said.result (refused_at array old (By c.args.time c.args.block) c.at_time.result c.at_time.new.into why refused done.answers.reply)
    (inl (read_possible array c.args.block (of_time array c.args.time) c.at_time.result old new done.causes (λ tight. tight) why refused)) (λ same. same)
    (λ r same. decided_refused array c.args.block (of_time array c.args.time) c.at_time.result old new done.causes (time_own array.index c.args.time) r why refused same)
    done.any_moment.moves done.any_moment.sizes done.any_moment.same done.ready said.ensures.says said.ensures.once said.ensures.no_quit said.ensures.port
    (refused_not_denied c.at_time.result why refused done.causes.stopped)
    (λ seq last. said_after (reads_back array c.args.block seq) said.result old new (view said.new.bank) done.any_moment.moves.tells (done.calls seq last) said.ensures.says.goes)

pub returns-in_err-why-in-Err-clause-answers : goal.returns-in_err-why-in-Err-clause-answers
returns-in_err-why-in-Err-clause-answers g c =
    let view = g.B.Bank.view in
    let array = c.args.array.now in
    let old = view c.args.bank.now in
    let new = view c.at_time.new.bank in
    let done = c.at_time.ensures in
    let denied = c.in-Err.denied in
    let ended = c.in_err-why-in-Err.ensures.err in
    line_ended array c.at_time.new.self old new (By c.args.time c.args.block) denied c.from_residual.result c.in_err-why-in-Err.field-0.0
    c.from_residual.ensures ended.0
    (same_failed array c.at_time.new.self old new (By c.args.time c.args.block) refl _ done.same denied
    (ap (λ (stops : Bool). array.is_stopped || stops) (stops_as c.at_time.result denied c.in-Err.is))
    (λ r same. decided_fault array c.args.block (of_time array c.args.time) c.at_time.result old new done.causes (time_own array.index c.args.time) r denied c.in-Err.is ended.1 same)
    done.any_moment.moves done.any_moment.sizes done.any_moment.same done.ready
    (risen_of array old new c.at_time.result done.causes.log done.causes.member done.damaged (λ is. (done.causes.stopped.0 is).1)
    denied c.in-Err.is ended.1)
    (λ offset same told. done.bad offset (c.in-Err.is ∙ ap Err same) told)
    (not_by_lost array c.at_time.result denied c.in-Err.is done.causes.used)
    (λ same. same) (λ stopped. done.causes.untouched (inr stopped))
    (denied_as c.at_time.result denied c.in-Err.is done.causes.stopped)
    (λ seq last. none_after (reads_back array c.args.block seq) old new (done.calls seq last)))
