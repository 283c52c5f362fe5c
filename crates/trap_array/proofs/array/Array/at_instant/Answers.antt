use Rattle.std.proofs.Common.{rules, ◌≡◌, ◌<◌, Bool, false, ◌||◌, Result, Err, refl, sym, subst, ◌∙◌}
use Rattle.trap_bank.specs.Steps.{Always}
use Rattle.trap_model.specs.Image.{volume}
use Rattle.trap_bank.proofs.Moves.{read_is_left}
use Rattle.trap_model.specs.ArrayStep.{step}
use Rattle.trap_array.specs.Calls.{Mounted, AnswersRead, StandsFor, IsReady, AtReplies, is_fault, running}
use Rattle.trap_array.specs.Causes.{DeniedBy}
use Rattle.trap_array.specs.Asked.{HasBadRecordAfter, IsDamagedSince, instant_refused, of_instant, request_at}
use Rattle.trap_array.proofs.Asking.{instant_not_full}
use Rattle.trap_array.proofs.AtOnce.{denied_at_once, instant_at_once, no_damage_at_once, same_at_once}
use Rattle.trap_array.proofs.Denials.{denied_reading}
use Rattle.trap_array.proofs.Sources.{bad_by}
use Rattle.trap_array.specs.Log.{IndexedLog, with_index}
use Rattle.trap_array.specs.declared.fault.Denied.{Denied}
use Rattle.trap_array.proofs.WriteSteps.{mounted, with_buffers, buffers_are, array_is, stays_same, as_going, ready_still, log_keeps}
use Rattle.trap_array.proofs.array.Array.at_instant.Goals as goal

pub returns-clause-bad : goal.returns-clause-bad
returns-clause-bad g c offset at told =
    let old = g.B.Bank.view c.args.bank.now in
    let log : IndexedLog = with_index c.self.inside.log c.self.inside.index in
    let is = array_is c.self.invariant ∙ c.self.view_is in
    let P : Mounted → Type 0 = λ (m : Mounted). HasBadRecordAfter m.g m.index c.args.block c.args.instant old.now.disks offset in
    subst P is (bad_by (running log) (IsDamagedSince (running log) c.args.block c.args.instant old) old (g.B.Bank.view c.look_back_to-answer.new.bank)
    c.look_back_to-answer.result offset c.look_back_to-answer.ensures.cause at told)

pub returns-clause-damaged : goal.returns-clause-damaged
returns-clause-damaged g c offset is told s always =
    let old = g.B.Bank.view c.args.bank.now in
    let P : Mounted → Type 0 = λ (m : Mounted). Always old (StandsFor m s) → ⊥ in
    subst P (array_is c.self.invariant ∙ c.self.view_is)
    (λ stands. c.look_back_to-answer.ensures.damaged offset is told s (as_going (with_index c.self.inside.log c.self.inside.index) c.self.inside.is_stopped s
    old.now.disks (stands old.now (read_is_left old told)))) always

pub returns-clause-ready : goal.returns-clause-ready
returns-clause-ready g c =
    let old = g.B.Bank.view c.args.bank.now in
    let new = g.B.Bank.view c.look_back_to-answer.new.bank in
    let log : IndexedLog = with_index c.self.inside.log c.self.inside.index in
    let stopped = c.has_failed-self-inside.result in
    let going_ : c.self.inside.is_stopped ≡ false = search rules in
    let is = array_is c.self.invariant ∙ c.self.view_is in
    let ready = subst (λ (m : Mounted). IsReady m old) (sym is) c.requires.ready in
    subst (λ (m : Mounted). IsReady m new) (buffers_are log c.look_back_to-answer.new.room stopped log.g.block c.look_back_to-answer.ensures.room)
    (ready_still log c.self.inside.is_stopped stopped old new c.look_back_to-answer.ensures.any_moment going_ ready)

pub returns-clause-causes : goal.returns-clause-causes
returns-clause-causes g c =
    let old = g.B.Bank.view c.args.bank.now in
    let new = g.B.Bank.view c.look_back_to-answer.new.bank in
    let log : IndexedLog = with_index c.self.inside.log c.self.inside.index in
    let result = c.look_back_to-answer.result in
    let going_ : c.self.inside.is_stopped ≡ false = search rules in
    let inside : c.args.block < volume log.g = search rules in
    let P : Mounted → Type 0 = λ (m : Mounted). DeniedBy m c.args.block (of_instant m c.args.instant) result old new in
    let S : Bool → Type 0 = λ (stopped : Bool). DeniedBy (mounted log stopped) c.args.block (of_instant (mounted log stopped) c.args.instant) result old new in
    subst P (array_is c.self.invariant ∙ c.self.view_is)
    (subst S (sym going_)
    (denied_reading (running log) c.args.block (instant_refused log.index c.args.instant) result old new inside refl (IsDamagedSince
    (running log) c.args.block c.args.instant old) c.look_back_to-answer.ensures.cause
    c.look_back_to-answer.ensures.refused (instant_not_full log.index c.args.instant) c.look_back_to-answer.ensures.at_once))

-- ---- what is denied at once
pub returns-in_err-admit-clause-answers : goal.returns-in_err-admit-clause-answers
returns-in_err-admit-clause-answers g c =
    let old = g.B.Bank.view c.args.bank.now in
    let here = mounted (with_index c.self.inside.log c.self.inside.index) c.self.inside.is_stopped in
    let why = c.in_err-admit.field-0.0 in
    let is : Err why ≡ c.from_residual.result = search rules in
    let P : Mounted → Type 0 = λ (m : Mounted). AnswersRead m m (request_at c.args.instant c.args.block) (AtReplies {T = Unit {0}} (Err why) c.args.into.now) (Err why) old old in
    let R : Result (Unit {0}) Denied → Type 0 = λ (r : Result (Unit {0}) Denied).
    AnswersRead c.args.self.now c.args.self.now (request_at c.args.instant c.args.block) (AtReplies r c.args.into.now) r old old in
    subst R is (subst P (array_is c.self.invariant ∙ c.self.view_is) (instant_at_once here c.args.block why c.in_err-admit.ensures.denied c.args.instant c.args.into.now old))

pub returns-in_err-admit-clause-same : goal.returns-in_err-admit-clause-same
returns-in_err-admit-clause-same g c =
    let here = mounted (with_index c.self.inside.log c.self.inside.index) c.self.inside.is_stopped in
    let why = c.in_err-admit.field-0.0 in
    let is : Err why ≡ c.from_residual.result = search rules in
    let P : Mounted → Type 0 = λ (m : Mounted). m ≡ record m { is_stopped = m.is_stopped || is_fault {T = Unit {0}} (Err why) } in
    let R : Result (Unit {0}) Denied → Type 0 = λ (r : Result (Unit {0}) Denied). c.args.self.now ≡ record c.args.self.now { is_stopped = c.args.self.now.is_stopped || is_fault r } in
    subst R is (subst P (array_is c.self.invariant ∙ c.self.view_is) (same_at_once here c.args.block why c.in_err-admit.ensures.denied (Unit {0})))

pub returns-in_err-admit-clause-causes : goal.returns-in_err-admit-clause-causes
returns-in_err-admit-clause-causes g c =
    let old = g.B.Bank.view c.args.bank.now in
    let here = mounted (with_index c.self.inside.log c.self.inside.index) c.self.inside.is_stopped in
    let why = c.in_err-admit.field-0.0 in
    let is : Err why ≡ c.from_residual.result = search rules in
    let P : Mounted → Type 0 = λ (m : Mounted). DeniedBy {T = Unit {0}} m c.args.block (of_instant m c.args.instant) (Err why) old old in
    let R : Result (Unit {0}) Denied → Type 0 = λ (r : Result (Unit {0}) Denied). DeniedBy c.args.self.now c.args.block (of_instant c.args.self.now c.args.instant) r old old in
    subst R is (subst P (array_is c.self.invariant ∙ c.self.view_is) (denied_at_once here c.args.block why c.in_err-admit.ensures.denied (of_instant here c.args.instant) old))

pub returns-in_err-admit-clause-bad : goal.returns-in_err-admit-clause-bad
returns-in_err-admit-clause-bad g c offset at told =
    let here = mounted (with_index c.self.inside.log c.self.inside.index) c.self.inside.is_stopped in
    let why = c.in_err-admit.field-0.0 in
    let is : Err why ≡ c.from_residual.result = search rules in
    absurd (no_damage_at_once here c.args.block why c.in_err-admit.ensures.denied offset (cc (is, at)))

pub returns-in_err-admit-clause-damaged : goal.returns-in_err-admit-clause-damaged
returns-in_err-admit-clause-damaged g c offset at told s always =
    let here = mounted (with_index c.self.inside.log c.self.inside.index) c.self.inside.is_stopped in
    let why = c.in_err-admit.field-0.0 in
    let is : Err why ≡ c.from_residual.result = search rules in
    no_damage_at_once here c.args.block why c.in_err-admit.ensures.denied offset (cc (is, at))

-- ---- what is read
pub returns-clause-answers : goal.returns-clause-answers
returns-clause-answers g c =
    let old = g.B.Bank.view c.args.bank.now in
    let log : IndexedLog = with_index c.self.inside.log c.self.inside.index in
    let stopped = c.has_failed-self-inside.result in
    let is = array_is c.self.invariant ∙ c.self.view_is in
    record {
      reply = λ told s always.
          let P : Mounted → Type 0 = λ (m : Mounted). Always old (StandsFor m s) → AtReplies c.look_back_to-answer.result c.look_back_to-answer.new.into
          ((step m.g).reply s (request_at c.args.instant c.args.block)) in
          subst P is
          (λ stands. c.look_back_to-answer.ensures.reply told s (as_going log c.self.inside.is_stopped s old.now.disks (stands old.now (read_is_left old told))))
          always;
      state = log_keeps c.args.self.now (with_buffers log c.look_back_to-answer.new.room stopped) log c.self.inside.is_stopped stopped c.look_back_to-answer.result old
          (g.B.Bank.view c.look_back_to-answer.new.bank) c.look_back_to-answer.ensures.any_moment is (sym
          (buffers_are log c.look_back_to-answer.new.room stopped log.g.block c.look_back_to-answer.ensures.room));
    }

pub returns-clause-same : goal.returns-clause-same
returns-clause-same g c =
    let log : IndexedLog = with_index c.self.inside.log c.self.inside.index in
    let going_ : c.self.inside.is_stopped ≡ false = search rules in
    let is = array_is c.self.invariant ∙ c.self.view_is in
    stays_same log c.look_back_to-answer.new.room c.self.inside.is_stopped c.has_failed-self-inside.result c.args.self.now c.look_back_to-answer.result log.g.block
    c.look_back_to-answer.ensures.room is going_
    c.has_failed-self-inside.ensures
