use Rattle.std.proofs.Common.{rules, ◌≡◌, ℕ, ◌<◌, List, true, false, ◌||◌, Result, Ok, Err, sym, ap, subst, ◌∙◌}
use Rattle.trap_bank.specs.Steps.{Always}
use Rattle.trap_bank.proofs.Moves.{read_is_left}
use Rattle.trap_model.specs.ArrayStep.{step}
use Rattle.trap_model.specs.Image.{volume}
use Rattle.trap_model.specs.declared.request.Reply.TheVariants.{Is}
use Rattle.trap_model.specs.declared.request.Request.TheVariants.{Read}
use Rattle.trap_array.specs.Calling.{CallsInRead}
use Rattle.trap_array.specs.Calls.{Mounted, AnswersRead, ReadReplies, StandsFor, IsReady, is_fault}
use Rattle.trap_array.specs.Causes.{DeniedBy, of_read}
use Rattle.trap_array.specs.declared.fault.Denied.{Denied}
use Rattle.trap_array.specs.declared.fault.Denied.TheVariants.{MemberFault}
use Rattle.trap_array.proofs.AtOnce.{calls_at_once, denied_at_once, no_damage_at_once, no_log_at_once, read_at_once, same_at_once}
use Rattle.trap_array.proofs.LookingBack.{reads_mounted, reads_failed}
use Rattle.trap_array.specs.Log.{IndexedLog, with_index}
use Rattle.trap_array.proofs.WriteSteps.{mounted, with_buffers, buffers_are, array_is, stays_same, as_going, ready_still, log_keeps, read_replies}
use Rattle.trap_array.proofs.array.Array.read.Goals as goal

pub read_block-requires-clause-sizes : goal.read_block-requires-clause-sizes
read_block-requires-clause-sizes g c =
    let going_ : c.self.inside.is_stopped ≡ false = search rules in
    let is = array_is c.self.invariant ∙ c.self.view_is in
    (subst (λ (m : Mounted). IsReady m (g.B.Bank.view c.args.bank.now)) (sym is) c.requires.ready).sizes going_

-- ---- what is denied at once
pub returns-in_err-admit-clause-answers : goal.returns-in_err-admit-clause-answers
returns-in_err-admit-clause-answers g c =
    let old = g.B.Bank.view c.args.bank.now in
    let here = mounted (with_index c.self.inside.log c.self.inside.index) c.self.inside.is_stopped in
    let why = c.in_err-admit.field-0.0 in
    let is : Err why ≡ c.from_residual.result = search rules in
    let P : Mounted → Type 0 = λ (m : Mounted). AnswersRead m m (Read c.args.block) (ReadReplies {T = Unit {0}} (Err why) c.args.into.now) (Err why) old old in
    let R : Result (Unit {0}) Denied → Type 0 = λ (r : Result (Unit {0}) Denied).
    AnswersRead c.args.self.now c.args.self.now (Read c.args.block) (ReadReplies r c.args.into.now) r old old in
    subst R is (subst P (array_is c.self.invariant ∙ c.self.view_is) (read_at_once here c.args.block why c.in_err-admit.ensures.denied c.args.into.now old))

pub returns-in_err-admit-clause-calls : goal.returns-in_err-admit-clause-calls
returns-in_err-admit-clause-calls g c =
    let old = g.B.Bank.view c.args.bank.now in
    let here = mounted (with_index c.self.inside.log c.self.inside.index) c.self.inside.is_stopped in
    let why = c.in_err-admit.field-0.0 in
    let is : Err why ≡ c.from_residual.result = search rules in
    let P : Mounted → Type 0 = λ (m : Mounted). CallsInRead {T = Unit {0}} m c.args.block (Err why) old old in
    let R : Result (Unit {0}) Denied → Type 0 = λ (r : Result (Unit {0}) Denied). CallsInRead c.args.self.now c.args.block r old old in
    subst R is (subst P (array_is c.self.invariant ∙ c.self.view_is) (calls_at_once here c.args.block why c.in_err-admit.ensures.denied old))

pub returns-in_err-admit-clause-same : goal.returns-in_err-admit-clause-same
returns-in_err-admit-clause-same g c =
    let here = mounted (with_index c.self.inside.log c.self.inside.index) c.self.inside.is_stopped in
    let why = c.in_err-admit.field-0.0 in
    let is : Err why ≡ c.from_residual.result = search rules in
    let P : Mounted → Type 0 = λ (m : Mounted). m ≡ record m { is_stopped = m.is_stopped || is_fault {T = Unit {0}} (Err why) } in
    let R : Result (Unit {0}) Denied → Type 0 = λ (r : Result (Unit {0}) Denied). c.args.self.now ≡ record c.args.self.now { is_stopped = c.args.self.now.is_stopped || is_fault r } in
    subst R is (subst P (array_is c.self.invariant ∙ c.self.view_is) (same_at_once here c.args.block why c.in_err-admit.ensures.denied (Unit {0})))

pub returns-in_err-admit-clause-causes : goal.returns-in_err-admit-clause-causes
returns-in_err-admit-clause-causes g c =
    let old = g.B.Bank.view c.args.bank.now in
    let here = mounted (with_index c.self.inside.log c.self.inside.index) c.self.inside.is_stopped in
    let why = c.in_err-admit.field-0.0 in
    let is : Err why ≡ c.from_residual.result = search rules in
    let P : Mounted → Type 0 = λ (m : Mounted). DeniedBy {T = Unit {0}} m c.args.block (of_read m) (Err why) old old in
    let R : Result (Unit {0}) Denied → Type 0 = λ (r : Result (Unit {0}) Denied). DeniedBy c.args.self.now c.args.block (of_read c.args.self.now) r old old in
    subst R is (subst P (array_is c.self.invariant ∙ c.self.view_is) (denied_at_once here c.args.block why c.in_err-admit.ensures.denied (of_read here) old))

pub returns-in_err-admit-clause-log : goal.returns-in_err-admit-clause-log
returns-in_err-admit-clause-log g c at =
    let here = mounted (with_index c.self.inside.log c.self.inside.index) c.self.inside.is_stopped in
    let why = c.in_err-admit.field-0.0 in
    let is : Err why ≡ c.from_residual.result = search rules in
    no_log_at_once here c.args.block why c.in_err-admit.ensures.denied (cc (is, at))

pub returns-in_err-admit-clause-damaged : goal.returns-in_err-admit-clause-damaged
returns-in_err-admit-clause-damaged g c offset at =
    let here = mounted (with_index c.self.inside.log c.self.inside.index) c.self.inside.is_stopped in
    let why = c.in_err-admit.field-0.0 in
    let is : Err why ≡ c.from_residual.result = search rules in
    no_damage_at_once here c.args.block why c.in_err-admit.ensures.denied offset (cc (is, at))

-- ---- what is read
pub returns-in-Ok-clause-answers : goal.returns-in-Ok-clause-answers
returns-in-Ok-clause-answers g c =
    let old = g.B.Bank.view c.args.bank.now in
    let log : IndexedLog = with_index c.self.inside.log c.self.inside.index in
    let inside : c.args.block < volume log.g = search rules in
    let is = array_is c.self.invariant ∙ c.self.view_is in
    record {
      reply = λ told s always.
          let P : Mounted → Type 0 = λ (m : Mounted). Always old (StandsFor m s) → (step m.g).reply s (Read c.args.block) ≡ Is c.read_block.new.into in
          subst P is
          (λ stands. read_replies log.g s c.args.block inside ∙ ap (λ (b : List ℕ). Is b) (sym (c.in-Ok.ensures.bytes told c.self.inside.index s
          (as_going log c.self.inside.is_stopped s old.now.disks (stands old.now (read_is_left old told))))))
          always;
      state = log_keeps c.args.self.now (with_buffers log c.read_block.new.room c.self.inside.is_stopped) log c.self.inside.is_stopped c.self.inside.is_stopped _ old
          (g.B.Bank.view c.read_block.new.bank) c.read_block.ensures.any_moment is
          (sym (buffers_are log c.read_block.new.room c.self.inside.is_stopped log.g.block c.read_block.ensures.room));
    }

pub returns-in-Err-clause-answers : goal.returns-in-Err-clause-answers
returns-in-Err-clause-answers g c =
    let old = g.B.Bank.view c.args.bank.now in
    let log : IndexedLog = with_index c.self.inside.log c.self.inside.index in
    let is = array_is c.self.invariant ∙ c.self.view_is in
    record {
      reply = search rules;
      state = log_keeps c.args.self.now (with_buffers log c.read_block.new.room true) log c.self.inside.is_stopped true _ old
          (g.B.Bank.view c.read_block.new.bank) c.read_block.ensures.any_moment is
          (sym (buffers_are log c.read_block.new.room true log.g.block c.read_block.ensures.room));
    }

pub returns-in-Ok-clause-ready : goal.returns-in-Ok-clause-ready
returns-in-Ok-clause-ready g c =
    let old = g.B.Bank.view c.args.bank.now in
    let new = g.B.Bank.view c.read_block.new.bank in
    let log : IndexedLog = with_index c.self.inside.log c.self.inside.index in
    let stopped = c.self.inside.is_stopped in
    let going_ : c.self.inside.is_stopped ≡ false = search rules in
    let is = array_is c.self.invariant ∙ c.self.view_is in
    let ready = subst (λ (m : Mounted). IsReady m old) (sym is) c.requires.ready in
    subst (λ (m : Mounted). IsReady m new) (buffers_are log c.read_block.new.room stopped log.g.block c.read_block.ensures.room)
    (ready_still log stopped stopped old new c.read_block.ensures.any_moment going_ ready)

pub returns-in-Err-clause-ready : goal.returns-in-Err-clause-ready
returns-in-Err-clause-ready g c =
    let old = g.B.Bank.view c.args.bank.now in
    let new = g.B.Bank.view c.read_block.new.bank in
    let log : IndexedLog = with_index c.self.inside.log c.self.inside.index in
    let going_ : c.self.inside.is_stopped ≡ false = search rules in
    let is = array_is c.self.invariant ∙ c.self.view_is in
    let ready = subst (λ (m : Mounted). IsReady m old) (sym is) c.requires.ready in
    subst (λ (m : Mounted). IsReady m new) (buffers_are log c.read_block.new.room true log.g.block c.read_block.ensures.room)
    (ready_still log c.self.inside.is_stopped true old new c.read_block.ensures.any_moment going_ ready)

pub returns-in-Ok-clause-same : goal.returns-in-Ok-clause-same
returns-in-Ok-clause-same g c =
    let log : IndexedLog = with_index c.self.inside.log c.self.inside.index in
    let going_ : c.self.inside.is_stopped ≡ false = search rules in
    let is = array_is c.self.invariant ∙ c.self.view_is in
    stays_same log c.read_block.new.room c.self.inside.is_stopped c.self.inside.is_stopped c.args.self.now (Ok c.in-Ok.field-0) log.g.block c.read_block.ensures.room is going_ going_

pub returns-in-Err-clause-same : goal.returns-in-Err-clause-same
returns-in-Err-clause-same g c =
    let log : IndexedLog = with_index c.self.inside.log c.self.inside.index in
    let going_ : c.self.inside.is_stopped ≡ false = search rules in
    let is = array_is c.self.invariant ∙ c.self.view_is in
    let fault : c.from.result ≡ MemberFault c.in-Err.failed.member c.in-Err.failed.member = search rules in
    stays_same {T = Unit {0}} log c.read_block.new.room c.self.inside.is_stopped true c.args.self.now (Err c.from.result) log.g.block c.read_block.ensures.room is going_
    (sym (ap (λ (e : Denied). is_fault {T = Unit {0}} (Err e)) fault))

pub returns-in-Ok-clause-calls : goal.returns-in-Ok-clause-calls
returns-in-Ok-clause-calls g c =
    let log : IndexedLog = with_index c.self.inside.log c.self.inside.index in
    let old = g.B.Bank.view c.args.bank.now in
    let new = g.B.Bank.view c.read_block.new.bank in
    let is = array_is c.self.invariant ∙ c.self.view_is in
    subst (λ (m : Mounted). CallsInRead m c.args.block (Ok c.in-Ok.field-0) old new) is
    (reads_mounted log c.self.inside.is_stopped c.args.block c.in-Ok.field-0 old new (c.in-Ok.ensures.calls c.self.inside.index))

pub returns-in-Err-clause-calls : goal.returns-in-Err-clause-calls
returns-in-Err-clause-calls g c =
    let log : IndexedLog = with_index c.self.inside.log c.self.inside.index in
    let old = g.B.Bank.view c.args.bank.now in
    let new = g.B.Bank.view c.read_block.new.bank in
    let is = array_is c.self.invariant ∙ c.self.view_is in
    let fault : c.from.result ≡ MemberFault c.in-Err.failed.member c.in-Err.failed.member = search rules in
    subst (λ (m : Mounted). CallsInRead {T = Unit {0}} m c.args.block (Err c.from.result) old new) is
    (reads_failed log c.self.inside.is_stopped c.args.block c.in-Err.failed.member c.in-Err.failed c.from.result old new fault (c.in-Err.ensures.calls c.self.inside.index)
    (c.in-Err.ensures.failed_calls c.self.inside.index))
