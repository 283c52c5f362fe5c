use Rattle.std.proofs.Common.{rules, ◌≡◌, Bool, false, IfOk, refl, sym, subst, ◌∙◌}
use Rattle.trap_bank.proofs.Moves.{read_is_left}
use Rattle.trap_bank.proofs.OnlyReads.{reads_none}
use Rattle.trap_array.specs.Calls.{Mounted, IsReady, running}
use Rattle.trap_array.specs.Coded.{DeniesCode, WritesCode}
use Rattle.trap_array.specs.Log.{IndexedLog, with_index}
use Rattle.trap_array.proofs.Denials.{no_code, no_code_stopped}
use Rattle.trap_array.proofs.WriteSteps.{mounted, with_buffers, buffers_are, array_is, stays_same, ready_still, reads_keep, log_keeps}
use Rattle.trap_array.proofs.array.Array.coded.Goals as goal

pub returns-then-self-clause-state : goal.returns-then-self-clause-state
returns-then-self-clause-state g c =
    let old = g.B.Bank.view c.args.bank.now in
    reads_keep c.args.self.now c.args.self.now c.args.self.now.is_stopped _ old old (reads_none old) refl

pub returns-then-self-clause-denied : goal.returns-then-self-clause-denied
returns-then-self-clause-denied g c = no_code_stopped c.args.self.now c.args.seq (g.B.Bank.view c.args.bank.now) (search rules)

pub returns-clause-code : goal.returns-clause-code
returns-clause-code g c =
    let old = g.B.Bank.view c.args.bank.now in
    let log : IndexedLog = with_index c.self.inside.log c.self.inside.index in
    let going_ : c.self.inside.is_stopped ≡ false = search rules in
    let P : Mounted → Type 0 = λ (m : Mounted). IfOk c.read_code-answer.result (λ len. WritesCode m old c.args.seq len c.args.into.now c.read_code-answer.new.into) in
    let S : Bool → Type 0 = λ (stopped : Bool). P (mounted log stopped) in
    subst P (array_is c.self.invariant ∙ c.self.view_is) (subst S (sym going_) c.read_code-answer.ensures.code)

pub returns-clause-state : goal.returns-clause-state
returns-clause-state g c =
    let old = g.B.Bank.view c.args.bank.now in
    let log : IndexedLog = with_index c.self.inside.log c.self.inside.index in
    let stopped = c.has_failed-self-inside.result in
    log_keeps c.args.self.now (with_buffers log c.read_code-answer.new.room stopped) log c.self.inside.is_stopped stopped c.read_code-answer.result old
    (g.B.Bank.view c.read_code-answer.new.bank) c.read_code-answer.ensures.any_moment (array_is c.self.invariant ∙ c.self.view_is)
    (sym (buffers_are log c.read_code-answer.new.room stopped log.g.block c.read_code-answer.ensures.room))

pub returns-clause-ready : goal.returns-clause-ready
returns-clause-ready g c =
    let old = g.B.Bank.view c.args.bank.now in
    let new = g.B.Bank.view c.read_code-answer.new.bank in
    let log : IndexedLog = with_index c.self.inside.log c.self.inside.index in
    let stopped = c.has_failed-self-inside.result in
    let going_ : c.self.inside.is_stopped ≡ false = search rules in
    let ready = subst (λ (m : Mounted). IsReady m old) (sym (array_is c.self.invariant ∙ c.self.view_is)) c.requires.ready in
    subst (λ (m : Mounted). IsReady m new) (buffers_are log c.read_code-answer.new.room stopped log.g.block c.read_code-answer.ensures.room)
    (ready_still log c.self.inside.is_stopped stopped old new c.read_code-answer.ensures.any_moment going_ ready)

pub returns-clause-same : goal.returns-clause-same
returns-clause-same g c =
    let log : IndexedLog = with_index c.self.inside.log c.self.inside.index in
    let going_ : c.self.inside.is_stopped ≡ false = search rules in
    stays_same log c.read_code-answer.new.room c.self.inside.is_stopped c.has_failed-self-inside.result c.args.self.now c.read_code-answer.result log.g.block
    c.read_code-answer.ensures.room (array_is c.self.invariant ∙ c.self.view_is) going_ c.has_failed-self-inside.ensures

pub returns-clause-denied : goal.returns-clause-denied
returns-clause-denied g c =
    let old = g.B.Bank.view c.args.bank.now in
    let new = g.B.Bank.view c.read_code-answer.new.bank in
    let log : IndexedLog = with_index c.self.inside.log c.self.inside.index in
    let result = c.read_code-answer.result in
    let going_ : c.self.inside.is_stopped ≡ false = search rules in
    let P : Mounted → Type 0 = λ (m : Mounted). DeniesCode m c.args.seq result old new in
    let S : Bool → Type 0 = λ (stopped : Bool). P (mounted log stopped) in
    subst P (array_is c.self.invariant ∙ c.self.view_is) (subst S (sym going_)
    (no_code (running log) c.args.seq result old new refl c.read_code-answer.ensures.cause
    (λ offset is told s always. c.read_code-answer.ensures.damaged offset is told s (always old.now (read_is_left old told)))))
