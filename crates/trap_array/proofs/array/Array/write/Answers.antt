use Rattle.std.proofs.Common.{rules, ◌≡◌, ℕ, ◌+◌, ◌<◌, Bool, false, ◌||◌, Result, Err, refl, sym, ap, subst, ◌∙◌}
use Rattle.trap_model.specs.Image.{volume}
use Rattle.trap_array.specs.Beside.{StaysFrom}
use Rattle.trap_array.specs.Calls.{Mounted, SameArray, IsReady, is_fault, running}
use Rattle.trap_array.specs.Causes.{DeniedBy, of_write}
use Rattle.trap_array.specs.Taking.{TakesStep}
use Rattle.trap_array.specs.declared.fault.Denied.{Denied}
use Rattle.trap_array.proofs.AtOnce.{denied_at_once, no_damage_at_once, stops_at_once, write_at_once}
use Rattle.trap_array.proofs.Denials.{denied_write}
use Rattle.trap_array.proofs.KeepSteps.{next_of, reply_of}
use Rattle.trap_array.specs.Log.{IndexedLog, with_index}
use Rattle.trap_array.proofs.WriteSteps.{mounted, buffers_are, array_is, index_mounted, as_going, may_mounted, has_mounted, ready_after, array_after}
use Rattle.trap_array.proofs.array.Array.write.Goals as goal

-- ---- what is denied at once
pub returns-in_err-admit-clause-takes : goal.returns-in_err-admit-clause-takes
returns-in_err-admit-clause-takes g c =
    let old = g.B.Bank.view c.args.bank.now in
    let here = mounted (with_index c.self.inside.log c.self.inside.index) c.self.inside.is_stopped in
    let why = c.in_err-admit.field-0.0 in
    let is : Err why ≡ c.from_residual.result = search rules in
    let P : Mounted → Type 0 = λ (m : Mounted). TakesStep m m c.args.time c.args.block c.args.bytes.now (Err why) old old in
    let R : Result ℕ Denied → Type 0 = λ (r : Result ℕ Denied). TakesStep c.args.self.now c.args.self.now c.args.time c.args.block c.args.bytes.now r old old in
    subst R is (subst P (array_is c.self.invariant ∙ c.self.view_is) (write_at_once here c.args.block why c.in_err-admit.ensures.denied c.args.time c.args.bytes.now old))

pub returns-in_err-admit-clause-causes : goal.returns-in_err-admit-clause-causes
returns-in_err-admit-clause-causes g c =
    let old = g.B.Bank.view c.args.bank.now in
    let here = mounted (with_index c.self.inside.log c.self.inside.index) c.self.inside.is_stopped in
    let why = c.in_err-admit.field-0.0 in
    let is : Err why ≡ c.from_residual.result = search rules in
    let P : Mounted → Type 0 = λ (m : Mounted). DeniedBy {T = ℕ} m c.args.block (of_write m c.args.time) (Err why) old old in
    let R : Result ℕ Denied → Type 0 = λ (r : Result ℕ Denied). DeniedBy c.args.self.now c.args.block (of_write c.args.self.now c.args.time) r old old in
    subst R is (subst P (array_is c.self.invariant ∙ c.self.view_is) (denied_at_once here c.args.block why c.in_err-admit.ensures.denied (of_write here c.args.time) old))

pub returns-in_err-admit-clause-damaged : goal.returns-in_err-admit-clause-damaged
returns-in_err-admit-clause-damaged g c offset at =
    let here = mounted (with_index c.self.inside.log c.self.inside.index) c.self.inside.is_stopped in
    let why = c.in_err-admit.field-0.0 in
    let is : Err why ≡ c.from_residual.result = search rules in
    no_damage_at_once here c.args.block why c.in_err-admit.ensures.denied offset (cc (is, at))

pub returns-in_err-admit-clause-stops : goal.returns-in_err-admit-clause-stops
returns-in_err-admit-clause-stops g c =
    let here = mounted (with_index c.self.inside.log c.self.inside.index) c.self.inside.is_stopped in
    let why = c.in_err-admit.field-0.0 in
    let is : Err why ≡ c.from_residual.result = search rules in
    let P : Mounted → Type 0 = λ (m : Mounted). m.is_stopped ≡ (m.is_stopped || is_fault {T = ℕ} (Err why)) in
    let R : Result ℕ Denied → Type 0 = λ (r : Result ℕ Denied). c.args.self.now.is_stopped ≡ (c.args.self.now.is_stopped || is_fault r) in
    subst R is (subst P (array_is c.self.invariant ∙ c.self.view_is) (stops_at_once here c.args.block why c.in_err-admit.ensures.denied ℕ))

-- ---- what is written
pub invariant_of-self : goal.invariant_of-self
invariant_of-self g c =
    let log = c.self.inside.log in
    array_after log c.write_block-result.new.log c.self.inside.index c.write_block-result.new.index c.write_block-result.new.room
    (next_of log.g c.args.time c.args.block c.args.bytes.now) (reply_of log.g c.args.time c.args.block c.args.bytes.now)
    c.args.time c.args.block c.write_block-result.result (g.B.Bank.view c.args.bank.now) (g.B.Bank.view c.write_block-result.new.bank) c.has_failed-self-inside.result
    c.write_block-result.ensures.moves c.write_block-result.ensures.leaves.index
    c.has_failed-self-inside.ensures c.self.invariant.same c.write_block-result.ensures.room

pub write_block-result-requires-clause-can : goal.write_block-result-requires-clause-can
write_block-result-requires-clause-can g c =
    let going_ : c.self.inside.is_stopped ≡ false = search rules in
    let is = array_is c.self.invariant ∙ c.self.view_is in
    let ready = subst (λ (m : Mounted). IsReady m (g.B.Bank.view c.args.bank.now)) (sym is) c.requires.ready in
    record { in_step = c.self.invariant.in_step going_; same = c.self.invariant.same; sizes = ready.sizes going_; cell = record { stands = ready.stands going_; value = ready.value going_ } }

pub returns-clause-takes : goal.returns-clause-takes
returns-clause-takes g c =
    let old = g.B.Bank.view c.args.bank.now in
    let new = g.B.Bank.view c.write_block-result.new.bank in
    let log : IndexedLog = with_index c.self.inside.log c.self.inside.index in
    let stopped = c.self.inside.is_stopped in
    let after = mounted (with_index c.write_block-result.new.log c.write_block-result.new.index) c.has_failed-self-inside.result in
    let turns = c.write_block-result.ensures.moves in
    let P : Mounted → Type 0 = λ (m : Mounted). TakesStep m after c.args.time c.args.block c.args.bytes.now c.write_block-result.result old new in
    let is = array_is c.self.invariant ∙ c.self.view_is in
    let kept = buffers_are (with_index c.write_block-result.new.log c.write_block-result.new.index) c.write_block-result.new.room c.has_failed-self-inside.result
    c.self.inside.log.g.block c.write_block-result.ensures.room in
    subst (λ (m : Mounted). TakesStep c.args.self.now m c.args.time c.args.block c.args.bytes.now c.write_block-result.result old new) kept
    (subst P is (record {
      reply = λ told s always. turns.reply told s (λ w left. as_going log stopped s w.disks (always w left));
      state = record {
        turned = λ done going. has_mounted log stopped old new (next_of log.g c.args.time c.args.block c.args.bytes.now)
            (with_index c.write_block-result.new.log c.write_block-result.new.index) c.has_failed-self-inside.result (turns.turned done);
        any_moment = may_mounted log stopped old new (next_of log.g c.args.time c.args.block c.args.bytes.now) turns.any_moment;
      };
      head = c.write_block-result.ensures.leaves.head;
      index = index_mounted log stopped (with_index c.write_block-result.new.log c.write_block-result.new.index) c.has_failed-self-inside.result c.args.time c.args.block
          c.write_block-result.result c.write_block-result.ensures.leaves.index;
      pending = c.write_block-result.ensures.pending;
      staged = c.write_block-result.ensures.staged;
      touches = c.write_block-result.ensures.leaves.touches;
      calls = record { kept = c.write_block-result.ensures.leaves.calls.kept; most = c.write_block-result.ensures.leaves.calls.most };
    }))

pub returns-clause-ready : goal.returns-clause-ready
returns-clause-ready g c =
    let old = g.B.Bank.view c.args.bank.now in
    let new = g.B.Bank.view c.write_block-result.new.bank in
    let log : IndexedLog = with_index c.self.inside.log c.self.inside.index in
    let going_ : c.self.inside.is_stopped ≡ false = search rules in
    let is = array_is c.self.invariant ∙ c.self.view_is in
    let ready = subst (λ (m : Mounted). IsReady m old) (sym is) c.requires.ready in
    subst (λ (m : Mounted). IsReady m new)
    (buffers_are (with_index c.write_block-result.new.log c.write_block-result.new.index) c.write_block-result.new.room c.has_failed-self-inside.result log.g.block c.write_block-result.ensures.room)
    (ready_after log (with_index c.write_block-result.new.log c.write_block-result.new.index) (next_of log.g c.args.time c.args.block c.args.bytes.now)
    (reply_of log.g c.args.time c.args.block c.args.bytes.now)
    c.write_block-result.result old new c.has_failed-self-inside.result c.write_block-result.ensures.moves c.has_failed-self-inside.ensures (ready.sizes going_))

pub returns-clause-others : goal.returns-clause-others
returns-clause-others g c =
    let old = g.B.Bank.view c.args.bank.now in
    let new = g.B.Bank.view c.write_block-result.new.bank in
    subst (λ (m : Mounted). StaysFrom (m.g.members + 1) old new) (array_is c.self.invariant ∙ c.self.view_is) c.write_block-result.ensures.moves.others

pub returns-clause-causes : goal.returns-clause-causes
returns-clause-causes g c =
    let old = g.B.Bank.view c.args.bank.now in
    let new = g.B.Bank.view c.write_block-result.new.bank in
    let log : IndexedLog = with_index c.self.inside.log c.self.inside.index in
    let result = c.write_block-result.result in
    let going_ : c.self.inside.is_stopped ≡ false = search rules in
    let inside : c.args.block < volume log.g = search rules in
    let P : Mounted → Type 0 = λ (m : Mounted). DeniedBy m c.args.block (of_write m c.args.time) result old new in
    let S : Bool → Type 0 = λ (stopped : Bool). DeniedBy (mounted log stopped) c.args.block (of_write (mounted log stopped) c.args.time) result old new in
    subst P (array_is c.self.invariant ∙ c.self.view_is)
    (subst S (sym going_)
    (denied_write (running log) c.args.time c.args.block result old new inside refl c.write_block-result.ensures.moves.cause c.write_block-result.ensures.refused
    c.write_block-result.ensures.full c.write_block-result.ensures.at_once))

pub returns-clause-same_array : goal.returns-clause-same_array
returns-clause-same_array g c =
    let log : IndexedLog = with_index c.self.inside.log c.self.inside.index in
    let after = mounted (with_index c.write_block-result.new.log c.write_block-result.new.index) c.has_failed-self-inside.result in
    let on = c.write_block-result.ensures.moves.same_array in
    let kept = buffers_are (with_index c.write_block-result.new.log c.write_block-result.new.index) c.write_block-result.new.room c.has_failed-self-inside.result c.self.inside.log.g.block
    c.write_block-result.ensures.room in
    let P : Mounted → Type 0 = λ (m : Mounted). SameArray m after in
    subst (λ (m : Mounted). SameArray c.args.self.now m) kept (subst P (array_is c.self.invariant ∙ c.self.view_is) (record { g = on.g; follows = on.follows }))

pub returns-clause-stops : goal.returns-clause-stops
returns-clause-stops g c =
    let going_ : c.self.inside.is_stopped ≡ false = search rules in
    let is = array_is c.self.invariant ∙ c.self.view_is in
    let P : Mounted → Type 0 = λ (m : Mounted). c.has_failed-self-inside.result ≡ (m.is_stopped || is_fault c.write_block-result.result) in
    subst P is (c.has_failed-self-inside.ensures ∙ sym (ap (λ (b : Bool). b || is_fault c.write_block-result.result) going_))
