use Rattle.std.proofs.Common.{rules, ◌≡◌, ℕ, [], if◌then◌else◌, Some, None, Result, Err, IfSome, inl, inr, ⊎_elim, refl, sym, ap, subst, ◌∙◌, arith}
use Rattle.trap_bank.specs.Called.{CalledTimes, CalledAtMost}
use Rattle.trap_cell.specs.Slots.{turned}
use Rattle.trap_format.specs.declared.head.Head.{Head}
use Rattle.trap_log.specs.Draining.{has_slot}
use Rattle.trap_model.specs.Limits.{greatest_record}
use Rattle.trap_model.specs.declared.numbers.Geometry.{Geometry}
use Rattle.trap_model.specs.declared.request.Refusal.TheVariants.{Full}
use Rattle.trap_model.specs.declared.request.Reply.{Reply}
use Rattle.trap_model.specs.declared.request.Request.TheVariants.{Write}
use Rattle.trap_array.specs.Owed.{owed, pending_writes, reply_of_write}
use Rattle.trap_stage.specs.Slots.{Stage}
use Rattle.trap_array.specs.Turning.{MovesLog, early_refusal}
use Rattle.trap_array.specs.declared.fault.Denied.{Denied}
use Rattle.trap_array.specs.Log.{with_index}
use Rattle.trap_array.specs.Areas.{InWrite}
use Rattle.trap_array.specs.Calls.{running}
use Rattle.trap_array.specs.Ending.{denied_by}
use Rattle.trap_array.specs.Calling.{kept_calls, planned_calls, room_calls}
use Rattle.trap_array.specs.Growing.{HeadAfter, IndexAfter}
use Rattle.trap_array.proofs.AreaSteps.{touches_none, drain_within, since_touches, drain_beside}
use Rattle.trap_array.proofs.Denials.{untouched_none}
use Rattle.trap_array.proofs.KeepSteps.{next_of, reply_of, room_failed, early_none, early_turns}
use Rattle.trap_array.proofs.Counting.{calls_after, calls_failed, calls_none, left_or_none, planned_is, room_first, room_is}
use Rattle.trap_array.proofs.IndexSteps.{drained_step, fault_owes, fault_refuses, head_fault, head_since, head_still, index_still, index_since}
use Rattle.trap_array.proofs.TurnSteps.{array_of, denied_fault, turns_after}
use Rattle.trap_array.proofs.writing.write_block.Goals as goal

pub returns-in-Some-clause-moves : goal.returns-in-Some-clause-moves
returns-in-Some-clause-moves g c =
    let here = with_index c.args.log.now c.args.index.now in
    let is : early_refusal here.head c.args.time ≡ Some c.in-Some.why = search rules in
    early_turns here (g.B.Bank.view c.args.bank.now) c.args.time c.args.block c.args.bytes.now _ c.requires.can c.requires.block is

pub returns-in_err-drain_for_room-clause-moves : goal.returns-in_err-drain_for_room-clause-moves
returns-in_err-drain_for_room-clause-moves g c =
    let old = g.B.Bank.view c.args.bank.now in
    let new = g.B.Bank.view c.drain_for_room.new.bank in
    let here = with_index c.args.log.now c.args.index.now in
    let next = next_of here.g c.args.time c.args.block c.args.bytes.now in
    let replies = reply_of here.g c.args.time c.args.block c.args.bytes.now in
    let failed = denied_by c.in_err-drain_for_room.field-0.0 in
    let is : Err failed ≡ c.from_residual.result = search rules in
    let fault = denied_fault (running (with_index c.args.log.now c.args.index.now)) (g.B.Bank.view c.args.bank.now)
    (g.B.Bank.view c.drain_for_room.new.bank) c.in_err-drain_for_room.field-0.0 (c.in_err-drain_for_room.ensures.cause c.args.index.now) in
    let P : Result ℕ Denied → Type 0 = λ (r : Result ℕ Denied). MovesLog here (with_index c.drain_for_room.new.self c.args.index.now) next replies r old new in
    subst P is (room_failed here (with_index c.drain_for_room.new.self c.args.index.now) old new next replies failed
    fault (array_of c.args.log.now c.drain_for_room.new.self c.args.index.now c.args.index.now
    c.drain_for_room.ensures.same_log) c.drain_for_room.ensures.sizes (drain_beside (running here) old new (c.drain_for_room.ensures.touches c.args.index.now))
    (c.drain_for_room.ensures.any_moment c.args.index.now))

pub plan_and_commit-answer-requires-clause-can : goal.plan_and_commit-answer-requires-clause-can
plan_and_commit-answer-requires-clause-can g c =
    let can = c.in_ok-drain_for_room.ensures.room.can in
    record {
      in_step = drained_step c.args.log.now.head c.drain_for_room.new.self.head c.args.log.now.stage c.drain_for_room.new.self.stage c.args.index.now _
          c.in_ok-drain_for_room.ensures.room.head can.staged c.requires.can.in_step;
      same = c.requires.can.same ∙ sym c.drain_for_room.ensures.same_log.g;
      sizes = can.sizes;
      cell = can.cell;
    }

pub plan_and_commit-answer-requires-clause-not_worn : goal.plan_and_commit-answer-requires-clause-not_worn
plan_and_commit-answer-requires-clause-not_worn g c =
    let here = with_index c.args.log.now c.args.index.now in
    let none : early_refusal here.head c.args.time ≡ None = search rules in
    let number = (early_none here.head c.args.time none).1 in
    let last = ap (λ (h : Head). h.last) c.in_ok-drain_for_room.ensures.room.head in
    omega (arith, number, last, c.refusal.ensures.head.numbers.last_most)

pub returns-clause-moves : goal.returns-clause-moves
returns-clause-moves g c =
    let old = g.B.Bank.view c.args.bank.now in
    let mid = g.B.Bank.view c.drain_for_room.new.bank in
    let new = g.B.Bank.view c.plan_and_commit-answer.new.bank in
    let here = with_index c.args.log.now c.args.index.now in
    let between = with_index c.drain_for_room.new.self c.args.index.now in
    let P : Geometry → Type 0 = λ (geometry : Geometry). MovesLog between (with_index c.plan_and_commit-answer.new.log c.plan_and_commit-answer.new.index)
    (next_of geometry c.args.time c.args.block c.args.bytes.now) (reply_of geometry c.args.time c.args.block c.args.bytes.now) c.plan_and_commit-answer.result mid new in
    turns_after here (with_index c.plan_and_commit-answer.new.log c.plan_and_commit-answer.new.index) (next_of here.g c.args.time c.args.block c.args.bytes.now)
    (reply_of here.g c.args.time c.args.block c.args.bytes.now)
    between c.plan_and_commit-answer.result old mid new (array_of c.args.log.now c.drain_for_room.new.self c.args.index.now c.args.index.now c.drain_for_room.ensures.same_log)
    (c.in_ok-drain_for_room.ensures.room.moves c.args.index.now) c.drain_for_room.ensures.sizes (drain_beside (running here) old mid (c.drain_for_room.ensures.touches c.args.index.now))
    (subst P c.drain_for_room.ensures.same_log.g c.plan_and_commit-answer.ensures.moves)

pub returns-in-Some-clause-leaves : goal.returns-in-Some-clause-leaves
returns-in-Some-clause-leaves g c = record {
  touches =
      touches_none (InWrite (running (with_index c.args.log.now c.args.index.now)) c.args.block) (g.B.Bank.view c.args.bank.now);
  head = refl;
  index = refl;
  calls =
      let here = running (with_index c.args.log.now c.args.index.now) in
      calls_none (kept_calls here c.args.block) here here _ (g.B.Bank.view c.args.bank.now);
}

pub returns-in_err-drain_for_room-clause-leaves : goal.returns-in_err-drain_for_room-clause-leaves
returns-in_err-drain_for_room-clause-leaves g c = record {
  touches =
      drain_within (running (with_index c.args.log.now c.args.index.now)) c.args.block (g.B.Bank.view c.args.bank.now) (g.B.Bank.view c.drain_for_room.new.bank)
      (c.drain_for_room.ensures.touches c.args.index.now);
  head =
      let here = running (with_index c.args.log.now c.args.index.now) in
      let old = g.B.Bank.view c.args.bank.now in
      let new = g.B.Bank.view c.drain_for_room.new.bank in
      let failed = denied_by c.in_err-drain_for_room.field-0.0 in
      let is : Err failed ≡ c.from_residual.result = search rules in
      let fault = denied_fault here old new c.in_err-drain_for_room.field-0.0 (c.in_err-drain_for_room.ensures.cause c.args.index.now) in
      subst (λ (r : Result ℕ Denied). HeadAfter here.g here.head c.drain_for_room.new.self.head c.args.time r) is
      (head_fault here old new here.g here.head c.drain_for_room.new.self.head c.args.time failed fault
      (inl (head_still here.head c.drain_for_room.new.self.head c.in_err-drain_for_room.ensures.head_stays)));
  index =
      let here = running (with_index c.args.log.now c.args.index.now) in
      let after = running (with_index c.drain_for_room.new.self c.args.index.now) in
      let failed = denied_by c.in_err-drain_for_room.field-0.0 in
      let is : Err failed ≡ c.from_residual.result = search rules in
      let fault = denied_fault (running (with_index c.args.log.now c.args.index.now)) (g.B.Bank.view c.args.bank.now)
      (g.B.Bank.view c.drain_for_room.new.bank) c.in_err-drain_for_room.field-0.0 (c.in_err-drain_for_room.ensures.cause c.args.index.now) in
      subst (λ (r : Result ℕ Denied). IndexAfter here after c.args.time c.args.block r) is
      (index_still here after (g.B.Bank.view c.args.bank.now) (g.B.Bank.view c.drain_for_room.new.bank) c.args.time c.args.block failed fault c.in_err-drain_for_room.ensures.head_stays refl);
  calls =
      let here = running (with_index c.args.log.now c.args.index.now) in
      let after = running (with_index c.drain_for_room.new.self c.args.index.now) in
      let old = g.B.Bank.view c.args.bank.now in
      let new = g.B.Bank.view c.drain_for_room.new.bank in
      let failed = denied_by c.in_err-drain_for_room.field-0.0 in
      let is : Err failed ≡ c.from_residual.result = search rules in
      let room = room_is c.args.log.now c.args.index.now c.requires.can.in_step.staged.last in
      calls_failed (kept_calls here c.args.block) here after failed _ old new is
      (room_first here c.args.block (greatest_record here.g.block) old new (subst (λ (n : ℕ). CalledAtMost n old new) room c.drain_for_room.ensures.calls.most));
}

pub returns-clause-leaves : goal.returns-clause-leaves
returns-clause-leaves g c = record {
  touches =
      since_touches (running (with_index c.args.log.now c.args.index.now)) (running (with_index c.drain_for_room.new.self c.args.index.now)) c.args.block _
      c.drain_for_room.ensures.same_log.g c.in_ok-drain_for_room.ensures.room.head
      (left_or_none (has_slot c.args.log.now) c.drain_for_room.new.self.stage.pending c.args.log.now.stage.pending c.in_ok-drain_for_room.ensures.room.pending)
      (g.B.Bank.view c.args.bank.now) (g.B.Bank.view c.drain_for_room.new.bank) (g.B.Bank.view c.plan_and_commit-answer.new.bank)
      (c.drain_for_room.ensures.touches c.args.index.now) c.plan_and_commit-answer.ensures.leaves.touches;
  head =
      let here = running (with_index c.args.log.now c.args.index.now) in
      let between = running (with_index c.drain_for_room.new.self c.args.index.now) in
      let mid = g.B.Bank.view c.drain_for_room.new.bank in
      let new = g.B.Bank.view c.plan_and_commit-answer.new.bank in
      let t = c.plan_and_commit-answer.new.log.head in
      head_since here.g here.head between.head t c.args.time c.in_ok-drain_for_room.ensures.room.head between mid new c.plan_and_commit-answer.result c.plan_and_commit-answer.ensures.moves.cause
      (subst (λ (k : Geometry). HeadAfter k between.head t c.args.time c.plan_and_commit-answer.result) c.drain_for_room.ensures.same_log.g c.plan_and_commit-answer.ensures.leaves.head);
  index =
      index_since (running (with_index c.args.log.now c.args.index.now)) (running (with_index c.drain_for_room.new.self c.args.index.now))
      (running (with_index c.plan_and_commit-answer.new.log c.plan_and_commit-answer.new.index)) c.args.time c.args.block
      c.drain_for_room.ensures.same_log.g refl c.in_ok-drain_for_room.ensures.room.head c.plan_and_commit-answer.result c.plan_and_commit-answer.ensures.leaves.index;
  calls =
      let here = running (with_index c.args.log.now c.args.index.now) in
      let between = running (with_index c.drain_for_room.new.self c.args.index.now) in
      let after = running (with_index c.plan_and_commit-answer.new.log c.plan_and_commit-answer.new.index) in
      let old = g.B.Bank.view c.args.bank.now in
      let mid = g.B.Bank.view c.drain_for_room.new.bank in
      let new = g.B.Bank.view c.plan_and_commit-answer.new.bank in
      let made = c.in_ok-drain_for_room.ensures.room in
      let geometry = c.drain_for_room.ensures.same_log.g in
      let room = room_is c.args.log.now c.args.index.now c.requires.can.in_step.staged.last in
      let pending = if has_slot c.args.log.now then c.args.log.now.stage.pending else [] in
      let cell = if has_slot c.args.log.now then c.args.log.now.cell else turned c.args.log.now.cell in
      let end : between.head.end_off ≡ here.head.end_off = ap (λ (h : Head). h.end_off) made.head in
      let whole = calls_after (room_calls here) (planned_calls between between.pending between.cell c.args.block) (planned_calls here pending cell c.args.block) here between after
      c.plan_and_commit-answer.result old mid new geometry end
      (λ n. planned_is here between pending cell c.args.block c.drain_for_room.new.self.head.drained n geometry made.head made.pending made.cell)
      (subst (λ (n : ℕ). CalledTimes n old mid) room c.in_ok-drain_for_room.ensures.calls.ok) c.plan_and_commit-answer.ensures.leaves.calls in
      record { kept = whole.kept; most = whole.most };
}

pub returns-in-Some-clause-at_once : goal.returns-in-Some-clause-at_once
returns-in-Some-clause-at_once g c why some = untouched_none (g.B.Bank.view c.args.bank.now)

pub returns-in_err-drain_for_room-clause-at_once : goal.returns-in_err-drain_for_room-clause-at_once
returns-in_err-drain_for_room-clause-at_once g c why some =
    let none : early_refusal c.args.log.now.head c.args.time ≡ None = search rules in
    absurd (cc (none, some))

pub returns-clause-at_once : goal.returns-clause-at_once
returns-clause-at_once g c why some =
    let none : early_refusal c.args.log.now.head c.args.time ≡ None = search rules in
    absurd (cc (none, some))

pub returns-in_err-drain_for_room-clause-staged : goal.returns-in_err-drain_for_room-clause-staged
returns-in_err-drain_for_room-clause-staged g c why refused =
    let failed = denied_by c.in_err-drain_for_room.field-0.0 in
    let is : Err failed ≡ c.from_residual.result = search rules in
    let fault = denied_fault (running (with_index c.args.log.now c.args.index.now)) (g.B.Bank.view c.args.bank.now)
    (g.B.Bank.view c.drain_for_room.new.bank) c.in_err-drain_for_room.field-0.0 (c.in_err-drain_for_room.ensures.cause c.args.index.now) in
    absurd (fault_refuses (running (with_index c.args.log.now c.args.index.now)) (g.B.Bank.view c.args.bank.now) (g.B.Bank.view c.drain_for_room.new.bank)
    failed why (is ∙ refused) fault)

pub returns-clause-staged : goal.returns-clause-staged
returns-clause-staged g c why refused =
    let same = ap (λ (stage : Stage). stage.pending) (c.plan_and_commit-answer.ensures.staged why refused) in
    ⊎_elim (λ kept. inl (same ∙ kept)) (λ none. inr (same ∙ none))
    (left_or_none (has_slot c.args.log.now) c.drain_for_room.new.self.stage.pending c.args.log.now.stage.pending c.in_ok-drain_for_room.ensures.room.pending)

pub returns-in_err-drain_for_room-clause-pending : goal.returns-in_err-drain_for_room-clause-pending
returns-in_err-drain_for_room-clause-pending g c =
    let here = running (with_index c.args.log.now c.args.index.now) in
    let failed = denied_by c.in_err-drain_for_room.field-0.0 in
    let is : Err failed ≡ c.from_residual.result = search rules in
    let fault = denied_fault (running (with_index c.args.log.now c.args.index.now)) (g.B.Bank.view c.args.bank.now)
    (g.B.Bank.view c.drain_for_room.new.bank) c.in_err-drain_for_room.field-0.0 (c.in_err-drain_for_room.ensures.cause c.args.index.now) in
    let P : Reply → Type 0 = λ (reply : Reply). pending_writes c.drain_for_room.new.self.head ≡ owed c.args.log.now.g (Write c.args.time c.args.block c.args.bytes.now)
    reply (pending_writes c.args.log.now.head) in
    subst (λ (r : Result ℕ Denied). IfSome (reply_of_write r) P) is
    (fault_owes here (g.B.Bank.view c.args.bank.now) (g.B.Bank.view c.drain_for_room.new.bank) P failed fault)

pub returns-in_err-drain_for_room-clause-refused : goal.returns-in_err-drain_for_room-clause-refused
returns-in_err-drain_for_room-clause-refused g c why other =
    let here = running (with_index c.args.log.now c.args.index.now) in
    let failed = denied_by c.in_err-drain_for_room.field-0.0 in
    let is : Err failed ≡ c.from_residual.result = search rules in
    let fault = denied_fault (running (with_index c.args.log.now c.args.index.now)) (g.B.Bank.view c.args.bank.now)
    (g.B.Bank.view c.drain_for_room.new.bank) c.in_err-drain_for_room.field-0.0 (c.in_err-drain_for_room.ensures.cause c.args.index.now) in
    let none : early_refusal c.args.log.now.head c.args.time ≡ None = search rules in (
      (λ refused. absurd (fault_refuses here (g.B.Bank.view c.args.bank.now) (g.B.Bank.view c.drain_for_room.new.bank) failed why
          (is ∙ refused) fault)),
      (λ some. absurd (cc (none, some))),
    )

pub returns-in_err-drain_for_room-clause-full : goal.returns-in_err-drain_for_room-clause-full
returns-in_err-drain_for_room-clause-full g c full =
    let here = running (with_index c.args.log.now c.args.index.now) in
    let failed = denied_by c.in_err-drain_for_room.field-0.0 in
    let is : Err failed ≡ c.from_residual.result = search rules in
    let fault = denied_fault (running (with_index c.args.log.now c.args.index.now)) (g.B.Bank.view c.args.bank.now)
    (g.B.Bank.view c.drain_for_room.new.bank) c.in_err-drain_for_room.field-0.0 (c.in_err-drain_for_room.ensures.cause c.args.index.now) in
    absurd (fault_refuses here (g.B.Bank.view c.args.bank.now) (g.B.Bank.view c.drain_for_room.new.bank) failed Full (is ∙ full)
    fault)
