use Rattle.std.proofs.Common.{rules, ◌≡◌, ℕ, ◌+◌, length, Result, Err, inl, inr, refl, sym, ap, subst, ◌∙◌, arith}
use Rattle.trap_bank.specs.Called.{CalledTimes, CalledAtMost}
use Rattle.trap_bank.proofs.Called.{called_then, called_at_most, at_most_then, at_most_more}
use Rattle.trap_bank.proofs.Moves.{read_is_left}
use Rattle.trap_cell.specs.Slots.{turned}
use Rattle.trap_cell.specs.Steps.{put_calls}
use Rattle.trap_model.specs.Limits.{greatest_record}
use Rattle.trap_raid.specs.Draining.{drain_calls}
use Rattle.trap_log.specs.Committing.{commit_calls}
use Rattle.trap_array.specs.Calling.{block_calls, commit_drain_calls}
use Rattle.trap_array.proofs.Counting.{commit_more, calls_failed, calls_kept, drain_is}
use Rattle.trap_format.specs.declared.head.Head.{Head}
use Rattle.trap_model.specs.ArrayStep.{added}
use Rattle.trap_model.specs.State.{last}
use Rattle.trap_model.specs.declared.history.State.{State}
use Rattle.trap_model.specs.declared.log_record.LogRec.{LogRec}
use Rattle.trap_model.specs.declared.request.Reply.{Reply}
use Rattle.trap_model.specs.declared.request.Reply.TheVariants.{Kept}
use Rattle.trap_array.specs.Calls.{running}
use Rattle.trap_array.specs.Ending.{denied_by}
use Rattle.trap_array.specs.Growing.{HeadAfter, IndexAfter}
use Rattle.trap_array.specs.Log.{with_index}
use Rattle.trap_array.specs.NextHead.{committed, drained_to, entry_for}
use Rattle.trap_array.specs.Turning.{MovesLog}
use Rattle.trap_array.specs.declared.fault.Denied.{Denied}
use Rattle.trap_array.specs.declared.fault.Denied.TheVariants.{LogFault}
use Rattle.trap_array.proofs.AreaSteps.{write_touches, commit_within, commit_beside, drain_beside}
use Rattle.trap_array.proofs.Beside.{both_stay}
use Rattle.trap_array.proofs.IndexSteps.{drained_step, fault_refuses, head_still, head_fault, one_more_after, has_record, index_grown}
use Rattle.trap_array.proofs.Turns.{then_keep_may, then_keep_has}
use Rattle.trap_array.proofs.TurnSteps.{denied_fault, fault_since, goes_then, log_of, array_of, turns_failed, turns_done}
use Rattle.trap_array.proofs.WriteSteps.{can_drain_on}
use Rattle.trap_array.proofs.writing.commit_and_drain.Goals as goal

-- ---- the drain
pub drain_all-requires : goal.drain_all-requires
drain_all-requires g c = record {
  can = can_drain_on c.args.log.now c.commit.new.self (g.B.Bank.view c.args.bank.now) (g.B.Bank.view c.commit.new.bank)
      (log_of c.args.log.now c.commit.new.self c.args.index.now c.commit.new.index c.commit.ensures.same_array) c.commit.ensures.sizes c.requires.can.sizes
      c.in_ok-commit.ensures.committed.in_step.staged c.in_ok-commit.ensures.committed.knows;
}

pub returns-in_err-drain_all-clause-moves : goal.returns-in_err-drain_all-clause-moves
returns-in_err-drain_all-clause-moves g c =
    let old = g.B.Bank.view c.args.bank.now in
    let mid = g.B.Bank.view c.commit.new.bank in
    let new = g.B.Bank.view c.drain_all.new.bank in
    let here = with_index c.args.log.now c.args.index.now in
    let between = with_index c.commit.new.self c.commit.new.index in
    let after = with_index c.drain_all.new.self c.commit.new.index in
    let next : State → State = λ (s : State). added s (entry_for c.args.rec.now.time c.args.rec.now.block c.args.bytes.now) in
    let replies : State → Reply = λ (s : State). Kept (last s + 1) in
    let failed = denied_by c.in_err-drain_all.field-0.0 in
    let is : Err failed ≡ c.from_residual-in_err-drain_all.result = search rules in
    let fault = denied_fault (running (with_index c.commit.new.self c.commit.new.index)) (g.B.Bank.view c.commit.new.bank)
    (g.B.Bank.view c.drain_all.new.bank) c.in_err-drain_all.field-0.0 (c.in_err-drain_all.ensures.cause c.commit.new.index) in
    let P : Result ℕ Denied → Type 0 = λ (r : Result ℕ Denied). MovesLog here after next replies r old new in
    subst P is
    (turns_failed here after next replies failed old new
    (fault_since (running here) (running between) old mid new c.commit.ensures.same_array c.in_ok-commit.ensures.committed.moves.faults failed
    fault)
    (goes_then (running here) (running between) (running after) c.commit.ensures.same_array
    (array_of c.commit.new.self c.drain_all.new.self c.commit.new.index c.commit.new.index c.drain_all.ensures.same_log))
    (λ d. c.drain_all.ensures.sizes d ∙ c.commit.ensures.sizes d)
    (both_stay (running here) (running between) old mid new c.commit.ensures.same_array c.in_ok-commit.ensures.committed.moves.tells
    (commit_beside (running here) old mid c.commit.ensures.touches) (drain_beside (running between) mid new (c.drain_all.ensures.touches c.commit.new.index)))
    (then_keep_may (running here) (running between) c.commit.ensures.same_array old mid new next c.in_ok-commit.ensures.committed.moves (c.drain_all.ensures.any_moment c.commit.new.index)))

pub returns-in_err-drain_all-clause-touches : goal.returns-in_err-drain_all-clause-touches
returns-in_err-drain_all-clause-touches g c =
    write_touches (with_index c.args.log.now c.args.index.now) (with_index c.commit.new.self c.commit.new.index) _ c.commit.ensures.same_array c.in_ok-commit.ensures.committed.pending
    (g.B.Bank.view c.args.bank.now) (g.B.Bank.view c.commit.new.bank) (g.B.Bank.view c.drain_all.new.bank) c.commit.ensures.touches (c.drain_all.ensures.touches c.commit.new.index)

pub returns-in_err-drain_all-clause-index : goal.returns-in_err-drain_all-clause-index
returns-in_err-drain_all-clause-index g c =
    let here = running (with_index c.args.log.now c.args.index.now) in
    let between = running (with_index c.commit.new.self c.commit.new.index) in
    let after = running (with_index c.drain_all.new.self c.commit.new.index) in
    let failed = denied_by c.in_err-drain_all.field-0.0 in
    let is : Err failed ≡ c.from_residual-in_err-drain_all.result = search rules in
    let fault = denied_fault between (g.B.Bank.view c.commit.new.bank) (g.B.Bank.view c.drain_all.new.bank) c.in_err-drain_all.field-0.0 (c.in_err-drain_all.ensures.cause c.commit.new.index) in
    let code = c.requires.can.code in
    let size = length c.args.spelled.now in
    let put = c.in_err-drain_all.ensures.head_stays ∙ c.in_ok-commit.ensures.committed.head in
    let grew = ap (λ (h : Head). h.end_off) put in
    let kept = subst (λ (t : Head). t ≡ drained_to (committed here.head c.args.rec.now.time size) t.drained) (sym put) refl in
    subst (λ (r : Result ℕ Denied). IndexAfter here after c.args.rec.now.time c.args.rec.now.block r) is
    (index_grown here between after (g.B.Bank.view c.commit.new.bank) (g.B.Bank.view c.drain_all.new.bank) c.args.rec.now.time c.args.rec.now.block failed fault
    (one_more_after here.g here.head after.head c.args.rec.now.time (here.head.last + 1) size refl c.requires.can.next code.0 code.1 kept)
    (has_record here after (here.head.last + 1) c.args.rec.now.time c.args.rec.now.block size c.args.rec.now refl code.0 c.requires.rec c.in_ok-commit.ensures.committed.index grew))

pub returns-in_err-drain_all-clause-head : goal.returns-in_err-drain_all-clause-head
returns-in_err-drain_all-clause-head g c =
    let here = running (with_index c.args.log.now c.args.index.now) in
    let between = running (with_index c.commit.new.self c.commit.new.index) in
    let failed = denied_by c.in_err-drain_all.field-0.0 in
    let is : Err failed ≡ c.from_residual-in_err-drain_all.result = search rules in
    let fault = denied_fault between (g.B.Bank.view c.commit.new.bank) (g.B.Bank.view c.drain_all.new.bank) c.in_err-drain_all.field-0.0 (c.in_err-drain_all.ensures.cause c.commit.new.index) in
    let code = c.requires.can.code in
    let size = length c.args.spelled.now in
    let put = c.in_err-drain_all.ensures.head_stays ∙ c.in_ok-commit.ensures.committed.head in
    let kept = subst (λ (t : Head). t ≡ drained_to (committed here.head c.args.rec.now.time size) t.drained) (sym put) refl in
    subst (λ (r : Result ℕ Denied). HeadAfter here.g here.head c.drain_all.new.self.head c.args.rec.now.time r) is
    (head_fault between (g.B.Bank.view c.commit.new.bank) (g.B.Bank.view c.drain_all.new.bank) here.g here.head c.drain_all.new.self.head c.args.rec.now.time failed fault
    (inr (one_more_after here.g here.head c.drain_all.new.self.head c.args.rec.now.time (here.head.last + 1) size refl c.requires.can.next code.0 code.1 kept)))

pub returns-in_err-drain_all-clause-calls : goal.returns-in_err-drain_all-clause-calls
returns-in_err-drain_all-clause-calls g c =
    let old = g.B.Bank.view c.args.bank.now in
    let mid = g.B.Bank.view c.commit.new.bank in
    let new = g.B.Bank.view c.drain_all.new.bank in
    let a = with_index c.args.log.now c.args.index.now in
    let here = running a in
    let after = running (with_index c.drain_all.new.self c.commit.new.index) in
    let failed = denied_by c.in_err-drain_all.field-0.0 in
    let is : Err failed ≡ c.from_residual-in_err-drain_all.result = search rules in
    let block = c.args.rec.now.block in
    let size = length c.args.spelled.now in
    let first = commit_calls c.args.log.now size in
    let rest = block_calls here block + drain_calls a.g a.head.lost a.head.rebuilt a.stage.pending + put_calls (turned a.cell) in
    let committed_ = c.in_ok-commit.ensures.committed in
    let drains = drain_is a c.commit.new.self block size c.args.rec.now.time c.args.bytes.now c.args.parity.now c.commit.ensures.same_array.g committed_.head committed_.pending
    committed_.in_step.staged.last committed_.cell in
    let code = c.requires.can.code in
    let both = at_most_then first rest (first + rest) old mid new (omega arith) (called_at_most first first old mid (omega arith) c.in_ok-commit.ensures.calls.ok)
    (subst (λ (n : ℕ). CalledAtMost n mid new) drains c.drain_all.ensures.calls.most) in
    calls_failed (commit_drain_calls here here.pending here.cell block) here after failed _ old new is
    (at_most_more (first + rest) (commit_drain_calls here here.pending here.cell block (greatest_record here.g.block)) old new
    (commit_more here here.pending here.cell block size (greatest_record here.g.block) (omega arith)) both)

pub returns-in_err-drain_all-clause-refused : goal.returns-in_err-drain_all-clause-refused
returns-in_err-drain_all-clause-refused g c why refused =
    let between = running (with_index c.commit.new.self c.commit.new.index) in
    let failed = denied_by c.in_err-drain_all.field-0.0 in
    let is : Err failed ≡ c.from_residual-in_err-drain_all.result = search rules in
    let fault = denied_fault (running (with_index c.commit.new.self c.commit.new.index)) (g.B.Bank.view c.commit.new.bank)
    (g.B.Bank.view c.drain_all.new.bank) c.in_err-drain_all.field-0.0 (c.in_err-drain_all.ensures.cause c.commit.new.index) in
    fault_refuses between (g.B.Bank.view c.commit.new.bank) (g.B.Bank.view c.drain_all.new.bank) failed why (is ∙ refused) fault

pub returns-clause-calls : goal.returns-clause-calls
returns-clause-calls g c =
    let old = g.B.Bank.view c.args.bank.now in
    let mid = g.B.Bank.view c.commit.new.bank in
    let new = g.B.Bank.view c.drain_all.new.bank in
    let a = with_index c.args.log.now c.args.index.now in
    let here = running a in
    let last_ = running (with_index c.drain_all.new.self c.commit.new.index) in
    let block = c.args.rec.now.block in
    let size = length c.args.spelled.now in
    let first = commit_calls c.args.log.now size in
    let rest = block_calls here block + drain_calls a.g a.head.lost a.head.rebuilt a.stage.pending + put_calls (turned a.cell) in
    let committed_ = c.in_ok-commit.ensures.committed in
    let drains = drain_is a c.commit.new.self block size c.args.rec.now.time c.args.bytes.now c.args.parity.now c.commit.ensures.same_array.g committed_.head committed_.pending
    committed_.in_step.staged.last committed_.cell in
    let code = c.requires.can.code in
    let grew = ap (λ (h : Head). h.end_off) c.in_ok-drain_all.ensures.drained.head ∙ ap (λ (h : Head). h.end_off) committed_.head in
    calls_kept (commit_drain_calls here here.pending here.cell block) here last_ c.args.rec.now.seq size old new grew
    (commit_more here here.pending here.cell block size (greatest_record here.g.block) (omega arith))
    (called_then first rest old mid new c.in_ok-commit.ensures.calls.ok (subst (λ (n : ℕ). CalledTimes n mid new) drains c.in_ok-drain_all.ensures.calls.ok))

-- ---- the write is kept
pub returns-in_err-commit-clause-moves : goal.returns-in_err-commit-clause-moves
returns-in_err-commit-clause-moves g c =
    let old = g.B.Bank.view c.args.bank.now in
    let mid = g.B.Bank.view c.commit.new.bank in
    let here = with_index c.args.log.now c.args.index.now in
    let next : State → State = λ (s : State). added s (entry_for c.args.rec.now.time c.args.rec.now.block c.args.bytes.now) in
    let replies : State → Reply = λ (s : State). Kept (last s + 1) in
    let is : Err LogFault ≡ c.from_residual.result = search rules in
    let P : Result ℕ Denied → Type 0 = λ (r : Result ℕ Denied). MovesLog here (with_index c.commit.new.self c.commit.new.index) next replies r old mid in
    subst P is
    (turns_failed here (with_index c.commit.new.self c.commit.new.index) next replies LogFault old mid c.in_err-commit.ensures.cause c.commit.ensures.same_array c.commit.ensures.sizes
    (commit_beside (running here) old mid c.commit.ensures.touches) c.commit.ensures.any_moment)

pub returns-in_err-commit-clause-touches : goal.returns-in_err-commit-clause-touches
returns-in_err-commit-clause-touches g c =
    commit_within (running (with_index c.args.log.now c.args.index.now)) c.args.rec.now.block (g.B.Bank.view c.args.bank.now) (g.B.Bank.view c.commit.new.bank) c.commit.ensures.touches

pub returns-clause-moves : goal.returns-clause-moves
returns-clause-moves g c =
    let old = g.B.Bank.view c.args.bank.now in
    let mid = g.B.Bank.view c.commit.new.bank in
    let here = with_index c.args.log.now c.args.index.now in
    let between = with_index c.commit.new.self c.commit.new.index in
    let next : State → State = λ (s : State). added s (entry_for c.args.rec.now.time c.args.rec.now.block c.args.bytes.now) in
    let done = g.B.Bank.view c.drain_all.new.bank in
    let kept = with_index c.drain_all.new.self c.commit.new.index in
    let seq : c.args.rec.now.seq ≡ here.head.last + 1 = ap (λ (r : LogRec). r.seq) c.requires.rec in
    let turned =
    then_keep_has (running here) (running between) c.commit.ensures.same_array old mid done next c.in_ok-commit.ensures.committed.moves (running kept)
    (c.in_ok-drain_all.ensures.drained.moves c.commit.new.index) in
    let step =
    drained_step c.commit.new.self.head c.drain_all.new.self.head c.commit.new.self.stage c.drain_all.new.self.stage c.commit.new.index _
    c.in_ok-drain_all.ensures.drained.head c.in_ok-drain_all.ensures.drained.staged c.in_ok-commit.ensures.committed.in_step in
    let cell = c.in_ok-drain_all.ensures.drained.knows in
    let on =
    goes_then (running here) (running between) (running kept) c.commit.ensures.same_array
    (array_of c.commit.new.self c.drain_all.new.self c.commit.new.index c.commit.new.index c.drain_all.ensures.same_log) in
    let sizes : (d : ℕ) → done.sizes d ≡ old.sizes d = λ d. c.drain_all.ensures.sizes d ∙ c.commit.ensures.sizes d in
    let beside =
    both_stay (running here) (running between) old mid done c.commit.ensures.same_array c.in_ok-commit.ensures.committed.moves.tells
    (commit_beside (running here) old mid c.commit.ensures.touches) (drain_beside (running between) mid done (c.drain_all.ensures.touches c.commit.new.index)) in
    -- the answer
    turns_done here kept next (λ (s : State). Kept (last s + 1)) c.args.rec.now.seq old done
    (λ told s always. ap (λ (n : ℕ). Kept (n + 1)) (sym (always old.now (read_is_left old told)).by.fits.head.last) ∙ ap Kept (sym seq))
    turned step cell on sizes beside

pub returns-clause-touches : goal.returns-clause-touches
returns-clause-touches g c =
    let old = g.B.Bank.view c.args.bank.now in
    let mid = g.B.Bank.view c.commit.new.bank in
    let end = g.B.Bank.view c.drain_all.new.bank in
    let whole =
    write_touches (with_index c.args.log.now c.args.index.now) (with_index c.commit.new.self c.commit.new.index) _ c.commit.ensures.same_array
    c.in_ok-commit.ensures.committed.pending old mid end c.commit.ensures.touches (c.drain_all.ensures.touches c.commit.new.index) in
    whole

pub returns-in_err-commit-clause-index : goal.returns-in_err-commit-clause-index
returns-in_err-commit-clause-index g c =
    let here = running (with_index c.args.log.now c.args.index.now) in
    let is : Err LogFault ≡ c.from_residual.result = search rules in
    let stays = c.in_err-commit.ensures.stays in
    subst (λ (r : Result ℕ Denied). IndexAfter here (running (with_index c.commit.new.self c.commit.new.index)) c.args.rec.now.time c.args.rec.now.block r) is
    (inl (head_still here.head c.commit.new.self.head stays.head, stays.index))

pub returns-in_err-commit-clause-head : goal.returns-in_err-commit-clause-head
returns-in_err-commit-clause-head g c =
    let here = running (with_index c.args.log.now c.args.index.now) in
    let is : Err LogFault ≡ c.from_residual.result = search rules in
    subst (λ (r : Result ℕ Denied). HeadAfter here.g here.head c.commit.new.self.head c.args.rec.now.time r) is
    (inl (head_still here.head c.commit.new.self.head c.in_err-commit.ensures.stays.head))

pub returns-in_err-commit-clause-calls : goal.returns-in_err-commit-clause-calls
returns-in_err-commit-clause-calls g c =
    let old = g.B.Bank.view c.args.bank.now in
    let mid = g.B.Bank.view c.commit.new.bank in
    let here = running (with_index c.args.log.now c.args.index.now) in
    let after = running (with_index c.commit.new.self c.commit.new.index) in
    let is : Err LogFault ≡ c.from_residual.result = search rules in
    let block = c.args.rec.now.block in
    let size = length c.args.spelled.now in
    let first = commit_calls c.args.log.now size in
    let code = c.requires.can.code in
    let more = commit_more here here.pending here.cell block size (greatest_record here.g.block) (omega arith) in
    calls_failed (commit_drain_calls here here.pending here.cell block) here after LogFault _ old mid is
    (at_most_more first (commit_drain_calls here here.pending here.cell block (greatest_record here.g.block)) old mid (omega arith) c.commit.ensures.calls.most)

pub returns-clause-head : goal.returns-clause-head
returns-clause-head g c =
    let here = running (with_index c.args.log.now c.args.index.now) in
    let code = c.requires.can.code in
    let size = length c.args.spelled.now in
    let put = c.in_ok-drain_all.ensures.drained.head ∙ ap (λ (h : Head). drained_to h c.commit.new.self.head.last) c.in_ok-commit.ensures.committed.head in
    let kept = subst (λ (t : Head). t ≡ drained_to (committed here.head c.args.rec.now.time size) t.drained) (sym put) refl in
    one_more_after here.g here.head c.drain_all.new.self.head c.args.rec.now.time c.args.rec.now.seq size (ap (λ (r : LogRec). r.seq) c.requires.rec) c.requires.can.next code.0 code.1 kept

pub returns-clause-index : goal.returns-clause-index
returns-clause-index g c =
    let here = running (with_index c.args.log.now c.args.index.now) in
    let end_ = running (with_index c.drain_all.new.self c.commit.new.index) in
    let code = c.requires.can.code in
    let added = c.in_ok-commit.ensures.committed.index in
    let grew = ap (λ (h : Head). h.end_off) c.in_ok-drain_all.ensures.drained.head ∙ ap (λ (h : Head). h.end_off) c.in_ok-commit.ensures.committed.head in
    has_record here end_ c.args.rec.now.seq c.args.rec.now.time c.args.rec.now.block (length c.args.spelled.now) c.args.rec.now
    (ap (λ (r : LogRec). r.seq) c.requires.rec) code.0 c.requires.rec added grew
