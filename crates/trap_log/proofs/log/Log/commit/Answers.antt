use Rattle.std.proofs.Common.{rules, ◌≡◌, ℕ, List, length, Result, Ok, Err, OnErr, refl, sym, ap, subst, ◌∙◌, arith}
use Rattle.trap_bank.specs.Disks.{View}
use Rattle.trap_bank.specs.Faults.{Rose}
use Rattle.trap_cell.specs.Slots.{Place}
use Rattle.trap_format.specs.HeadValue.{IsHead}
use Rattle.trap_stage.specs.Slots.{Stage}
use Rattle.trap_bank.specs.Steps.{Moves, Same}
use Rattle.trap_bank.proofs.Moves.{sync_steps}
use Rattle.trap_index.specs.Indexed.{Indexed, with_record}
use Rattle.trap_model.specs.ArrayStep.{added}
use Rattle.trap_model.specs.declared.history.Entry.{Entry}
use Rattle.trap_model.specs.declared.log_record.LogRec.{LogRec}
use Rattle.trap_log.specs.Areas.{Touches, InCommit}
use Rattle.trap_log.specs.Calls.{SameArray, AtAnyMoment, StandsAfterCall, running}
use Rattle.trap_log.specs.Log.{Log, IndexedLog, with_index}
use Rattle.trap_log.specs.NextHead.{committed, entry_for, next_rec}
use Rattle.trap_log.specs.Ready.{CanCommit}
use Rattle.trap_log.proofs.AreaSteps.{append_touches, fill_touches, sync_touches, commit_touches}
use Rattle.trap_bank.specs.Called.{CalledTimes, CalledAtMost, TakesCalls}
use Rattle.trap_bank.specs.declared.disks.DiskFault.{DiskFault}
use Rattle.trap_bank.proofs.Called.{called_once, took_calls}
use Rattle.trap_log.specs.Committing.{commit_calls}
use Rattle.trap_log.proofs.Counting.{append_calls, fill_calls, sync_calls, put_calls_most, whole_calls}
use Rattle.trap_log.proofs.CommitSteps.{cell_room, put_known, append_any, fill_any, sync_any, cell_still, put_any, put_ok, settled_there}
use Rattle.trap_log.proofs.IndexSteps.{next_in_step}
use Rattle.trap_log.proofs.NextHeads.{later_committed}
use Rattle.trap_log.proofs.Sizes.{fits_still}
use Rattle.trap_log.proofs.GoingOn.{goes_still, goes_same, goes_later}
use Rattle.trap_log.proofs.log.Log.commit.Goals as goal
use Rattle.trap_log.proofs.log.Log.commit.Goals.{After-put}

-- ---- what is said of the log's parts holds of the log
abbrev AnyMoment : IndexedLog → View → Entry → View → Type 0
AnyMoment log old entry v = Moves old v (AtAnyMoment (running log) old (λ s. added s entry)) (AtAnyMoment (running log) old (λ s. added s entry))

so_can : (a b : Log) → a ≡ b → (index : Indexed) (old : View) (entry : Entry) (parity spelled : List ℕ) → CanCommit (with_index a index) old entry parity spelled
    → CanCommit (with_index b index) old entry parity spelled
so_can a b is index old entry parity spelled = subst (λ (l : Log). CanCommit (with_index l index) old entry parity spelled) is

so_any : (a b : Log) → a ≡ b → (index : Indexed) (old : View) (entry : Entry) (v : View) → AnyMoment (with_index a index) old entry v → AnyMoment (with_index b index) old entry v
so_any a b is index old entry v = subst (λ (l : Log). AnyMoment (with_index l index) old entry v) is

so_touches : (a b : Log) → a ≡ b → (index : Indexed) (old v : View) → Touches (InCommit (running (with_index a index))) old v → Touches (InCommit (running (with_index b index))) old v
so_touches a b is index old v = subst (λ (l : Log). Touches (InCommit (running (with_index l index))) old v) is

so_same : (a b : Log) → a ≡ b → (index : Indexed) (after : IndexedLog) → SameArray (running (with_index a index)) (running after) → SameArray (running (with_index b index)) (running after)
so_same a b is index after = subst (λ (l : Log). SameArray (running (with_index l index)) (running after)) is

so_called : (a b : Log) → a ≡ b → (size : ℕ) (old v : View) → CalledAtMost (commit_calls a size) old v → CalledAtMost (commit_calls b size) old v
so_called a b is size old v = subst (λ (l : Log). CalledAtMost (commit_calls l size) old v) is

-- ---- the record and the slot
pub returns-in_err-append-clause-any_moment : goal.returns-in_err-append-clause-any_moment
returns-in_err-append-clause-any_moment g c =
    let can = so_can _ _ (sym c.self.view_is) _ _ _ _ _ c.requires.can in
    so_any _ _ c.self.view_is _ _ _ _
    (append_any _ c.self.invariant.place c.self.invariant.same (g.B.Bank.view c.args.bank.now) _ _ _ can refl c.ring_of-ring.result c.ring_of-ring.ensures
    (g.B.Bank.view c.append.new.bank) c.append.ensures.any_moment)

pub returns-in_err-fill-clause-any_moment : goal.returns-in_err-fill-clause-any_moment
returns-in_err-fill-clause-any_moment g c =
    let can = so_can _ _ (sym c.self.view_is) _ _ _ _ _ c.requires.can in
    so_any _ _ c.self.view_is _ _ _ _
    (fill_any _ c.self.invariant.place c.self.invariant.same (g.B.Bank.view c.args.bank.now) _ _ _ can refl c.ring_of-ring.result c.ring_of-ring.ensures
    (g.B.Bank.view c.append.new.bank) c.append.ensures.any_moment (g.B.Bank.view c.fill.new.bank) c.fill.ensures.any_moment)

-- ---- the sync fails
pub returns-in_err-sync-clause-any_moment : goal.returns-in_err-sync-clause-any_moment
returns-in_err-sync-clause-any_moment g c =
    let can = so_can _ _ (sym c.self.view_is) _ _ _ _ _ c.requires.can in
    so_any _ _ c.self.view_is _ _ _ _
    (sync_any _ c.self.invariant.place c.self.invariant.same (g.B.Bank.view c.args.bank.now) _ _ _ can refl c.ring_of-ring.result c.ring_of-ring.ensures
    (g.B.Bank.view c.append.new.bank) c.append.ensures.any_moment (g.B.Bank.view c.fill.new.bank) c.fill.ensures.any_moment
    (g.B.Bank.view c.sync.new.self) (sync_steps _ _ _ _ c.sync.ensures.call))

pub returns-in_err-sync-clause-touches : goal.returns-in_err-sync-clause-touches
returns-in_err-sync-clause-touches g c =
    let log : IndexedLog = record { g = c.self.inside.g; head = c.self.inside.head; cell = c.self.inside.cell; stage = c.self.inside.stage; index = c.args.index.now } in
    let can = so_can _ _ (sym c.self.view_is) _ _ _ _ _ c.requires.can in
    so_touches _ _ c.self.view_is c.args.index.now _ _
    (sync_touches log c.self.invariant.place c.self.invariant.same c.ring_of-ring.result c.ring_of-ring.ensures (length c.args.spelled.now) can.next.offsets.window
    (g.B.Bank.view c.args.bank.now) (g.B.Bank.view c.append.new.bank) c.append.ensures.contents c.append.ensures.any_moment
    (g.B.Bank.view c.fill.new.bank) c.fill.ensures.contents c.fill.ensures.any_moment (g.B.Bank.view c.sync.new.self) c.sync.ensures.call.same (sync_steps _ _ _ _ c.sync.ensures.call))

pub returns-in_err-sync-clause-same_array : goal.returns-in_err-sync-clause-same_array
returns-in_err-sync-clause-same_array g c =
    let log : IndexedLog = record { g = c.self.inside.g; head = c.self.inside.head; cell = c.self.inside.cell; stage = c.self.inside.stage; index = c.args.index.now } in
    let after : IndexedLog = record { g = c.self.inside.g; head = c.self.inside.head; cell = c.self.inside.cell; stage = c.fill.new.self; index = c.args.index.now } in
    so_same _ _ c.self.view_is c.args.index.now after (goes_same log after refl refl)

-- ---- what the put asks
pub put-requires-clause-room : goal.put-requires-clause-room
put-requires-clause-room g c =
    let can = so_can _ _ (sym c.self.view_is) _ _ _ _ _ c.requires.can in
    let before_put = g.B.Bank.view c.sync.new.self in
    let still = c.sync.ensures.call.sizes 0 ∙ c.fill.ensures.sizes 0 ∙ c.append.ensures.sizes 0 in
    cell_room c.self.inside.g before_put c.self.inside.cell.place c.self.invariant.place (fits_still (g.B.Bank.view c.args.bank.now) before_put 0 _ still can.sizes.log)

pub put-requires-clause-stands : goal.put-requires-clause-stands
put-requires-clause-stands g c =
    let can = so_can _ _ (sym c.self.view_is) _ _ _ _ _ c.requires.can in
    let at_put = g.B.Bank.view c.sync.new.self in
    let sync = sync_steps _ _ _ _ c.sync.ensures.call in
    cell_still _ c.self.invariant.place c.self.invariant.same (g.B.Bank.view c.args.bank.now) _ _ _ can refl c.ring_of-ring.result c.ring_of-ring.ensures
    (g.B.Bank.view c.append.new.bank) c.append.ensures.any_moment (g.B.Bank.view c.fill.new.bank) c.fill.ensures.any_moment at_put sync

-- ---- the state before or the one after
put_moved : (g : _) (c : After-put g) → AnyMoment (with_index c.args.self.now c.args.index.now) (g.B.Bank.view c.args.bank.now)
    (entry_for c.args.rec.now.time c.args.rec.now.block c.args.bytes.now) (g.B.Bank.view c.put.new.bank)
put_moved g c =
    let can = so_can _ _ (sym c.self.view_is) _ _ _ _ _ c.requires.can in
    let v3 = g.B.Bank.view c.sync.new.self in
    so_any _ _ c.self.view_is _ _ _ _
    (put_any _ c.self.invariant.place c.self.invariant.same (g.B.Bank.view c.args.bank.now) _ _ _ can refl c.ring_of-ring.result c.ring_of-ring.ensures
    (g.B.Bank.view c.append.new.bank) c.append.ensures.any_moment (g.B.Bank.view c.fill.new.bank) c.fill.ensures.any_moment
    v3 (sync_steps _ _ _ _ c.sync.ensures.call) c.in_ok-append.ensures.written c.fill.ensures.contents c.in_ok-fill.ensures.written c.sync.ensures.call.same
    (settled_there _ (g.B.Bank.view c.fill.new.bank) v3 c.in_ok-sync.ensures.call) (g.B.Bank.view c.put.new.bank) c.value_of-value.result c.value_of-value.ensures c.put.ensures.any_moment)

pub returns-in_err-put-clause-any_moment : goal.returns-in_err-put-clause-any_moment
returns-in_err-put-clause-any_moment g c = put_moved g (goal.at.returns-in_err-put-clause-any_moment g c).After-put

pub returns-clause-any_moment : goal.returns-clause-any_moment
returns-clause-any_moment g c = put_moved g (goal.at.returns-clause-any_moment g c).After-put

pub returns-clause-committed : goal.returns-clause-committed
returns-clause-committed g c =
    let old = g.B.Bank.view c.args.bank.now in
    let v3 = g.B.Bank.view c.sync.new.self in
    let v4 = g.B.Bank.view c.put.new.bank in
    let log : IndexedLog = record { g = c.self.inside.g; head = c.self.inside.head; cell = c.self.inside.cell; stage = c.self.inside.stage; index = c.args.index.now } in
    let entry : Entry = entry_for c.args.rec.now.time c.args.rec.now.block c.args.bytes.now in
    let can = so_can _ _ (sym c.self.view_is) _ _ _ _ _ c.requires.can in
    let rec_is = subst (λ (l : Log). c.args.rec.now ≡ next_rec l.head c.args.rec.now.time c.args.rec.now.block (length c.args.spelled.now)) (sym c.self.view_is) c.requires.rec in
    let known = c.add.ensures ∙ ap (λ (r : LogRec). with_record log.index r) rec_is in
    let P : Log → Type 0 = λ (l : Log). Moves old v4 (AtAnyMoment (running (with_index l c.args.index.now)) old (λ s. added s entry))
    (StandsAfterCall (running (with_index l c.args.index.now)) (running (record {
      g = log.g;
      head = committed log.head entry.time (length c.args.spelled.now);
      cell = c.put.new.self;
      stage = c.fill.new.self;
      index = c.add.new.self;
    })) old (λ s. added s entry)) in
    record {
      moves = subst P c.self.view_is
          (put_ok log c.self.invariant.place c.self.invariant.same old entry c.args.parity.now c.args.spelled.now can refl c.ring_of-ring.result c.ring_of-ring.ensures
          (g.B.Bank.view c.append.new.bank) c.append.ensures.any_moment (g.B.Bank.view c.fill.new.bank) c.fill.ensures.any_moment v3 (sync_steps _ _ _ _ c.sync.ensures.call)
          c.in_ok-append.ensures.written c.fill.ensures.contents c.in_ok-fill.ensures.written c.sync.ensures.call.same
          (settled_there _ (g.B.Bank.view c.fill.new.bank) v3 c.in_ok-sync.ensures.call) v4 c.value_of-value.result c.value_of-value.ensures
          c.put.new.self c.fill.new.self c.add.new.self known c.in_ok-fill.ensures.ok c.in_ok-put.ensures.ok);
      head = search rules;
      pending = search rules;
      index = c.add.ensures;
      in_step = next_in_step log.head entry (length c.args.spelled.now) log.stage c.fill.new.self _ log.index c.add.new.self can.in_step c.in_ok-fill.ensures.ok known;
      knows = put_known (committed c.self.inside.head c.args.rec.now.time (length c.args.spelled.now)) c.put.new.self c.self.inside.cell _ _ c.value_of-value.result
          c.self.invariant.place c.value_of-value.ensures c.in_ok-put.ensures.ok;
      cell = search rules;
    }

-- ---- how often the bank was called
pub returns-in_err-append-clause-calls : goal.returns-in_err-append-clause-calls
returns-in_err-append-clause-calls g c =
    let log : Log = record { g = c.self.inside.g; head = c.self.inside.head; cell = c.self.inside.cell; stage = c.self.inside.stage } in
    record {
      ok = search rules;
      most = so_called _ _ c.self.view_is _ _ _ (append_calls log _ c.ring_of-ring.result c.ring_of-ring.ensures _ (g.B.Bank.view c.append.new.bank) c.append.ensures.calls.most);
    }

pub returns-in_err-fill-clause-calls : goal.returns-in_err-fill-clause-calls
returns-in_err-fill-clause-calls g c =
    let log : Log = record { g = c.self.inside.g; head = c.self.inside.head; cell = c.self.inside.cell; stage = c.self.inside.stage } in
    record {
      ok = search rules;
      most = so_called _ _ c.self.view_is _ _ _
          (fill_calls log _ c.ring_of-ring.result c.ring_of-ring.ensures _ (g.B.Bank.view c.append.new.bank) c.append.ensures.calls.most (g.B.Bank.view c.fill.new.bank) c.fill.ensures.calls);
    }

-- ---- likewise, from the sync on
pub returns-in_err-sync-clause-calls : goal.returns-in_err-sync-clause-calls
returns-in_err-sync-clause-calls g c =
    let log : Log = record { g = c.self.inside.g; head = c.self.inside.head; cell = c.self.inside.cell; stage = c.self.inside.stage } in
    let v2 = g.B.Bank.view c.fill.new.bank in
    let v3 = g.B.Bank.view c.sync.new.self in
    record {
      ok = search rules;
      most = so_called _ _ c.self.view_is _ _ _
          (sync_calls log _ c.ring_of-ring.result c.ring_of-ring.ensures _ (g.B.Bank.view c.append.new.bank) c.append.ensures.calls.most v2 c.fill.ensures.calls
          v3 (called_once c.sync.result v2 v3 c.sync.ensures.call.goes));
    }

pub returns-in_err-put-clause-calls : goal.returns-in_err-put-clause-calls
returns-in_err-put-clause-calls g c =
    let log : Log = record { g = c.self.inside.g; head = c.self.inside.head; cell = c.self.inside.cell; stage = c.self.inside.stage } in
    let old = g.B.Bank.view c.args.bank.now in
    let v2 = g.B.Bank.view c.fill.new.bank in
    let v3 = g.B.Bank.view c.sync.new.self in
    let v4 = g.B.Bank.view c.put.new.bank in
    let is : Err c.in_err-put.field-0.0 ≡ c.from_residual-in_err-put.result = search rules in
    subst (λ (r : Result (Unit {0}) DiskFault). TakesCalls (commit_calls c.args.self.now (length c.args.spelled.now)) r old v4) is (record {
      ok = tt;
      most = so_called _ _ c.self.view_is _ _ _
          (put_calls_most log _ c.ring_of-ring.result c.ring_of-ring.ensures old (g.B.Bank.view c.append.new.bank) c.append.ensures.calls.most v2 c.fill.ensures.calls
          v3 (called_once c.sync.result v2 v3 c.sync.ensures.call.goes) v4 c.put.ensures.cell.calls.most);
    })

pub returns-clause-calls : goal.returns-clause-calls
returns-clause-calls g c =
    let log : Log = record { g = c.self.inside.g; head = c.self.inside.head; cell = c.self.inside.cell; stage = c.self.inside.stage } in
    let old = g.B.Bank.view c.args.bank.now in
    let v2 = g.B.Bank.view c.fill.new.bank in
    let v3 = g.B.Bank.view c.sync.new.self in
    let v4 = g.B.Bank.view c.put.new.bank in
    took_calls _ _ old v4 (subst (λ (l : Log). CalledTimes (commit_calls l (length c.args.spelled.now)) old v4) c.self.view_is
    (whole_calls log (length c.args.spelled.now) c.ring_of-ring.result c.ring_of-ring.ensures old (g.B.Bank.view c.append.new.bank) c.in_ok-append.ensures.calls.ok
    v2 v3 v4 c.fill.ensures.calls (called_once c.sync.result v2 v3 c.sync.ensures.call.goes) c.in_ok-put.ensures.cell.calls.ok))

-- ---- what stands then
pub returns-in_err-append-clause-touches : goal.returns-in_err-append-clause-touches
returns-in_err-append-clause-touches g c =
    let log : IndexedLog = record { g = c.self.inside.g; head = c.self.inside.head; cell = c.self.inside.cell; stage = c.self.inside.stage; index = c.args.index.now } in
    let can = so_can _ _ (sym c.self.view_is) _ _ _ _ _ c.requires.can in
    so_touches _ _ c.self.view_is c.args.index.now _ _
    (append_touches log c.self.invariant.place c.self.invariant.same c.ring_of-ring.result c.ring_of-ring.ensures (length c.args.spelled.now) can.next.offsets.window
    (g.B.Bank.view c.args.bank.now) (g.B.Bank.view c.append.new.bank) c.append.ensures.contents c.append.ensures.any_moment)

pub returns-in_err-fill-clause-touches : goal.returns-in_err-fill-clause-touches
returns-in_err-fill-clause-touches g c =
    let log : IndexedLog = record { g = c.self.inside.g; head = c.self.inside.head; cell = c.self.inside.cell; stage = c.self.inside.stage; index = c.args.index.now } in
    let can = so_can _ _ (sym c.self.view_is) _ _ _ _ _ c.requires.can in
    so_touches _ _ c.self.view_is c.args.index.now _ _
    (fill_touches log c.self.invariant.place c.self.invariant.same c.ring_of-ring.result c.ring_of-ring.ensures (length c.args.spelled.now) can.next.offsets.window
    (g.B.Bank.view c.args.bank.now) (g.B.Bank.view c.append.new.bank) c.append.ensures.contents c.append.ensures.any_moment
    (g.B.Bank.view c.fill.new.bank) c.fill.ensures.contents c.fill.ensures.any_moment)

put_touched : (g : _) (c : After-put g) → Touches (InCommit (running (with_index c.args.self.now c.args.index.now))) (g.B.Bank.view c.args.bank.now) (g.B.Bank.view c.put.new.bank)
put_touched g c =
    let log : IndexedLog = record { g = c.self.inside.g; head = c.self.inside.head; cell = c.self.inside.cell; stage = c.self.inside.stage; index = c.args.index.now } in
    let can = so_can _ _ (sym c.self.view_is) _ _ _ _ _ c.requires.can in
    let torn_v3 = g.B.Bank.view c.sync.new.self in
    let torn_same = c.sync.ensures.call.same in
    let torn_sync = sync_steps _ _ _ _ c.sync.ensures.call in
    so_touches _ _ c.self.view_is c.args.index.now _ _
    (commit_touches log c.self.invariant.place c.self.invariant.same c.ring_of-ring.result c.ring_of-ring.ensures (length c.args.spelled.now) can.next.offsets.window
    (g.B.Bank.view c.args.bank.now) (g.B.Bank.view c.append.new.bank) c.append.ensures.contents c.append.ensures.any_moment
    (g.B.Bank.view c.fill.new.bank) c.fill.ensures.contents c.fill.ensures.any_moment torn_v3 torn_same torn_sync
    (g.B.Bank.view c.put.new.bank) c.value_of-value.result c.put.ensures.contents c.put.ensures.any_moment)

pub returns-in_err-put-clause-touches : goal.returns-in_err-put-clause-touches
returns-in_err-put-clause-touches g c = put_touched g (goal.at.returns-in_err-put-clause-touches g c).After-put

pub returns-clause-touches : goal.returns-clause-touches
returns-clause-touches g c = put_touched g (goal.at.returns-clause-touches g c).After-put

pub returns-in_err-append-clause-same_array : goal.returns-in_err-append-clause-same_array
returns-in_err-append-clause-same_array g c = goes_still (running (with_index c.args.self.now c.args.index.now))

pub returns-in_err-fill-clause-same_array : goal.returns-in_err-fill-clause-same_array
returns-in_err-fill-clause-same_array g c =
    let log : IndexedLog = record { g = c.self.inside.g; head = c.self.inside.head; cell = c.self.inside.cell; stage = c.self.inside.stage; index = c.args.index.now } in
    let after : IndexedLog = record { g = c.self.inside.g; head = c.self.inside.head; cell = c.self.inside.cell; stage = c.fill.new.self; index = c.args.index.now } in
    so_same _ _ c.self.view_is c.args.index.now after (goes_same log after refl refl)

pub returns-in_err-put-clause-same_array : goal.returns-in_err-put-clause-same_array
returns-in_err-put-clause-same_array g c =
    let log : IndexedLog = record { g = c.self.inside.g; head = c.self.inside.head; cell = c.self.inside.cell; stage = c.self.inside.stage; index = c.args.index.now } in
    let after : IndexedLog = record { g = c.self.inside.g; head = c.self.inside.head; cell = c.put.new.self; stage = c.fill.new.self; index = c.args.index.now } in
    so_same _ _ c.self.view_is c.args.index.now after (goes_same log after refl refl)

pub returns-clause-same_array : goal.returns-clause-same_array
returns-clause-same_array g c =
    let log : IndexedLog = record { g = c.self.inside.g; head = c.self.inside.head; cell = c.self.inside.cell; stage = c.self.inside.stage; index = c.args.index.now } in
    let after : IndexedLog = record {
      g = c.self.inside.g;
      head = committed c.self.inside.head c.args.rec.now.time (length c.args.spelled.now);
      cell = c.put.new.self;
      stage = c.fill.new.self;
      index = c.add.new.self;
    } in
    so_same _ _ c.self.view_is c.args.index.now after (goes_later log after refl (later_committed c.self.inside.head c.args.rec.now.time (length c.args.spelled.now)))

-- ---- what the log is after it
pub invariant_of-self-in_err-put : goal.invariant_of-self-in_err-put
invariant_of-self-in_err-put g c = record {
  is_head = c.self.invariant.is_head;
  one_slot = c.self.invariant.one_slot;
  place = c.put.ensures.place ∙ c.self.invariant.place;
  same = ap (λ (s : Stage). s.g) c.in_ok-fill.ensures.ok ∙ c.self.invariant.same;
}

pub invariant_of-self-2 : goal.invariant_of-self-2
invariant_of-self-2 g c = record {
  is_head = subst (λ (l : Log). IsHead l.g (committed l.head c.args.rec.now.time (length c.args.spelled.now))) (sym c.self.view_is) c.requires.can.next;
  one_slot = c.self.invariant.one_slot;
  place = c.put.ensures.place ∙ c.self.invariant.place;
  same = ap (λ (s : Stage). s.g) c.in_ok-fill.ensures.ok ∙ c.self.invariant.same;
}

pub returns-clause-sizes : goal.returns-clause-sizes
returns-clause-sizes g c e = c.put.ensures.sizes e ∙ c.sync.ensures.call.sizes e ∙ c.fill.ensures.sizes e ∙ c.append.ensures.sizes e

err_any : {T E : Type 0} (r : Result T E) (P : Type 0) → P → OnErr r P
err_any (Ok value) P p = tt
err_any (Err e) P p = p

pub returns-in_err-put-clause-cause : goal.returns-in_err-put-clause-cause
returns-in_err-put-clause-cause g c =
    let blamed_v3 = g.B.Bank.view c.sync.new.self in
    let v4 = g.B.Bank.view c.put.new.bank in
    let disk : c.self.inside.cell.place.disk ≡ 0 = ap (λ (p : Place). p.disk) c.self.invariant.place in
    let rose = subst (λ (d : ℕ). Rose (blamed_v3.faults d) (v4.faults d)) disk c.in_err-put.ensures.cause in
    let blamed_sync : Moves (g.B.Bank.view c.fill.new.bank) blamed_v3 Same Same = sync_steps _ _ _ _ c.sync.ensures.call in
    let whole : Rose ((g.B.Bank.view c.args.bank.now).faults 0) (v4.faults 0) = omega (arith, rose, c.append.ensures.any_moment.faults 0, c.fill.ensures.any_moment.faults 0, blamed_sync.faults 0) in
    err_any c.from_residual-in_err-put.result (Rose ((g.B.Bank.view c.args.bank.now).faults 0) (v4.faults 0)) whole
