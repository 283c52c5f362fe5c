use Rattle.std.proofs.Common.{rules, ◌≡◌, ℕ, ◌+◌, ◌≤◌, List, length, take, Result, Err, inl, refl, sym, ap, subst, ◌∙◌, arith}
use Rattle.std.proofs.lemmas.List.{length-take}
use Rattle.trap_model.specs.ArrayStep.{added}
use Rattle.trap_model.specs.State.{last}
use Rattle.trap_model.specs.declared.history.State.{State}
use Rattle.trap_model.specs.declared.log_record.LogRec.{LogRec}
use Rattle.trap_model.specs.declared.request.Reply.TheVariants.{Kept}
use Rattle.trap_pool.specs.Pooled.{pool_block}
use Rattle.trap_array.specs.Log.{with_index}
use Rattle.trap_array.specs.Growing.{HeadAfter, IndexAfter}
use Rattle.trap_array.specs.Ready.{CanCommit}
use Rattle.trap_array.specs.Turning.{MovesLog, IsFull}
use Rattle.trap_array.specs.NextHead.{entry_for, next_rec}
use Rattle.trap_array.specs.declared.fault.Denied.{Denied}
use Rattle.trap_array.specs.declared.fault.Denied.TheVariants.{MemberFault}
use Rattle.trap_model.specs.Limits.{greatest_record}
use Rattle.trap_raid.specs.Standing.{plan_reads}
use Rattle.trap_array.specs.Areas.{Touches, InWrite}
use Rattle.trap_array.specs.Calling.{CallsInCommit, commit_drain_calls, planned_calls}
use Rattle.trap_array.proofs.Counting.{calls_after, calls_failed, planned_first}
use Rattle.trap_array.specs.Calls.{running}
use Rattle.trap_array.proofs.AreaSteps.{touches_then, touches_same}
use Rattle.trap_array.proofs.KeepSteps.{next_of, reply_of, plan_failed, full_turns, can_commit, kept_turns}
use Rattle.trap_array.proofs.writing.plan_and_commit.Goals as goal

pub returns-in_err-plan-clause-moves : goal.returns-in_err-plan-clause-moves
returns-in_err-plan-clause-moves g c =
    let old = g.B.Bank.view c.args.bank.now in
    let mid = g.B.Bank.view c.plan.new.bank in
    let here = with_index c.args.log.now c.args.index.now in
    let next = next_of here.g c.args.time c.args.block c.args.bytes.now in
    let replies = reply_of here.g c.args.time c.args.block c.args.bytes.now in
    let m = c.in_err-plan.field-0.0.member in
    let is : Err (MemberFault m m) ≡ c.from_residual.result = search rules in
    let P : Result ℕ Denied → Type 0 = λ (r : Result ℕ Denied). MovesLog here here next replies r old mid in
    subst P is (plan_failed here old mid next replies m c.in_err-plan.ensures.cause c.plan.ensures.any_moment)

pub returns-then-is_full-clause-moves : goal.returns-then-is_full-clause-moves
returns-then-is_full-clause-moves g c =
    let rec_ = c.spell_next-rec.result in
    let header = c.spell_next-rec.ensures.header in
    let size = 26 + rec_.plen in
    let spelled = c.spell_next-rec.new.room.spelled in
    let within : size ≤ length spelled = omega (arith, c.spell_next-rec.ensures.short, c.spell_next-rec.ensures.room.spelled) in
    let same : c.from-size.result ≡ c.spell_next-rec.result.plen = search rules in
    let code : (30 ≤ size) × (size ≤ c.args.log.now.g.block + 33) = (omega (arith, c.spell_next-rec.ensures.code.0), omega (arith, c.spell_next-rec.ensures.code.1)) in
    let long : length (take size spelled) ≡ size = omega (arith, length-take size spelled, within) in
    full_turns (with_index c.args.log.now c.args.index.now) (g.B.Bank.view c.args.bank.now) (g.B.Bank.view c.plan.new.bank) c.args.time c.args.block size
    c.args.bytes.now (pool_block c.plan.new.pool c.args.held.now.delta) (pool_block c.plan.new.pool c.args.held.now.parity) (take size spelled)
    c.is_full.ensures.head c.requires.can c.plan.ensures.any_moment c.requires.free c.requires.later c.requires.not_worn c.ranges.time.fits
    c.requires.block c.requires.bytes long c.spell_next-rec.ensures.short code (λ told s stands. c.in_ok-plan.ensures.plan told c.args.index.now s stands) c.spell_next-rec.ensures.spelled
    (subst (λ (n : ℕ). IsFull c.args.log.now.g c.args.log.now.head (26 + n)) same (c.is_full.ensures.full.0 c.if-is_full.true))

pub commit_and_drain-requires : goal.commit_and_drain-requires
commit_and_drain-requires g c =
    let mid = g.B.Bank.view c.plan.new.bank in
    let here = with_index c.args.log.now c.args.index.now in
    let rec_ = c.spell_next-rec.result in
    let header = c.spell_next-rec.ensures.header in
    let size = 26 + rec_.plen in
    let spelled = c.spell_next-rec.new.room.spelled in
    let within : size ≤ length spelled = omega (arith, c.spell_next-rec.ensures.short, c.spell_next-rec.ensures.room.spelled) in
    let same : c.from-size.result ≡ c.spell_next-rec.result.plen = search rules in
    let code : (30 ≤ size) × (size ≤ c.args.log.now.g.block + 33) = (omega (arith, c.spell_next-rec.ensures.code.0), omega (arith, c.spell_next-rec.ensures.code.1)) in
    let long : length (take size spelled) ≡ size = omega (arith, length-take size spelled, within) in
    let not_full : IsFull here.g here.head size → ⊥ = search rules in
    let parity : (pool_block c.plan.new.pool c.args.held.now.parity) ≡ c.bytes.result.now = search rules in
    let record_ : spelled ≡ c.as_slice.result.now = search rules in
    let long_parity : length c.bytes.result.now ≡ c.args.log.now.g.block = search rules in
    let parity_size : length (pool_block c.plan.new.pool c.args.held.now.parity) ≡ c.args.log.now.g.block = ap (λ (l : List ℕ). length l) parity ∙ long_parity in
    let P : List ℕ → Type 0 = λ (bytes : List ℕ). CanCommit here mid (entry_for c.args.time c.args.block c.args.bytes.now) bytes (take size spelled) in
    let Q : List ℕ → Type 0 = λ (bytes : List ℕ). CanCommit here mid (entry_for c.args.time c.args.block c.args.bytes.now) c.bytes.result.now (take size bytes) in
    let R : LogRec → Type 0 = λ (r : LogRec). CanCommit here mid (entry_for r.time r.block c.args.bytes.now) c.bytes.result.now (take size c.as_slice.result.now) in
    let S : List ℕ → Type 0 = λ (bytes : List ℕ). rec_ ≡ next_rec here.head c.args.time c.args.block (length (take size bytes)) in
    let T : LogRec → Type 0 = λ (r : LogRec). rec_ ≡ next_rec here.head r.time r.block (length (take size c.as_slice.result.now)) in
    let M : ℕ → Type 0 = λ (n : ℕ). CanCommit here mid (entry_for rec_.time rec_.block c.args.bytes.now) c.bytes.result.now (take (26 + n) c.as_slice.result.now) in
    let N : ℕ → Type 0 = λ (n : ℕ). rec_ ≡ next_rec here.head rec_.time rec_.block (length (take (26 + n) c.as_slice.result.now)) in
    record {
      can = subst M (sym same) (subst R (sym header)
          (subst Q record_
          (subst P parity
          (can_commit here (g.B.Bank.view c.args.bank.now) mid c.args.time c.args.block size c.args.bytes.now (pool_block c.plan.new.pool c.args.held.now.delta)
          (pool_block c.plan.new.pool c.args.held.now.parity) (take size spelled)
          c.is_full.ensures.head c.requires.can c.plan.ensures.any_moment c.requires.free c.requires.later c.requires.not_worn c.ranges.time.fits
          c.requires.block c.requires.bytes long c.spell_next-rec.ensures.short code (λ told s stands. c.in_ok-plan.ensures.plan told c.args.index.now s stands)
          c.spell_next-rec.ensures.spelled parity_size not_full))));
      rec = subst N (sym same) (subst T (sym header) (subst S record_ (header ∙ ap (λ (n : ℕ). next_rec here.head c.args.time c.args.block n) (sym long))));
    }

pub returns-clause-moves : goal.returns-clause-moves
returns-clause-moves g c =
    let here = with_index c.args.log.now c.args.index.now in
    let rec_ = c.spell_next-rec.result in
    let header = c.spell_next-rec.ensures.header in
    let size = 26 + rec_.plen in
    let spelled = c.spell_next-rec.new.room.spelled in
    let within : size ≤ length spelled = omega (arith, c.spell_next-rec.ensures.short, c.spell_next-rec.ensures.room.spelled) in
    let code : (30 ≤ size) × (size ≤ c.args.log.now.g.block + 33) = (omega (arith, c.spell_next-rec.ensures.code.0), omega (arith, c.spell_next-rec.ensures.code.1)) in
    let long : length (take size spelled) ≡ size = omega (arith, length-take size spelled, within) in
    let not_full : IsFull here.g here.head size → ⊥ = search rules in
    let next : LogRec → State → State = λ (r : LogRec) (s : State). added s (entry_for r.time r.block c.args.bytes.now) in
    let U : LogRec → Type 0 = λ (r : LogRec). MovesLog here (with_index c.commit_and_drain.new.log c.commit_and_drain.new.index) (next r) (λ s. Kept (last s + 1))
    c.commit_and_drain.result (g.B.Bank.view c.plan.new.bank) (g.B.Bank.view c.commit_and_drain.new.bank) in
    kept_turns here (g.B.Bank.view c.args.bank.now) (g.B.Bank.view c.plan.new.bank) c.args.time c.args.block size c.args.bytes.now
    (pool_block c.plan.new.pool c.args.held.now.delta) (pool_block c.plan.new.pool c.args.held.now.parity) (take size spelled)
    c.is_full.ensures.head c.requires.can c.plan.ensures.any_moment c.requires.free c.requires.later c.requires.not_worn c.ranges.time.fits
    c.requires.block c.requires.bytes long c.spell_next-rec.ensures.short code (λ told s stands. c.in_ok-plan.ensures.plan told c.args.index.now s stands) c.spell_next-rec.ensures.spelled not_full
    (with_index c.commit_and_drain.new.log c.commit_and_drain.new.index) c.commit_and_drain.result (g.B.Bank.view c.commit_and_drain.new.bank) (subst U header c.commit_and_drain.ensures.moves)

pub returns-in_err-plan-clause-leaves : goal.returns-in_err-plan-clause-leaves
returns-in_err-plan-clause-leaves g c = record {
  touches =
      touches_same (InWrite (running (with_index c.args.log.now c.args.index.now)) c.args.block) (g.B.Bank.view c.args.bank.now) (g.B.Bank.view c.plan.new.bank)
      c.plan.ensures.any_moment.same c.plan.ensures.any_moment.moves;
  head =
      let here = running (with_index c.args.log.now c.args.index.now) in
      let m = c.in_err-plan.field-0.0.member in
      let is : Err (MemberFault m m) ≡ c.from_residual.result = search rules in
      subst (λ (r : Result ℕ Denied). HeadAfter here.g here.head here.head c.args.time r) is (inl refl);
  index =
      let here = running (with_index c.args.log.now c.args.index.now) in
      let m = c.in_err-plan.field-0.0.member in
      let is : Err (MemberFault m m) ≡ c.from_residual.result = search rules in
      subst (λ (r : Result ℕ Denied). IndexAfter here here c.args.time c.args.block r) is (inl (refl, refl));
  calls =
      let here = running (with_index c.args.log.now c.args.index.now) in
      let old = g.B.Bank.view c.args.bank.now in
      let mid = g.B.Bank.view c.plan.new.bank in
      let m = c.in_err-plan.field-0.0.member in
      let is : Err (MemberFault m m) ≡ c.from_residual.result = search rules in
      calls_failed (planned_calls here here.pending here.cell c.args.block) here here (MemberFault m m) _ old mid is
      (planned_first here c.args.block (greatest_record here.g.block) old mid c.plan.ensures.calls.most);
}

pub returns-then-is_full-clause-leaves : goal.returns-then-is_full-clause-leaves
returns-then-is_full-clause-leaves g c = record {
  touches =
      touches_same (InWrite (running (with_index c.args.log.now c.args.index.now)) c.args.block) (g.B.Bank.view c.args.bank.now) (g.B.Bank.view c.plan.new.bank)
      c.plan.ensures.any_moment.same c.plan.ensures.any_moment.moves;
  head = refl;
  index = refl;
  calls =
      let here = running (with_index c.args.log.now c.args.index.now) in
      let old = g.B.Bank.view c.args.bank.now in
      let mid = g.B.Bank.view c.plan.new.bank in
      calls_failed (planned_calls here here.pending here.cell c.args.block) here here _ _ old mid refl
      (planned_first here c.args.block (greatest_record here.g.block) old mid c.plan.ensures.calls.most);
}

pub returns-clause-leaves : goal.returns-clause-leaves
returns-clause-leaves g c = record {
  touches =
      let area = InWrite (running (with_index c.args.log.now c.args.index.now)) c.args.block in
      let old = g.B.Bank.view c.args.bank.now in
      let mid = g.B.Bank.view c.plan.new.bank in
      let new = g.B.Bank.view c.commit_and_drain.new.bank in
      let P : LogRec → Type 0 = λ (r : LogRec). Touches (InWrite (running (with_index c.args.log.now c.args.index.now)) r.block) mid new in
      touches_then area old mid new (touches_same area old mid c.plan.ensures.any_moment.same c.plan.ensures.any_moment.moves)
      (subst P c.spell_next-rec.ensures.header c.commit_and_drain.ensures.touches);
  head =
      let here = with_index c.args.log.now c.args.index.now in
      subst (λ (r : LogRec). HeadAfter here.g here.head c.commit_and_drain.new.log.head r.time c.commit_and_drain.result) c.spell_next-rec.ensures.header c.commit_and_drain.ensures.head;
  index =
      let here = running (with_index c.args.log.now c.args.index.now) in
      subst (λ (r : LogRec). IndexAfter here (running (with_index c.commit_and_drain.new.log c.commit_and_drain.new.index)) r.time r.block c.commit_and_drain.result)
      c.spell_next-rec.ensures.header c.commit_and_drain.ensures.index;
  calls =
      let here = running (with_index c.args.log.now c.args.index.now) in
      let after = running (with_index c.commit_and_drain.new.log c.commit_and_drain.new.index) in
      let old = g.B.Bank.view c.args.bank.now in
      let mid = g.B.Bank.view c.plan.new.bank in
      let new = g.B.Bank.view c.commit_and_drain.new.bank in
      let rest = subst (λ (r : LogRec). CallsInCommit here after r.block c.commit_and_drain.result mid new) c.spell_next-rec.ensures.header c.commit_and_drain.ensures.calls in
      let first = plan_reads here.g here.head.lost here.pending c.args.block in
      let whole = calls_after first (commit_drain_calls here here.pending here.cell c.args.block) (commit_drain_calls here here.pending here.cell c.args.block) here here after
      c.commit_and_drain.result old mid new refl refl (λ n. refl) c.in_ok-plan.ensures.calls.ok rest in
      record { kept = whole.kept; most = whole.most };
}
