use Rattle.std.proofs.Common.{rules, ◌≡◌, ℕ, ◌-◌, ◌≤◌, take, refl, sym, ap, subst, ◌∙◌}
use Rattle.trap_bank.specs.Disks.{View}
use Rattle.trap_bank.specs.Steps.{Moves}
use Rattle.trap_index.specs.Indexed.{Indexed, nothing_indexed}
use Rattle.trap_raid.specs.Condition.{Condition}
use Rattle.trap_raid.specs.Members.{DrainFits}
use Rattle.trap_raid.specs.Draining.{writes_to}
use Rattle.trap_raid.proofs.FitLemmas.{fits_from_sizes, drain_fits}
use Rattle.trap_log.specs.Areas.{Touches, InDrain}
use Rattle.trap_log.specs.Calls.{SameLog, AtAnyMoment, running}
use Rattle.trap_log.specs.Log.{Log, IndexedLog, with_index}
use Rattle.trap_log.specs.NextHead.{drained_to}
use Rattle.trap_bank.specs.Called.{CalledTimes, CalledAtMost}
use Rattle.trap_bank.proofs.Called.{took_calls}
use Rattle.trap_log.specs.Draining.{DrainsLog, calls_to_drain}
use Rattle.trap_log.proofs.Counting.{raid_calls, drain_calls_most, drained_calls}
use Rattle.trap_log.specs.Ready.{CanDrain}
use Rattle.trap_log.proofs.AreaSteps.{raid_touches, drain_touches}
use Rattle.trap_log.proofs.CommitSteps.{cell_room, put_known}
use Rattle.trap_log.proofs.DrainSteps.{drain_any, cell_still, put_any, put_ok}
use Rattle.trap_log.proofs.NextHeads.{later_drained}
use Rattle.trap_log.proofs.Sizes.{fits_still}
use Rattle.trap_log.proofs.GoingOn.{log_still, log_same, log_later}
use Rattle.trap_log.proofs.log.Log.drain.Goals as goal
use Rattle.trap_log.proofs.log.Log.drain.Goals.{After-put}

-- ---- what is said of the log's parts holds of the log
abbrev AnyMoment : IndexedLog → View → View → Type 0
AnyMoment log old v = Moves old v (AtAnyMoment (running log) old (λ s. s)) (AtAnyMoment (running log) old (λ s. s))

so_can : (a b : Log) → a ≡ b → (old : View) → CanDrain a old → CanDrain b old
so_can a b is old = subst (λ (l : Log). CanDrain l old) is

so_low : (a b : Log) → a ≡ b → (upto : ℕ) → a.head.drained ≤ upto → b.head.drained ≤ upto
so_low a b is upto = subst (λ (l : Log). l.head.drained ≤ upto) is

so_high : (a b : Log) → a ≡ b → (upto : ℕ) → upto ≤ a.head.last → upto ≤ b.head.last
so_high a b is upto = subst (λ (l : Log). upto ≤ l.head.last) is

so_any : (a b : Log) → a ≡ b → (i : Indexed) (old v : View) → AnyMoment (with_index a i) old v → AnyMoment (with_index b i) old v
so_any a b is i old v = subst (λ (l : Log). AnyMoment (with_index l i) old v) is

so_touches : (a b : Log) → a ≡ b → (i : Indexed) (old v : View) → Touches (InDrain (running (with_index a i))) old v → Touches (InDrain (running (with_index b i))) old v
so_touches a b is i old v = subst (λ (l : Log). Touches (InDrain (running (with_index l i))) old v) is

so_same : (a b : Log) → a ≡ b → (after : Log) → SameLog a after → SameLog b after
so_same a b is after = subst (λ (l : Log). SameLog l after) is

so_called : (a b : Log) → a ≡ b → (upto : ℕ) (old v : View) → CalledAtMost (calls_to_drain a upto) old v → CalledAtMost (calls_to_drain b upto) old v
so_called a b is upto old v = subst (λ (l : Log). CalledAtMost (calls_to_drain l upto) old v) is

-- ---- the places
pub drain-requires-clause-disks : goal.drain-requires-clause-disks
drain-requires-clause-disks g c =
    let old = g.B.Bank.view c.args.bank.now in
    let log : Log = record { g = c.self.inside.g; head = c.self.inside.head; cell = c.self.inside.cell; stage = c.self.inside.stage } in
    let can = so_can _ _ (sym c.self.view_is) _ c.requires.can in
    subst (λ (k : Condition). DrainFits k.g k.lost k.rebuilt (writes_to log.stage c.args.upto) old) (sym c.new-raid.ensures)
    (drain_fits log.g log.head.lost log.head.rebuilt (writes_to log.stage c.args.upto) old (fits_from_sizes log.g log.head.lost log.head.rebuilt old can.sizes.members))

pub returns-in_err-drain-clause-any_moment : goal.returns-in_err-drain-clause-any_moment
returns-in_err-drain-clause-any_moment g c i =
    let can = so_can _ _ (sym c.self.view_is) _ c.requires.can in
    so_any _ _ c.self.view_is i _ _
    (drain_any _ c.self.invariant.place can.staged (g.B.Bank.view c.args.bank.now) c.args.upto (so_low _ _ (sym c.self.view_is) _ c.requires.low)
    (so_high _ _ (sym c.self.view_is) _ c.requires.high) c.new-raid.result c.new-raid.ensures (g.B.Bank.view c.drain.new.bank) c.drain.ensures.any_moment)

-- ---- the head
pub put-requires-clause-room : goal.put-requires-clause-room
put-requires-clause-room g c =
    let v1 = g.B.Bank.view c.drain.new.bank in
    let can = so_can _ _ (sym c.self.view_is) _ c.requires.can in
    cell_room c.self.inside.g v1 c.self.inside.cell.place c.self.invariant.place (fits_still (g.B.Bank.view c.args.bank.now) v1 0 _ (c.drain.ensures.sizes 0) can.sizes.log)

pub put-requires-clause-stands : goal.put-requires-clause-stands
put-requires-clause-stands g c =
    let log : IndexedLog = record { g = c.self.inside.g; head = c.self.inside.head; cell = c.self.inside.cell; stage = c.self.inside.stage; index = nothing_indexed c.self.inside.g 0 0 0 } in
    let can = so_can _ _ (sym c.self.view_is) _ c.requires.can in
    cell_still log c.self.invariant.place can.staged (g.B.Bank.view c.args.bank.now) c.args.upto (so_low _ _ (sym c.self.view_is) _ c.requires.low)
    (so_high _ _ (sym c.self.view_is) _ c.requires.high) c.new-raid.result c.new-raid.ensures (g.B.Bank.view c.drain.new.bank) c.drain.ensures.any_moment can.cell.stands

put_moved : (g : _) (c : After-put g) (i : Indexed) → AnyMoment (with_index c.args.self.now i) (g.B.Bank.view c.args.bank.now) (g.B.Bank.view c.put.new.bank)
put_moved g c i =
    let can = so_can _ _ (sym c.self.view_is) _ c.requires.can in
    so_any _ _ c.self.view_is i _ _
    (put_any _ c.self.invariant.place can.staged (g.B.Bank.view c.args.bank.now) c.args.upto (so_low _ _ (sym c.self.view_is) _ c.requires.low)
    (so_high _ _ (sym c.self.view_is) _ c.requires.high) c.new-raid.result c.new-raid.ensures (g.B.Bank.view c.drain.new.bank) c.drain.ensures.any_moment
    c.in_ok-drain.ensures.ok (g.B.Bank.view c.put.new.bank) c.value_of-value.result c.value_of-value.ensures c.put.ensures.any_moment)

pub returns-in_err-put-clause-any_moment : goal.returns-in_err-put-clause-any_moment
returns-in_err-put-clause-any_moment g c i = put_moved g (goal.at.returns-in_err-put-clause-any_moment g c).After-put i

pub returns-clause-any_moment : goal.returns-clause-any_moment
returns-clause-any_moment g c i = put_moved g (goal.at.returns-clause-any_moment g c).After-put i

-- ---- what was touched
pub returns-in_err-drain-clause-touches : goal.returns-in_err-drain-clause-touches
returns-in_err-drain-clause-touches g c i =
    let log : IndexedLog = record { g = c.self.inside.g; head = c.self.inside.head; cell = c.self.inside.cell; stage = c.self.inside.stage; index = i } in
    so_touches _ _ c.self.view_is i _ _
    (raid_touches log c.self.invariant.place c.args.upto c.new-raid.result c.new-raid.ensures (g.B.Bank.view c.args.bank.now) (g.B.Bank.view c.drain.new.bank)
    c.drain.ensures.contents c.drain.ensures.any_moment)

put_touched : (g : _) (c : After-put g) (i : Indexed) → Touches (InDrain (running (with_index c.args.self.now i))) (g.B.Bank.view c.args.bank.now) (g.B.Bank.view c.put.new.bank)
put_touched g c i =
    let log : IndexedLog = record { g = c.self.inside.g; head = c.self.inside.head; cell = c.self.inside.cell; stage = c.self.inside.stage; index = i } in
    so_touches _ _ c.self.view_is i _ _
    (drain_touches log c.self.invariant.place c.args.upto c.new-raid.result c.new-raid.ensures (g.B.Bank.view c.args.bank.now) (g.B.Bank.view c.drain.new.bank)
    c.drain.ensures.contents c.drain.ensures.any_moment (g.B.Bank.view c.put.new.bank) c.value_of-value.result c.put.ensures.contents c.put.ensures.any_moment)

pub returns-in_err-put-clause-touches : goal.returns-in_err-put-clause-touches
returns-in_err-put-clause-touches g c i = put_touched g (goal.at.returns-in_err-put-clause-touches g c).After-put i

pub returns-clause-touches : goal.returns-clause-touches
returns-clause-touches g c i = put_touched g (goal.at.returns-clause-touches g c).After-put i

-- ---- the same log
pub returns-in_err-drain-clause-same_log : goal.returns-in_err-drain-clause-same_log
returns-in_err-drain-clause-same_log g c = log_still c.args.self.now

pub returns-in_err-put-clause-same_log : goal.returns-in_err-put-clause-same_log
returns-in_err-put-clause-same_log g c =
    let log : Log = record { g = c.self.inside.g; head = c.self.inside.head; cell = c.self.inside.cell; stage = c.self.inside.stage } in
    let after : Log = record { g = c.self.inside.g; head = c.self.inside.head; cell = c.put.new.self; stage = c.self.inside.stage } in
    so_same _ _ c.self.view_is after (log_same log after refl refl)

pub returns-clause-same_log : goal.returns-clause-same_log
returns-clause-same_log g c =
    let log : Log = record { g = c.self.inside.g; head = c.self.inside.head; cell = c.self.inside.cell; stage = c.self.inside.stage } in
    let after : Log = record { g = c.self.inside.g; head = drained_to c.self.inside.head c.args.upto; cell = c.put.new.self; stage = c.forget_to.new.self } in
    so_same _ _ c.self.view_is after (log_later log after refl (later_drained c.self.inside.head c.args.upto (so_low _ _ (sym c.self.view_is) _ c.requires.low)))

-- ---- what stands then
pub returns-clause-drained : goal.returns-clause-drained
returns-clause-drained g c =
    let old = g.B.Bank.view c.args.bank.now in
    let v2 = g.B.Bank.view c.put.new.bank in
    let here : Log = record { g = c.self.inside.g; head = c.self.inside.head; cell = c.self.inside.cell; stage = c.self.inside.stage } in
    let done : Log = record { g = c.self.inside.g; head = drained_to c.self.inside.head c.args.upto; cell = c.put.new.self; stage = c.forget_to.new.self } in
    let can = so_can _ _ (sym c.self.view_is) _ c.requires.can in
    let P : Log → Type 0 = λ (l : Log). DrainsLog l done c.args.upto (take (l.head.last - c.args.upto) l.stage.pending) old v2 in
    subst P c.self.view_is (record {
      moves = λ i. put_ok (with_index here i) c.self.invariant.place can.staged old c.args.upto (so_low _ _ (sym c.self.view_is) _ c.requires.low)
          (so_high _ _ (sym c.self.view_is) _ c.requires.high) c.new-raid.result c.new-raid.ensures (g.B.Bank.view c.drain.new.bank) c.drain.ensures.any_moment
          c.in_ok-drain.ensures.ok v2 c.value_of-value.result c.value_of-value.ensures c.put.new.self c.forget_to.new.self c.forget_to.ensures.pending c.in_ok-put.ensures.ok;
      head = refl;
      pending = c.forget_to.ensures.pending ∙ ap (λ (n : ℕ). take (n - c.args.upto) here.stage.pending) can.staged.last;
      staged = search rules;
      knows = put_known (drained_to c.self.inside.head c.args.upto) c.put.new.self c.self.inside.cell _ _ c.value_of-value.result c.self.invariant.place
          c.value_of-value.ensures c.in_ok-put.ensures.ok;
      cell = c.in_ok-put.ensures.cell.ok;
    })

-- ---- how often the bank was called
pub returns-in_err-drain-clause-calls : goal.returns-in_err-drain-clause-calls
returns-in_err-drain-clause-calls g c =
    let log : Log = record { g = c.self.inside.g; head = c.self.inside.head; cell = c.self.inside.cell; stage = c.self.inside.stage } in
    record {
      ok = search rules;
      most = so_called _ _ c.self.view_is _ _ _ (raid_calls log _ c.new-raid.result c.new-raid.ensures _ (g.B.Bank.view c.drain.new.bank) c.drain.ensures.calls.most);
    }

pub returns-in_err-put-clause-calls : goal.returns-in_err-put-clause-calls
returns-in_err-put-clause-calls g c =
    let log : Log = record { g = c.self.inside.g; head = c.self.inside.head; cell = c.self.inside.cell; stage = c.self.inside.stage } in
    record {
      ok = search rules;
      most = so_called _ _ c.self.view_is _ _ _
          (drain_calls_most log _ c.new-raid.result c.new-raid.ensures _ (g.B.Bank.view c.drain.new.bank) c.drain.ensures.calls.most
          (g.B.Bank.view c.put.new.bank) c.put.ensures.cell.calls.most);
    }

pub returns-clause-calls : goal.returns-clause-calls
returns-clause-calls g c =
    let log : Log = record { g = c.self.inside.g; head = c.self.inside.head; cell = c.self.inside.cell; stage = c.self.inside.stage } in
    let old = g.B.Bank.view c.args.bank.now in
    let v2 = g.B.Bank.view c.put.new.bank in
    took_calls _ _ old v2 (subst (λ (l : Log). CalledTimes (calls_to_drain l c.args.upto) old v2) c.self.view_is
    (drained_calls log c.args.upto c.new-raid.result c.new-raid.ensures old (g.B.Bank.view c.drain.new.bank) c.in_ok-drain.ensures.calls.ok v2 c.in_ok-put.ensures.cell.calls.ok))
