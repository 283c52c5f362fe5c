-- The steps of a drain, one after the other.
use Rattle.std.proofs.Common.{◌≡◌, ℕ, ◌-◌, ◌<◌, ◌≤◌, List, [], take, drop, Bool, true, false, ◌==◌, nat_lt, if◌then◌else◌, refl, sym, ap, subst, ◌∙◌, arith}
use Rattle.std.proofs.lemmas.Bool.{ltb-true, ltb-false, eqb-true, eqb-false}
use Rattle.trap_bank.specs.Disks.{Disks, Contents, View, Differs}
use Rattle.trap_bank.specs.Calls.{MayLeave}
use Rattle.trap_bank.specs.Steps.{Moves, Always}
use Rattle.trap_bank.proofs.Moves.{unmoved}
use Rattle.trap_cell.specs.Slots.{Slots, Stands, turned}
use Rattle.trap_cell.specs.Steps.{PutsIn, IsPut}
use Rattle.trap_format.specs.HeadValue.{IsHead, head_value}
use Rattle.trap_format.specs.declared.head.Head.{Head}
use Rattle.trap_model.specs.State.{last}
use Rattle.trap_model.specs.declared.history.State.{State}
use Rattle.trap_raid.specs.Condition.{Condition}
use Rattle.trap_raid.specs.Draining.{AreDrained, Drains, InDrained, writes_to}
use Rattle.trap_raid.specs.Members.{Covered}
use Rattle.trap_stage.specs.Pending.{pending}
use Rattle.trap_stage.specs.Slots.{Stage, last_of}
use Rattle.trap_stage.specs.Staged.{Staged}
use Rattle.trap_stage.proofs.PendingWrites.{pending-split, pending-take}
use Rattle.trap_mount.specs.Holding.{head_place, MatchesHead, Outside}
use Rattle.trap_log.specs.Calls.{Mounted, StandsFor, SameLog, AtAnyMoment, StandsAfterCall, running}
use Rattle.trap_log.specs.Draining.{DrainsLog, MakesRoom}
use Rattle.trap_log.specs.Log.{Log, IndexedLog, StagesHead, with_index}
use Rattle.trap_log.specs.NextHead.{drained_to}
use Rattle.trap_log.specs.Ready.{CanDrain}
use Rattle.trap_log.proofs.AreaSteps.{take_none}
use Rattle.trap_log.proofs.CommitSteps.{stands_apart}
use Rattle.trap_log.proofs.GoingOn.{can_drain_on}
use Rattle.trap_log.proofs.NextHeads.{later_drained}
use Rattle.trap_log.proofs.Drains.{covered_outside, drained_fits}
use Rattle.trap_log.proofs.Turns.{StillIf, Whatever, still_beside, still_may, still_then_may, still_then_has, asked_may, asked_has, put_may, put_has, same_keeps}

module _ (log : IndexedLog) (is_head : log.cell.place ≡ head_place) (in_step : StagesHead log.head log.stage) (v : View)
    (upto : ℕ) (low : log.head.drained ≤ upto) (high : upto ≤ log.head.last)
    (k : Condition) (is_raid : k ≡ record { g = log.g; lost = log.head.lost; rebuilt = log.head.rebuilt }) where
  abbrev here : Mounted
  here = running log

  abbrev same : State → State
  same s = s

  -- the writes that are drained are the older of the state's
  older : (s : State) (x : Disks) → StandsFor here s x → writes_to log.stage upto ≡ drop (last s - upto) (pending log.g s log.head.drained)
  older s x stands =
      ap (λ (n : ℕ). drop (n - upto) log.stage.pending) (in_step.last ∙ stands.by.fits.head.last)
      ∙ ap (λ (writes : List Staged). drop (last s - upto) writes) stands.pending

  beside : (s : State) (x : Disks) → StandsFor here s x → (e i : ℕ) → Covered log.g (writes_to log.stage upto) e i → Outside log.g log.head s e i
  beside s x stands e i covered =
      let parts = pending-split log.g s log.head.drained upto low (omega (arith, high, stands.by.fits.head.last)) in
      covered_outside log.g log.head s (pending log.g s upto) (drop (last s - upto) (pending log.g s log.head.drained)) parts e i
      (subst (λ (writes : List Staged). Covered log.g writes e i) (older s x stands) covered)

  still : (w : View) → Moves v w (Differs (InDrained k.g k.lost k.rebuilt (writes_to log.stage upto)))
      (Differs (InDrained k.g k.lost k.rebuilt (writes_to log.stage upto))) → Moves v w (StillIf here v Whatever) (StillIf here v Whatever)
  still w moves =
      let P : Condition → Type 0 = λ (c : Condition). Moves v w (Differs (InDrained c.g c.lost c.rebuilt (writes_to log.stage upto)))
      (Differs (InDrained c.g c.lost c.rebuilt (writes_to log.stage upto))) in
      still_beside here Whatever (InDrained log.g log.head.lost log.head.rebuilt (writes_to log.stage upto)) v w is_head
      (λ s x was stands none e i drained. beside s x.disks stands e i drained.covered) (subst P is_raid moves)

  module _ (v1 : View) (drain : Moves v v1 (Differs (InDrained k.g k.lost k.rebuilt (writes_to log.stage upto))) (Differs (InDrained k.g k.lost k.rebuilt (writes_to log.stage upto)))) where
    pub drain_any : Moves v v1 (AtAnyMoment here v same) (AtAnyMoment here v same)
    drain_any = asked_may here Whatever same v v1 (λ s told always. tt) (still_may here Whatever same v v1 (still v1 drain))

    pub cell_still : Always v (Stands log.cell) → Always v1 (Stands log.cell)
    cell_still stands =
        stands_apart (InDrained k.g k.lost k.rebuilt (writes_to log.stage upto)) log.cell v v1 is_head (λ e i inside drained. omega (arith, inside.disk, drained.covered.within.disk)) drain stands

    module _ (drained : Moves v v1 (Differs (InDrained k.g k.lost k.rebuilt (writes_to log.stage upto))) (Drains k.g k.lost k.rebuilt (writes_to log.stage upto))) where
      fits_then : (s : State) (x : Contents) → MayLeave v1 x → StandsFor here s x.disks → Whatever s → MatchesHead log.g (drained_to log.head upto) s x.disks
      fits_then s x left stands none =
          let P : Condition → Type 0 = λ (c : Condition). AreDrained c.g c.lost c.rebuilt (writes_to log.stage upto) x.disks in
          let there = subst P is_raid (drained.now x left).by.disks.there in
          drained_fits log.g log.head s upto x.disks stands.by.fits low high
          (subst (λ (writes : List Staged). AreDrained log.g log.head.lost log.head.rebuilt writes x.disks) (older s x.disks stands) there)

      module _ (v2 : View) (bytes : List ℕ) (is_value : bytes ≡ head_value (drained_to log.head upto)) where
        pub put_any : Moves v1 v2 (PutsIn log.cell bytes) (PutsIn log.cell bytes) → Moves v v2 (AtAnyMoment here v same) (AtAnyMoment here v same)
        put_any moves =
            asked_may here Whatever same v v2 (λ s told always. tt)
            (still_then_may here Whatever same v v1 v2 (still v1 drain)
            (put_may here Whatever same (drained_to log.head upto) v1 v2 is_head (later_drained log.head upto low) fits_then
            (subst (λ (b : List ℕ). Moves v1 v2 (PutsIn log.cell b) (PutsIn log.cell b)) is_value moves)))

        pub put_ok : (cell : Slots) (stage : Stage) → stage.pending ≡ take (last_of log.stage - upto) log.stage.pending
            → Moves v1 v2 (PutsIn log.cell bytes) (IsPut v2 log.cell cell bytes)
            → Moves v v2 (AtAnyMoment here v same) (StandsAfterCall here (running (record { g = log.g; head = drained_to log.head upto; cell = cell; stage = stage; index = log.index })) v same)
        put_ok cell stage rest moves =
            asked_has here Whatever same (running (record { g = log.g; head = drained_to log.head upto; cell = cell; stage = stage; index = log.index })) v v2 (λ s told always. tt)
            (still_then_has here Whatever same (running (record { g = log.g; head = drained_to log.head upto; cell = cell; stage = stage; index = log.index })) v v1 v2 (still v1 drain)
            (put_has here Whatever same (drained_to log.head upto) v1 v2 is_head (later_drained log.head upto low) fits_then cell stage.pending log.index
            (λ s x left stands none.
            rest
            ∙ ap (λ (n : ℕ). take (n - upto) log.stage.pending) (in_step.last ∙ stands.by.fits.head.last)
            ∙ ap (λ (writes : List Staged). take (last s - upto) writes) stands.pending
            ∙ pending-take log.g s log.head.drained upto low (omega (arith, high, stands.by.fits.head.last)))
            (λ s x left stands none. stands.index)
            (subst (λ (b : List ℕ). Moves v1 v2 (PutsIn log.cell b) (IsPut v2 log.cell cell b)) is_value moves)))

-- ---- all of them
-- a choice by whether one number is below another
chosen : {A : Type 0} (n m : ℕ) (x y : A) → n < m → (if nat_lt n m then x else y) ≡ x
chosen {A = A} n m x y less = pick (nat_lt n m) refl
  where
    pick : (b : Bool) → nat_lt n m ≡ b → (if b then x else y) ≡ x
    pick true is = refl
    pick false is = absurd (omega (arith, less, ltb-false n m is))

other : {A : Type 0} (n m : ℕ) (x y : A) → m ≤ n → (if nat_lt n m then x else y) ≡ y
other {A = A} n m x y more = pick (nat_lt n m) refl
  where
    pick : (b : Bool) → nat_lt n m ≡ b → (if b then x else y) ≡ y
    pick true is = absurd (omega (arith, more, ltb-true n m is))
    pick false is = refl

-- how many stay pending where a slot is made free: none where all slots held one, and else all
none_left : (n m : ℕ) → n ≡ m → (if n == m then 0 else n) ≡ 0
none_left n m same = pick (n == m) refl
  where
    pick : (b : Bool) → (n == m) ≡ b → (if b then 0 else n) ≡ 0
    pick true is = refl
    pick false is = absurd (eqb-false n m is same)

all_left : (n m : ℕ) → n < m → (if n == m then 0 else n) ≡ n
all_left n m less = pick (n == m) refl
  where
    pick : (b : Bool) → (n == m) ≡ b → (if b then 0 else n) ≡ n
    pick true is = absurd (omega (arith, less, eqb-true n m is))
    pick false is = refl

-- a drain up to the last number leaves none pending
pub all_drained : (a b : Log) (upto : ℕ) (v w : View) → upto ≡ a.head.last → DrainsLog a b upto (take (a.head.last - upto) a.stage.pending) v w → DrainsLog a b a.head.last [] v w
all_drained a b upto v w is drains = record {
  moves = drains.moves;
  head = drains.head ∙ ap (drained_to a.head) is;
  pending = drains.pending ∙ take_none (a.head.last - upto) a.stage.pending (omega (arith, is));
  staged = drains.staged;
  knows = drains.knows;
  cell = drains.cell;
}

-- a slot is free
module _ (a : Log) (v : View) (can : CanDrain a v) (less : a.head.last - a.head.drained < a.g.slots) where
  pub has_room : MakesRoom a a v v
  has_room = record {
    moves = λ i. same_keeps (running (with_index a i)) v v (unmoved v);
    free = omega (arith, less);
    can = can;
    head = refl;
    left = sym (all_left (a.head.last - a.head.drained) a.g.slots less);
    pending = sym (chosen (a.head.last - a.head.drained) a.g.slots a.stage.pending [] less);
    cell = sym (chosen (a.head.last - a.head.drained) a.g.slots a.cell (turned a.cell) less);
  }

-- none is
module _ (a : Log) (is : IsHead a.g a.head) (more : a.g.slots ≤ a.head.last - a.head.drained) where
  pub makes_room : (b : Log) (v w : View) → SameLog a b → ((d : ℕ) → w.sizes d ≡ v.sizes d) → CanDrain a v → DrainsLog a b a.head.last [] v w → MakesRoom a b v w
  makes_room b v w same sizes can drains =
      let last = ap (λ (h : Head). h.last) drains.head in
      let drained = ap (λ (h : Head). h.drained) drains.head in
      let none : b.head.last - b.head.drained ≡ 0 = omega (arith, last, drained) in
      record {
        moves = drains.moves;
        free = omega (arith, last, drained, b.g.within.slots_least);
        can = can_drain_on a b v w same sizes can.sizes drains.staged drains.knows;
        head = drains.head ∙ ap (drained_to a.head) (sym drained);
        left = none ∙ sym (none_left (a.head.last - a.head.drained) a.g.slots (omega (arith, is.numbers.pending, more)));
        pending = drains.pending ∙ sym (other (a.head.last - a.head.drained) a.g.slots a.stage.pending [] more);
        cell = drains.cell ∙ sym (other (a.head.last - a.head.drained) a.g.slots a.cell (turned a.cell) more);
      }
