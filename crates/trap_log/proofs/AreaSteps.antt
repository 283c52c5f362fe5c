-- Which bytes a commit and a drain touch.
use Rattle.std.proofs.Common.{◌≡◌, ℕ, ◌+◌, ◌-◌, ◌≤◌, List, [], take, drop, Option, Bool, true, false, not, IsTrue, inl, inr, refl, ap, subst, ◌∙◌, arith}
use Rattle.std.proofs.lemmas.List.{take-append-drop}
use Rattle.trap_bank.specs.Disks.{View, Area, Differs, Torn, Quiet}
use Rattle.trap_bank.specs.Steps.{Moves, Same}
use Rattle.trap_bank.proofs.Moves.{moves_weaken, moves_again, moves_mono, moves_same, torn_again, torn_same, torn_mono, unmoved}
use Rattle.trap_cell.specs.Slots.{Place, Slots, slot_at, other_slot}
use Rattle.trap_cell.specs.Steps.{PutsIn}
use Rattle.trap_model.specs.declared.numbers.Geometry.{Geometry}
use Rattle.trap_mount.specs.Holding.{head_place, log_ring, InCell}
use Rattle.trap_raid.specs.Condition.{Condition}
use Rattle.trap_raid.specs.Draining.{InDrained, writes_to}
use Rattle.trap_raid.proofs.DrainLemmas.{drained_older}
use Rattle.trap_ring.specs.Ring.{RingPlace, InRing}
use Rattle.trap_stage.specs.Slots.{slot_area, last_of}
use Rattle.trap_stage.specs.Staged.{Staged}
use Rattle.trap_log.specs.Areas.{Touches, InCommit, InDrain}
use Rattle.trap_log.specs.Calls.{running}
use Rattle.trap_log.specs.Log.{IndexedLog}
use Rattle.trap_log.specs.Room.{ring_len}

-- ---- one step after another
pub touches_then : (area : Area) (a b c : View) → Touches area a b → Touches area b c → Touches area a c
touches_then area a b c one two = record {
  contents = torn_again area a b c one.any_moment.tells one.contents two.contents;
  any_moment = moves_again area a b c one.any_moment two.any_moment;
}

pub touches_mono : (small large : Area) (a b : View) → ((e i : ℕ) → small e i → large e i) → Touches small a b → Touches large a b
touches_mono small large a b within touches = record {
  contents = λ told. torn_mono small large a.now b.now within (touches.contents told);
  any_moment = moves_mono small large a b within touches.any_moment;
}

pub touches_same : (area : Area) (a b : View) → (IsTrue a.tells → b.now ≡ a.now) → Moves a b Same Same → Touches area a b
touches_same area a b same moves = record { contents = torn_same area a b same; any_moment = moves_same area a b moves }

-- no call
pub unchanged : (v : View) → IsTrue v.tells → v.now ≡ v.now
unchanged v told = refl

pub touches_none : (area : Area) (v : View) → Touches area v v
touches_none area v = touches_same area v v (unchanged v) (unmoved v)

-- ---- the head's cell
in_cell : (cell : Slots) → cell.place ≡ head_place → (e i : ℕ) → other_slot cell e i → InCell e i
in_cell cell is_head e i inside =
    let disk = ap (λ (p : Place). p.disk) is_head in
    let at = ap (λ (p : Place). p.at) is_head in
    let size = ap (λ (p : Place). p.size) is_head in
    let slot = either cell.second in
    record {
      disk = inside.disk ∙ disk;
      from = omega (arith, inside.from, slot.0, at);
      to = omega (arith, inside.to, slot.1, at, size);
    }
  where
    either : (second : Bool) → (cell.place.at ≤ slot_at cell.place (not second)) × (slot_at cell.place (not second) ≤ cell.place.at + (2 + cell.place.size))
    either true = (omega arith, omega arith)
    either false = (omega arith, omega arith)

pub put_touches : (a b : View) (cell : Slots) (value : List ℕ) → cell.place ≡ head_place → (IsTrue a.tells → Quiet (PutsIn cell value) a.now b.now)
    → Moves a b (PutsIn cell value) (PutsIn cell value) → Touches InCell a b
put_touches a b cell value is_head puts moves = record {
  contents = λ told. torn_mono (other_slot cell) InCell a.now b.now (in_cell cell is_head) (record { disks = (puts told).disks.differs; said = (puts told).said });
  any_moment = moves_mono (other_slot cell) InCell a b (in_cell cell is_head)
      (moves_weaken a b (PutsIn cell value) (PutsIn cell value) (Differs (other_slot cell)) (Differs (other_slot cell)) moves (λ x y was put. put.differs) (λ x y was left put. put.differs));
}

-- ---- a commit
module _ (log : IndexedLog) (is_head : log.cell.place ≡ head_place) (same : log.stage.g ≡ log.g) (ring : RingPlace) (is_ring : ring ≡ log_ring log.g) (len : ℕ)
    (fits : log.head.end_off + len ≤ log.head.first_off + ring_len log.g) (v v1 : View)
    (torn : IsTrue v.tells → Torn (InRing ring log.head.end_off len) v.now v1.now) (moves : Moves v v1 (Differs (InRing ring log.head.end_off len)) (Differs (InRing ring log.head.end_off len))) where
  abbrev area : Area
  area = InCommit (running log)

  in_free : (e i : ℕ) → InRing ring log.head.end_off len e i → InCommit (running log) e i
  in_free e i inside =
      let there = subst (λ (r : RingPlace). InRing r log.head.end_off len e i) is_ring inside in
      inl (record { disk = there.disk; offset = there.offset; low = there.low; high = omega (arith, there.high, fits); place = there.place })

  pub append_touches : Touches (InCommit (running log)) v v1
  append_touches = touches_mono (InRing ring log.head.end_off len) (InCommit (running log)) v v1 in_free (record { contents = torn; any_moment = moves })

  module _ (v2 : View) (torn_slot : IsTrue v1.tells → Torn (slot_area log.stage.g (log.head.last + 1)) v1.now v2.now)
      (moves_slot : Moves v1 v2 (Differs (slot_area log.stage.g (log.head.last + 1))) (Differs (slot_area log.stage.g (log.head.last + 1)))) where
    pub fill_touches : Touches (InCommit (running log)) v v2
    fill_touches =
        touches_then (InCommit (running log)) v v1 v2 append_touches
        (touches_mono (slot_area log.stage.g (log.head.last + 1)) (InCommit (running log)) v1 v2
        (λ e i inside. inr (inl (subst (λ (g : Geometry). slot_area g (log.head.last + 1) e i) same inside)))
        (record { contents = torn_slot; any_moment = moves_slot }))

    module _ (v3 : View) (still : IsTrue v2.tells → v3.now ≡ v2.now) (sync : Moves v2 v3 Same Same) where
      pub sync_touches : Touches (InCommit (running log)) v v3
      sync_touches = touches_then (InCommit (running log)) v v2 v3 fill_touches (touches_same (InCommit (running log)) v2 v3 still sync)

      pub commit_touches : (v4 : View) (value : List ℕ) → (IsTrue v3.tells → Quiet (PutsIn log.cell value) v3.now v4.now) → Moves v3 v4 (PutsIn log.cell value) (PutsIn log.cell value)
          → Touches (InCommit (running log)) v v4
      commit_touches v4 value puts moves_put =
          touches_then (InCommit (running log)) v v3 v4 sync_touches
          (touches_mono InCell (InCommit (running log)) v3 v4 (λ e i inside. inr (inr inside)) (put_touches v3 v4 log.cell value is_head puts moves_put))

-- ---- a drain
pub take_none : (n : ℕ) (writes : List Staged) → n ≡ 0 → take n writes ≡ []
take_none n writes none = ap (λ (k : ℕ). take k writes) none

-- the older of the pending writes are some of them
older_in : (g : Geometry) (lost : Option ℕ) (rebuilt n : ℕ) (writes : List Staged) (e i : ℕ) → InDrained g lost rebuilt (drop n writes) e i → InDrained g lost rebuilt writes e i
older_in g lost rebuilt n writes e i inside =
    subst (λ (w : List Staged). InDrained g lost rebuilt w e i) (take-append-drop n writes) (drained_older g lost rebuilt (take n writes) (drop n writes) e i inside)

module _ (log : IndexedLog) (is_head : log.cell.place ≡ head_place) (upto : ℕ) (k : Condition) (is_raid : k ≡ record { g = log.g; lost = log.head.lost; rebuilt = log.head.rebuilt }) (v v1 : View)
    (torn : IsTrue v.tells → Torn (InDrained k.g k.lost k.rebuilt (writes_to log.stage upto)) v.now v1.now)
    (moves : Moves v v1 (Differs (InDrained k.g k.lost k.rebuilt (writes_to log.stage upto))) (Differs (InDrained k.g k.lost k.rebuilt (writes_to log.stage upto)))) where
  in_places : (e i : ℕ) → InDrained k.g k.lost k.rebuilt (writes_to log.stage upto) e i → InDrain (running log) e i
  in_places e i inside =
      let P : Condition → Type 0 = λ (c : Condition). InDrained c.g c.lost c.rebuilt (writes_to log.stage upto) e i in
      inl (older_in log.g log.head.lost log.head.rebuilt (last_of log.stage - upto) log.stage.pending e i (subst P is_raid inside))

  pub raid_touches : Touches (InDrain (running log)) v v1
  raid_touches =
      touches_mono (InDrained k.g k.lost k.rebuilt (writes_to log.stage upto)) (InDrain (running log)) v v1 in_places (record { contents = torn; any_moment = moves })

  pub drain_touches : (v2 : View) (value : List ℕ) → (IsTrue v1.tells → Quiet (PutsIn log.cell value) v1.now v2.now)
      → Moves v1 v2 (PutsIn log.cell value) (PutsIn log.cell value) → Touches (InDrain (running log)) v v2
  drain_touches v2 value puts moves_put =
      touches_then (InDrain (running log)) v v1 v2 raid_touches
      (touches_mono InCell (InDrain (running log)) v1 v2 (λ e i inside. inr inside) (put_touches v1 v2 log.cell value is_head puts moves_put))
