-- The steps of a commit, one after the other.
use Rattle.std.proofs.Common.{◌≡◌, ℕ, ◌+◌, List, ◌∷◌, length, Some, Ok, false, IsTrue, sym, ap, subst, ◌∙◌, arith}
use Rattle.trap_bank.specs.Disks.{Disks, Contents, View, Differs, Torn, byte}
use Rattle.trap_bank.specs.Calls.{MayLeave, Syncs, Fits as FitsIn}
use Rattle.trap_bank.specs.Steps.{Moves, Same, Always}
use Rattle.trap_bank.proofs.Moves.{synced_steps, always_same}
use Rattle.trap_bank.proofs.Regions.{byte_of_disk, region_of_disk}
use Rattle.trap_cell.specs.Slots.{Place, Slots, Stands, cell_len, cell_value}
use Rattle.trap_cell.specs.Steps.{PutsIn, IsPut}
use Rattle.trap_format.specs.HeadValue.{IsHead, head_value}
use Rattle.trap_format.specs.declared.head.Head.{Head}
use Rattle.trap_format.specs.LogDisk.{log_size, slot_len}
use Rattle.trap_index.specs.Indexed.{Indexed, with_record}
use Rattle.trap_model.specs.ArrayStep.{added}
use Rattle.trap_model.specs.Records.{next_record}
use Rattle.trap_model.specs.State.{image}
use Rattle.trap_model.specs.declared.history.Entry.{Entry}
use Rattle.trap_model.specs.declared.history.State.{State}
use Rattle.trap_model.specs.declared.numbers.Geometry.{Geometry}
use Rattle.trap_ring.specs.Ring.{RingPlace, RingHas, InRing, Appends, ring_pos}
use Rattle.trap_stage.specs.Pending.{staged_in}
use Rattle.trap_stage.specs.Slots.{Stage, slot_area, slot_start, SlotHas}
use Rattle.trap_stage.specs.Staged.{Staged}
use Rattle.trap_stage.proofs.PendingWrites.{pending-added}
use Rattle.trap_stage.proofs.SlotSpellings.{staged_with}
use Rattle.trap_stage.proofs.SlotAreas.{slot_below_ring, slot_after_cell}
use Rattle.trap_mount.specs.Holding.{head_place, log_ring, InCell, MatchesHead}
use Rattle.trap_log.specs.Calls.{Mounted, StandsFor, AtAnyMoment, StandsAfterCall, running}
use Rattle.trap_log.specs.Log.{IndexedLog}
use Rattle.trap_log.specs.NextHead.{committed, IsPlanned}
use Rattle.trap_log.specs.Ready.{CanCommit, KnowsCell}
use Rattle.trap_mount.proofs.Frames.{ring_stays, cell_stands}
use Rattle.trap_log.proofs.NextHeads.{later_committed}
use Rattle.trap_log.proofs.IndexSteps.{rec_for, further_told}
use Rattle.trap_log.proofs.Commits.{record_outside, slot_outside, next_fits}
use Rattle.trap_log.proofs.Turns.{StillIf, still_beside, still_same, still_then_still, still_may, still_then_may, still_then_has, asked_may, asked_has, put_may, put_has}

-- the log's disk has room for the head's cell
pub cell_room : (g : Geometry) (v : View) (place : Place) → place ≡ head_place → FitsIn v 0 (log_size g) → FitsIn v place.disk (place.at + cell_len place)
cell_room g v place is_head there =
    subst (λ (p : Place). FitsIn v p.disk (p.at + cell_len p)) (sym is_head)
    (there.0, there.1, omega (arith, there.2))

-- a change apart from the cell, whatever the state
pub stands_apart : (area : ℕ → ℕ → Type 0) (cell : Slots) (v w : View) → cell.place ≡ head_place → ((e i : ℕ) → InCell e i → area e i → ⊥)
    → Moves v w (Differs area) (Differs area) → Always v (Stands cell) → Always w (Stands cell)
stands_apart area cell v w is_head apart moves stands c left =
    let from = moves.now c left in
    cell_stands area from.origin.disks c.disks from.by.disks apart cell is_head (stands from.origin from.was)

-- ---- the cell as the log knows it
-- after its head was put
pub put_known : (head : Head) (after cell : Slots) (v w : View) (bytes : List ℕ) → cell.place ≡ head_place → bytes ≡ head_value head
    → Moves v w (PutsIn cell bytes) (IsPut w cell after bytes) → KnowsCell after head w
put_known head after cell v w bytes is_head is moves = record {
  stands = λ c left. let from = moves.now c left in from.by.disks.stands;
  value = λ c left. let from = moves.now c left in
      subst (λ (p : Place). cell_value p c.disks ≡ Some (head_value head)) is_head (from.by.disks.value ∙ ap (λ (b : List ℕ). Some b) is);
}

-- after calls that change nothing
pub known_same : (log : IndexedLog) (v w : View) → Moves v w Same Same → KnowsCell log.cell log.head v → KnowsCell log.cell log.head w
known_same log v w moves known = record {
  stands = always_same v w (Stands log.cell) moves known.stands;
  value = always_same v w (λ disks. cell_value head_place disks ≡ Some (head_value log.head)) moves known.value;
}

module _ (log : IndexedLog) (is_head : log.cell.place ≡ head_place) (same : log.stage.g ≡ log.g) (v : View) (entry : Entry) (parity spelled : List ℕ)
    (can : CanCommit log v entry parity spelled) (unmarked : entry.snap ≡ false) (r : RingPlace) (is_ring : r ≡ log_ring log.g) where
  abbrev asks : State → Type 0
  asks s = IsPlanned log.g s entry parity spelled

  abbrev here : Mounted
  here = running log

  abbrev next : State → State
  next s = added s entry

  next_at : (s : State) → asks s → IsHead log.g (committed log.head entry.time (length (next_record s entry)))
  next_at s planned = subst (λ (bytes : List ℕ). IsHead log.g (committed log.head entry.time (length bytes))) planned.spelled_is can.next

  appended : (w : View) → Moves v w (Differs (InRing r log.head.end_off (length spelled))) (Differs (InRing r log.head.end_off (length spelled)))
      → Moves v w (StillIf here v asks) (StillIf here v asks)
  appended w moves =
      still_beside here asks (InRing r log.head.end_off (length spelled)) v w is_head
      (λ s x was stands planned e i ring.
      let P : RingPlace → Type 0 = λ (q : RingPlace). InRing q log.head.end_off (length spelled) e i in
      let Q : List ℕ → Type 0 = λ (bytes : List ℕ). InRing (log_ring log.g) log.head.end_off (length bytes) e i in
      record_outside log.g log.head s entry x.disks stands.by.fits (next_at s planned) e i (subst Q planned.spelled_is (subst P is_ring ring)))
      moves

  filled : (u w : View) → Moves u w (Differs (slot_area log.stage.g (log.head.last + 1))) (Differs (slot_area log.stage.g (log.head.last + 1))) → Moves u w (StillIf here u asks) (StillIf here u asks)
  filled u w moves =
      still_beside here asks (slot_area log.stage.g (log.head.last + 1)) u w is_head
      (λ s x was stands planned e i slot.
      slot_outside log.g log.head s entry x.disks stands.by.fits (next_at s planned) e i (subst (λ (g : Geometry). slot_area g (log.head.last + 1) e i) same slot))
      moves

  module _ (v1 : View) (append : Moves v v1 (Differs (InRing r log.head.end_off (length spelled))) (Differs (InRing r log.head.end_off (length spelled)))) where
    pub append_any : Moves v v1 (AtAnyMoment here v next) (AtAnyMoment here v next)
    append_any = asked_may here asks next v v1 can.planned (still_may here asks next v v1 (appended v1 append))

    module _ (v2 : View) (fill : Moves v1 v2 (Differs (slot_area log.stage.g (log.head.last + 1))) (Differs (slot_area log.stage.g (log.head.last + 1)))) where
      both_still : Moves v v2 (StillIf here v asks) (StillIf here v asks)
      both_still = still_then_still here asks v v1 v2 (appended v1 append) (filled v1 v2 fill)

      pub fill_any : Moves v v2 (AtAnyMoment here v next) (AtAnyMoment here v next)
      fill_any = asked_may here asks next v v2 can.planned (still_may here asks next v v2 both_still)

      module _ (v3 : View) (sync : Moves v2 v3 Same Same) where
        all_still : Moves v v3 (StillIf here v asks) (StillIf here v asks)
        all_still = still_then_still here asks v v2 v3 both_still (still_same here asks v2 v3 sync)

        pub sync_any : Moves v v3 (AtAnyMoment here v next) (AtAnyMoment here v next)
        sync_any = asked_may here asks next v v3 can.planned (still_may here asks next v v3 all_still)

        -- the cell stands through all this
        pub cell_still : Always v3 (Stands log.cell)
        cell_still c left =
            let from = sync.now c left in
            let stands = stands_apart (slot_area log.stage.g (log.head.last + 1)) log.cell v1 v2 is_head
            (λ e i inside slot. omega (arith, inside.to, slot.from, slot_after_cell log.stage.g (log.head.last + 1)))
            fill
            (stands_apart (InRing r log.head.end_off (length spelled)) log.cell v v1 is_head
            (λ e i inside ring. omega (arith, inside.to, (subst (λ (q : RingPlace). InRing q log.head.end_off (length spelled) e i) is_ring ring).place))
            append can.cell.stands) in
            subst (λ (x : Disks). Stands log.cell x) (sym from.by.disks) (stands from.origin from.was)

        -- every crash leaves the record and the slot
        module _ (written : IsTrue v.tells → Appends r log.head.first_off log.head.end_off spelled v.now.disks v1.now.disks)
            (beside : IsTrue v1.tells → Torn (slot_area log.stage.g (log.head.last + 1)) v1.now v2.now)
            (slot : IsTrue v1.tells → SlotHas log.stage.g (log.head.last + 1) (staged_with entry.block entry.bytes parity) v2.now.disks)
            (read : IsTrue v2.tells → v3.now ≡ v2.now) (settled : (c : Contents) → MayLeave v3 c → c.disks 0 ≡ v3.now.disks 0) where
          record_there : (c : Contents) → MayLeave v3 c → RingHas (log_ring log.g) log.head.end_off spelled c.disks
          record_there c left k below =
              let told3 = left.told in
              let told2 = subst (λ t. IsTrue t) sync.tells told3 in
              let told1 = subst (λ t. IsTrue t) fill.tells told2 in
              let told = subst (λ t. IsTrue t) append.tells told1 in
              let first = subst (λ (q : RingPlace). RingHas q log.head.end_off spelled v1.now.disks) is_ring (written told).there in
              let second = ring_stays (slot_area log.stage.g (log.head.last + 1)) v1.now.disks v2.now.disks (beside told1).disks log.g log.head.end_off spelled
              (λ e i ring inside. apart_ring e i ring (subst (λ (g : Geometry). slot_area g (log.head.last + 1) e i) same inside)) first in
              byte_of_disk v3.now.disks c.disks 0 (ring_pos (log_ring log.g) (log.head.end_off + k)) (settled c left)
              ∙ ap (λ (now : Contents). byte now.disks 0 (ring_pos (log_ring log.g) (log.head.end_off + k))) (read told2)
              ∙ second k below
            where
              apart_ring : (e i : ℕ) → InRing (log_ring log.g) log.head.end_off (length spelled) e i → slot_area log.g (log.head.last + 1) e i → ⊥
              apart_ring e i ring inside = omega (arith, ring.place, inside.to, slot_below_ring log.g (log.head.last + 1))

          slot_there : (c : Contents) → MayLeave v3 c → SlotHas log.g (log.head.last + 1) (staged_with entry.block entry.bytes parity) c.disks
          slot_there c left =
              let told2 = subst (λ t. IsTrue t) sync.tells left.told in
              let told1 = subst (λ t. IsTrue t) fill.tells told2 in
              region_of_disk v3.now.disks c.disks 0 (slot_start log.g (log.head.last + 1)) (slot_len log.g) (settled c left)
              ∙ subst (λ (now : Contents). SlotHas log.g (log.head.last + 1) (staged_with entry.block entry.bytes parity) now.disks) (sym (read told2))
              (subst (λ (g : Geometry). SlotHas g (log.head.last + 1) (staged_with entry.block entry.bytes parity) v2.now.disks) same (slot told1))

          staged_same : (s : State) → asks s → staged_with entry.block entry.bytes parity ≡ staged_in log.g (image (added s entry)) entry
          staged_same s planned = ap (staged_with entry.block entry.bytes) planned.parity_is

          fits_then : (s : State) (x : Contents) → MayLeave v3 x → StandsFor here s x.disks → asks s → MatchesHead log.g (committed log.head entry.time (length spelled)) (added s entry) x.disks
          fits_then s x left stands planned =
              subst (λ (bytes : List ℕ). MatchesHead log.g (committed log.head entry.time (length bytes)) (added s entry) x.disks) (sym planned.spelled_is)
              (next_fits log.g log.head s entry x.disks stands.by.fits (next_at s planned) can.is_entry (omega (arith, can.later, stands.by.fits.head.last_time))
              (subst (λ (bytes : List ℕ). RingHas (log_ring log.g) log.head.end_off bytes x.disks) planned.spelled_is (record_there x left))
              (subst (λ (staged : Staged). SlotHas log.g (log.head.last + 1) staged x.disks) (staged_same s planned) (slot_there x left)))

          module _ (v4 : View) (bytes : List ℕ) (is_value : bytes ≡ head_value (committed log.head entry.time (length spelled))) where
            pub put_any : Moves v3 v4 (PutsIn log.cell bytes) (PutsIn log.cell bytes) → Moves v v4 (AtAnyMoment here v next) (AtAnyMoment here v next)
            put_any moves =
                asked_may here asks next v v4 can.planned
                (still_then_may here asks next v v3 v4 all_still
                (put_may here asks next (committed log.head entry.time (length spelled)) v3 v4 is_head (later_committed log.head entry.time (length spelled)) fits_then
                (subst (λ (b : List ℕ). Moves v3 v4 (PutsIn log.cell b) (PutsIn log.cell b)) is_value moves)))

            pub put_ok : (cell : Slots) (stage : Stage) (index : Indexed) → index ≡ with_record log.index (rec_for log.head entry (length spelled))
                → stage ≡ record log.stage { pending = staged_with entry.block entry.bytes parity ∷ log.stage.pending }
                → Moves v3 v4 (PutsIn log.cell bytes) (IsPut v4 log.cell cell bytes)
                → Moves v v4 (AtAnyMoment here v next) (StandsAfterCall here (running (record
                { g = log.g; head = committed log.head entry.time (length spelled); cell = cell; stage = stage; index = index })) v next)
            put_ok cell stage index known more moves =
                asked_has here asks next (running (record { g = log.g; head = committed log.head entry.time (length spelled); cell = cell; stage = stage; index = index })) v v4 can.planned
                (still_then_has here asks next (running (record { g = log.g; head = committed log.head entry.time (length spelled); cell = cell; stage = stage; index = index })) v v3 v4 all_still
                (put_has here asks next (committed log.head entry.time (length spelled)) v3 v4 is_head (later_committed log.head entry.time (length spelled)) fits_then cell stage.pending index
                (λ s x left stands planned.
                let fits = stands.by.fits in
                ap (λ (t : Stage). t.pending) more
                ∙ ap (λ (staged : Staged). staged ∷ log.stage.pending) (staged_same s planned)
                ∙ ap (λ (writes : List Staged). staged_in log.g (image (added s entry)) entry ∷ writes) stands.pending
                ∙ sym (pending-added log.g s entry log.head.drained (omega (arith, fits.head.first, fits.head.head.numbers.dropped)) (omega (arith, fits.head.last, fits.head.head.numbers.drained))))
                (λ s x left stands planned.
                let R : List ℕ → Type 0 = λ (bytes : List ℕ). index ≡ with_record log.index (rec_for log.head entry (length bytes)) in
                further_told log.head s entry log.index index stands.index stands.by.fits.head.last unmarked (subst R planned.spelled_is known))
                (subst (λ (b : List ℕ). Moves v3 v4 (PutsIn log.cell b) (IsPut v4 log.cell cell b)) is_value moves)))

-- of disk 0 every crash leaves what a read gives, once it is synced
pub settled_there : {T E : Type 0} (value : T) (v w : View) → Syncs {T = T} {E = E} 0 (Ok value) v w → (c : Contents) → MayLeave w c → c.disks 0 ≡ w.now.disks 0
settled_there value v w call c left = let from = (synced_steps value v w 0 call).now c left in from.by.disks.read
