-- What stays of a state that disks hold, where only bytes change that don't matter.
use Rattle.std.proofs.Common.{◌≡◌, ℕ, ◌+◌, ◌*◌, ◌<◌, ◌≤◌, List, length, inl, inr, ⊎_elim, refl, sym, subst, ◌∙◌, arith}
use Rattle.trap_bank.specs.Disks.{Disks, Area, Within, Differs}
use Rattle.trap_bank.proofs.Regions.{region_apart}
use Rattle.trap_cell.specs.Slots.{Slots, Stands, cell_value}
use Rattle.trap_cell.proofs.Beside.{cell_beside, stands_beside}
use Rattle.trap_format.specs.LogDisk.{IsLogHeader}
use Rattle.trap_format.specs.declared.head.Head.{Head}
use Rattle.trap_model.specs.Records.{records}
use Rattle.trap_model.specs.State.{last, kept}
use Rattle.trap_model.specs.declared.numbers.Geometry.{Geometry}
use Rattle.trap_model.specs.declared.history.State.{State}
use Rattle.trap_model.proofs.Records.{length-records}
use Rattle.trap_raid.specs.Members.{InHeaders, InPlaces}
use Rattle.trap_raid.proofs.MemberLemmas.{members_stay}
use Rattle.trap_ring.specs.Ring.{RingHas, InRing, ring_pos}
use Rattle.trap_stage.specs.Pending.{pending}
use Rattle.trap_stage.specs.Slots.{InSlots}
use Rattle.trap_stage.proofs.SlotAreas.{slots_stay, slot_after_cell}
use Rattle.trap_mount.specs.Holding.{head_place, log_ring, HasLog, MatchesHead, HoldsBy, Matters, InCell, Outside}

module _ (area : Area) (x y : Disks) (differs : Differs area x y) (g : Geometry) where
  -- the log's size and header
  pub log_stays : ((e i : ℕ) → Within 0 0 64 e i → area e i → ⊥) → HasLog g x → HasLog g y
  log_stays apart log = record {
    size = differs.sizes 0 ∙ log.size;
    header = subst (λ (bytes : List ℕ). IsLogHeader g bytes)
        (sym (region_apart area x y 0 0 64 differs (λ i low high. apart 0 i (record { disk = refl; from = low; to = high })))) log.header;
    id = log.id;
  }

  -- bytes in the ring
  pub ring_stays : (from : ℕ) (bytes : List ℕ) → ((e i : ℕ) → InRing (log_ring g) from (length bytes) e i → area e i → ⊥) → RingHas (log_ring g) from bytes x → RingHas (log_ring g) from bytes y
  ring_stays from bytes apart has k below =
      differs.bytes 0 (ring_pos (log_ring g) (from + k))
      (apart 0 (ring_pos (log_ring g) (from + k)) (record { disk = refl; offset = from + k; low = omega arith; high = omega (arith, below); place = refl }))
      ∙ has k below

  -- all parts but the head's cell
  pub fits_stay : (h : Head) (s : State) → ((e i : ℕ) → Matters g h s e i → area e i → ⊥) → MatchesHead g h s x → MatchesHead g h s y
  fits_stay h s apart fits =
      let long = length-records s in
      record {
        valid = fits.valid;
        head = fits.head;
        log = log_stays (λ e i inside. apart e i (inl inside)) fits.log;
        ring = ring_stays h.first_off (records s)
            (λ e i inside. let high = inside.high in apart e i (inr (inl (record { disk = inside.disk; offset = inside.offset; low = inside.low; high = omega arith; place = inside.place }))))
            fits.ring;
        slots = slots_stay area g s h.drained x y differs (λ e i inside. apart e i (inr (inr (inl inside)))) fits.slots;
        members = members_stay g h.lost h.rebuilt area x y differs (λ e i inside. apart e i (inr (inr (inr (inl inside)))))
            (pending g s h.drained) _ (λ e i inside. apart e i (inr (inr (inr (inr inside))))) fits.members;
      }

-- the value of the head's cell, over a change that is apart from it
pub value_stays : (area : Area) (x y : Disks) → Differs area x y → ((e i : ℕ) → InCell e i → area e i → ⊥) → cell_value head_place y ≡ cell_value head_place x
value_stays area x y differs apart = cell_beside head_place area x y differs (λ i low high. apart 0 i (record { disk = refl; from = low; to = high }))

-- and the cell itself
pub cell_stands : (area : Area) (x y : Disks) → Differs area x y → ((e i : ℕ) → InCell e i → area e i → ⊥) → (cell : Slots) → cell.place ≡ head_place → Stands cell x → Stands cell y
cell_stands area x y differs apart cell is_head stands =
    stands_beside cell area x y differs
    (subst (λ p. (i : ℕ) → p.at ≤ i → i < p.at + 2 * (2 + p.size) → area p.disk i → ⊥) (sym is_head) (λ i low high. apart 0 i (record { disk = refl; from = low; to = high })))
    stands

-- a change of bytes that don't matter keeps the state held
pub holds_outside : (g : Geometry) (h : Head) (s : State) (x y : Disks) → HoldsBy g h s x → Differs (Outside g h s) x y → HoldsBy g h s y
holds_outside g h s x y holds differs = record {
  value = value_stays (Outside g h s) x y differs (λ e i inside out. out.cell inside) ∙ holds.value;
  fits = fits_stay (Outside g h s) x y differs g h s (λ e i matters out. out.rest matters) holds.fits;
}

-- the head's cell lies apart from all else that matters
pub beside_cell : (g : Geometry) (h : Head) (s : State) (e i : ℕ) → Matters g h s e i → InCell e i → ⊥
beside_cell g h s e i matters cell =
    ⊎_elim (λ (header : Within 0 0 64 e i). in_header header)
    (λ rest. ⊎_elim (λ (ring : InRing (log_ring g) h.first_off (kept s) e i). in_ring ring)
    (λ rest. ⊎_elim (λ (slots : InSlots g h.drained (last s) e i). in_slots slots)
    (λ rest. ⊎_elim (λ (headers : InHeaders g h.lost h.rebuilt e i). in_headers headers)
    (λ (places : InPlaces g h.lost h.rebuilt (pending g s h.drained) e i). in_places places) rest) rest) rest) matters
  where
    in_header : Within 0 0 64 e i → ⊥
    in_header header = omega (arith, header.to, cell.from)

    in_ring : InRing (log_ring g) h.first_off (kept s) e i → ⊥
    in_ring ring = omega (arith, ring.place, cell.to)

    in_slots : InSlots g h.drained (last s) e i → ⊥
    in_slots slots = omega (arith, slot_after_cell g slots.number, slots.within.from, cell.to)

    in_headers : InHeaders g h.lost h.rebuilt e i → ⊥
    in_headers headers = omega (arith, headers.within.disk, cell.disk)

    in_places : InPlaces g h.lost h.rebuilt (pending g s h.drained) e i → ⊥
    in_places places = omega (arith, places.within.disk, cell.disk)
