-- A commit on disks: where the record and the slot stand, and what the disks fit then.
use Rattle.std.proofs.Common.{◌≡◌, ℕ, ◌+◌, ◌-◌, ◌<◌, ◌≤◌, List, ◌∷◌, ◌++◌, length, ⊎_elim, refl, sym, ap, subst, ◌∙◌, arith, length-append}
use Rattle.std.proofs.lemmas.Bool.{cases_lt}
use Rattle.std.proofs.lemmas.List.{get_or_append_left, get_or-append_right}
use Rattle.trap_bank.specs.Disks.{Disks, Within}
use Rattle.trap_format.specs.HeadValue.{IsHead}
use Rattle.trap_format.specs.declared.head.Head.{Head}
use Rattle.trap_map.specs.Layout.{block_place}
use Rattle.trap_map.specs.Table.{row_parity}
use Rattle.trap_model.specs.ArrayStep.{added}
use Rattle.trap_model.specs.Image.{block_of}
use Rattle.trap_model.specs.Records.{records, next_record}
use Rattle.trap_model.specs.State.{last, last_time, image, kept, IsEntry, IsValid}
use Rattle.trap_model.specs.declared.history.Entry.{Entry}
use Rattle.trap_model.specs.declared.history.State.{State}
use Rattle.trap_model.specs.declared.numbers.Geometry.{Geometry}
use Rattle.trap_model.proofs.Adding.{added_valid}
use Rattle.trap_model.proofs.Further.{last-added, last_time-added, image-added, records-added, kept-added, image_is_image}
use Rattle.trap_model.proofs.Records.{length-records, length-record_of}
use Rattle.trap_raid.specs.Members.{MembersHold, InHeaders, InPlaces}
use Rattle.trap_raid.proofs.MemberLemmas.{written_members}
use Rattle.trap_ring.specs.Ring.{RingPlace, RingHas, InRing, ring_pos, ring_byte}
use Rattle.trap_ring.proofs.Offsets.{window-apart}
use Rattle.trap_stage.specs.Pending.{staged_in, pending}
use Rattle.trap_stage.specs.Slots.{slot_area, SlotHas, SlotsHold, InSlots}
use Rattle.trap_stage.specs.Staged.{Staged}
use Rattle.trap_stage.proofs.PendingWrites.{staged_of-added, staged_of_last, pending-added}
use Rattle.trap_stage.proofs.SlotAreas.{slots_apart, slot_below_ring, slot_after_cell}
use Rattle.trap_mount.specs.Holding.{log_ring, IsHeadOf, MatchesHead, Outside}
use Rattle.trap_log.specs.NextHead.{committed}

-- bytes of the ring after others
pub ring-append : (r : RingPlace) (from to : ℕ) (a b : List ℕ) (x : Disks) → to ≡ from + length a → RingHas r from a x → RingHas r to b x → RingHas r from (a ++ b) x
ring-append r from to a b x behind first second k below =
    let both : length (a ++ b) ≡ length a + length b = length-append a b in
    ⊎_elim
    (λ (front : k < length a). first k front ∙ sym (get_or_append_left a b 0 k front))
    (λ (back : length a ≤ k).
    let at : from + k ≡ to + (k - length a) = omega arith in
    ap (λ (n : ℕ). ring_byte r n x) at ∙ second (k - length a) (omega arith) ∙ sym (get_or-append_right a b (length a) k 0 refl back))
    (cases_lt k (length a))

module _ (g : Geometry) (h : Head) (s : State) (e : Entry) (x : Disks) (fits : MatchesHead g h s x) (next : IsHead g (committed h e.time (length (next_record s e)))) where
  -- the record stands after the window, where nothing matters
  pub record_outside : (f i : ℕ) → InRing (log_ring g) h.end_off (length (next_record s e)) f i → Outside g h s f i
  record_outside f i ring = record {
    cell = λ cell. omega (arith, ring.place, cell.to);
    rest = λ matters. ⊎_elim (λ (header : Within 0 0 64 f i). in_header header)
        (λ rest. ⊎_elim (λ (window : InRing (log_ring g) h.first_off (kept s) f i). in_window window)
        (λ rest. ⊎_elim (λ (slots : InSlots g h.drained (last s) f i). in_slots slots)
        (λ rest. ⊎_elim (λ (headers : InHeaders g h.lost h.rebuilt f i). in_headers headers)
        (λ (places : InPlaces g h.lost h.rebuilt (pending g s h.drained) f i). in_places places) rest) rest) rest) matters;
  }
    where
      in_header : Within 0 0 64 f i → ⊥
      in_header header = omega (arith, ring.place, header.to)

      in_window : InRing (log_ring g) h.first_off (kept s) f i → ⊥
      in_window window =
          let here : InRing (log_ring g) h.end_off (length (next_record s e)) 0 (ring_pos (log_ring g) window.offset) =
          record { disk = refl; offset = ring.offset; low = ring.low; high = ring.high; place = sym window.place ∙ ring.place } in
          window-apart (log_ring g) h.first_off h.end_off (length (next_record s e)) window.offset
          (omega (arith, g.within.ring_least)) (omega (arith, next.offsets.window, fits.head.head.offsets.order))
          window.low (omega (arith, window.high, fits.head.window)) here

      in_slots : InSlots g h.drained (last s) f i → ⊥
      in_slots slots = omega (arith, ring.place, slots.within.to, slot_below_ring g slots.number)

      in_headers : InHeaders g h.lost h.rebuilt f i → ⊥
      in_headers headers = omega (arith, ring.disk, headers.within.disk)

      in_places : InPlaces g h.lost h.rebuilt (pending g s h.drained) f i → ⊥
      in_places places = omega (arith, ring.disk, places.within.disk)

  -- and so does the slot of the next number
  pub slot_outside : (f i : ℕ) → slot_area g (h.last + 1) f i → Outside g h s f i
  slot_outside f i slot = record {
    cell = λ cell. omega (arith, slot.from, cell.to, slot_after_cell g (h.last + 1));
    rest = λ matters. ⊎_elim (λ (header : Within 0 0 64 f i). in_header header)
        (λ rest. ⊎_elim (λ (window : InRing (log_ring g) h.first_off (kept s) f i). in_window window)
        (λ rest. ⊎_elim (λ (slots : InSlots g h.drained (last s) f i). in_slots slots)
        (λ rest. ⊎_elim (λ (headers : InHeaders g h.lost h.rebuilt f i). in_headers headers)
        (λ (places : InPlaces g h.lost h.rebuilt (pending g s h.drained) f i). in_places places) rest) rest) rest) matters;
  }
    where
      in_header : Within 0 0 64 f i → ⊥
      in_header header = omega (arith, slot.from, header.to, slot_after_cell g (h.last + 1))

      in_window : InRing (log_ring g) h.first_off (kept s) f i → ⊥
      in_window window = omega (arith, window.place, slot.to, slot_below_ring g (h.last + 1))

      in_slots : InSlots g h.drained (last s) f i → ⊥
      in_slots slots = slots_apart g h.drained (last s) (h.last + 1) f i (omega (arith, fits.head.last)) (omega (arith, next.numbers.pending)) slots slot

      in_headers : InHeaders g h.lost h.rebuilt f i → ⊥
      in_headers headers = omega (arith, slot.disk, headers.within.disk)

      in_places : InPlaces g h.lost h.rebuilt (pending g s h.drained) f i → ⊥
      in_places places = omega (arith, slot.disk, places.within.disk)

  module _ (entry : IsEntry g e) (later : last_time s ≤ e.time) where
    next_valid : IsValid g (added s e)
    next_valid = added_valid g s e fits.valid
        (record {
          block = entry.block;
          time = later;
          number = λ worn. omega (arith, worn, next.numbers.last_most, fits.head.last);
          few = λ many. omega (arith, many, next.numbers.retained, fits.head.last, fits.head.first);
          fits = omega (arith, length-record_of (last s + 1) (block_of (image s) e.block) e, next.offsets.window, fits.head.window);
        })
        entry.size

    next_head : IsHeadOf g (added s e) (committed h e.time (length (next_record s e)))
    next_head = record {
      head = next;
      first = fits.head.first;
      base_time = fits.head.base_time;
      last = omega (arith, fits.head.last, last-added s e);
      last_time = sym (last_time-added s e);
      window = omega (arith, fits.head.window, kept-added s e);
    }

    next_slots : SlotHas g (h.last + 1) (staged_in g (image (added s e)) e) x → SlotsHold g (added s e) h.drained x
    next_slots slot q low high =
        let dropped = fits.head.head.numbers.dropped in
        let long = last-added s e in
        let same = fits.head.last in
        let first = fits.head.first in
        ⊎_elim
        (λ (before : q < last s + 1). subst (λ (staged : Staged). SlotHas g q staged x) (sym (staged_of-added g s e q (omega arith) (omega arith))) (fits.slots q low (omega arith)))
        (λ (at : last s + 1 ≤ q).
        let is : q ≡ last s + 1 = omega arith in
        let number : h.last + 1 ≡ q = omega arith in
        subst (λ (staged : Staged). SlotHas g q staged x) (sym (staged_of_last g s e q is)) (subst (λ (n : ℕ). SlotHas g n (staged_in g (image (added s e)) e) x) number slot))
        (cases_lt q (last s + 1))

    next_members : MembersHold g h.lost h.rebuilt (pending g (added s e) h.drained) (image (added s e)) x
    next_members =
        let after = image-added s e in
        let staged = staged_in g (image (added s e)) e in
        let P : List Staged → Type 0 = λ (writes : List Staged). MembersHold g h.lost h.rebuilt writes (image (added s e)) x in
        let Q : List (List ℕ) → Type 0 = λ (image_ : List (List ℕ)). MembersHold g h.lost h.rebuilt (staged_in g (image (added s e)) e ∷ pending g s h.drained) image_ x in
        subst P (sym (pending-added g s e h.drained (omega (arith, fits.head.first, fits.head.head.numbers.dropped)) (omega (arith, fits.head.last, fits.head.head.numbers.drained))))
        (subst Q (sym after)
        (written_members g h.lost h.rebuilt (pending g s h.drained) (image s) (staged_in g (image (added s e)) e) x fits.members
        (image_is_image g s fits.valid) entry.block (ap (λ (i : List (List ℕ)). row_parity g i (block_place g e.block).row) after)))

    -- with both there, the disks fit the next head
    pub next_fits : RingHas (log_ring g) h.end_off (next_record s e) x → SlotHas g (h.last + 1) (staged_in g (image (added s e)) e) x
        → MatchesHead g (committed h e.time (length (next_record s e))) (added s e) x
    next_fits ring slot = record {
      valid = next_valid;
      head = next_head;
      log = fits.log;
      ring = subst (λ (bytes : List ℕ). RingHas (log_ring g) h.first_off bytes x) (sym (records-added s e))
          (ring-append (log_ring g) h.first_off h.end_off (records s) (next_record s e) x (omega (arith, fits.head.window, length-records s)) fits.ring ring);
      slots = next_slots slot;
      members = next_members;
    }
