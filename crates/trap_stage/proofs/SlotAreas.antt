-- Where the slots stand, apart from one another and from the rest of disk 0.
use Rattle.std.proofs.Common.{◌≡◌, ◌≢◌, ℕ, ◌+◌, ◌*◌, ◌%◌, ◌<◌, ◌≤◌, refl, ◌∙◌, arith}
use Rattle.std.proofs.Math.Nat.{mod-lt}
use Rattle.trap_bank.specs.Disks.{Disks, View, Area, Differs, region}
use Rattle.trap_bank.specs.Calls.{Fits}
use Rattle.trap_bank.proofs.Regions.{region_apart}
use Rattle.trap_format.specs.LogDisk.{slots_at, slot_len, ring_at}
use Rattle.trap_model.specs.State.{last}
use Rattle.trap_model.specs.declared.numbers.Geometry.{Geometry}
use Rattle.trap_model.specs.declared.history.State.{State}
use Rattle.trap_stage.specs.Slots.{slot_start, slot_area, SlotsHold, InSlots}

-- two numbers less than a round apart
pub round_apart : (a b n : ℕ) → 0 < n → a < b → b < a + n → a % n ≢ b % n
round_apart a b n some low high = grind arith

-- the slots of two places of the round don't meet
pub places_apart : (a b len : ℕ) → a < b → a * len + len ≤ b * len
places_apart a b len less = grind arith

-- all slots stand before the ring
pub slot_below_ring : (g : Geometry) (q : ℕ) → slot_start g q + slot_len g ≤ ring_at g
slot_below_ring g q =
    let some : 0 < g.slots = omega (arith, g.within.slots_least) in
    let below : q % g.slots < g.slots = mod-lt q some in
    let apart : q % g.slots * slot_len g + slot_len g ≤ g.slots * slot_len g = places_apart (q % g.slots) g.slots (slot_len g) below in
    omega arith

-- and after the head's cell
pub slot_after_cell : (g : Geometry) (q : ℕ) → 192 ≤ slot_start g q
slot_after_cell g q = omega arith

-- a disk that reaches to the ring has each slot
pub slot_fits : (g : Geometry) (q : ℕ) (v : View) → Fits v 0 (ring_at g) → Fits v 0 (slot_start g q + slot_len g)
slot_fits g q v fits =
    let below = slot_below_ring g q in
    let reach = fits.2 in
    (fits.0, fits.1, omega arith)

-- the slots of two numbers less than a round apart don't meet
pub two_slots_apart : (g : Geometry) (p q e i : ℕ) → p < q → q < p + g.slots → slot_area g p e i → slot_area g q e i → ⊥
two_slots_apart g p q e i low high first second =
    let some : 0 < g.slots = omega (arith, g.within.slots_least) in
    places (p % g.slots) (q % g.slots) (slot_len g) i (round_apart p q g.slots some low high) first.from first.to second.from second.to
  where
    places : (a b len i : ℕ) → a ≢ b → slots_at + a * len ≤ i → i < slots_at + a * len + len → slots_at + b * len ≤ i → i < slots_at + b * len + len → ⊥
    places a b len i other low high from to = grind (arith, places_apart)

-- the slot of a number is none of the fewer than a round before it
pub slots_apart : (g : Geometry) (drained last q e i : ℕ) → last < q → q ≤ drained + g.slots → InSlots g drained last e i → slot_area g q e i → ⊥
slots_apart g drained last q e i later round slots within =
    let low = slots.low in
    let high = slots.high in
    two_slots_apart g slots.number q e i (omega arith) (omega arith) slots.within within

-- a change apart from the slots keeps what they hold
pub slots_stay : (area : Area) (g : Geometry) (s : State) (drained : ℕ) (x y : Disks) → Differs area x y → ((e i : ℕ) → InSlots g drained (last s) e i → area e i → ⊥)
    → SlotsHold g s drained x → SlotsHold g s drained y
slots_stay area g s drained x y differs apart hold q low high =
    region_apart area x y 0 (slot_start g q) (slot_len g) differs
    (λ i from to. apart 0 i (record { number = q; low = low; high = high; within = record { disk = refl; from = from; to = to } }))
    ∙ hold q low high

-- so does a change apart from one slot
pub slot_stays : (area : Area) (g : Geometry) (q : ℕ) (x y : Disks) → Differs area x y → ((e i : ℕ) → slot_area g q e i → area e i → ⊥)
    → region y 0 (slot_start g q) (slot_len g) ≡ region x 0 (slot_start g q) (slot_len g)
slot_stays area g q x y differs apart =
    region_apart area x y 0 (slot_start g q) (slot_len g) differs
    (λ i from to. apart 0 i (record { disk = refl; from = from; to = to }))
