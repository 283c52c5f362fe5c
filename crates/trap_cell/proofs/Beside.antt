-- A cell and what happens beside it.
use Rattle.std.proofs.Common.{◌≡◌, ◌⊎◌, ℕ, ◌+◌, ◌<◌, ◌≤◌, List, Bool, true, false, not, ◌==◌, Option, Some, None, ⊎_elim, refl, ap, ◌∙◌, arith}
use Rattle.trap_bank.specs.Disks.{View, Disks, Area, Within, Differs, region}
use Rattle.trap_bank.specs.Steps.{Moves, Same, Always}
use Rattle.trap_bank.proofs.Regions.{differs_mono, region_apart, region_of_disk}
use Rattle.trap_bank.proofs.Moves.{always_after, Settled}
use Rattle.trap_cell.specs.Slots.{Place, Slots, Stands, slot_at, gate_of, turn_of, value_in, value_at, current, current_slot, cell_value, cell_len, cell_area, other_slot}
use Rattle.trap_cell.specs.Steps.{IsPut, IsFirst}
use Rattle.trap_cell.proofs.Keeping.{slot_within}

-- no position of the area is in the cell
abbrev pub Apart : Area → Place → Type 0
Apart area p = (i : ℕ) → p.at ≤ i → i < p.at + cell_len p → area p.disk i → ⊥

-- a range before or after the cell
pub range_apart : (p : Place) (at n : ℕ) → (at + n ≤ p.at) ⊎ (p.at + cell_len p ≤ at) → Apart (Within p.disk at n) p
range_apart p at n beside i low high within = ⊎_elim (λ (before : at + n ≤ p.at). omega (arith, within.to)) (λ (behind : p.at + cell_len p ≤ at). omega (arith, within.from)) beside

-- a range of another disk
pub disk_apart_from : (p : Place) (d at n : ℕ) → (p.disk ≡ d → ⊥) → Apart (Within d at n) p
disk_apart_from p d at n other i low high within = other within.disk

-- what a change apart from the cell leaves: a gate,
gate_beside : (p : Place) (area : Area) (x y : Disks) → Differs area x y → Apart area p → (b : Bool) → gate_of p b y ≡ gate_of p b x
gate_beside p area x y differs apart b = let within = slot_within p b in differs.bytes p.disk (slot_at p b) (apart (slot_at p b) (omega (arith, within.0)) (omega (arith, within.1)))

-- a turn,
turn_beside : (p : Place) (area : Area) (x y : Disks) → Differs area x y → Apart area p → (b : Bool) → turn_of p b y ≡ turn_of p b x
turn_beside p area x y differs apart b = let within = slot_within p b in differs.bytes p.disk (slot_at p b + 1) (apart (slot_at p b + 1) (omega (arith, within.0)) (omega (arith, within.1)))

-- a slot's value,
slot_beside : (p : Place) (area : Area) (x y : Disks) → Differs area x y → Apart area p → (b : Bool) → value_in p b y ≡ value_in p b x
slot_beside p area x y differs apart b = let within = slot_within p b in region_apart area x y p.disk (slot_at p b + 2) p.size differs
    (λ i low high. apart i (omega (arith, within.0)) (omega (arith, within.1)))

-- and which slot is current
pub current_beside : (p : Place) (area : Area) (x y : Disks) → Differs area x y → Apart area p → current_slot p y ≡ current_slot p x
current_beside p area x y differs apart = ap (λ (g : ℕ). current g (turn_of p false y) (gate_of p true y) (turn_of p true y)) (gate_beside p area x y differs apart false)
    ∙ ap (λ (t : ℕ). current (gate_of p false x) t (gate_of p true y) (turn_of p true y)) (turn_beside p area x y differs apart false)
    ∙ ap (λ (g : ℕ). current (gate_of p false x) (turn_of p false x) g (turn_of p true y)) (gate_beside p area x y differs apart true)
    ∙ ap (λ (t : ℕ). current (gate_of p false x) (turn_of p false x) (gate_of p true x) t) (turn_beside p area x y differs apart true)

-- a change apart from the cell keeps its value
pub cell_beside : (p : Place) (area : Area) (x y : Disks) → Differs area x y → Apart area p → cell_value p y ≡ cell_value p x
cell_beside p area x y differs apart = in_slot (current_slot p y) ∙ ap (λ (c : Option Bool). value_at c p x) (current_beside p area x y differs apart)
  where
    in_slot : (c : Option Bool) → value_at c p y ≡ value_at c p x
    in_slot None = refl
    in_slot (Some b) = ap {B = Option (List ℕ)} Some (slot_beside p area x y differs apart b)

-- and the cell stands as before
pub stands_beside : (s : Slots) (area : Area) (x y : Disks) → Differs area x y → Apart area s.place → Stands s x → Stands s y
stands_beside s area x y differs apart stands = record {
  current = current_beside s.place area x y differs apart ∙ stands.current;
  turn = turn_beside s.place area x y differs apart s.second ∙ stands.turn;
  gate = ap (λ (g : ℕ). g == 165) (gate_beside s.place area x y differs apart (not s.second)) ∙ stands.gate;
}

-- after a run that changes an area apart from the cell, every crash leaves it so
pub stands_after : (s : Slots) (area : Area) (a b : View) (during : Disks → Disks → Type 0) → Apart area s.place → Moves a b during (Differs area) → Always a (Stands s) → Always b (Stands s)
stands_after s area a b during apart moves stands = always_after a b during (Differs area) (Stands s) (Stands s) moves stands (λ x y was torn. stands_beside s area x y torn apart was)

-- the same where the run worked on another disk
pub stands_elsewhere : (s : Slots) (d at n : ℕ) (a b : View) (during : Disks → Disks → Type 0) → (s.place.disk ≡ d → ⊥) → Moves a b during (Differs (Within d at n))
    → Always a (Stands s) → Always b (Stands s)
stands_elsewhere s d at n a b during other moves stands = stands_after s (Within d at n) a b during (disk_apart_from s.place d at n other) moves stands

-- the slot that isn't current is within the cell
pub within_cell : (s : Slots) (x y : Disks) → Differs (other_slot s) x y → Differs (cell_area s.place) x y
within_cell s x y differs = let within = slot_within s.place (not s.second) in
    differs_mono (other_slot s) (cell_area s.place) x y (λ e i inside. record { disk = inside.disk; from = omega (arith, inside.from, within.0); to = omega (arith, inside.to, within.1) }) differs

-- after a put every crash leaves the cell as the program then knows it
pub stands_put : (s t : Slots) (fresh : List ℕ) (a b : View) (during : Disks → Disks → Type 0) → Moves a b during (IsPut b s t fresh) → Always b (Stands t)
stands_put s t fresh a b during moves c left = let from = moves.now c left in from.by.disks.stands

-- and so after a first value
pub stands_first : (s : Slots) (fresh : List ℕ) (a b : View) (during : Disks → Disks → Type 0) → Moves a b during (IsFirst b s fresh) → Always b (Stands s)
stands_first s fresh a b during moves c left = let from = moves.now c left in from.by.disks.stands

-- a cell of which no position is unsynced may be mounted
pub stable_synced : (p : Place) (v : View) → Apart v.unsynced p → Always v (λ disks. region disks p.disk p.at (cell_len p) ≡ region v.now.disks p.disk p.at (cell_len p))
stable_synced p v apart c left = region_apart v.unsynced v.now.disks c.disks p.disk p.at (cell_len p) left.torn.disks apart

-- and so may one on a disk that was synced
pub stable_settled : (p : Place) (a b : View) → Moves a b Same (Settled b p.disk) → Always b (λ disks. region disks p.disk p.at (cell_len p) ≡ region b.now.disks p.disk p.at (cell_len p))
stable_settled p a b moves c left = let from = moves.now c left in region_of_disk b.now.disks c.disks p.disk p.at (cell_len p) from.by.disks.read
