-- What the steps of a put leave of a cell.
use Rattle.std.proofs.Common.{◌≡◌, ◌⊎◌, ℕ, ◌+◌, ◌<◌, ◌≤◌, List, [], ◌∷◌, Bool, true, false, not, ◌==◌, Option, Some, None, IsTrue, inl, inr, ⊎_elim, refl, sym, ap, subst, ◌∙◌, arith}
use Rattle.trap_bank.specs.Disks.{Disks, Within, Differs, region}
use Rattle.trap_bank.proofs.Regions.{region_beside, byte_beside, byte_in_region, differs_again, differs_wider, differs_none, region_of_disk, byte_of_disk}
use Rattle.trap_cell.specs.Slots.{is_on, next_turn, Place, Slots, Stands, slot_at, gate_of, turn_of, value_in, value_at, current_slot, cell_value, cell_len, other_slot, shut_of, turned}
use Rattle.trap_cell.specs.Steps.{PutsIn, Keeps, Shuts, StaysShut, FillsSlot, IsSlotReady}
use Rattle.trap_cell.proofs.Gates.{seen, is_seen, current_on, alone, overtaken, not_overtaken, on_gate, off_gate, value_of, not_not}

-- a slot lies before the other or after it
pub slots_apart : (p : Place) (b : Bool) → (slot_at p b + (2 + p.size) ≤ slot_at p (not b)) ⊎ (slot_at p (not b) + (2 + p.size) ≤ slot_at p b)
slots_apart p false = inl (omega arith)
slots_apart p true = inr (omega arith)

-- both slots are within the cell
pub slot_within : (p : Place) (b : Bool) → (p.at ≤ slot_at p b) × (slot_at p b + (2 + p.size) ≤ p.at + cell_len p)
slot_within p false = (omega arith, omega arith)
slot_within p true = (omega arith, omega arith)

-- a byte of the current slot is before or after the other slot
outside : (s : Slots) (i : ℕ) → slot_at s.place s.second ≤ i → i < slot_at s.place s.second + (2 + s.place.size) → (i < slot_at s.place (not s.second))
    ⊎ (slot_at s.place (not s.second) + (2 + s.place.size) ≤ i)
outside s i low high = ⊎_elim (λ before. inl (omega (arith, before))) (λ behind. inr (omega (arith, behind))) (slots_apart s.place s.second)

-- what changes in the other slot leaves the current slot's gate
pub same_gate : (s : Slots) (x y : Disks) → Differs (other_slot s) x y → gate_of s.place s.second y ≡ gate_of s.place s.second x
same_gate s x y differs = byte_beside s.place.disk (slot_at s.place (not s.second)) (2 + s.place.size) x y (slot_at s.place s.second) differs
    (outside s (slot_at s.place s.second) (omega arith) (omega arith))

-- and its turn
pub same_turn : (s : Slots) (x y : Disks) → Differs (other_slot s) x y → turn_of s.place s.second y ≡ turn_of s.place s.second x
same_turn s x y differs = byte_beside s.place.disk (slot_at s.place (not s.second)) (2 + s.place.size) x y (slot_at s.place s.second + 1) differs
    (outside s (slot_at s.place s.second + 1) (omega arith) (omega arith))

-- and its value
pub same_value : (s : Slots) (x y : Disks) → Differs (other_slot s) x y → value_in s.place s.second y ≡ value_in s.place s.second x
same_value s x y differs = region_beside s.place.disk (slot_at s.place (not s.second)) (2 + s.place.size) x y (slot_at s.place s.second + 2) s.place.size differs
    (⊎_elim (λ before. inl (omega (arith, before))) (λ behind. inr (omega (arith, behind))) (slots_apart s.place s.second))

-- the current slot of a cell that stands is on
pub stands_on : (s : Slots) (w : Disks) → Stands s w → seen s.second (gate_of s.place s.second w) (turn_of s.place s.second w) (gate_of s.place (not s.second) w)
    (turn_of s.place (not s.second) w) ≡ Some s.second
stands_on s w stands = sym (is_seen s.place s.second w) ∙ stands.current

-- nothing changed
pub keeps_none : (s : Slots) (x : Disks) → Stands s x → Keeps s x x
keeps_none s x stands = record { differs = differs_none (other_slot s) x; current = stands.current; turn = stands.turn; value = refl }

-- the current slot is kept where it is still seen as current
keeps_seen : (s : Slots) (x y : Disks) → Stands s x → Differs (other_slot s) x y
    → seen s.second (gate_of s.place s.second x) (turn_of s.place s.second x) (gate_of s.place (not s.second) y) (turn_of s.place (not s.second) y) ≡ Some s.second
    → Keeps s x y
keeps_seen s x y stands differs is = record {
  differs = differs;
  current = is_seen s.place s.second y
      ∙ ap (λ (g : ℕ). seen s.second g (turn_of s.place s.second y) (gate_of s.place (not s.second) y) (turn_of s.place (not s.second) y)) (same_gate s x y differs)
      ∙ ap (λ (t : ℕ). seen s.second (gate_of s.place s.second x) t (gate_of s.place (not s.second) y) (turn_of s.place (not s.second) y)) (same_turn s x y differs)
      ∙ is;
  turn = same_turn s x y differs ∙ stands.turn;
  value = same_value s x y differs;
}

-- the gate byte of the other slot
pub gate_part : (s : Slots) (x y : Disks) → Differs (Within s.place.disk (slot_at s.place (not s.second)) 1) x y → Differs (other_slot s) x y
gate_part s x y torn = differs_wider s.place.disk (slot_at s.place (not s.second)) 1 (slot_at s.place (not s.second)) (2 + s.place.size) x y (omega arith) (omega arith) torn

-- the other slot's turn stays where only its gate byte may change
pub beyond_gate : (s : Slots) (x y : Disks) → Differs (Within s.place.disk (slot_at s.place (not s.second)) 1) x y → turn_of s.place (not s.second) y ≡ turn_of s.place (not s.second) x
beyond_gate s x y torn = byte_beside s.place.disk (slot_at s.place (not s.second)) 1 x y (slot_at s.place (not s.second) + 1) torn (inr (omega arith))

-- and its value
pub value_beyond : (s : Slots) (x y : Disks) → Differs (Within s.place.disk (slot_at s.place (not s.second)) 1) x y → value_in s.place (not s.second) y ≡ value_in s.place (not s.second) x
value_beyond s x y torn = region_beside s.place.disk (slot_at s.place (not s.second)) 1 x y (slot_at s.place (not s.second) + 2) s.place.size torn (inr (omega arith))

-- an open gate that is torn
pub keeps_torn : (s : Slots) (x y : Disks) → s.other_open ≡ true → Stands s x → Differs (Within s.place.disk (slot_at s.place (not s.second)) 1) x y → Keeps s x y
keeps_torn s x y open_ stands torn = keeps_seen s x y stands (gate_part s x y torn) (subst
    (λ (t : ℕ). seen s.second (gate_of s.place s.second x) (turn_of s.place s.second x) (gate_of s.place (not s.second) y) t ≡ Some s.second) (sym (beyond_gate s x y torn))
    (not_overtaken s.second (gate_of s.place s.second x) (turn_of s.place s.second x) (gate_of s.place (not s.second) x) (turn_of s.place (not s.second) x)
    (gate_of s.place (not s.second) y) (stands_on s x stands) (stands.gate ∙ open_)))

-- a gate byte that was written
gate_written : (s : Slots) (y : Disks) (b : ℕ) → region y s.place.disk (slot_at s.place (not s.second)) 1 ≡ b ∷ [] → gate_of s.place (not s.second) y ≡ b
gate_written s y b there = byte_in_region y s.place.disk (slot_at s.place (not s.second)) 1 0 (slot_at s.place (not s.second)) (b ∷ []) (omega arith) there (omega arith)

-- an open gate that was shut
pub shuts_written : (s : Slots) (x y : Disks) → s.other_open ≡ true → Stands s x → Differs (Within s.place.disk (slot_at s.place (not s.second)) 1) x y
    → region y s.place.disk (slot_at s.place (not s.second)) 1 ≡ 0 ∷ [] → Shuts s x y
shuts_written s x y open_ stands torn there = record {
  keeps = keeps_torn s x y open_ stands torn;
  shut = ap (λ (g : ℕ). g == 165) (gate_written s y 0 there);
  zero = λ was. gate_written s y 0 there;
  still = λ was. absurd (apart was);
}
  where
    apart : s.other_open ≡ false → ⊥
    apart was = cc

-- a gate that was shut before
pub shuts_none : (s : Slots) (x : Disks) → s.other_open ≡ false → Stands s x → Shuts s x x
shuts_none s x shut stands = record {
  keeps = keeps_none s x stands;
  shut = stands.gate ∙ shut;
  zero = λ was. absurd (apart was);
  still = λ was. refl;
}
  where
    apart : IsTrue s.other_open → ⊥
    apart was = let on : s.other_open ≡ true = was in cc

-- after it the cell stands with its gate shut
pub shuts_stands : (s : Slots) (x y : Disks) → Shuts s x y → Stands (shut_of s) y
shuts_stands s x y shuts = record { current = shuts.keeps.current; turn = shuts.keeps.turn; gate = shuts.shut }

-- what is after the gate, within the other slot
pub after_gate : (s : Slots) (x y : Disks) → Differs (Within s.place.disk (slot_at s.place (not s.second) + 1) (1 + s.place.size)) x y → Differs (other_slot s) x y
after_gate s x y torn = differs_wider s.place.disk (slot_at s.place (not s.second) + 1) (1 + s.place.size) (slot_at s.place (not s.second)) (2 + s.place.size) x y (omega arith) (omega arith) torn

-- any bytes after a gate that is shut
pub shuts_torn : (s : Slots) (x y : Disks) → Stands (shut_of s) x → Differs (Within s.place.disk (slot_at s.place (not s.second) + 1) (1 + s.place.size)) x y → StaysShut s x y
shuts_torn s x y stands torn = record { keeps = record { differs = keeps.differs; current = keeps.current; turn = keeps.turn; value = keeps.value }; shut = shut; gate = same }
  where
    same : gate_of s.place (not s.second) y ≡ gate_of s.place (not s.second) x
    same = byte_beside s.place.disk (slot_at s.place (not s.second) + 1) (1 + s.place.size) x y (slot_at s.place (not s.second)) torn (inl (omega arith))

    shut : (gate_of s.place (not s.second) y == 165) ≡ false
    shut = ap (λ (g : ℕ). g == 165) same ∙ stands.gate

    keeps : Keeps (shut_of s) x y
    keeps = keeps_seen (shut_of s) x y stands (after_gate s x y torn)
        (alone s.second (gate_of s.place s.second x) (turn_of s.place s.second x) (gate_of s.place (not s.second) y) (turn_of s.place (not s.second) y)
        (current_on s.second (gate_of s.place s.second x) (turn_of s.place s.second x) (gate_of s.place (not s.second) x) (turn_of s.place (not s.second) x) (stands_on (shut_of s) x stands))
        (off_gate (gate_of s.place (not s.second) y) (turn_of s.place (not s.second) y) shut))

-- two steps that keep the current slot
pub keeps_then : (s : Slots) (x y z : Disks) → Keeps s x y → Keeps s y z → Keeps s x z
keeps_then s x y z first second = record { differs = differs_again (other_slot s) x y z first.differs second.differs; current = second.current; turn = second.turn; value = second.value ∙ first.value }

-- a step that keeps the current slot keeps the cell's value
pub keeps_value : (s : Slots) (x y : Disks) → Stands s x → Keeps s x y → cell_value s.place y ≡ cell_value s.place x
keeps_value s x y stands keeps = value_of s.place s.second y keeps.current ∙ ap {B = Option (List ℕ)} Some keeps.value ∙ sym (value_of s.place s.second x stands.current)

-- a step that keeps the current slot is part of a put
pub keeps_puts : (s : Slots) (fresh : List ℕ) (x y : Disks) → Stands s x → Keeps s x y → PutsIn s fresh x y
keeps_puts s fresh x y stands keeps = record { differs = keeps.differs; either = inl (keeps_value s x y stands keeps) }

-- a step that keeps the current slot, and then a part of a put
pub keeps_puts_then : (s : Slots) (fresh : List ℕ) (x y z : Disks) → Stands s x → Keeps s x y → PutsIn s fresh y z → PutsIn s fresh x z
keeps_puts_then s fresh x y z stands keeps puts = record {
  differs = differs_again (other_slot s) x y z keeps.differs puts.differs;
  either =
      ⊎_elim (λ old. inl (old ∙ keeps_value s x y stands keeps)) inr puts.either;
}

-- a slot that was filled is ready
pub fills_ready : (s : Slots) (fresh : List ℕ) (x y : Disks) → FillsSlot s fresh x y → IsSlotReady s fresh y
fills_ready s fresh x y fills = record { stands = record { current = fills.shuts.keeps.current; turn = fills.shuts.keeps.turn; gate = fills.shuts.shut }; turn = fills.turn; value = fills.value }

-- the current slot of a cell that is ready is on
ready_on : (s : Slots) (fresh : List ℕ) (x : Disks) → IsSlotReady s fresh x → seen s.second (gate_of s.place s.second x) (turn_of s.place s.second x)
    (gate_of s.place (not s.second) x) (turn_of s.place (not s.second) x) ≡ Some s.second
ready_on s fresh x ready = stands_on (shut_of s) x ready.stands

-- the other slot is current once its gate is open
opened : (s : Slots) (fresh : List ℕ) (x y : Disks) → IsSlotReady s fresh x → Differs (Within s.place.disk (slot_at s.place (not s.second)) 1) x y
    → (gate_of s.place (not s.second) y == 165) ≡ true → current_slot s.place y ≡ Some (not s.second)
opened s fresh x y ready torn open_ = is_seen s.place s.second y
    ∙ overtaken s.second (gate_of s.place s.second y) (turn_of s.place s.second y) (gate_of s.place (not s.second) y) (turn_of s.place (not s.second) y) on open_ next
  where
    on : is_on (gate_of s.place s.second y) (turn_of s.place s.second y) ≡ true
    on = ap (λ (g : ℕ). is_on g (turn_of s.place s.second y)) (same_gate s x y (gate_part s x y torn))
        ∙ ap (λ (t : ℕ). is_on (gate_of s.place s.second x) t) (same_turn s x y (gate_part s x y torn))
        ∙ current_on s.second (gate_of s.place s.second x) (turn_of s.place s.second x) (gate_of s.place (not s.second) x) (turn_of s.place (not s.second) x) (ready_on s fresh x ready)

    next : turn_of s.place (not s.second) y ≡ next_turn (turn_of s.place s.second y)
    next = beyond_gate s x y torn ∙ ready.turn ∙ sym (ap next_turn (same_turn s x y (gate_part s x y torn) ∙ ready.stands.turn))

-- a gate that is torn while it opens
pub puts_torn : (s : Slots) (fresh : List ℕ) (x y : Disks) → IsSlotReady s fresh x → Differs (Within s.place.disk (slot_at s.place (not s.second)) 1) x y → PutsIn s fresh x y
puts_torn s fresh x y ready torn = record { differs = gate_part s x y torn; either = by (gate_of s.place (not s.second) y == 165) refl }
  where
    by : (c : Bool) → (gate_of s.place (not s.second) y == 165) ≡ c → (cell_value s.place y ≡ cell_value s.place x) ⊎ (cell_value s.place y ≡ Some fresh)
    by true open_ = inr (value_of s.place (not s.second) y (opened s fresh x y ready torn open_) ∙ ap {B = Option (List ℕ)} Some (value_beyond s x y torn ∙ ready.value))
    by false shut = inl (keeps_value (shut_of s) x y ready.stands (keeps_seen (shut_of s) x y ready.stands (gate_part s x y torn)
        (alone s.second (gate_of s.place s.second x) (turn_of s.place s.second x) (gate_of s.place (not s.second) y) (turn_of s.place (not s.second) y)
        (current_on s.second (gate_of s.place s.second x) (turn_of s.place s.second x) (gate_of s.place (not s.second) x) (turn_of s.place (not s.second) x) (ready_on s fresh x ready))
        (off_gate (gate_of s.place (not s.second) y) (turn_of s.place (not s.second) y) shut))))

-- the other slot's gate is open and stays so
pub put_written : (s : Slots) (fresh : List ℕ) (x y : Disks) → IsSlotReady s fresh x → Differs (Within s.place.disk (slot_at s.place (not s.second)) 1) x y
    → region y s.place.disk (slot_at s.place (not s.second)) 1 ≡ 165 ∷ []
    → (cell_value s.place y ≡ Some fresh) × Stands (turned s) y
put_written s fresh x y ready torn there = (
  value_of s.place (not s.second) y now ∙ ap {B = Option (List ℕ)} Some (value_beyond s x y torn ∙ ready.value),
  record {
    current = now;
    turn = beyond_gate s x y torn ∙ ready.turn;
    gate = subst (λ (b : Bool). (gate_of s.place b y == 165) ≡ true) (sym (not_not s.second))
        (ap (λ (g : ℕ). g == 165) (same_gate s x y (gate_part s x y torn))
        ∙ on_gate (gate_of s.place s.second x) (turn_of s.place s.second x) (current_on s.second (gate_of s.place s.second x) (turn_of s.place s.second x)
        (gate_of s.place (not s.second) x) (turn_of s.place (not s.second) x) (ready_on s fresh x ready)));
  },
)
  where
    now : current_slot s.place y ≡ Some (not s.second)
    now = opened s fresh x y ready torn (ap (λ (g : ℕ). g == 165) (gate_written s y 165 there))

-- which slot is current, on a disk that is the same
pub current_on_disk : (p : Place) (x y : Disks) → y p.disk ≡ x p.disk → current_slot p y ≡ current_slot p x
current_on_disk p x y same = ap (λ (d : Option (List ℕ)). current_slot p (λ e. d)) same

-- a cell is the same on a disk that is the same
pub stands_on_disk : (s : Slots) (x y : Disks) → y s.place.disk ≡ x s.place.disk → Stands s x → Stands s y
stands_on_disk s x y same stands = record {
  current = current_on_disk s.place x y same ∙ stands.current;
  turn = byte_of_disk x y s.place.disk (slot_at s.place s.second + 1) same ∙ stands.turn;
  gate = ap (λ (g : ℕ). g == 165) (byte_of_disk x y s.place.disk (slot_at s.place (not s.second)) same) ∙ stands.gate;
}

-- and so is its value
pub value_on_disk : (p : Place) (x y : Disks) → y p.disk ≡ x p.disk → cell_value p y ≡ cell_value p x
value_on_disk p x y same = in_slot (current_slot p y) ∙ ap (λ (c : Option Bool). value_at c p x) (current_on_disk p x y same)
  where
    in_slot : (c : Option Bool) → value_at c p y ≡ value_at c p x
    in_slot None = refl
    in_slot (Some b) = ap {B = Option (List ℕ)} Some (region_of_disk x y p.disk (slot_at p b + 2) p.size same)
