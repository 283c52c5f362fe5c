-- The gated cell: two slots, each a gate byte, a turn byte and a value.
use Rattle.std.specs.Prelude.{◌≡◌, ℕ, ◌+◌, ◌*◌, ◌%◌, List, Bool, true, false, not, ◌&&◌, ◌==◌}
use Rattle.std.specs.Prelude.{nat_lt, if◌then◌else◌, Option, Some, None}
use Rattle.trap_bank.specs.Disks.{Disks, Area, Within, byte, region}
use Rattle.trap_model.specs.Limits.{open_gate}

-- a slot is on exactly where its gate byte is a5 and its turn is 0, 1 or 2
abbrev pub is_on : ℕ → ℕ → Bool
is_on gate turn = (gate == open_gate) && nat_lt turn 3

-- the turn of the next put
abbrev pub next_turn : ℕ → ℕ
next_turn turn = (turn + 1) % 3

-- which slot is current, false for slot 0 and true for slot 1: the one that is on; of two, slot 1
-- where its turn follows slot 0's
abbrev pub current : ℕ → ℕ → ℕ → ℕ → Option Bool
current gate0 turn0 gate1 turn1 =
    if is_on gate0 turn0 then (if is_on gate1 turn1 then Some (turn1 == next_turn turn0)
    else Some false)
    else (if is_on gate1 turn1 then Some true else None)

-- where a cell stands, and how many bytes its values have
pub record Place : Type 0 where
  pub disk : ℕ
  pub at : ℕ
  pub size : ℕ

abbrev pub place_of : ℕ → ℕ → ℕ → Place
place_of disk at size = record { disk = disk; at = at; size = size }

-- the bytes of both slots
abbrev pub cell_len : Place → ℕ
cell_len p = 2 * (2 + p.size)

-- the positions of both slots
abbrev pub cell_area : Place → Area
cell_area p = Within p.disk p.at (cell_len p)

-- where a slot begins: slot 1 is the second
abbrev pub slot_at : Place → Bool → ℕ
slot_at p second = if second then p.at + (2 + p.size) else p.at

-- the first byte of a slot
abbrev pub gate_of : Place → Bool → Disks → ℕ
gate_of p second disks = byte disks p.disk (slot_at p second)

-- the second byte of a slot
abbrev pub turn_of : Place → Bool → Disks → ℕ
turn_of p second disks = byte disks p.disk (slot_at p second + 1)

-- the bytes after a slot's turn
abbrev pub value_in : Place → Bool → Disks → List ℕ
value_in p second disks = region disks p.disk (slot_at p second + 2) p.size

-- which slot of the cell is current, if one is on
abbrev pub current_slot : Place → Disks → Option Bool
current_slot p disks =
    current (gate_of p false disks) (turn_of p false disks) (gate_of p true disks)
    (turn_of p true disks)

abbrev pub value_at : Option Bool → Place → Disks → Option (List ℕ)
value_at None p disks = None
value_at (Some second) p disks = Some (value_in p second disks)

-- the cell's value, if it has one: what stands in the current slot
abbrev pub cell_value : Place → Disks → Option (List ℕ)
cell_value p disks = value_at (current_slot p disks) p disks

-- what a program knows of a cell: which slot is current, its turn, and whether the other slot's
-- gate byte is a5
pub record Slots : Type 0 where
  pub place : Place
  pub second : Bool
  pub turn : ℕ
  pub other_open : Bool

-- the disks have the cell as the program knows it
pub record Stands (s : Slots) (disks : Disks) : Type 0 where
  pub current : current_slot s.place disks ≡ Some s.second
  pub turn : turn_of s.place s.second disks ≡ s.turn
  pub gate : (gate_of s.place (not s.second) disks == open_gate) ≡ s.other_open

-- the positions of the slot that isn't current
abbrev pub other_slot : Slots → Area
other_slot s = Within s.place.disk (slot_at s.place (not s.second)) (2 + s.place.size)

-- the same with the other gate shut
abbrev pub shut_of : Slots → Slots
shut_of s = record s { other_open = false }

-- the other slot is current, with the next turn
abbrev pub turned : Slots → Slots
turned s = record {
  place = s.place;
  second = not s.second;
  turn = next_turn s.turn;
  other_open = true;
}

-- the gate byte of the slot that isn't current
abbrev pub other_gate : Slots → Area
other_gate s = Within s.place.disk (slot_at s.place (not s.second)) 1

-- a cell that was begun with its first value: slot 0 is current with turn 0, and slot 1 is off
abbrev pub begun : Place → Slots
begun p = record { place = p; second = false; turn = 0; other_open = false }
