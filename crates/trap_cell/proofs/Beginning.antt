-- A cell's first value.
use Rattle.std.proofs.Common.{◌≡◌, ℕ, ◌+◌, ◌*◌, ◌<◌, ◌≤◌, List, [], ◌∷◌, length, get_or, true, false, ◌==◌, Option, Some, IsTrue, Result, Ok, inl, refl, sym, ap, ap₂, subst, ◌∙◌, arith}
use Rattle.std.proofs.lemmas.Bool.Decides.{nat_tests}
use Rattle.trap_bank.specs.Disks.{Contents, View, Disks, Area, Within, Differs, Torn, byte, region}
use Rattle.trap_bank.specs.Called.{CalledTimes}
use Rattle.trap_bank.specs.Calls.{Writes, Syncs}
use Rattle.trap_bank.specs.Steps.{Moves, Same}
use Rattle.trap_bank.proofs.Regions.{region_beside, byte_in_region, byte_beside}
use Rattle.trap_bank.proofs.Called.{called_then}
use Rattle.trap_bank.proofs.Moves.{write_steps, sync_steps, synced_steps, moves_then, moves_wider, moves_again, moves_same, torn_again, torn_same, torn_wider}
use Rattle.trap_cell.specs.Slots.{is_on, Place, Slots, Stands, place_of, cell_area, current_slot, cell_value}
use Rattle.trap_cell.specs.Steps.{IsFirst}
use Rattle.trap_cell.proofs.Gates.{alone, off_gate, value_of}
use Rattle.trap_cell.proofs.Keeping.{stands_on_disk, value_on_disk}

-- a cell that was begun with this turn
abbrev pub begun_with : ℕ → Place → Slots
begun_with turn p = record { place = p; second = false; turn = turn; other_open = false }

-- a write within the cell
pub begin_part : {T E : Type 0} (result : Result T E) (d at from size : ℕ) (bytes : List ℕ) (a b : View) → Writes d from bytes result a b → at ≤ from
    → from + length bytes ≤ at + 2 * (2 + size) → Moves a b (Differs (cell_area (place_of d at size))) (Differs (cell_area (place_of d at size)))
begin_part {T} {E} result d at from size bytes a b call low high = moves_wider d from (length bytes) at (2 * (2 + size)) a b low high (write_steps {T = T} {E = E} result a b d from bytes call)

-- what a read gives after a write within the cell
pub part_torn : {T E : Type 0} (result : Result T E) (d at from size : ℕ) (bytes : List ℕ) (a b : View) → Writes d from bytes result a b → at ≤ from
    → from + length bytes ≤ at + 2 * (2 + size) → IsTrue a.tells → Torn (cell_area (place_of d at size)) a.now b.now
part_torn result d at from size bytes a b call low high told = torn_wider d from (length bytes) at (2 * (2 + size)) a.now b.now low high (call.torn told)

-- what a read gives after two writes within the cell
pub two_torn : {T E : Type 0} (r1 r2 : Result T E) (d at size turn : ℕ) (value : List ℕ) (a b1 b2 : View) → length value ≡ size
    → Writes d at (165 ∷ turn ∷ []) r1 a b1 → Writes d (at + 2) value r2 b1 b2 → IsTrue a.tells → Torn (cell_area (place_of d at size)) a.now b2.now
two_torn {T} {E} r1 r2 d at size turn value a b1 b2 len w1 w2 told = torn_again (cell_area (place_of d at size)) a b1 b2 w1.goes.tells
    (part_torn {T = T} {E = E} r1 d at at size (165 ∷ turn ∷ []) a b1 w1 (omega arith) (omega arith))
    (part_torn {T = T} {E = E} r2 d at (at + 2) size value b1 b2 w2 (omega arith) (omega arith)) told

-- and after three
pub three_torn : {T E : Type 0} (r1 r2 r3 : Result T E) (d at size turn : ℕ) (value : List ℕ) (a b1 b2 b3 : View) → length value ≡ size
    → Writes d at (165 ∷ turn ∷ []) r1 a b1 → Writes d (at + 2) value r2 b1 b2 → Writes d (at + (2 + size)) (0 ∷ []) r3 b2 b3 → IsTrue a.tells → Torn (cell_area (place_of d at size)) a.now b3.now
three_torn {T} {E} r1 r2 r3 d at size turn value a b1 b2 b3 len w1 w2 w3 told = torn_again (cell_area (place_of d at size)) a b2 b3 (w2.goes.tells ∙ w1.goes.tells)
    (two_torn {T = T} {E = E} r1 r2 d at size turn value a b1 b2 len w1 w2)
    (part_torn {T = T} {E = E} r3 d at (at + (2 + size)) size (0 ∷ []) b2 b3 w3 (omega arith) (omega arith)) told

-- and after the sync
pub all_torn : {T E : Type 0} (r1 r2 r3 r4 : Result T E) (d at size turn : ℕ) (value : List ℕ) (a b1 b2 b3 b4 : View) → length value ≡ size
    → Writes d at (165 ∷ turn ∷ []) r1 a b1 → Writes d (at + 2) value r2 b1 b2 → Writes d (at + (2 + size)) (0 ∷ []) r3 b2 b3 → Syncs d r4 b3 b4 → IsTrue a.tells
    → Torn (cell_area (place_of d at size)) a.now b4.now
all_torn {T} {E} r1 r2 r3 r4 d at size turn value a b1 b2 b3 b4 len w1 w2 w3 sync told = torn_again (cell_area (place_of d at size)) a b3 b4 (w3.goes.tells ∙ (w2.goes.tells ∙ w1.goes.tells))
    (three_torn {T = T} {E = E} r1 r2 r3 d at size turn value a b1 b2 b3 len w1 w2 w3)
    (torn_same (cell_area (place_of d at size)) b3 b4 sync.same) told

-- a slot 0 that is on, with slot 1 off, is current
first_slot : (d at size turn : ℕ) (w : Disks) → turn < 3 → byte w d at ≡ 165 → byte w d (at + 1) ≡ turn → byte w d (at + (2 + size)) ≡ 0 → current_slot (place_of d at size) w ≡ Some false
first_slot d at size turn w few gate is off = alone false (byte w d at) (byte w d (at + 1)) (byte w d (at + (2 + size))) (byte w d (at + (2 + size) + 1))
    on (off_gate (byte w d (at + (2 + size))) (byte w d (at + (2 + size) + 1)) (ap (λ (g : ℕ). g == 165) off))
  where
    low : is_on 165 turn ≡ true
    low = grind (arith, nat_tests)

    on : is_on (byte w d at) (byte w d (at + 1)) ≡ true
    on = ap₂ is_on gate is ∙ low

-- the three writes of a first value, and what stands in the cell then
pub first_written : (d at turn : ℕ) (value : List ℕ) (x y z : Disks) → turn < 3
    → region x d at 2 ≡ 165 ∷ turn ∷ []
    → Differs (Within d (at + 2) (length value)) x y → region y d (at + 2) (length value) ≡ value
    → Differs (Within d (at + (2 + length value)) 1) y z → region z d (at + (2 + length value)) 1 ≡ 0 ∷ []
    → (cell_value (place_of d at (length value)) z ≡ Some value) × Stands (begun_with turn (place_of d at (length value))) z
first_written d at turn value x y z few head second there third off = (
  value_of (place_of d at (length value)) false z now ∙ ap {B = Option (List ℕ)} Some kept,
  record {
    current = now;
    turn = turn_there;
    gate = ap (λ (g : ℕ). g == 165) gate';
  },
)
  where
    early : (i : ℕ) → i < 2 → byte z d (at + i) ≡ get_or (165 ∷ turn ∷ []) i 0
    early i few = byte_beside d (at + (2 + length value)) 1 y z (at + i) third (inl (omega arith))
        ∙ byte_beside d (at + 2) (length value) x y (at + i) second (inl (omega arith))
        ∙ byte_in_region x d at 2 i (at + i) (165 ∷ turn ∷ []) refl head few

    gate : byte z d at ≡ 165
    gate = ap (byte z d) (omega arith) ∙ early 0 (omega arith)

    turn_there : byte z d (at + 1) ≡ turn
    turn_there = early 1 (omega arith)

    gate' : byte z d (at + (2 + length value)) ≡ 0
    gate' = byte_in_region z d (at + (2 + length value)) 1 0 (at + (2 + length value)) (0 ∷ []) (omega arith) off (omega arith)

    kept : region z d (at + 2) (length value) ≡ value
    kept = region_beside d (at + (2 + length value)) 1 y z (at + 2) (length value) third (inl (omega arith)) ∙ there

    now : current_slot (place_of d at (length value)) z ≡ Some false
    now = first_slot d at (length value) turn z few gate turn_there gate'

-- the three writes, whatever the last of them answered
pub begin_three : (d at size : ℕ) (a b c e : View)
    → Moves a b (Differs (cell_area (place_of d at size))) (Differs (cell_area (place_of d at size)))
    → Moves b c (Differs (cell_area (place_of d at size))) (Differs (cell_area (place_of d at size)))
    → Moves c e (Differs (cell_area (place_of d at size))) (Differs (cell_area (place_of d at size)))
    → Moves a e (Differs (cell_area (place_of d at size))) (Differs (cell_area (place_of d at size)))
begin_three d at size a b c e first second third = moves_again (cell_area (place_of d at size)) a c e (moves_again (cell_area (place_of d at size)) a b c first second) third

-- the three writes and one more call, whatever that one answered
pub begin_last : (d at size : ℕ) (a b c e f : View)
    → Moves e f (Differs (cell_area (place_of d at size))) (Differs (cell_area (place_of d at size)))
    → Moves a b (Differs (cell_area (place_of d at size))) (Differs (cell_area (place_of d at size)))
    → Moves b c (Differs (cell_area (place_of d at size))) (Differs (cell_area (place_of d at size)))
    → Moves c e (Differs (cell_area (place_of d at size))) (Differs (cell_area (place_of d at size)))
    → Moves a f (Differs (cell_area (place_of d at size))) (Differs (cell_area (place_of d at size)))
begin_last d at size a b c e f last first second third = moves_again (cell_area (place_of d at size)) a e f (begin_three d at size a b c e first second third) last

-- a sync, whatever it answered
pub begin_still : {T E : Type 0} (result : Result T E) (d at size : ℕ) (a b : View) → Syncs d result a b
    → Moves a b (Differs (cell_area (place_of d at size))) (Differs (cell_area (place_of d at size)))
begin_still {T} {E} result d at size a b call = moves_same (cell_area (place_of d at size)) a b (sync_steps {T = T} {E = E} result a b d call)

-- four calls, the last of them first
pub called_four : (a b c e f : View) → CalledTimes 1 e f → CalledTimes 1 a b → CalledTimes 1 b c → CalledTimes 1 c e → CalledTimes 4 a f
called_four a b c e f last first second third = called_then 3 1 a e f (called_then 2 1 a c e (called_then 1 1 a b c first second) third) last

-- a cell that was begun: its first value is stable
pub begin_done : {T E : Type 0} (v1 v2 v3 v4 : T) (d at turn : ℕ) (value : List ℕ) (a b1 b2 b3 b4 : View) → turn < 3
    → Writes {T = T} {E = E} d at (165 ∷ turn ∷ []) (Ok v1) a b1
    → Writes {T = T} {E = E} d (at + 2) value (Ok v2) b1 b2
    → Writes {T = T} {E = E} d (at + (2 + length value)) (0 ∷ []) (Ok v3) b2 b3
    → Syncs {T = T} {E = E} d (Ok v4) b3 b4
    → Moves a b4 (Differs (cell_area (place_of d at (length value)))) (IsFirst b4 (begun_with turn (place_of d at (length value))) value)
begin_done {T} {E} v1 v2 v3 v4 d at turn value a b1 b2 b3 b4 few w1 w2 w3 sync = moves_then a b3 b4 (Differs area) (Differs area) Same _ (Differs area)
    (IsFirst b4 (begun_with turn (place_of d at (length value))) value) writes (synced_steps {T = T} {E = E} v4 b3 b4 d sync)
    (λ x y was torn. torn)
    (λ x y z was torn mid same. subst (Differs area x.disks) (sym same) torn)
    (λ x y z was torn mid at_rest.
    let both = first_written d at turn value b1.now.disks b2.now.disks b3.now.disks few (w1.written was.told) (w2.torn (told1 was.told)).disks
    (w2.written (told1 was.told)) (w3.torn (told2 was.told)).disks (w3.written (told2 was.told)) in
    let read : z.disks d ≡ b3.now.disks d = at_rest.read ∙ ap (λ (n : Contents). n.disks d) (sync.same mid.told) in
    record {
      differs = subst (Differs area x.disks) (sym at_rest.same) torn;
      value = value_on_disk (place_of d at (length value)) b3.now.disks z.disks read ∙ both.0;
      stands = stands_on_disk (begun_with turn (place_of d at (length value))) b3.now.disks z.disks read both.1;
      read = at_rest.read;
    })
  where
    area : Area
    area = cell_area (place_of d at (length value))

    told1 : IsTrue a.tells → IsTrue b1.tells
    told1 told = subst IsTrue (sym w1.goes.tells) told

    told2 : IsTrue a.tells → IsTrue b2.tells
    told2 told = subst IsTrue (sym w2.goes.tells) (told1 told)

    writes : Moves a b3 (Differs area) (Differs area)
    writes = begin_three d at (length value) a b1 b2 b3
        (begin_part {T = T} {E = E} (Ok v1) d at at (length value) (165 ∷ turn ∷ []) a b1 w1 (omega arith) (omega arith))
        (begin_part {T = T} {E = E} (Ok v2) d at (at + 2) (length value) value b1 b2 w2 (omega arith) (omega arith))
        (begin_part {T = T} {E = E} (Ok v3) d at (at + (2 + length value)) (length value) (0 ∷ []) b2 b3 w3 (omega arith) (omega arith))
