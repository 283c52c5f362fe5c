-- Which slot is current, from the gates and turns of both.
use Rattle.std.proofs.Common.{◌≡◌, ◌≢◌, ℕ, ◌<◌, Bool, true, false, not, ◌==◌, if◌then◌else◌, Option, Some, None, refl, sym, ap, subst, arith}
use Rattle.std.proofs.lemmas.Bool.Decides.{nat_tests}
use Rattle.trap_bank.specs.Disks.{Disks}
use Rattle.trap_cell.specs.Slots.{is_on, next_turn, current, Place, gate_of, turn_of, value_in, value_at, current_slot, cell_value}

-- which slot is current, from whether each is on and whether slot 1's turn follows
abbrev pub choose : Bool → Bool → Bool → Option Bool
choose on0 on1 follows = if on0 then (if on1 then Some follows else Some false) else (if on1 then Some true else None)

-- the same from the gate and turn of one slot and then of the other
abbrev pub seen : Bool → ℕ → ℕ → ℕ → ℕ → Option Bool
seen false gate turn gate' turn' = current gate turn gate' turn'
seen true gate turn gate' turn' = current gate' turn' gate turn

-- a cell's current slot is seen from either slot
pub is_seen : (p : Place) (b : Bool) (w : Disks) → current_slot p w ≡ seen b (gate_of p b w) (turn_of p b w) (gate_of p (not b) w) (turn_of p (not b) w)
is_seen p false w = refl
is_seen p true w = refl

first_alone : (a b f : Bool) → a ≡ true → b ≡ false → choose a b f ≡ Some false
first_alone true false f p q = refl
first_alone true true f p q = cc
first_alone false b f p q = cc

second_alone : (a b f : Bool) → a ≡ false → b ≡ true → choose a b f ≡ Some true
second_alone false true f p q = refl
second_alone false false f p q = cc
second_alone true b f p q = cc

first_on : (a b f : Bool) → choose a b f ≡ Some false → a ≡ true
first_on true b f e = refl
first_on false true f e = cc
first_on false false f e = cc

second_on : (a b f : Bool) → choose a b f ≡ Some true → b ≡ true
second_on a true f e = refl
second_on true false f e = cc
second_on false false f e = cc

both_on : (a b f g : Bool) → a ≡ true → b ≡ true → f ≡ g → choose a b f ≡ Some g
both_on true true f g p q e = ap {B = Option Bool} Some e
both_on false b f g p q e = cc
both_on true false f g p q e = cc

-- no slot is current exactly where none is on
pub none_on : (a b f : Bool) → choose a b f ≡ None → (a ≡ false) × (b ≡ false)
none_on true true f e = cc
none_on true false f e = cc
none_on false true f e = cc
none_on false false f e = (refl, refl)

-- a turn of a slot that is on
pub on_turn : (gate turn : ℕ) → is_on gate turn ≡ true → turn < 3
on_turn gate turn on = grind (arith, nat_tests)

-- a gate of a slot that is on
pub on_gate : (gate turn : ℕ) → is_on gate turn ≡ true → (gate == 165) ≡ true
on_gate gate turn on = grind (arith, nat_tests)

-- a slot is off where its gate is another byte
pub off_gate : (gate turn : ℕ) → (gate == 165) ≡ false → is_on gate turn ≡ false
off_gate gate turn off = grind (arith, nat_tests)

-- a slot is on with its gate byte and a turn
pub on_both : (gate turn : ℕ) → (gate == 165) ≡ true → turn < 3 → is_on gate turn ≡ true
on_both gate turn open_ few = grind (arith, nat_tests)

-- the next turn is a turn
pub next_few : (turn : ℕ) → next_turn turn < 3
next_few turn = omega arith

follows : (turn turn' : ℕ) → turn' ≡ next_turn turn → (turn' == next_turn turn) ≡ true
follows turn turn' e = grind (arith, nat_tests)

precedes : (turn turn' : ℕ) → turn < 3 → turn' ≡ next_turn turn → (turn == next_turn turn') ≡ false
precedes turn turn' few e =
    let other : turn ≢ next_turn turn' = omega arith in
    grind (arith, nat_tests)

-- the slot that is current is on
pub current_on : (b : Bool) (gate turn gate' turn' : ℕ) → seen b gate turn gate' turn' ≡ Some b → is_on gate turn ≡ true
current_on false gate turn gate' turn' e = first_on (is_on gate turn) (is_on gate' turn') (turn' == next_turn turn) e
current_on true gate turn gate' turn' e = second_on (is_on gate' turn') (is_on gate turn) (turn == next_turn turn') e

-- a slot that is on alone is current
pub alone : (b : Bool) (gate turn gate' turn' : ℕ) → is_on gate turn ≡ true → is_on gate' turn' ≡ false → seen b gate turn gate' turn' ≡ Some b
alone false gate turn gate' turn' on off = first_alone (is_on gate turn) (is_on gate' turn') (turn' == next_turn turn) on off
alone true gate turn gate' turn' on off = second_alone (is_on gate' turn') (is_on gate turn) (turn == next_turn turn') off on

-- a slot with the next turn is current once its gate is open
pub overtaken : (b : Bool) (gate turn gate' turn' : ℕ) → is_on gate turn ≡ true → (gate' == 165) ≡ true → turn' ≡ next_turn turn → seen b gate turn gate' turn' ≡ Some (not b)
overtaken false gate turn gate' turn' on open_ next = both_on (is_on gate turn) (is_on gate' turn') (turn' == next_turn turn) true on
    (on_both gate' turn' open_ (subst (λ (t : ℕ). t < 3) (sym next) (next_few turn))) (follows turn turn' next)
overtaken true gate turn gate' turn' on open_ next = both_on (is_on gate' turn') (is_on gate turn) (turn == next_turn turn') false
    (on_both gate' turn' open_ (subst (λ (t : ℕ). t < 3) (sym next) (next_few turn))) on (precedes turn turn' (on_turn gate turn on) next)

-- a slot that is current stays so while the other's gate, which was open, is any byte
pub not_overtaken : (b : Bool) (gate turn gate' turn' torn : ℕ) → seen b gate turn gate' turn' ≡ Some b → (gate' == 165) ≡ true → seen b gate turn torn turn' ≡ Some b
not_overtaken b gate turn gate' turn' torn e open_ = by (torn == 165) refl
  where
    same : (torn == 165) ≡ true → torn ≡ gate'
    same is = grind (arith, nat_tests)

    by : (c : Bool) → (torn == 165) ≡ c → seen b gate turn torn turn' ≡ Some b
    by true is = subst (λ (g : ℕ). seen b gate turn g turn' ≡ Some b) (sym (same is)) e
    by false is = alone b gate turn torn turn' (current_on b gate turn gate' turn' e) (off_gate torn turn' is)

-- a cell with this current slot has what stands in it
pub value_of : (p : Place) (b : Bool) (w : Disks) → current_slot p w ≡ Some b → cell_value p w ≡ Some (value_in p b w)
value_of p b w is = ap (λ (c : Option Bool). value_at c p w) is

-- the other of the other
pub not_not : (b : Bool) → not (not b) ≡ b
not_not true = refl
not_not false = refl
