-- An append in one write, or in two.
use Rattle.std.proofs.Common.{◌≡◌, ℕ, zero, suc, true, false, ◌==◌, eqb-true, ◌+◌, ◌-◌, ◌<◌, ◌≤◌, List, ◌++◌, length, get_or, Result, Ok, IsTrue, sym, ◌∙◌, ap, subst, inr, ⊎_elim, arith, length-append}
use Rattle.std.proofs.lemmas.Bool.{cases_lt}
use Rattle.std.proofs.lemmas.List.{get_or_append_left, get_or-append_right}
use Rattle.trap_bank.specs.Disks.{Disks, View, Within, Differs, Torn, region, byte}
use Rattle.trap_bank.specs.Calls.{Writes}
use Rattle.trap_bank.specs.Steps.{Moves}
use Rattle.trap_bank.proofs.Moves.{moves_mono, moves_again, moves_weaken, write_steps}
use Rattle.trap_bank.proofs.Regions.{differs_mono, differs_again, region_beside, byte_in_region}
use Rattle.trap_ring.specs.Ring.{RingPlace, ring_pos, ring_byte, GoesRoundEnd, InRing, RingHas, KeepsWindow, Appends}
use Rattle.trap_ring.proofs.Offsets.{mod_within, mod_wrapped, first-in, second-in, keeps-window}

-- the first bytes of n from an offset on, up to the ring's end
pub record IsFirst (r : RingPlace) (to n start count d : ℕ) (first : List ℕ) : Type 0 where
  pub cut : GoesRoundEnd r to n start count
  pub disk : d ≡ r.disk
  pub len : length first ≡ count

-- the bytes after them, at its beginning
pub record IsRest (r : RingPlace) (n count d at : ℕ) (rest : List ℕ) : Type 0 where
  pub disk : d ≡ r.disk
  pub at_beginning : at ≡ r.at
  pub len : count + length rest ≡ n
  pub some : 0 < length rest
  pub room : n ≤ r.len

first-area : (r : RingPlace) (to n start count d : ℕ) (first : List ℕ) → IsFirst r to n start count d first → (e i : ℕ) → Within d start (length first) e i → InRing r to n e i
first-area r to n start count d first is e i within =
    let len = is.len in
    let part = is.cut.part in
    let fits = is.cut.fits in
    let place = is.cut.place in
    let low = within.from in
    let high = within.to in
    first-in r to n (length first) e i (omega arith) (omega arith) (record { disk = within.disk ∙ is.disk; from = omega arith; to = omega arith })

rest-area : (r : RingPlace) (to n start count d at : ℕ) (rest : List ℕ) → GoesRoundEnd r to n start count → IsRest r n count d at rest → (e i : ℕ) → Within d at (length rest) e i → InRing r to n e i
rest-area r to n start count d at rest cut is e i within =
    let len = is.len in
    let some = is.some in
    let room = is.room in
    let beginning = is.at_beginning in
    let low = within.from in
    let high = within.to in
    second-in r to n count (length rest) e i (cut.round (omega arith)) (omega arith) (omega arith) (record { disk = within.disk ∙ is.disk; from = omega arith; to = omega arith })

-- one write changes only places of the new bytes, and so do two
pub one_moves : {T E : Type 0} (result : Result T E) (a b : View) (r : RingPlace) (to n start count d : ℕ) (first : List ℕ) → IsFirst r to n start count d first
    → Writes d start first result a b → Moves a b (Differs (InRing r to n)) (Differs (InRing r to n))
one_moves result a b r to n start count d first is call =
    moves_mono (Within d start (length first)) (InRing r to n) a b (first-area r to n start count d first is) (write_steps result a b d start first call)

pub two_moves : {T E : Type 0} (result more : Result T E) (a b c : View) (r : RingPlace) (to n start count d e at : ℕ) (first rest : List ℕ)
    → IsFirst r to n start count d first → IsRest r n count e at rest → Writes d start first result a b → Writes e at rest more b c
    → Moves a c (Differs (InRing r to n)) (Differs (InRing r to n))
two_moves result more a b c r to n start count d e at first rest is_first is_rest call next =
    moves_again (InRing r to n) a b c (one_moves result a b r to n start count d first is_first call)
    (moves_mono (Within e at (length rest)) (InRing r to n) b c (rest-area r to n start count e at rest is_first.cut is_rest) (write_steps more b c e at rest next))

-- so the window stands at each moment
pub window_moves : (a b : View) (r : RingPlace) (from to n : ℕ) → 1 ≤ r.len → to - from + n ≤ r.len → Moves a b (Differs (InRing r to n)) (Differs (InRing r to n))
    → Moves a b (KeepsWindow r from to) (KeepsWindow r from to)
window_moves a b r from to n some room moves =
    moves_weaken a b (Differs (InRing r to n)) (Differs (InRing r to n)) (KeepsWindow r from to) (KeepsWindow r from to) moves
    (λ x y was differs. keeps-window r from to n x.disks y.disks some room differs)
    (λ x y was left differs. keeps-window r from to n x.disks y.disks some room differs)

-- what a read gives changes in the same places
pub one_torn : {T E : Type 0} (result : Result T E) (a b : View) (r : RingPlace) (to n start count d : ℕ) (first : List ℕ) → IsFirst r to n start count d first
    → Writes d start first result a b → IsTrue a.tells → Torn (InRing r to n) a.now b.now
one_torn result a b r to n start count d first is call told =
    let torn = call.torn told in
    record {
      disks = differs_mono (Within d start (length first)) (InRing r to n) a.now.disks b.now.disks (first-area r to n start count d first is) torn.disks;
      said = torn.said;
    }

pub two_torn : {T E : Type 0} (result more : Result T E) (a b c : View) (r : RingPlace) (to n start count d e at : ℕ) (first rest : List ℕ)
    → IsFirst r to n start count d first → IsRest r n count e at rest → Writes d start first result a b → Writes e at rest more b c
    → IsTrue a.tells → Torn (InRing r to n) a.now c.now
two_torn result more a b c r to n start count d e at first rest is_first is_rest call next told =
    let one = one_torn result a b r to n start count d first is_first call told in
    let torn = next.torn (subst IsTrue (sym call.goes.tells) told) in
    record {
      disks = differs_again (InRing r to n) a.now.disks b.now.disks c.now.disks one.disks
          (differs_mono (Within e at (length rest)) (InRing r to n) b.now.disks c.now.disks (rest-area r to n start count e at rest is_first.cut is_rest) torn.disks);
      said = torn.said ∙ one.said;
    }

-- the first bytes have their offsets
pub first-has : (r : RingPlace) (to n start count d : ℕ) (first : List ℕ) (x : Disks) → IsFirst r to n start count d first → region x d start (length first) ≡ first
    → (k : ℕ) → k < length first → ring_byte r (to + k) x ≡ get_or first k 0
first-has r to n start count d first x is there k below =
    let len = is.len in
    let fits = is.cut.fits in
    let place = is.cut.place in
    let at = mod_within r.len to k (omega arith) in
    ap (λ (e : ℕ). byte x e (ring_pos r (to + k))) (sym is.disk)
    ∙ byte_in_region x d start (length first) k (ring_pos r (to + k)) first (omega arith) there below

-- and so do those after them
pub rest-has : (r : RingPlace) (to n start count d at : ℕ) (rest : List ℕ) (x : Disks) → GoesRoundEnd r to n start count → IsRest r n count d at rest → region x d at (length rest) ≡ rest
    → (k : ℕ) → k < length rest → ring_byte r (to + (count + k)) x ≡ get_or rest k 0
rest-has r to n start count d at rest x cut is there k below =
    let len = is.len in
    let some = is.some in
    let room = is.room in
    let beginning = is.at_beginning in
    let round = cut.round (omega arith) in
    let place = mod_wrapped r.len to (count + k) (omega arith) (omega arith) in
    ap (λ (e : ℕ). byte x e (ring_pos r (to + (count + k)))) (sym is.disk)
    ∙ byte_in_region x d at (length rest) k (ring_pos r (to + (count + k))) rest (omega arith) there below

-- both together are the bytes from the offset on
pub both-have : (r : RingPlace) (to count : ℕ) (bytes first rest : List ℕ) (x : Disks) → bytes ≡ first ++ rest → length first ≡ count
    → ((k : ℕ) → k < length first → ring_byte r (to + k) x ≡ get_or first k 0)
    → ((k : ℕ) → k < length rest → ring_byte r (to + (count + k)) x ≡ get_or rest k 0)
    → RingHas r to bytes x
both-have r to count bytes first rest x whole len front back k below =
    let sizes : length bytes ≡ length (first ++ rest) = ap length whole in
    let sum = length-append first rest in
    ⊎_elim
    (λ (early : k < length first). front k early ∙ sym (get_or_append_left first rest 0 k early) ∙ ap (λ (l : List ℕ). get_or l k 0) (sym whole))
    (λ (late : length first ≤ k).
    let place : k ≡ count + (k - count) = omega arith in
    ap (λ (i : ℕ). ring_byte r (to + i) x) place ∙ back (k - count) (omega arith)
    ∙ sym (get_or-append_right first rest count k 0 len (omega arith)) ∙ ap (λ (l : List ℕ). get_or l k 0) (sym whole))
    (cases_lt k (length first))

-- what was written first stands after the second write, which ends before it
first-stays : (r : RingPlace) (to n start count d e at : ℕ) (first rest : List ℕ) (y z : Disks) → IsFirst r to n start count d first → IsRest r n count e at rest
    → Differs (Within e at (length rest)) y z → region z d start (length first) ≡ region y d start (length first)
first-stays r to n start count d e at first rest y z is_first is_rest differs =
    let len = is_rest.len in
    let some = is_rest.some in
    let room = is_rest.room in
    let beginning = is_rest.at_beginning in
    let place = is_first.cut.place in
    let round = is_first.cut.round (omega arith) in
    region_beside d at (length rest) y z start (length first)
    (subst (λ (m : ℕ). Differs (Within m at (length rest)) y z) (is_rest.disk ∙ sym is_first.disk) differs) (inr (omega arith))

pub one_written : {T E : Type 0} (value : T) (a b : View) (r : RingPlace) (from to n start count d : ℕ) (bytes first rest : List ℕ)
    → n ≡ length bytes → to - from + n ≤ r.len → bytes ≡ first ++ rest → length rest ≡ 0
    → IsFirst r to n start count d first → Writes {T = T} {E = E} d start first (Ok value) a b → IsTrue a.tells
    → Appends r from to bytes a.now.disks b.now.disks
one_written {T} {E} value a b r from to n start count d bytes first rest size room whole none is call told = record {
  window = (keeps-window r from to n a.now.disks b.now.disks is.cut.some room (one_torn (Ok value) a b r to n start count d first is call told).disks).window;
  there = both-have r to count bytes first rest b.now.disks whole is.len
      (first-has r to n start count d first b.now.disks is (call.written told))
      (λ k below. absurd (omega arith));
}

pub two_written : {T E : Type 0} (value more : T) (a b c : View) (r : RingPlace) (from to n start count d e at : ℕ) (bytes first rest : List ℕ)
    → to - from + n ≤ r.len → bytes ≡ first ++ rest
    → IsFirst r to n start count d first → IsRest r n count e at rest
    → Writes {T = T} {E = E} d start first (Ok value) a b → Writes {T = T} {E = E} e at rest (Ok more) b c → IsTrue a.tells
    → Appends r from to bytes a.now.disks c.now.disks
two_written {T} {E} value more a b c r from to n start count d e at bytes first rest room whole is_first is_rest call next told =
    let mid = subst IsTrue (sym call.goes.tells) told in
    record {
      window = (keeps-window r from to n a.now.disks c.now.disks is_first.cut.some room
          (two_torn (Ok value) (Ok more) a b c r to n start count d e at first rest is_first is_rest call next told).disks).window;
      there = both-have r to count bytes first rest c.now.disks whole is_first.len
          (first-has r to n start count d first c.now.disks is_first
          (first-stays r to n start count d e at first rest b.now.disks c.now.disks is_first is_rest (next.torn mid).disks ∙ call.written told))
          (rest-has r to n start count e at rest c.now.disks is_first.cut is_rest (next.written mid));
    }

-- what the test for no bytes says of their number
pub none_left : (n : ℕ) → true ≡ (n == 0) → n ≡ 0
none_left n e = eqb-true n 0 (sym e)

pub some_left : (n : ℕ) → false ≡ (n == 0) → 0 < n
some_left zero e = cc
some_left (suc n) e = omega arith
