-- How often a drain calls the bank.
use Rattle.std.proofs.Common.{◌≡◌, ℕ, ◌+◌, ◌-◌, ◌<◌, ◌≤◌, min, List, [], ◌∷◌, ◌++◌, take, ⊎_elim, Option, Some, None, Result, Err, OnOk, sym, ap, ◌∙◌, refl, arith}
use Rattle.std.proofs.lemmas.Bool.{cases_eq, ne_eqb}
use Rattle.std.proofs.lemmas.Bool.Decides.{nat_tests}
use Rattle.trap_model.specs.declared.numbers.Geometry.{Geometry}
use Rattle.trap_bank.specs.Disks.{View}
use Rattle.trap_bank.specs.Called.{CalledTimes, TakesCalls}
use Rattle.trap_bank.proofs.Called.{not_called, called_then}
use Rattle.trap_map.specs.Layout.{parity_member, block_place}
use Rattle.trap_map.specs.declared.places.Place.{Place}
use Rattle.trap_stage.specs.Staged.{Staged}
use Rattle.trap_stage.specs.Slots.{Stage, last_of}
use Rattle.trap_stage.specs.Found.{staged_numbered}
use Rattle.trap_raid.specs.Members.{Counts}
use Rattle.trap_raid.specs.Draining.{writes_to, place_calls, write_calls, drain_calls}
use Rattle.trap_raid.proofs.CostLemmas.{called_are, takes_are, takes_always, takes_then, takes_failed}
use Rattle.trap_raid.proofs.DrainSteps.{writes_to-next, writes_to-split}

-- ---- a place
pub counted_calls : (lost : Option ℕ) (rebuilt row member : ℕ) → Counts lost rebuilt row member → place_calls lost rebuilt row member ≡ 2
counted_calls None rebuilt row member counts = refl
counted_calls (Some gone) rebuilt row member counts = ⊎_elim
    (λ (is : gone ≡ member). let below = counts (ap (λ (n : ℕ). Some n) is) in grind (arith, nat_tests))
    (λ (other : gone ≡ member → ⊥). rw (ne_eqb gone member other) refl)
    (cases_eq gone member)

pub left_calls : (lost : Option ℕ) (rebuilt row member : ℕ) → (Counts lost rebuilt row member → ⊥) → place_calls lost rebuilt row member ≡ 0
left_calls None rebuilt row member left = absurd (left (λ gone. absurd (cc)))
left_calls (Some gone) rebuilt row member left = ⊎_elim
    (λ (is : gone ≡ member). let high : rebuilt ≤ row = not_below (λ below. left (λ same. below)) in grind (arith, nat_tests))
    (λ (other : gone ≡ member → ⊥). absurd (left (λ same. absurd (other (one same)))))
    (cases_eq gone member)
  where
    not_below : (row < rebuilt → ⊥) → rebuilt ≤ row
    not_below h = omega (arith, h)

    one : Some gone ≡ Some member → gone ≡ member
    one same = cc

-- a place that counts costs what its write and sync cost, and another one nothing
pub counted_cost : {T E U F : Type 0} (lost : Option ℕ) (rebuilt row member : ℕ) (inner : Result T E) (result : Result U F) (x y : View) → Counts lost rebuilt row member
    → (OnOk result (CalledTimes 2 x y)) → TakesCalls 2 inner x y → TakesCalls (place_calls lost rebuilt row member) result x y
counted_cost lost rebuilt row member inner result x y counts ok takes =
    takes_are 2 (place_calls lost rebuilt row member) result x y (sym (counted_calls lost rebuilt row member counts)) (record { ok = ok; most = takes.most })

pub left_cost : {U F : Type 0} (lost : Option ℕ) (rebuilt row member : ℕ) (result : Result U F) (v : View) → (Counts lost rebuilt row member → ⊥)
    → TakesCalls (place_calls lost rebuilt row member) result v v
left_cost lost rebuilt row member result v left =
    takes_are 0 (place_calls lost rebuilt row member) result v v (sym (left_calls lost rebuilt row member left)) (takes_always 0 result v v (not_called v))

-- ---- a write: one place and then the other
pub write_calls-at : (g : Geometry) (lost : Option ℕ) (rebuilt : ℕ) (staged : Staged) (place : Place) (at_parity : ℕ) → place ≡ block_place g staged.block
    → at_parity ≡ parity_member g place.row → place_calls lost rebuilt place.row place.member + place_calls lost rebuilt place.row at_parity ≡ write_calls g lost rebuilt staged
write_calls-at g lost rebuilt staged place at_parity is_place is_parity =
    ap (λ (m : ℕ). place_calls lost rebuilt place.row place.member + place_calls lost rebuilt place.row m) is_parity
    ∙ ap (λ (p : Place). place_calls lost rebuilt p.row p.member + place_calls lost rebuilt p.row (parity_member g p.row)) is_place

pub slot_cost : {U F : Type 0} (g : Geometry) (lost : Option ℕ) (rebuilt : ℕ) (staged : Staged) (place : Place) (at_parity : ℕ) (second : Result U F) (x y z : View)
    → place ≡ block_place g staged.block → at_parity ≡ parity_member g place.row → CalledTimes (place_calls lost rebuilt place.row place.member) x y
    → TakesCalls (place_calls lost rebuilt place.row at_parity) second y z → TakesCalls (write_calls g lost rebuilt staged) second x z
slot_cost g lost rebuilt staged place at_parity second x y z is_place is_parity one two =
    let a = place_calls lost rebuilt place.row place.member in
    let b = place_calls lost rebuilt place.row at_parity in
    takes_are (a + b) (write_calls g lost rebuilt staged) second x z (write_calls-at g lost rebuilt staged place at_parity is_place is_parity) (takes_then a b second x y z one two)

-- the first place alone, where it failed
pub slot_failed : {T E U F : Type 0} (g : Geometry) (lost : Option ℕ) (rebuilt : ℕ) (staged : Staged) (place : Place) (first : Result T E) (result : Result U F) (why : F)
    (x y : View) → place ≡ block_place g staged.block → Err why ≡ result → TakesCalls (place_calls lost rebuilt place.row place.member) first x y
    → TakesCalls (write_calls g lost rebuilt staged) result x y
slot_failed g lost rebuilt staged place first result why x y is_place is one =
    let sum = write_calls-at g lost rebuilt staged place (parity_member g place.row) is_place refl in
    takes_failed (place_calls lost rebuilt place.row place.member) (write_calls g lost rebuilt staged) first result why x y (omega arith) is one

-- ---- one write more of a drain
pub drain_calls-append : (g : Geometry) (lost : Option ℕ) (rebuilt : ℕ) (newer older : List Staged)
    → drain_calls g lost rebuilt (newer ++ older) ≡ drain_calls g lost rebuilt newer + drain_calls g lost rebuilt older
drain_calls-append g lost rebuilt [] older = omega arith
drain_calls-append g lost rebuilt (staged ∷ newer) older = let rest = drain_calls-append g lost rebuilt newer older in omega arith

module _ (g : Geometry) (lost : Option ℕ) (rebuilt : ℕ) (stage : Stage) (number upto : ℕ) (low : stage.drained ≤ number) (inside : number < upto) (high : number < last_of stage) where
  next_calls : drain_calls g lost rebuilt (writes_to stage (number + 1)) ≡ write_calls g lost rebuilt (staged_numbered stage (number + 1)) + drain_calls g lost rebuilt (writes_to stage number)
  next_calls = ap (drain_calls g lost rebuilt) (writes_to-next stage number low high)

  calls_within : drain_calls g lost rebuilt (writes_to stage (number + 1)) ≤ drain_calls g lost rebuilt (writes_to stage upto)
  calls_within =
      let newer = take (min upto (last_of stage) - (number + 1)) (writes_to stage upto) in
      let parts = ap (drain_calls g lost rebuilt) (writes_to-split stage (number + 1) upto (omega arith) (omega arith)) in
      let sum = drain_calls-append g lost rebuilt newer (writes_to stage (number + 1)) in
      omega arith

  pub drain_costs : (a b c : View) → CalledTimes (drain_calls g lost rebuilt (writes_to stage number)) a b
      → CalledTimes (write_calls g lost rebuilt (staged_numbered stage (number + 1))) b c → CalledTimes (drain_calls g lost rebuilt (writes_to stage (number + 1))) a c
  drain_costs a b c first second =
      called_are (drain_calls g lost rebuilt (writes_to stage number) + write_calls g lost rebuilt (staged_numbered stage (number + 1))) (drain_calls g lost rebuilt (writes_to stage (number + 1))) a c
      (let next = next_calls in omega arith)
      (called_then (drain_calls g lost rebuilt (writes_to stage number)) (write_calls g lost rebuilt (staged_numbered stage (number + 1))) a b c first second)

  pub drain_cost_failed : {T E U F : Type 0} (slot : Result T E) (result : Result U F) (why : F) (a b c : View) → Err why ≡ result
      → CalledTimes (drain_calls g lost rebuilt (writes_to stage number)) a b → TakesCalls (write_calls g lost rebuilt (staged_numbered stage (number + 1))) slot b c
      → TakesCalls (drain_calls g lost rebuilt (writes_to stage upto)) result a c
  drain_cost_failed slot result why a b c is first second =
      takes_failed (drain_calls g lost rebuilt (writes_to stage number) + write_calls g lost rebuilt (staged_numbered stage (number + 1)))
      (drain_calls g lost rebuilt (writes_to stage upto)) slot result why a c
      (let next = next_calls in let within = calls_within in omega arith) is
      (takes_then (drain_calls g lost rebuilt (writes_to stage number)) (write_calls g lost rebuilt (staged_numbered stage (number + 1))) slot a b c first second)
