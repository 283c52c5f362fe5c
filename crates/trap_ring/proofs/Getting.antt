-- A read in one piece, or in two.
use Rattle.std.proofs.Common.{◌≡◌, ℕ, List, ◌++◌, length, Result, Ok, IsTrue, refl, sym, ◌∙◌, ap, subst, arith}
use Rattle.trap_bank.specs.Disks.{Contents, View, region}
use Rattle.trap_bank.specs.Calls.{Reads}
use Rattle.trap_bank.specs.Steps.{Moves, Same}
use Rattle.trap_bank.proofs.Moves.{read_steps, same_then}
use Rattle.trap_ring.specs.Ring.{RingPlace, RingHas}
use Rattle.trap_ring.proofs.Appending.{IsFirst, IsRest, first-has, rest-has, both-have}

-- what is read of a disk, by the length of what it gives
read-region : {T E : Type 0} (value : T) (a b : View) (d at : ℕ) (before after : List ℕ) → length after ≡ length before
    → Reads {T = T} {E = E} d at before after (Ok value) a b → IsTrue a.tells → region a.now.disks d at (length after) ≡ after
read-region value a b d at before after size call told =
    ap (λ (n : ℕ). region a.now.disks d at n) size ∙ sym (call.bytes told)

pub one_read : {T E : Type 0} (value : T) (a b : View) (r : RingPlace) (to n start count d : ℕ) (before first rest : List ℕ)
    → length first ≡ length before → length rest ≡ 0 → IsFirst r to n start count d first
    → Reads {T = T} {E = E} d start before first (Ok value) a b → IsTrue a.tells → RingHas r to (first ++ rest) a.now.disks
one_read {T} {E} value a b r to n start count d before first rest size none is call told =
    both-have r to count (first ++ rest) first rest a.now.disks refl is.len
    (first-has r to n start count d first a.now.disks is (read-region {E = E} value a b d start before first size call told))
    (λ k below. absurd (omega arith))

pub two_read : {T E : Type 0} (value more : T) (a b c : View) (r : RingPlace) (to n start count d e at : ℕ) (before first behind rest : List ℕ)
    → length first ≡ length before → length rest ≡ length behind → IsFirst r to n start count d first → IsRest r n count e at rest
    → Reads {T = T} {E = E} d start before first (Ok value) a b → Reads {T = T} {E = E} e at behind rest (Ok more) b c
    → IsTrue a.tells → RingHas r to (first ++ rest) a.now.disks
two_read {T} {E} value more a b c r to n start count d e at before first behind rest size more_size is_first is_rest call next told =
    let mid = subst IsTrue (sym call.goes.tells) told in
    let same : b.now ≡ a.now = call.same told in
    both-have r to count (first ++ rest) first rest a.now.disks refl is_first.len
    (first-has r to n start count d first a.now.disks is_first (read-region {E = E} value a b d start before first size call told))
    (rest-has r to n start count e at rest a.now.disks is_first.cut is_rest
    (ap (λ (w : Contents). region w.disks e at (length rest)) (sym same) ∙ read-region {E = E} more b c e at behind rest more_size next mid))

pub two_reads_move : {T E : Type 0} (result more : Result T E) (a b c : View) (d at e from : ℕ) (before after behind rest : List ℕ)
    → Reads d at before after result a b → Reads e from behind rest more b c → Moves a c Same Same
two_reads_move result more a b c d at e from before after behind rest call next =
    same_then a b c (read_steps result a b d at before after call) (read_steps more b c e from behind rest next)
