-- How many calls the bytes of a ring take.
use Rattle.std.proofs.Common.{◌≡◌, ℕ, ◌+◌, ◌%◌, ◌<◌, ◌≤◌, Bool, if◌then◌else◌, Result, sym, ap, subst, ⊎_elim, arith}
use Rattle.std.proofs.lemmas.Bool.{cases_lt, le-leb}
use Rattle.std.proofs.lemmas.Bool.Decides.{leb_tells}
use Rattle.trap_bank.specs.Disks.{View}
use Rattle.trap_bank.specs.Calls.{IsOneCall}
use Rattle.trap_bank.specs.Called.{CalledTimes, CalledAtMost}
use Rattle.trap_bank.proofs.Called.{called_once, called_then, called_at_most}
use Rattle.trap_ring.specs.Ring.{RingPlace, GoesRoundEnd, ring_calls}

-- one call where they end within the ring
calls_within : (r : RingPlace) (offset len : ℕ) → offset % r.len + len ≤ r.len → ring_calls r offset len ≡ 1
calls_within r offset len within = ap (λ (b : Bool). if b then 1 else 2) (le-leb (offset % r.len + len) r.len within)

-- two where they go over its end
calls_over : (r : RingPlace) (offset len : ℕ) → r.len < offset % r.len + len → ring_calls r offset len ≡ 2
calls_over r offset len over =
    ⊎_elim (λ is. let within = is.1 in absurd (omega arith)) (λ is. ap (λ (b : Bool). if b then 1 else 2) is.0) (leb_tells (offset % r.len + len) r.len)

-- never none
calls_some : (r : RingPlace) (offset len : ℕ) → 1 ≤ ring_calls r offset len
calls_some r offset len =
    ⊎_elim (λ (over : r.len < offset % r.len + len). let two = calls_over r offset len over in omega arith)
    (λ (within : offset % r.len + len ≤ r.len). let one = calls_within r offset len within in omega arith)
    (cases_lt r.len (offset % r.len + len))

-- the first call failed
pub one_at_most : {T E : Type 0} (result : Result T E) (a b : View) (r : RingPlace) (offset len : ℕ) → IsOneCall result a b → CalledAtMost (ring_calls r offset len) a b
one_at_most result a b r offset len goes = called_at_most 1 (ring_calls r offset len) a b (calls_some r offset len) (called_once result a b goes)

-- nothing is left after the first call
pub one_call : {T E : Type 0} (result : Result T E) (a b : View) (r : RingPlace) (offset len start count : ℕ) → GoesRoundEnd r offset len start count → count ≡ len
    → IsOneCall result a b → CalledTimes (ring_calls r offset len) a b
one_call result a b r offset len start count cut all goes =
    let fits = cut.fits in
    subst (λ (n : ℕ). CalledTimes n a b) (sym (calls_within r offset len (omega arith))) (called_once result a b goes)

-- the second call takes the rest
pub two_calls : {T E : Type 0} (result more : Result T E) (a b c : View) (r : RingPlace) (offset len start count : ℕ) → GoesRoundEnd r offset len start count → count < len
    → IsOneCall result a b → IsOneCall more b c → CalledTimes (ring_calls r offset len) a c
two_calls result more a b c r offset len start count cut part first second =
    let round = cut.round part in
    subst (λ (n : ℕ). CalledTimes n a c) (sym (calls_over r offset len (omega arith))) (called_then 1 1 a b c (called_once result a b first) (called_once more b c second))

pub two_at_most : {T E : Type 0} (result more : Result T E) (a b c : View) (r : RingPlace) (offset len start count : ℕ) → GoesRoundEnd r offset len start count → count < len
    → IsOneCall result a b → IsOneCall more b c → CalledAtMost (ring_calls r offset len) a c
two_at_most result more a b c r offset len start count cut part first second =
    let n = ring_calls r offset len in
    called_at_most n n a c (omega arith) (two_calls result more a b c r offset len start count cut part first second)
