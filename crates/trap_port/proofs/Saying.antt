-- What waits is said, or nothing does.
use Rattle.std.proofs.Common.{◌≡◌, ℕ, List, [], Result, Ok, Err, refl, sym, subst, append-nil, arith}
use Rattle.std.specs.Result.{IsErr}
use Rattle.trap_bank.specs.Disks.{View}
use Rattle.trap_bank.specs.Calls.{Says}
use Rattle.trap_bank.specs.Steps.{Spoke, SpokePart}
use Rattle.trap_bank.proofs.Called.{not_called, called_once, called_at_most}
use Rattle.trap_bank.proofs.Moves.{weaken, nothing_done, say_steps, said_steps}
use Rattle.trap_port.specs.Outgoing.{SpokeBut, SaysWaiting}
use Rattle.trap_port.proofs.Keeping.{keeps_none}

-- no call is made
pub says_none : {T E : Type 0} (value : T) (v : View) (waited : List ℕ) → SaysWaiting {T = T} {E = E} waited waited (Ok value) v v
says_none value v waited = record {
  steps = nothing_done v (SpokePart waited) (SpokeBut waited waited) (λ x was. record { disks = refl; part = []; said = sym (append-nil x.said); whole = refl });
  disks = keeps_none v;
  cause = tt;
  calls = called_at_most 0 1 v v (omega arith) (not_called v);
}

-- all of it was said
pub says_all : {T E : Type 0} (value : T) (piece waited : List ℕ) (a b : View) → piece ≡ waited → Says {T = T} {E = E} piece (Ok value) a b → SaysWaiting {T = T} {E = E} waited [] (Ok value) a b
says_all {T} {E} value piece waited a b is call =
    let says : Says {T = T} {E = E} waited (Ok value) a b = subst (λ (l : List ℕ). Says {T = T} {E = E} l (Ok value) a b) is call in
    record {
      steps = weaken a b (SpokePart waited) (Spoke waited) (SpokePart waited) (SpokeBut waited []) (said_steps {T = T} {E = E} value a b waited says)
          (λ x y was step. step)
          (λ x y was left spoke. record { disks = spoke.disks; part = waited; said = spoke.said; whole = append-nil waited });
      disks = record { sizes = says.sizes; disks = says.disks };
      cause = tt;
      calls = called_at_most 1 1 a b (omega arith) (called_once {T = T} {E = E} (Ok value) a b says.goes);
    }

-- the port failed
pub says_part : {U T E : Type 0} (e : E) (result : Result U E) (piece waited : List ℕ) (a b : View) → IsErr result → piece ≡ waited → Says {T = T} {E = E} piece (Err e) a b
    → SaysWaiting {T = U} {E = E} waited waited result a b
says_part e (Ok value) piece waited a b err is call = absurd (cc err)
says_part {U} {T} {E} e (Err failed) piece waited a b err is call =
    let says : Says {T = T} {E = E} waited (Err e) a b = subst (λ (l : List ℕ). Says {T = T} {E = E} l (Err e) a b) is call in
    record {
      steps = say_steps {T = T} {E = E} (Err e) a b waited says;
      disks = record { sizes = says.sizes; disks = says.disks };
      cause = says.cause;
      calls = called_at_most 1 1 a b (omega arith) (called_once {T = T} {E = E} (Err e) a b says.goes);
    }
