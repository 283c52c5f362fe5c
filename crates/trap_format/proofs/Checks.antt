-- What is made of a check's answer.
use Rattle.std.proofs.Common.{◌≡◌, Result, Ok, Err, refl}
use Rattle.std.specs.Prelude.{IsOk, IfSome, IfNone}
use Rattle.std.proofs.lemmas.Bool.{false≢true}
use Rattle.std.specs.Result.{result_ok}
use Rattle.trap_model.specs.declared.numbers.Geometry.{Geometry}
use Rattle.trap_format.specs.declared.limits.BadGeometry.{BadGeometry}

-- the numbers that were given, each as asked for and none breaking its limit
pub if_some : (r : Result Geometry BadGeometry) (P : Geometry → Type 0) → ((g : Geometry) → r ≡ Ok g → P g) → IfSome (result_ok r) P
if_some (Ok g) P gives = gives g refl
if_some (Err bad) P gives = tt

pub if_none : (r : Result Geometry BadGeometry) (Q : Type 0) → ((bad : BadGeometry) → r ≡ Err bad → Q) → IfNone (result_ok r) Q
if_none (Ok g) Q gives = tt
if_none (Err bad) Q gives = gives bad refl

pub err_not_ok : (bad : BadGeometry) → (let r : Result Geometry BadGeometry = Err bad in IsOk r) → ⊥
err_not_ok bad e = false≢true e
