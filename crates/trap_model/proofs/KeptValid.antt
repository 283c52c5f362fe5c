-- A request keeps a state valid.
use Rattle.std.proofs.Common.{◌≡◌, [], length, replicate, Option, Some, None, refl, ap, ◌∙◌, arith}
use Rattle.std.proofs.lemmas.List.{length-replicate, get_or-replicate}
use Rattle.std.proofs.lemmas.List.Elements.{All-nil}
use Rattle.trap_model.specs.declared.numbers.Geometry.{Geometry}
use Rattle.trap_model.specs.declared.history.State.{State}
use Rattle.trap_model.specs.declared.request.Refusal.{Refusal}
use Rattle.trap_model.specs.declared.request.Request.{Request}
use Rattle.trap_model.specs.declared.request.Request.TheVariants.{Write, Read, At, By, Info, Keep, Quit, Bad}
use Rattle.trap_model.specs.Image.{volume}
use Rattle.trap_model.specs.State.{fresh, IsEntry, IsValid}
use Rattle.trap_model.specs.ArrayStep.{refusal, after, or_refused, step, entry_of, IsSized}
use Rattle.trap_model.proofs.Adding.{write_accepted, number_accepted, added_valid}
use Rattle.trap_model.proofs.Dropping.{kept_from_valid}

pub fresh_valid : (g : Geometry) → IsValid g (fresh g)
fresh_valid g = record {
  base = record {
    long = length-replicate (volume g) (replicate g.block 0);
    sized = λ number inside. ap length (get_or-replicate (volume g) number (replicate g.block 0) [] inside) ∙ length-replicate g.block 0;
  };
  entries = All-nil (IsEntry g);
  times = tt;
  last_most = omega arith;
  few = omega arith;
  fits = omega arith;
}

-- a request that isn't refused
after_valid : (g : Geometry) (s : State) (request : Request) → IsValid g s → IsSized g request → refusal g s request ≡ None → IsValid g (after g s request)
after_valid g s (Write time block bytes) valid sized e = added_valid g s (entry_of g s time block bytes) valid (write_accepted g s time block bytes e) sized
after_valid g s (Keep seq) valid sized e = let range = number_accepted s seq e in kept_from_valid g s seq valid range.0 range.1
after_valid g s (Read block) valid sized e = valid
after_valid g s (At seq block) valid sized e = valid
after_valid g s (By time block) valid sized e = valid
after_valid g s Info valid sized e = valid
after_valid g s Quit valid sized e = valid
after_valid g s Bad valid sized e = valid

unless_keeps : (P : State → Type 0) (why : Option Refusal) (t s : State) → P s → (why ≡ None → P t) → P (or_refused why t (λ _. s))
unless_keeps P None t s old new = new refl
unless_keeps P (Some why) t s old new = old

pub kept_valid : (g : Geometry) (s : State) (request : Request) → IsValid g s → IsSized g request → IsValid g ((step g).next s request)
kept_valid g s request valid sized =
    unless_keeps (IsValid g) (refusal g s request) (after g s request) s valid (after_valid g s request valid sized)
