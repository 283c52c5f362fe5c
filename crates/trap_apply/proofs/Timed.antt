-- The time of a receiver is that of the frame with its number.
use Rattle.std.proofs.Common.{◌≡◌, ℕ, ◌+◌, List, inl, inr, refl}
use Rattle.std.specs.Prelude.{Contains}
use Rattle.std.proofs.lemmas.List.Elements.{All-nil, All-contains_itself}
use Rattle.trap_bank.specs.Disks.{Disks}
use Rattle.trap_format.specs.declared.shape.Shape.{Shape}
use Rattle.trap_model.specs.Receiver.{Receiver, starting, applied}
use Rattle.trap_model.specs.declared.arrival.Arrival.{Arrival}
use Rattle.trap_apply.specs.Reached.{HoldsReached, IsTimed, HoldsTimed}
use Rattle.trap_apply.proofs.Kept.{Keeps, kept_during, kept_after}
use Rattle.trap_apply.proofs.Bounds.{reached_with}

module _ (s : Shape) (first begun : ℕ) (image : List (List ℕ)) (frames : List Arrival) where
  abbrev Now : Receiver → Type 0
  Now r = IsTimed frames first begun r.number r.time

  too : (r : Receiver) (held : List Arrival) → Now r → Now (record r { held = held })
  too r held was = was

  on : (f : Arrival) (r : Receiver) (held : List Arrival) → Contains frames f → Now r → f.seq ≡ r.number + 1 → Now (applied r f held)
  on f r held is was next = inr (f, is, next, refl)

  begins : Keeps Now (Contains frames) (starting first begun image)
  begins = record { now = inl (refl, refl); held = All-nil (Contains frames) }

  pub reached_timed : (x : Disks) → HoldsReached s (starting first begun image) frames x → HoldsTimed s frames first begun x
  reached_timed x holds =
      let at = reached_with s (Keeps Now (Contains frames)) (Contains frames) (kept_during Now (Contains frames) too on) (kept_after Now (Contains frames) too on)
      (starting first begun image) frames x refl begins (All-contains_itself frames) holds in
      record { number = at.0.number; time = at.0.time; image = at.0.image; holds = at.2; of_frame = at.1.now }
