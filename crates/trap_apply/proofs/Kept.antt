-- What each frame that is applied keeps is so while frames are taken, and after them.
use Rattle.std.proofs.Common.{◌≡◌, ℕ, zero, suc, ◌+◌, List, [], ◌∷◌, Bool, true, false, if◌then◌else◌, refl}
use Rattle.std.specs.Prelude.{All, ◌==◌, ◌||◌}
use Rattle.std.proofs.lemmas.List.Elements.{All-head, All-tail}
use Rattle.trap_model.specs.Receiver.{Receiver, hold, is_known, is_beyond, applied, settled, receive}
use Rattle.trap_model.specs.declared.arrival.Arrival.{Arrival}
use Rattle.trap_replica.specs.Standing.{step_from, applied_held, arrived}
use Rattle.trap_replica.proofs.FrameTaken.{each_held}
use Rattle.trap_apply.proofs.Stepped.{same_number}

-- the receiver is so, and each frame that it holds
pub record Keeps (Now : Receiver → Type 0) (Is : Arrival → Type 0) (r : Receiver) : Type 0 where
  pub now : Now r
  pub held : All Is r.held

module _ (Now : Receiver → Type 0) (Is : Arrival → Type 0) (holds_too : (r : Receiver) (held : List Arrival) → Now r → Now (record r { held = held }))
    (applies : (f : Arrival) (r : Receiver) (held : List Arrival) → Is f → Now r → f.seq ≡ r.number + 1 → Now (applied r f held)) where
  -- the held frames that follow
  settle_test : (r : Receiver) (f : Arrival) (held : List Arrival) (b : Bool) → (f.seq == r.number + 1) ≡ b → Now r → All Is (f ∷ held)
      → (Now (applied r f held) → Keeps Now Is (settled (applied r f held) held))
      → Keeps Now Is (if b then settled (applied r f held) held else record r { held = f ∷ held })
  settle_test r f held true test was all rest = rest (applies f r held (All-head Is f held all) was (same_number f.seq (r.number + 1) test))
  settle_test r f held false test was all rest = record { now = holds_too r (f ∷ held) was; held = all }

  settles : (r : Receiver) (held : List Arrival) → Now r → All Is held → Keeps Now Is (settled r held)
  settles r [] was all = record { now = holds_too r [] was; held = all }
  settles r (f ∷ held) was all = settle_test r f held (f.seq == r.number + 1) refl was all (λ now. settles (applied r f held) held now (All-tail Is f held all))

  step_test : (r : Receiver) (f : Arrival) (held : List Arrival) (b : Bool) → (f.seq == r.number + 1) ≡ b → Keeps Now Is r → All Is (f ∷ held)
      → Keeps Now Is (if b then applied r f held else r)
  step_test r f held true test was all = record {
    now = applies f r held (All-head Is f held all) was.now (same_number f.seq (r.number + 1) test);
    held = All-tail Is f held all;
  }
  step_test r f held false test was all = was

  one_step : (r : Receiver) (held : List Arrival) → Keeps Now Is r → All Is held → Keeps Now Is (step_from r held)
  one_step r [] was all = was
  one_step r (f ∷ held) was all = step_test r f held (f.seq == r.number + 1) refl was all

  some_steps : (k : ℕ) (r : Receiver) → Keeps Now Is r → Keeps Now Is (applied_held k r)
  some_steps zero r was = was
  some_steps (suc k) r was = let before = some_steps k r was in one_step (applied_held k r) (applied_held k r).held before before.held

  -- a frame arrives, and is taken
  arrives_test : (r : Receiver) (f : Arrival) (b : Bool) → Keeps Now Is r → Is f → Keeps Now Is (if b then r else record r { held = hold f r.held })
  arrives_test r f true was is = was
  arrives_test r f false was is = record { now = holds_too r (hold f r.held) was.now; held = each_held Is f r.held is was.held }

  pub kept_during : (r : Receiver) (f : Arrival) (k : ℕ) → Keeps Now Is r → Is f → Keeps Now Is (applied_held k (arrived r f))
  kept_during r f k was is = some_steps k (arrived r f) (arrives_test r f (is_known r f || is_beyond r f) was is)

  taken_test : (r : Receiver) (f : Arrival) (b : Bool) → Keeps Now Is r → Is f → Keeps Now Is (if b then r else settled r (hold f r.held))
  taken_test r f true was is = was
  taken_test r f false was is = settles r (hold f r.held) was.now (each_held Is f r.held is was.held)

  pub kept_after : (r : Receiver) (f : Arrival) → Keeps Now Is r → Is f → Keeps Now Is (receive r (f ∷ []))
  kept_after r f was is = taken_test r f (is_known r f || is_beyond r f) was is

  pub kept_all : (r : Receiver) (frames : List Arrival) → Keeps Now Is r → All Is frames → Keeps Now Is (receive r frames)
  kept_all r [] was all = was
  kept_all r (f ∷ frames) was all = kept_all (receive r (f ∷ [])) frames (kept_after r f was (All-head Is f frames all)) (All-tail Is f frames all)
