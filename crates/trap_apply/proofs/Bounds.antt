-- Between which numbers a receiver lies that is stopped while it takes frames.
use Rattle.std.proofs.Common.{◌≡◌, ℕ, zero, suc, ◌+◌, ◌≤◌, List, [], ◌∷◌, ◌++◌, Bool, true, false, if◌then◌else◌, map, ⊎_elim, refl, ap, subst, ◌∙◌, arith}
use Rattle.std.specs.Prelude.{◌==◌, ◌||◌, All}
use Rattle.std.proofs.lemmas.List.Elements.{All-head, All-tail}
use Rattle.trap_bank.specs.Disks.{Disks}
use Rattle.trap_format.specs.declared.shape.Shape.{Shape}
use Rattle.trap_model.specs.Receiver.{Receiver, starting, hold, applied, settled, is_known, is_beyond, with_frame, receive, bare, gapless}
use Rattle.trap_model.specs.declared.arrival.Arrival.{Arrival}
use Rattle.trap_model.proofs.Windows.{receive-number}
use Rattle.trap_replica.specs.Holding.{has_next}
use Rattle.trap_replica.specs.OnDisk.{ReplicaHolds}
use Rattle.trap_replica.specs.Standing.{step_from, applied_held, HoldsApplied, arrived}
use Rattle.trap_replica.proofs.FrameTaken.{settled_steps, settled_held}
use Rattle.trap_apply.specs.Reached.{HoldsReached, HoldsBetween}
use Rattle.trap_apply.proofs.Receiving.{receive_rises}

-- the next isn't held
abbrev WaitsFor : Receiver → Type 0
WaitsFor r = has_next r.number r.held ≡ false

-- applying the held frames that follow
settle_test : (r : Receiver) (f : Arrival) (held : List Arrival) (b : Bool) → (f.seq == r.number + 1) ≡ b → WaitsFor (settled (applied r f held) held)
    → r.number ≤ (settled (applied r f held) held).number
    → WaitsFor (if b then settled (applied r f held) held else record r { held = f ∷ held })
    × (r.number ≤ (if b then settled (applied r f held) held else record r { held = f ∷ held }).number)
settle_test r f held true is waits more = (waits, more)
settle_test r f held false is waits more = (is, omega arith)

settle_rises : (r : Receiver) (held : List Arrival) → WaitsFor (settled r held) × (r.number ≤ (settled r held).number)
settle_rises r [] = (refl, omega arith)
settle_rises r (f ∷ held) =
    let rest = settle_rises (applied r f held) held in
    let more : r.number + 1 ≤ (settled (applied r f held) held).number = rest.1 in
    settle_test r f held (f.seq == r.number + 1) refl rest.0 (omega arith)

-- some of them
step_number : (r : Receiver) (f : Arrival) (held : List Arrival) (b : Bool) → r.number ≤ (if b then applied r f held else r).number
step_number r f held true = omega arith
step_number r f held false = omega arith

step_rises : (r : Receiver) (held : List Arrival) → r.number ≤ (step_from r held).number
step_rises r [] = omega arith
step_rises r (f ∷ held) = step_number r f held (f.seq == r.number + 1)

steps_rise : (k : ℕ) (r : Receiver) → r.number ≤ (applied_held k r).number
steps_rise zero r = omega arith
steps_rise (suc k) r = let one = step_rises (applied_held k r) (applied_held k r).held in let before = steps_rise k r in omega (arith, one, before)

steps_most : (k : ℕ) (r : Receiver) → (applied_held k r).number ≤ (settled r r.held).number
steps_most k r = let rest = (settle_rises (applied_held k r) (applied_held k r).held).1 in let same = ap (λ (t : Receiver). t.number) (settled_steps k r) in omega (arith, rest, same)

-- where the next isn't held, nothing follows
still_held : (r : Receiver) (held : List Arrival) → has_next r.number held ≡ false → step_from r held ≡ r
still_held r [] waits = refl
still_held r (f ∷ held) waits = ap (λ (b : Bool). if b then applied r f held else r) waits

steps_still : (k : ℕ) (r : Receiver) → WaitsFor r → applied_held k r ≡ r
steps_still zero r waits = refl
steps_still (suc k) r waits = ap (λ (t : Receiver). step_from t t.held) (steps_still k r waits) ∙ still_held r r.held waits

-- while a frame is taken, and after it
frame_bounds : (k : ℕ) (r : Receiver) (f : Arrival) (b : Bool) → WaitsFor r
    → (r.number ≤ (applied_held k (if b then r else record r { held = hold f r.held })).number)
    × ((applied_held k (if b then r else record r { held = hold f r.held })).number ≤ (if b then r else with_frame r f).number)
    × WaitsFor (if b then r else with_frame r f)
frame_bounds k r f true waits = let same = ap (λ (t : Receiver). t.number) (steps_still k r waits) in (omega (arith, same), omega (arith, same), waits)
frame_bounds k r f false waits =
    let least = steps_rise k (record r { held = hold f r.held }) in
    let most = steps_most k (record r { held = hold f r.held }) in
    let same = ap (λ (t : Receiver). t.number) (settled_held r (hold f r.held) (hold f r.held)) in
    (omega (arith, least), omega (arith, most, same), (settle_rises r (hold f r.held)).0)

after_frame_waits : (r : Receiver) (f : Arrival) → WaitsFor r → WaitsFor (receive r (f ∷ [])) × (r.number ≤ (receive r (f ∷ [])).number)
after_frame_waits r f waits =
    let bounds = frame_bounds 0 r f (is_known r f || is_beyond r f) waits in
    let least = bounds.0 in let most = bounds.1 in (bounds.2, omega (arith, least, most))

-- with more numbers a receiver comes as far, or further
longer_from : (r : Receiver) (numbers more : List ℕ) → (receive r (map bare numbers)).number ≤ (receive r (map bare (numbers ++ more))).number
longer_from r [] more = receive_rises r (map bare more)
longer_from r (q ∷ numbers) more = longer_from (receive r (bare q ∷ [])) numbers more

pub gapless_longer : (number : ℕ) (numbers more : List ℕ) → gapless number numbers ≤ gapless number (numbers ++ more)
gapless_longer number numbers more = longer_from (starting number 0 []) numbers more

-- What holds of a receiver, and is kept while it takes a frame and after it, holds of the one whose image a crash leaves.
module _ (s : Shape) (Has : Receiver → Type 0) (Is : Arrival → Type 0) (during : (r : Receiver) (f : Arrival) (k : ℕ) → Has r → Is f → Has (applied_held k (arrived r f)))
    (after : (r : Receiver) (f : Arrival) → Has r → Is f → Has (receive r (f ∷ []))) where
  pub reached_with : (r : Receiver) (frames : List Arrival) (x : Disks) → WaitsFor r → Has r → All Is frames → HoldsReached s r frames x
      → (t : Receiver) × Has t × ReplicaHolds s t.number t.time t.image x × (r.number ≤ t.number) × (t.number ≤ (receive r frames).number)
  reached_with r [] x waits has each holds = (r, has, holds, omega arith, omega arith)
  reached_with r (f ∷ frames) x waits has each holds = ⊎_elim
      (λ (passed : HoldsApplied s (arrived r f) x).
      let bounds = frame_bounds passed.count r f (is_known r f || is_beyond r f) waits in
      let least = bounds.0 in
      let most = bounds.1 in
      let more = receive_rises (receive r (f ∷ [])) frames in (
        applied_held passed.count (arrived r f),
        during r f passed.count has (All-head Is f frames each),
        passed.holds,
        omega (arith, least),
        omega (arith, most, more),
      ))
      (λ (later : HoldsReached s (receive r (f ∷ [])) frames x).
      let one = after_frame_waits r f waits in
      let next = reached_with (receive r (f ∷ [])) frames x one.0 (after r f has (All-head Is f frames each)) (All-tail Is f frames each) later in
      let first = one.1 in
      let above = next.3 in
      (next.0, next.1, next.2, omega (arith, first, above), next.4))
      holds

-- the bounds alone
pub reached_between : (s : Shape) (r : Receiver) (frames : List Arrival) (x : Disks) → WaitsFor r → HoldsReached s r frames x → HoldsBetween s r.number (receive r frames).number x
reached_between s r frames x waits holds =
    let at = reached_with s (λ (t : Receiver). Unit {0}) (λ (f : Arrival). Unit {0}) (λ t f k has is. tt) (λ t f has is. tt) r frames x waits tt (λ k f less. tt) holds in
    record { number = at.0.number; time = at.0.time; image = at.0.image; holds = at.2; above = at.3; below = at.4 }

pub reached_gapless : (s : Shape) (number time : ℕ) (image : List (List ℕ)) (frames : List Arrival) (x : Disks) → HoldsReached s (starting number time image) frames x
    → HoldsBetween s number (gapless number (map (λ f. f.seq) frames)) x
reached_gapless s number time image frames x holds =
    subst (λ (n : ℕ). HoldsBetween s number n x) (receive-number number time image frames) (reached_between s (starting number time image) frames x refl holds)
