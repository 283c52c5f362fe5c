-- What becomes of a frame that a replica takes.
use Rattle.std.proofs.Common.{◌≡◌, ℕ, zero, suc, ◌+◌, ◌-◌, ◌<◌, ◌≤◌, ◌==◌, ◌||◌, if◌then◌else◌, Bool, true, false, List, [], ◌∷◌, length, Option, Some, None, refl, sym, ap, subst, ◌∙◌, arith}
use Rattle.std.specs.Prelude.{nat_lt, nat_le, not, Result, Ok}
use Rattle.std.proofs.lemmas.Bool.Decides.{nat_tests}
use Rattle.std.specs.List.{All}
use Rattle.std.proofs.lemmas.List.Elements.{All-nil, All-cons, All-head, All-tail}
use Rattle.trap_bank.specs.Called.{CalledTimes}
use Rattle.trap_bank.specs.Disks.{View, Disks}
use Rattle.trap_bank.proofs.Called.{not_called}
use Rattle.trap_format.specs.declared.shape.Shape.{Shape}
use Rattle.trap_model.specs.Receiver.{Receiver, hold, is_held, applied, settled, window, is_known, is_beyond, with_frame, after_frame, answer}
use Rattle.trap_model.specs.declared.arrival.Arrival.{Arrival}
use Rattle.trap_model.specs.declared.arrival.Taken.{Taken}
use Rattle.trap_model.specs.declared.arrival.Taken.TheVariants.{Applied, Held, Repeat, Beyond}
use Rattle.trap_replica.specs.Holding.{HeldFrames, holding, Ascends, Suits, SuitAll}
use Rattle.trap_replica.specs.OnDisk.{HoldsImageBy, ReplicaHolds}
use Rattle.trap_replica.specs.Applying.{Leaves, take_calls, cell_after}
use Rattle.trap_replica.specs.Mounted.{MountedReplica, frame_refusal, left_out, Receives}
use Rattle.trap_replica.specs.declared.fault.ReplicaFault.{ReplicaFault}
use Rattle.trap_replica.specs.declared.fault.ReplicaFault.TheVariants.{Stranger, NoBlock, Stopped}
use Rattle.trap_model.specs.declared.frame.Frame.{Frame}
use Rattle.trap_replica.specs.Standing.{Mirrors, step_from, applied_held, seen, HoldsApplied, arrived, HasAppliedHeld}
use Rattle.trap_replica.specs.declared.store.Store.{Store}
use Rattle.trap_replica.proofs.OneFrame.{leaves_none}

counted : (n q p : ℕ) → q ≡ p + n → n ≡ q - p
counted n q p is = omega (arith, is)

-- a list that rises within bounds is no longer than they are apart
held_few : (low high : ℕ) (frames : List Arrival) → low ≤ high → Ascends low frames → All (λ f. f.seq ≤ high) frames → length frames + low ≤ high
held_few low high [] least order most = omega arith
held_few low high (f ∷ frames) least order most =
    let first : f.seq ≤ high = All-head (λ (g : Arrival). g.seq ≤ high) f frames most in
    let rest : length frames + f.seq ≤ high = held_few f.seq high frames first order.1 (All-tail (λ (g : Arrival). g.seq ≤ high) f frames most) in
    let less : low < f.seq = order.0 in
    omega arith

each_near : (s : Shape) (n : ℕ) (frames : List Arrival) → All (Suits s n) frames → All (λ f. f.seq ≤ n + 64) frames
each_near s n frames each k d less = (each k d less).near

-- the frames with one more
pub length_hold : (f : Arrival) (frames : List Arrival) → length (hold f frames) ≡ length frames + 1
length_hold f [] = refl
length_hold f (g ∷ frames) = either (nat_lt f.seq g.seq) (length_hold f frames)
  where
    either : (b : Bool) → length (hold f frames) ≡ length frames + 1 → length (if b then f ∷ g ∷ frames else g ∷ hold f frames) ≡ length (g ∷ frames) + 1
    either true more = omega arith
    either false more = omega (arith, more)

pub held_same : (k h : HeldFrames) (f : Arrival) → k.size ≡ h.size → k.frames ≡ hold f h.frames → k ≡ holding h f
held_same k h f size frames = ap slots_of size ∙ ap with_frames frames
  where
    slots_of : ℕ → HeldFrames
    slots_of n = record { size = n; frames = k.frames }

    with_frames : List Arrival → HeldFrames
    with_frames l = record { size = h.size; frames = l }

-- there is room for one frame more, where the next isn't held
pub room_left : (s : Shape) (n : ℕ) (h : HeldFrames) → SuitAll s (n + 1) n h → length h.frames < 64
room_left s n h suit = let few : length h.frames + (n + 1) ≤ n + 64 = held_few (n + 1) (n + 64) h.frames (omega arith) suit.order (each_near s n h.frames suit.each) in omega arith

-- a frame among those that are held
apart : (g f : Arrival) (frames : List Arrival) → is_held f.seq (g ∷ frames) ≡ false → ((g.seq == f.seq) ≡ false) × (is_held f.seq frames ≡ false)
apart g f frames fresh = split (g.seq == f.seq) (is_held f.seq frames) fresh
  where
    split : (a b : Bool) → (a || b) ≡ false → (a ≡ false) × (b ≡ false)
    split true b clear = cc
    split false b clear = (refl, clear)

put_rise : (low : ℕ) (f g : Arrival) (frames rest : List Arrival) → low < f.seq → Ascends low (g ∷ frames) → (nat_lt f.seq g.seq ≡ false → Ascends g.seq rest)
    → (b : Bool) → nat_lt f.seq g.seq ≡ b → Ascends low (if b then f ∷ g ∷ frames else g ∷ rest)
put_rise low f g frames rest less order later true is = (less, (let sooner : f.seq < g.seq = grind (arith, nat_tests) in sooner, order.1))
put_rise low f g frames rest less order later false is = (order.0, later is)

follows : (f g : Arrival) → (g.seq == f.seq) ≡ false → nat_lt f.seq g.seq ≡ false → g.seq < f.seq
follows f g other later = grind (arith, nat_tests)

rises : (low : ℕ) (f : Arrival) (frames : List Arrival) → low < f.seq → is_held f.seq frames ≡ false → Ascends low frames → Ascends low (hold f frames)
rises low f [] less fresh order = (less, tt)
rises low f (g ∷ frames) less fresh order =
    let other = apart g f frames fresh in
    put_rise low f g frames (hold f frames) less order (λ later. rises g.seq f frames (follows f g other.0 later) other.1 order.1) (nat_lt f.seq g.seq) refl

put_all : (P : Arrival → Type 0) (f g : Arrival) (frames rest : List Arrival) → P f → All P (g ∷ frames) → All P rest → (b : Bool) → All P (if b then f ∷ g ∷ frames else g ∷ rest)
put_all P f g frames rest fits all more true = All-cons P f (g ∷ frames) fits all
put_all P f g frames rest fits all more false = All-cons P g rest (All-head P g frames all) more

pub each_held : (P : Arrival → Type 0) (f : Arrival) (frames : List Arrival) → P f → All P frames → All P (hold f frames)
each_held P f [] fits all = All-cons P f [] fits (All-nil P)
each_held P f (g ∷ frames) fits all = put_all P f g frames (hold f frames) fits all (each_held P f frames fits (All-tail P g frames all)) (nat_lt f.seq g.seq)

known_false : (k h b : Bool) → (if k || h then Some Repeat else (if b then Some Beyond else None)) ≡ None → (k ≡ false) × (h ≡ false) × (b ≡ false)
known_false true h b none = cc
known_false false true b none = cc
known_false false false true none = cc
known_false false false false none = (refl, refl, refl)

above_next : (seq n : ℕ) → n < seq → (seq == n + 1) ≡ false → n + 1 < seq
above_next seq n less other = grind (arith, nat_tests)

module _ (p : Store) (h : HeldFrames) (f : Arrival) (none : left_out p h f ≡ None) where
  parts : (nat_le f.seq p.number ≡ false) × (is_held f.seq h.frames ≡ false) × (nat_lt (p.number + window) f.seq ≡ false)
  parts = known_false (nat_le f.seq p.number) (is_held f.seq h.frames) (nat_lt (p.number + window) f.seq) none

  above : p.number < f.seq
  above = let test = parts.0 in grind (arith, nat_tests)

  left_known : (image : List (List ℕ)) → is_known (seen p h image) f ≡ false
  left_known image = ap (λ (b : Bool). b || is_held f.seq h.frames) parts.0 ∙ parts.1

  left_beyond : (image : List (List ℕ)) → is_beyond (seen p h image) f ≡ false
  left_beyond image = parts.2

  lower : (n : ℕ) (frames : List Arrival) → Ascends (n + 1) frames → Ascends n frames
  lower n [] order = order
  lower n (g ∷ frames) order = (let less : n + 1 < g.seq = order.0 in omega arith, order.1)

  pub held_suit : (s : Shape) → Suits s p.number f → SuitAll s (p.number + 1) p.number h → SuitAll s p.number p.number (holding h f)
  held_suit s fits suit = record {
    size = suit.size;
    order = rises p.number f h.frames above parts.1 (lower p.number h.frames suit.order);
    each = each_held (Suits s p.number) f h.frames fits suit.each;
  }

  -- and so that the next isn't among them, where this one isn't
  pub held_waits : (s : Shape) → (f.seq == p.number + 1) ≡ false → Suits s p.number f → SuitAll s (p.number + 1) p.number h → SuitAll s (p.number + 1) p.number (holding h f)
  held_waits s next fits suit = record {
    size = suit.size;
    order = rises (p.number + 1) f h.frames (above_next f.seq p.number above next) parts.1 suit.order;
    each = each_held (Suits s p.number) f h.frames fits suit.each;
  }

  pub waits : (image : List (List ℕ)) → (f.seq == p.number + 1) ≡ false → Held ≡ answer (seen p h image) f
  waits image next =
      sym (ap (λ (x : Bool). if x then Applied (with_frame (seen p h image) f).number else Held) next)
      ∙ sym (ap (λ (x : Bool). if x then Beyond else (if f.seq == p.number + 1 then Applied (with_frame (seen p h image) f).number else Held)) (left_beyond image))
      ∙ sym (ap (λ (x : Bool). if x then Repeat else (if is_beyond (seen p h image) f then Beyond else
      (if f.seq == p.number + 1 then Applied (with_frame (seen p h image) f).number else Held))) (left_known image))

  pub near : f.seq ≤ p.number + window
  near = let test = parts.2 in grind (arith, nat_tests)

-- applying the frames that follow, after some of them were applied
abbrev after_test : Receiver → Arrival → List Arrival → Bool → Receiver
after_test r f held b = if b then applied r f held else r

settled_test : (r : Receiver) (f : Arrival) (held : List Arrival) → r.held ≡ f ∷ held → (b : Bool) → (f.seq == r.number + 1) ≡ b
    → settled (after_test r f held b) (after_test r f held b).held ≡ (if b then settled (applied r f held) held else record r { held = f ∷ held })
settled_test r f held is true next = refl
settled_test r f held is false next = ap (settled r) is ∙ ap (λ (b : Bool). if b then settled (applied r f held) held else record r { held = f ∷ held }) next

settled_once : (r : Receiver) (held : List Arrival) → r.held ≡ held → settled (step_from r held) (step_from r held).held ≡ settled r held
settled_once r [] is = ap (settled r) is
settled_once r (f ∷ held) is = settled_test r f held is (f.seq == r.number + 1) refl

pub settled_steps : (k : ℕ) (r : Receiver) → settled (applied_held k r) (applied_held k r).held ≡ settled r r.held
settled_steps zero r = refl
settled_steps (suc k) r = settled_once (applied_held k r) (applied_held k r).held refl ∙ settled_steps k r

-- the next isn't held
settled_done : (r : Receiver) (held : List Arrival) → Ascends (r.number + 1) held → settled r held ≡ record r { held = held }
settled_done r [] order = refl
settled_done r (f ∷ held) order = ap (λ (b : Bool). if b then settled (applied r f held) held else record r { held = f ∷ held }) (other f order.0)
  where
    other : (g : Arrival) → r.number + 1 < g.seq → (g.seq == r.number + 1) ≡ false
    other g less = grind (arith, nat_tests)

pub settled_held : (r : Receiver) (l held : List Arrival) → settled (record r { held = l }) held ≡ settled r held
settled_held r l [] = refl
settled_held r l (f ∷ held) = refl

module _ (p q : Store) (h k : HeldFrames) (f : Arrival) (a b : View) (passed : HasAppliedHeld p q (holding h f) k a b) (done : SuitAll q.shape (q.number + 1) q.number k) where
  -- all that follow were applied
  all_passed : (image : List (List ℕ)) → applied_held passed.count (seen p (holding h f) image) ≡ with_frame (seen p h image) f
  all_passed image =
      let last = seen q k (applied_held passed.count (seen p (holding h f) image)).image in
      sym (passed.is image) ∙ sym (settled_done last k.frames done.order)
      ∙ ap (λ (r : Receiver). settled r r.held) (passed.is image) ∙ settled_steps passed.count (seen p (holding h f) image)
      ∙ settled_held (seen p h image) (hold f h.frames) (hold f h.frames)

  pub number_passed : (image : List (List ℕ)) → q.number ≡ (with_frame (seen p h image) f).number
  number_passed image = ap (λ (r : Receiver). r.number) (passed.is image ∙ all_passed image)

  module _ (none : left_out p h f ≡ None) where
    is_taken : (image : List (List ℕ)) → after_frame (seen p h image) f ≡ with_frame (seen p h image) f
    is_taken image = ap (λ (x : Bool). if x then seen p h image else with_frame (seen p h image) f)
        (ap (λ (x : Bool). x || is_beyond (seen p h image) f) (left_known p h f none image) ∙ left_beyond p h f none image)

    pub receives : (s t : Bool) → Receives (record { store = p; held = h; is_stopped = s }) (record { store = q; held = k; is_stopped = t }) f a b
    receives s t = record {
      numbers = λ image. subst (λ (r : Receiver). seen q k r.image ≡ r) (all_passed image ∙ sym (is_taken image)) (passed.is image);
      mirrors = λ image mirrors. subst (λ (r : Receiver). Mirrors q b r.image) (all_passed image ∙ sym (is_taken image)) (passed.mirrors image mirrors);
      calls = subst (λ (n : ℕ). CalledTimes (take_calls p.cell n) a b) (counted passed.count q.number p.number passed.number) passed.calls;
      cell = passed.cell ∙ ap (cell_after p.cell) (counted passed.count q.number p.number passed.number);
    }

    -- the next frame is applied
    pub applies : (image : List (List ℕ)) → (f.seq == p.number + 1) ≡ true → Applied q.number ≡ answer (seen p h image) f
    applies image next =
        ap Applied (number_passed image)
        ∙ sym (ap (λ (x : Bool). if x then Applied (with_frame (seen p h image) f).number else Held) next)
        ∙ sym (ap (λ (x : Bool). if x then Beyond else (if f.seq == p.number + 1 then Applied (with_frame (seen p h image) f).number else Held)) (left_beyond p h f none image))
        ∙ sym (ap (λ (x : Bool). if x then Repeat else (if is_beyond (seen p h image) f then Beyond else
        (if f.seq == p.number + 1 then Applied (with_frame (seen p h image) f).number else Held))) (left_known p h f none image))

-- a frame that is left out
left_answer : (k b : Bool) (x t : Taken) → (if k then Some Repeat else (if b then Some Beyond else None)) ≡ Some t → t ≡ (if k then Repeat else (if b then Beyond else x))
left_answer true b x t is = cc
left_answer false true x t is = cc
left_answer false false x t is = cc

left_same : (k b : Bool) (r x : Receiver) (t : Taken) → (if k then Some Repeat else (if b then Some Beyond else None)) ≡ Some t → (if k || b then r else x) ≡ r
left_same true b r x t is = refl
left_same false true r x t is = refl
left_same false false r x t is = cc

module _ (p : Store) (h : HeldFrames) (f : Arrival) (t : Taken) (is : left_out p h f ≡ Some t) where
  pub leaves_out : (image : List (List ℕ)) → t ≡ answer (seen p h image) f
  leaves_out image = left_answer (is_known (seen p h image) f) (is_beyond (seen p h image) f) (if f.seq == p.number + 1 then Applied (with_frame (seen p h image) f).number else Held) t is

  same_taken : (image : List (List ℕ)) → after_frame (seen p h image) f ≡ seen p h image
  same_taken image = left_same (is_known (seen p h image) f) (is_beyond (seen p h image) f) (seen p h image) (with_frame (seen p h image) f) t is

  pub receives_nothing : (s : Bool) (a : View) → Receives (record { store = p; held = h; is_stopped = s }) (record { store = p; held = h; is_stopped = s }) f a a
  receives_nothing s a = record {
    numbers = λ image. subst (λ (r : Receiver). seen p h r.image ≡ r) (sym (same_taken image)) refl;
    mirrors = λ image mirrors. subst (λ (r : Receiver). Mirrors p a r.image) (sym (same_taken image)) mirrors;
    calls = subst (λ (n : ℕ). CalledTimes (take_calls p.cell n) a a) (counted 0 p.number p.number (omega arith)) (not_called a);
    cell = ap (cell_after p.cell) (counted 0 p.number p.number (omega arith));
  }

-- nothing was done
kept : (s : Shape) (x : Disks) (b : Bool) (r : Receiver) (l : List Arrival) → ReplicaHolds s r.number r.time r.image x → HoldsApplied s (if b then r else record r { held = l }) x
kept s x true r l has = record { count = 0; holds = has }
kept s x false r l has = record { count = 0; holds = has }

pub leaves_kept : (p : Store) (h : HeldFrames) (f : Arrival) (a : View) (image : List (List ℕ)) → Mirrors p a image → Leaves a a (HoldsApplied p.shape (arrived (seen p h image) f))
leaves_kept p h f a image mirrors = leaves_none a (HoldsImageBy p.shape p.block p.number p.time image) (HoldsApplied p.shape (arrived (seen p h image) f)) mirrors.holds
    (λ x has. kept p.shape x (is_known (seen p h image) f || is_beyond (seen p h image) f) (seen p h image) (hold f h.frames) (p.block, has))

-- a frame that isn't left out is held
pub is_arrived : (p : Store) (h : HeldFrames) (f : Arrival) (image : List (List ℕ)) → left_out p h f ≡ None → seen p (holding h f) image ≡ arrived (seen p h image) f
is_arrived p h f image none = sym (ap (λ (x : Bool). if x then seen p h image else record (seen p h image) { held = hold f h.frames })
    (ap (λ (x : Bool). x || is_beyond (seen p h image) f) (left_known p h f none image) ∙ left_beyond p h f none image))

-- a frame that isn't refused names a block
none_refused : (a b s : Bool) (x y z : ReplicaFault) → (if not a then Some x else (if not b then Some y else (if s then Some z else None))) ≡ None → b ≡ true
none_refused true true s x y z none = refl
none_refused true false s x y z none = cc
none_refused false b s x y z none = cc

pub named_inside : (m : MountedReplica) (f : Frame) → frame_refusal m f ≡ None → f.block < m.store.shape.volume
named_inside m f none =
    let test : nat_lt f.block m.store.shape.volume ≡ true = none_refused (f.id == m.store.shape.id) (nat_lt f.block m.store.shape.volume) m.is_stopped (Stranger f.id) (NoBlock f.block)
    Stopped none in
    grind (arith, nat_tests)

-- what becomes of a frame is one thing
pub one_answer : (o : Option Taken) (x y : Taken) → o ≡ Some x → o ≡ Some y → ◌≡◌ {A = Result Taken ReplicaFault} (Ok x) (Ok y)
one_answer o x y first second = cc (first, second)

pub not_left : (o : Option Taken) (x : Taken) → o ≡ None → o ≡ Some x → ⊥
not_left o x none some = cc (none, some)
