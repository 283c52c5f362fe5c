-- What a receiver is after a list of frames and more of them, and what a crash leaves.
use Rattle.std.proofs.Common.{◌≡◌, ℕ, zero, suc, ◌+◌, ◌-◌, ◌≤◌, ◌==◌, List, [], ◌∷◌, ◌++◌, length, length-append, Bool, true, false, if◌then◌else◌, inl, inr, ⊎_elim, refl, sym, ap, subst, ◌∙◌, arith}
use Rattle.std.specs.Prelude.{count_by, ◌||◌}
use Rattle.std.proofs.lemmas.List.{length-map}
use Rattle.std.proofs.lemmas.List.Sums.{sum_by-append}
use Rattle.trap_bank.specs.Called.{CalledTimes, CalledAtMost}
use Rattle.trap_bank.specs.Disks.{Disks, View}
use Rattle.trap_bank.proofs.Called.{not_called, called_then, called_at_most, at_most_then}
use Rattle.trap_bank.proofs.Moves.{moves_then}
use Rattle.trap_cell.specs.Slots.{Slots}
use Rattle.trap_format.specs.declared.shape.Shape.{Shape}
use Rattle.trap_model.specs.Frame.{Sent}
use Rattle.trap_model.specs.Receiver.{Receiver, hold, is_known, is_beyond, applied, settled, with_frame, after_frame, receive, answer, answers}
use Rattle.trap_model.specs.declared.arrival.Arrival.{Arrival}
use Rattle.trap_model.specs.declared.arrival.Taken.{Taken}
use Rattle.trap_model.proofs.Windows.{taken-grows}
use Rattle.trap_replica.specs.Applying.{take_calls, cell_after}
use Rattle.trap_replica.specs.Mounted.{MountedReplica, arrival, receiver}
use Rattle.trap_replica.specs.OnDisk.{HoldsImageBy, ReplicaHolds}
use Rattle.trap_replica.specs.Standing.{Mirrors, HoldsApplied}
use Rattle.trap_replica.proofs.OneFrame.{leaves_none}
use Rattle.trap_replica.proofs.FrameTaken.{length_hold}
use Rattle.trap_replica.proofs.HeldSteps.{cells_add, calls_add}
use Rattle.trap_apply.specs.Reached.{arrivals, received, HoldsReached, LeavesReached, HasReceived}

-- some frames, and then more
pub arrivals_more : (frames more : List Sent) → arrivals (frames ++ more) ≡ arrivals frames ++ arrivals more
arrivals_more [] more = refl
arrivals_more (sent ∷ frames) more = ap (λ (l : List Arrival). arrival sent.frame sent.parity ∷ l) (arrivals_more frames more)

pub received_more : (r : Receiver) (frames more : List Sent) → received r (frames ++ more) ≡ received (received r frames) more
received_more r [] more = refl
received_more r (sent ∷ frames) more = received_more (receive r (arrival sent.frame sent.parity ∷ [])) frames more

answers_more : (r : Receiver) (frames : List Arrival) (f : Arrival) → answers r (frames ++ f ∷ []) ≡ answers r frames ++ answer (receive r frames) f ∷ []
answers_more r [] f = refl
answers_more r (g ∷ frames) f = ap (λ (l : List Taken). answer r g ∷ l) (answers_more (receive r (g ∷ [])) frames f)

-- one frame more is counted
pub counted_more : (p : Taken → Bool) (r : Receiver) (frames : List Sent) (sent : Sent) (given : Taken) → given ≡ answer (received r frames) (arrival sent.frame sent.parity)
    → count_by p (answers r (arrivals (frames ++ sent ∷ []))) ≡ count_by p (answers r (arrivals frames)) + count_by p (given ∷ [])
counted_more p r frames sent given is =
    ap (λ (l : List Arrival). count_by p (answers r l)) (arrivals_more frames (sent ∷ []))
    ∙ ap (count_by p) (answers_more r (arrivals frames) (arrival sent.frame sent.parity))
    ∙ sum_by-append (λ x. if p x then 1 else 0) (answers r (arrivals frames)) (answer (received r frames) (arrival sent.frame sent.parity) ∷ [])
    ∙ ap (λ (t : Taken). count_by p (answers r (arrivals frames)) + count_by p (t ∷ [])) (sym is)

-- before a frame the disk holds the same image as once it has arrived
before_held : (s : Shape) (x : Disks) (r : Receiver) (l : List Arrival) (b : Bool) → ReplicaHolds s r.number r.time r.image x → HoldsApplied s (if b then r else record r { held = l }) x
before_held s x r l true holds = record { count = 0; holds = holds }
before_held s x r l false holds = record { count = 0; holds = holds }

pub starts_reached : (s : Shape) (r : Receiver) (frames : List Arrival) (x : Disks) → ReplicaHolds s r.number r.time r.image x → HoldsReached s r frames x
starts_reached s r [] x holds = holds
starts_reached s r (f ∷ frames) x holds = inl (before_held s x r (hold f r.held) (is_known r f || is_beyond r f) holds)

-- what some frames reach is reached with more of them
pub reached_first : (s : Shape) (r : Receiver) (frames more : List Arrival) (x : Disks) → HoldsReached s r frames x → HoldsReached s r (frames ++ more) x
reached_first s r [] more x holds = starts_reached s r more x holds
reached_first s r (f ∷ frames) more x holds = ⊎_elim inl (λ later. inr (reached_first s (receive r (f ∷ [])) frames more x later)) holds

reached_then : (s : Shape) (r : Receiver) (frames more : List Arrival) (x : Disks) → HoldsReached s (receive r frames) more x → HoldsReached s r (frames ++ more) x
reached_then s r [] more x holds = holds
reached_then s r (f ∷ frames) more x holds = inr (reached_then s (receive r (f ∷ [])) frames more x holds)

-- the number never falls
pub receive_rises : (r : Receiver) (frames : List Arrival) → r.number ≤ (receive r frames).number
receive_rises r [] = omega arith
receive_rises r (f ∷ frames) = let one = taken-grows r f in let more = receive_rises (receive r (f ∷ [])) frames in omega (arith, one, more)

pub number_rises : (frames : List Sent) (a b : MountedReplica) (old new : View) → HasReceived frames a b old new → a.store.number ≤ b.store.number
number_rises frames a b old new received =
    let same = ap (λ (r : Receiver). r.number) (received.numbers []) in
    let rises = receive_rises (receiver a []) (arrivals frames) in
    omega (arith, same, rises)

-- with each frame what was applied and what is held grows by one at most
count_test : (r : Receiver) (f : Arrival) (held : List Arrival) (b : Bool)
    → (settled (applied r f held) held).number + length (settled (applied r f held) held).held ≡ (applied r f held).number + length held
    → (if b then settled (applied r f held) held else record r { held = f ∷ held }).number
    + length (if b then settled (applied r f held) held else record r { held = f ∷ held }).held ≡ r.number + length (f ∷ held)
count_test r f held true more = omega (arith, more)
count_test r f held false more = refl

settled_count : (r : Receiver) (held : List Arrival) → (settled r held).number + length (settled r held).held ≡ r.number + length held
settled_count r [] = refl
settled_count r (f ∷ held) = count_test r f held (f.seq == r.number + 1) (settled_count (applied r f held) held)

taken_test : (r : Receiver) (f : Arrival) (b : Bool) → (if b then r else with_frame r f).number + length (if b then r else with_frame r f).held ≤ r.number + length r.held + 1
taken_test r f true = omega arith
taken_test r f false = let all = settled_count r (hold f r.held) in let more = length_hold f r.held in omega (arith, all, more)

pub receive_counts : (r : Receiver) (frames : List Arrival) → (receive r frames).number + length (receive r frames).held ≤ r.number + length r.held + length frames
receive_counts r [] = omega arith
receive_counts r (f ∷ frames) =
    let one = taken_test r f (is_known r f || is_beyond r f) in
    let more = receive_counts (after_frame r f) frames in
    omega (arith, one, more)

-- and so do the calls, of which the replica makes as many for each
calls_most : (c : Slots) (m n : ℕ) → m ≤ n → take_calls c m ≤ take_calls c n
calls_most c zero n less = omega arith
calls_most c (suc m) zero less = absurd (omega arith)
calls_most c (suc m) (suc n) less = omega (arith, less)

none_more : (n : ℕ) → 0 ≡ n - n
none_more n = omega arith

-- nothing was received
pub received_none : (a : MountedReplica) (v : View) → a.is_stopped ≡ false → HasReceived [] a a v v
received_none a v running = record {
  running = running;
  numbers = λ image. refl;
  mirrors = λ image mirrors. mirrors;
  calls = subst (λ (n : ℕ). CalledTimes (take_calls a.store.cell n) v v) (none_more a.store.number) (not_called v);
  cell = ap (cell_after a.store.cell) (none_more a.store.number);
  any_moment = λ image mirrors. leaves_none v (HoldsImageBy a.store.shape a.store.block a.store.number a.store.time image)
      (HoldsReached a.store.shape (receiver a image) []) mirrors.holds (λ x has. (a.store.block, has));
}

module _ (frames more : List Sent) (a b c : MountedReplica) (old mid new : View) (first : HasReceived frames a b old mid) (shape : b.store.shape ≡ a.store.shape) where
  -- each crash so far, or in the frames that came then
  pub leaves_more : LeavesReached more b mid new → LeavesReached (frames ++ more) a old new
  leaves_more second image mirrors = moves_then old mid new
      (λ x y. HoldsReached a.store.shape (receiver a image) (arrivals frames) y) (λ x y. HoldsReached a.store.shape (receiver a image) (arrivals frames) y)
      (λ x y. HoldsReached b.store.shape (receiver b last.image) (arrivals more) y) (λ x y. HoldsReached b.store.shape (receiver b last.image) (arrivals more) y)
      (λ x y. HoldsReached a.store.shape (receiver a image) (arrivals (frames ++ more)) y) (λ x y. HoldsReached a.store.shape (receiver a image) (arrivals (frames ++ more)) y)
      (first.any_moment image mirrors) (second last.image (first.mirrors image mirrors))
      (λ x y was left. all y.disks (reached_first a.store.shape (receiver a image) (arrivals frames) (arrivals more) y.disks left))
      (λ x y z was left between next. later z.disks next)
      (λ x y z was left between next. later z.disks next)
    where
      last : Receiver
      last = received (receiver a image) frames

      all : (x : Disks) → HoldsReached a.store.shape (receiver a image) (arrivals frames ++ arrivals more) x → HoldsReached a.store.shape (receiver a image) (arrivals (frames ++ more)) x
      all x = subst (λ (l : List Arrival). HoldsReached a.store.shape (receiver a image) l x) (sym (arrivals_more frames more))

      later : (x : Disks) → HoldsReached b.store.shape (receiver b last.image) (arrivals more) x → HoldsReached a.store.shape (receiver a image) (arrivals (frames ++ more)) x
      later x left = all x (reached_then a.store.shape (receiver a image) (arrivals frames) (arrivals more) x
          (subst (λ (r : Receiver). HoldsReached a.store.shape r (arrivals more) x) (first.numbers image)
          (subst (λ (t : Shape). HoldsReached t (receiver b last.image) (arrivals more) x) shape left)))

  pub received_then : HasReceived more b c mid new → HasReceived (frames ++ more) a c old new
  received_then second = record {
    running = second.running;
    numbers = λ image. subst (λ (r : Receiver). receiver c r.image ≡ r) (whole image) (second.numbers (received (receiver a image) frames).image);
    mirrors = λ image mirrors. subst (λ (r : Receiver). Mirrors c.store new r.image) (whole image)
        (second.mirrors (received (receiver a image) frames).image (first.mirrors image mirrors));
    calls = subst (λ (n : ℕ). CalledTimes n old new) (ap (λ (x : Slots). take_calls a.store.cell before + take_calls x after) first.cell
        ∙ calls_add a.store.cell after before ∙ ap (take_calls a.store.cell) all)
        (called_then (take_calls a.store.cell before) (take_calls b.store.cell after) old mid new first.calls second.calls);
    cell = second.cell ∙ ap (λ (x : Slots). cell_after x after) first.cell ∙ cells_add a.store.cell after before ∙ ap (cell_after a.store.cell) all;
    any_moment = leaves_more second.any_moment;
  }
    where
      before : ℕ
      before = b.store.number - a.store.number

      after : ℕ
      after = c.store.number - b.store.number

      all : after + before ≡ c.store.number - a.store.number
      all = (let one = number_rises frames a b old mid first in let two = number_rises more b c mid new second in omega (arith, one, two))

      whole : (image : List (List ℕ)) → received (receiver b (received (receiver a image) frames).image) more ≡ received (receiver a image) (frames ++ more)
      whole image = ap (λ (r : Receiver). received r more) (first.numbers image) ∙ sym (received_more (receiver a image) frames more)

  -- a frame's answer is the one of the receiver after those before
  pub answer_then : (sent : Sent) (given : Taken) → ((image : List (List ℕ)) → given ≡ answer (receiver b image) (arrival sent.frame sent.parity))
      → (image : List (List ℕ)) → given ≡ answer (received (receiver a image) frames) (arrival sent.frame sent.parity)
  answer_then sent given is image = is (received (receiver a image) frames).image ∙ ap (λ (r : Receiver). answer r (arrival sent.frame sent.parity)) (first.numbers image)

-- the calls for these frames, and for one in which the disk failed
pub calls_failed : (frames : List Sent) (sent : Sent) (a b : MountedReplica) (old mid new : View) → HasReceived frames a b old mid
    → CalledAtMost (take_calls b.store.cell (length b.held.frames + 1)) mid new → CalledAtMost (take_calls a.store.cell (length a.held.frames + length (frames ++ sent ∷ []))) old new
calls_failed frames sent a b old mid new was most =
    let n = b.store.number - a.store.number in
    let m = length b.held.frames + 1 in
    let number = ap (λ (r : Receiver). r.number) (was.numbers []) in
    let held = ap (λ (r : Receiver). length r.held) (was.numbers []) in
    let counts = receive_counts (receiver a []) (arrivals frames) in
    let rises = number_rises frames a b old mid was in
    let long : length (arrivals frames) ≡ length frames = length-map frames (λ (s : Sent). arrival s.frame s.parity) in
    let more = length-append frames (sent ∷ []) in
    let all : m + n ≤ length a.held.frames + length (frames ++ sent ∷ []) = omega (arith, number, held, counts, rises, long, more) in
    let cell = ap (λ (c : Slots). take_calls c m) was.cell in
    let sum = calls_add a.store.cell m n in
    let bound = calls_most a.store.cell (m + n) (length a.held.frames + length (frames ++ sent ∷ [])) all in
    at_most_then (take_calls a.store.cell n) (take_calls b.store.cell m) (take_calls a.store.cell (length a.held.frames + length (frames ++ sent ∷ []))) old mid new
    (omega (arith, cell, sum, bound)) (called_at_most (take_calls a.store.cell n) (take_calls a.store.cell n) old mid (omega arith) was.calls) most
