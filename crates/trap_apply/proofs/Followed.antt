-- A receiver of a primary's frames has the primary's image.
use Rattle.std.proofs.Common.{◌≡◌, ℕ, ◌+◌, ◌-◌, ◌≤◌, List, [], ◌∷◌, ◌++◌, length, take, drop, map, length-append, length-drop, append_assoc, refl, sym, ap, subst, ◌∙◌, arith}
use Rattle.std.specs.Prelude.{All}
use Rattle.std.proofs.Math.ListN.{set}
use Rattle.std.proofs.Math.Seq.{take-append_seam, drop-append_seam}
use Rattle.std.proofs.lemmas.List.{drop-append-le}
use Rattle.std.proofs.lemmas.List.Elements.{All-nil, All-cons, All-head, All-tail, All-take, All-drop}
use Rattle.trap_bank.specs.Disks.{Disks}
use Rattle.trap_block.specs.Xor.{xor}
use Rattle.trap_format.specs.declared.shape.Shape.{Shape}
use Rattle.trap_model.specs.Image.{block_of, written, image_after}
use Rattle.trap_model.specs.Receiver.{Receiver, starting, applied, xored, receive, gapless}
use Rattle.trap_model.specs.State.{time_after}
use Rattle.trap_model.specs.declared.arrival.Arrival.{Arrival}
use Rattle.trap_model.specs.declared.history.Entry.{Entry}
use Rattle.trap_model.proofs.Images.{image_after-push}
use Rattle.trap_model.proofs.Histories.{time_after-push}
use Rattle.trap_model.proofs.Windows.{receive-number}
use Rattle.trap_replica.specs.OnDisk.{ReplicaHolds}
use Rattle.trap_replica.specs.World.{World, primary, delivered, IsVolume, WritesWithin, FollowsPrimary, Deliver, Happens}
use Rattle.trap_replica.proofs.Worlds.{after_volume, same_image, happen_all}
use Rattle.trap_apply.specs.Reached.{HoldsReached}
use Rattle.trap_apply.specs.History.{IsFrameOf, passed_time, IsPrimary, HoldsPrimary}
use Rattle.trap_apply.proofs.Kept.{Keeps, kept_during, kept_after, kept_all}
use Rattle.trap_apply.proofs.Bounds.{reached_with}

module _ (volume size : ℕ) (w : World) (time : ℕ) (start : IsVolume volume size w.start) (each : All (WritesWithin volume size) w.all) where
  -- a frame of an entry, and the entries up to it
  module _ (f : Arrival) (is : IsFrameOf w f) where
    abbrev before_image : List (List ℕ)
    before_image = image_after w.start is.before

    front : take (length is.before) w.all ≡ is.before
    front = ap (λ (l : List Entry). take (length is.before) l) is.parts ∙ take-append_seam is.before (is.entry ∷ is.later)

    count : length is.before + 1 ≡ length (is.before ++ is.entry ∷ [])
    count = let long = length-append is.before (is.entry ∷ []) in omega (arith, long)

    one_more : take (length is.before + 1) w.all ≡ is.before ++ is.entry ∷ []
    one_more = ap (λ (l : List Entry). take (length is.before + 1) l) (is.parts ∙ sym (append_assoc is.before (is.entry ∷ []) is.later))
        ∙ ap (λ (n : ℕ). take n ((is.before ++ is.entry ∷ []) ++ is.later)) count ∙ take-append_seam (is.before ++ is.entry ∷ []) is.later

    volume_before : IsVolume volume size before_image
    volume_before = after_volume volume size w.start is.before start
        (subst (λ (l : List Entry). All (WritesWithin volume size) l) front (All-take (WritesWithin volume size) (length is.before) w.all each))

    later_is : drop (length is.before) w.all ≡ is.entry ∷ is.later
    later_is = ap (λ (l : List Entry). drop (length is.before) l) is.parts ∙ drop-append_seam is.before (is.entry ∷ is.later)

    writes : WritesWithin volume size is.entry
    writes = All-head (WritesWithin volume size) is.entry is.later
        (subst (λ (l : List Entry). All (WritesWithin volume size) l) later_is (All-drop (WritesWithin volume size) (length is.before) w.all each))

    -- over the image before it, its parity gives the image after it
    moves_on : (image : List (List ℕ)) → image ≡ before_image → xored image f ≡ written before_image is.entry
    moves_on image same = ap (λ (i : List (List ℕ)). set i f.block (xor (block_of i f.block) f.parity)) same
        ∙ ap (λ (b : ℕ). set before_image b (xor (block_of before_image b) f.parity)) is.block
        ∙ ap (λ (p : List ℕ). set before_image is.entry.block (xor (block_of before_image is.entry.block) p)) is.parity
        ∙ same_image volume size before_image is.entry volume_before writes

    -- the entries since the receiver began
    since : w.number ≤ length is.before → take (length is.before + 1 - w.number) (drop w.number w.all) ≡ drop w.number is.before ++ is.entry ∷ []
    since least =
        let left = length-drop w.number is.before in
        let long = length-append (drop w.number is.before) (is.entry ∷ []) in
        let count : length is.before + 1 - w.number ≡ length (drop w.number is.before ++ is.entry ∷ []) = omega (arith, left, long, least) in
        ap (λ (l : List Entry). take (length is.before + 1 - w.number) l) (ap (λ (l : List Entry). drop w.number l) is.parts
        ∙ drop-append-le w.number is.before (is.entry ∷ is.later) least ∙ sym (append_assoc (drop w.number is.before) (is.entry ∷ []) is.later))
        ∙ ap (λ (n : ℕ). take n ((drop w.number is.before ++ is.entry ∷ []) ++ is.later)) count ∙ take-append_seam (drop w.number is.before ++ is.entry ∷ []) is.later

  -- the receiver that applies it
  applies : (f : Arrival) (r : Receiver) (held : List Arrival) → IsFrameOf w f → IsPrimary w time r → f.seq ≡ r.number + 1 → IsPrimary w time (applied r f held)
  applies f r held is was next =
      let seq = is.seq in
      let at : r.number ≡ length is.before = omega (arith, seq, next) in
      let least = was.least in
      let low : w.number ≤ length is.before = omega (arith, at, least) in
      let long = ap length is.parts ∙ length-append is.before (is.entry ∷ is.later) in
      let image_now : r.image ≡ image_after w.start is.before = was.image ∙ ap (primary w) at ∙ ap (image_after w.start) (front f is) in
      let after : take (r.number + 1) w.all ≡ is.before ++ is.entry ∷ [] = ap (λ (n : ℕ). take (n + 1) w.all) at ∙ one_more f is in
      let later : take (r.number + 1 - w.number) (drop w.number w.all) ≡ drop w.number is.before ++ is.entry ∷ [] =
      ap (λ (n : ℕ). take (n + 1 - w.number) (drop w.number w.all)) at ∙ since f is low in
      record {
        least = omega (arith, least);
        most = omega (arith, at, long);
        image = moves_on f is r.image image_now ∙ sym (image_after-push w.start is.before is.entry) ∙ sym (ap (image_after w.start) after);
        time = is.time ∙ sym (time_after-push time (drop w.number is.before) is.entry) ∙ sym (ap (time_after time) later);
      }

  -- what it holds doesn't count
  holds_too : (r : Receiver) (held : List Arrival) → IsPrimary w time r → IsPrimary w time (record r { held = held })
  holds_too r held was = record { least = was.least; most = was.most; image = was.image; time = was.time }

module _ (s : Shape) (w : World) (time : ℕ) (frames : List Arrival) (follows : FollowsPrimary s.volume s.block w) (each : All (IsFrameOf w) frames) where
  abbrev first : Receiver
  first = starting w.number time w.image

  at_first : time ≡ passed_time w time w.number
  at_first = let none : 0 ≡ w.number - w.number = omega arith in ap (λ (n : ℕ). time_after time (take n (drop w.number w.all))) none

  begins : Keeps (IsPrimary w time) (IsFrameOf w) first
  begins = record { now = record { least = omega arith; most = follows.most; image = follows.image; time = at_first }; held = All-nil (IsFrameOf w) }

  number : (receive first frames).number ≡ gapless w.number (map (λ f. f.seq) frames)
  number = receive-number w.number time w.image frames

  -- after all of them
  pub history_received : IsPrimary w time (receive first frames) × ((receive first frames).number ≡ gapless w.number (map (λ f. f.seq) frames))
  history_received = (
    (kept_all (IsPrimary w time) (IsFrameOf w) (holds_too s.volume s.block w time follows.start follows.each)
        (applies s.volume s.block w time follows.start follows.each) first frames begins each).now,
    number,
  )

  -- stopped on the way
  pub history_stopped : (x : Disks) → HoldsReached s first frames x → HoldsPrimary s w time w.number (gapless w.number (map (λ f. f.seq) frames)) x
  history_stopped x holds =
      let too = holds_too s.volume s.block w time follows.start follows.each in
      let on = applies s.volume s.block w time follows.start follows.each in
      let at = reached_with s (Keeps (IsPrimary w time) (IsFrameOf w)) (IsFrameOf w) (kept_during (IsPrimary w time) (IsFrameOf w) too on) (kept_after (IsPrimary w time) (IsFrameOf w) too on)
      first frames x refl begins each holds in
      let below = at.4 in
      let last = number in
      record {
        number = at.0.number;
        holds = subst (λ (i : List (List ℕ)). ReplicaHolds s at.0.number (passed_time w time at.0.number) i x) at.1.now.image
            (subst (λ (t : ℕ). ReplicaHolds s at.0.number t at.0.image x) at.1.now.time at.2);
        above = at.3;
        below = omega (arith, below, last);
      }

  -- each frame's number is an entry's
  numbers_within : (l : List Arrival) → All (IsFrameOf w) l → All (λ q. q ≤ length w.all) (map (λ f. f.seq) l)
  numbers_within [] all = All-nil (λ (q : ℕ). q ≤ length w.all)
  numbers_within (f ∷ l) all =
      let is = All-head (IsFrameOf w) f l all in
      let long = ap length is.parts ∙ length-append is.before (is.entry ∷ is.later) in
      All-cons (λ (q : ℕ). q ≤ length w.all) f.seq (map (λ f. f.seq) l) (omega (arith, is.seq, long)) (numbers_within l (All-tail (IsFrameOf w) f l all))

  -- so a run is a delivery
  pub history_delivers : (x : Disks) → HoldsReached s first frames x
      → (v : World) × Happens s.volume s.block (Deliver (map (λ f. f.seq) frames) v.number) w v × ReplicaHolds s v.number (passed_time w time v.number) v.image x
  history_delivers x holds =
      let at = history_stopped x holds in
      let n = at.number in
      let v : World = record w { number = n; image = delivered (primary w w.number) w.image (take (n - w.number) (drop w.number w.all)) } in
      let happens : Happens s.volume s.block (Deliver (map (λ f. f.seq) frames) n) w v = (numbers_within frames each, at.above, at.below, refl) in
      let now = happen_all s.volume s.block w v (Deliver (map (λ f. f.seq) frames) n ∷ []) follows (v, happens, refl) in
      (v, happens, subst (λ (i : List (List ℕ)). ReplicaHolds s n (passed_time w time n) i x) (sym now.0.image) at.holds)
