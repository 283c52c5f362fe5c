-- The frames that are sent of a state are frames of its primary, and a replica that gets them holds the state's images.
use Rattle.std.proofs.Common.{◌≡◌, ℕ, zero, suc, ◌+◌, ◌-◌, ◌<◌, ◌≤◌, List, [], ◌∷◌, ◌++◌, length, get_or, take, drop, map, replicate, false, refl, sym, ap, subst, ◌∙◌, arith, length-append, length-take, append_assoc}
use Rattle.std.specs.Prelude.{All, Contains}
use Rattle.std.proofs.Math.Seq.{take-append_seam}
use Rattle.std.proofs.lemmas.List.{take-append-drop, drop_more, set-get_or, length-replicate}
use Rattle.std.proofs.lemmas.List.Elements.{All-cons, All-nil, All-append, All-map, All-weaker, All-contains}
use Rattle.trap_bank.specs.Disks.{Disks}
use Rattle.trap_format.specs.declared.shape.Shape.{Shape}
use Rattle.trap_index.specs.Describes.{block_before}
use Rattle.trap_model.specs.declared.arrival.Arrival.{Arrival}
use Rattle.trap_model.specs.declared.history.Entry.{Entry}
use Rattle.trap_model.specs.declared.history.State.{State}
use Rattle.trap_model.specs.declared.numbers.Geometry.{Geometry}
use Rattle.trap_model.specs.Frame.{Sent}
use Rattle.trap_model.specs.Image.{block_of, volume, written, entry_parity, image_after}
use Rattle.trap_model.specs.Receiver.{starting, gapless}
use Rattle.trap_model.specs.Records.{no_entry, entry_at}
use Rattle.trap_model.specs.State.{IsEntry, IsValid, image_at, above, last, time_after, up_to}
use Rattle.trap_replica.specs.Mounted.{arrival}
use Rattle.trap_replica.specs.OnDisk.{ReplicaHolds}
use Rattle.trap_replica.specs.World.{World, primary, WritesWithin, FollowsPrimary}
use Rattle.trap_apply.specs.Fitting.{FitsReplica}
use Rattle.trap_apply.specs.History.{IsFrameOf, HoldsPrimary, IsPrimary}
use Rattle.trap_apply.specs.Reached.{HoldsReached, arrivals, received}
use Rattle.trap_apply.proofs.Followed.{history_stopped, history_received}
use Rattle.trap_send.specs.Sending.{frame_of, sent_frames}
use Rattle.trap_send.specs.Copying.{IsStateOf, copied_time, HasCopy, HoldsCopy}
use Rattle.trap_send.proofs.SentFrames.{length-sent, sent_at}

-- entries, and then more entries
after_append : (base : List (List ℕ)) (xs ys : List Entry) → image_after base (xs ++ ys) ≡ image_after (image_after base xs) ys
after_append base [] ys = refl
after_append base (x ∷ xs) ys = after_append (written base x) xs ys

-- past the first of two lists
take_past : (xs ys : List Entry) (j : ℕ) → take (length xs + j) (xs ++ ys) ≡ xs ++ take j ys
take_past [] ys j = let e : 0 + j ≡ j = omega arith in ap (λ (n : ℕ). take n ys) e
take_past (x ∷ xs) ys j = let e : suc (length xs) + j ≡ suc (length xs + j) = omega arith in ap (λ (n : ℕ). take n (x ∷ (xs ++ ys))) e ∙ ap (λ (l : List Entry). x ∷ l) (take_past xs ys j)

drop_past : (xs ys : List Entry) (j : ℕ) → drop (length xs + j) (xs ++ ys) ≡ drop j ys
drop_past [] ys j = let e : 0 + j ≡ j = omega arith in ap (λ (n : ℕ). drop n ys) e
drop_past (x ∷ xs) ys j = let e : suc (length xs) + j ≡ suc (length xs + j) = omega arith in ap (λ (n : ℕ). drop n (x ∷ (xs ++ ys))) e ∙ drop_past xs ys j

-- one entry many times
all_same : (P : Entry → Type 0) (x : Entry) (n : ℕ) → P x → All P (replicate n x)
all_same P x zero has = All-nil P
all_same P x (suc n) has = All-cons P x (replicate n x) has (all_same P x n has)

-- as an arrival
abbrev came : Sent → Arrival
came sent = arrival sent.frame sent.parity

-- the numbers of arrivals are their frames'
numbers_are : (frames : List Sent) → map (λ f. f.seq) (arrivals frames) ≡ map (λ sent. sent.frame.seq) frames
numbers_are [] = refl
numbers_are (x ∷ xs) = ap (λ (l : List ℕ). x.frame.seq ∷ l) (numbers_are xs)

module _ (s : State) (w : World) (is : IsStateOf w s) where
  front : take s.first w.all ≡ is.dropped
  front = ap (λ (n : ℕ). take n w.all) (sym is.count) ∙ ap (λ (l : List Entry). take (length is.dropped) l) is.parts ∙ take-append_seam is.dropped s.entries

  base : image_after w.start is.dropped ≡ s.base
  base = ap (image_after w.start) (sym front) ∙ is.base

  -- the frame of a retained entry is one of the primary's
  pub sent_of : (id q : ℕ) → s.first < q → q ≤ last s → IsFrameOf w (came (frame_of id q (block_before s q) (entry_at s q)))
  sent_of id q low high =
      let k = q - (s.first + 1) in
      let entry = entry_at s q in
      let here : q - 1 - s.first ≡ k = omega arith in
      let first = is.count in
      let kept : length (take k s.entries) ≡ k = (let short = length-take k s.entries in omega (arith, short)) in
      let long = length-append is.dropped (take k s.entries) in
      record {
        before = is.dropped ++ take k s.entries;
        entry = entry;
        later = drop (k + 1) s.entries;
        parts = is.parts
            ∙ ap (λ (l : List Entry). is.dropped ++ l) (sym (take-append-drop k s.entries) ∙ ap (λ (l : List Entry). take k s.entries ++ l) (drop_more s.entries k no_entry (omega arith)))
            ∙ sym (append_assoc is.dropped (take k s.entries) (entry ∷ drop (k + 1) s.entries));
        seq = omega arith;
        time = refl;
        block = refl;
        parity = ap (λ (i : List (List ℕ)). entry_parity i entry)
            (ap (λ (n : ℕ). image_after s.base (take n s.entries)) here ∙ ap (λ (i : List (List ℕ)). image_after i (take k s.entries)) (sym base)
            ∙ sym (after_append w.start is.dropped (take k s.entries)));
      }

  -- so is each of the frames that are sent
  pub all_sent : (id p : ℕ) → s.first ≤ p → p ≤ last s → All (λ (sent : Sent). IsFrameOf w (came sent)) (sent_frames id s p)
  all_sent id p low high k none inside =
      let long : length (sent_frames id s p) ≡ last s - p = length-sent id s p low high in
      let q = p + k + 1 in
      let place : q - (p + 1) ≡ k = omega arith in
      subst (λ (sent : Sent). IsFrameOf w (came sent))
      (sym (ap (λ (n : ℕ). get_or (sent_frames id s p) n none) (sym place) ∙ sent_at id s p q none low (omega arith) (omega arith)))
      (sent_of id q (omega arith) (omega arith))

  -- the primary's images are the state's
  primary_is : (k : ℕ) → s.first ≤ k → primary w k ≡ image_at s k
  primary_is k low =
      let first = is.count in
      let place : k ≡ length is.dropped + (k - s.first) = omega arith in
      ap (image_after w.start) (ap (λ (l : List Entry). take k l) is.parts ∙ ap (λ (n : ℕ). take n (is.dropped ++ s.entries)) place ∙ take_past is.dropped s.entries (k - s.first))
      ∙ after_append w.start is.dropped (up_to s k)
      ∙ ap (λ (i : List (List ℕ)). image_after i (up_to s k)) base

  -- and so are its later entries
  above_is : (k : ℕ) → s.first ≤ k → drop k w.all ≡ above s k
  above_is k low =
      let first = is.count in
      let place : k ≡ length is.dropped + (k - s.first) = omega arith in
      ap (λ (l : List Entry). drop k l) is.parts ∙ ap (λ (n : ℕ). drop n (is.dropped ++ s.entries)) place ∙ drop_past is.dropped s.entries (k - s.first)

  all_came : (id p : ℕ) → s.first ≤ p → p ≤ last s → (frames : List Sent) → All (Contains (sent_frames id s p)) frames → All (IsFrameOf w) (arrivals frames)
  all_came id p low high frames each =
      let Came = λ (sent : Sent). IsFrameOf w (came sent) in
      let one : (sent : Sent) → Contains (sent_frames id s p) sent → IsFrameOf w (came sent) = λ sent among. All-contains Came (sent_frames id s p) sent (all_sent id p low high) among in
      All-map (IsFrameOf w) came frames (All-weaker (Contains (sent_frames id s p)) Came one frames each)

  -- a replica that gets some of them, in any order
  pub sent_copied : (sh : Shape) (id p time : ℕ) (frames : List Sent) (disks : Disks) → FollowsPrimary sh.volume sh.block w → s.first ≤ p → p ≤ last s
      → All (Contains (sent_frames id s p)) frames → HoldsReached sh (starting w.number time w.image) (arrivals frames) disks
      → HoldsPrimary sh w time w.number (gapless w.number (map (λ sent. sent.frame.seq) frames)) disks
  sent_copied sh id p time frames disks follows low high each holds =
      subst (λ (numbers : List ℕ). HoldsPrimary sh w time w.number (gapless w.number numbers) disks) (numbers_are frames)
      (history_stopped sh w time (arrivals frames) follows (all_came id p low high frames each) disks holds)

  -- and after all that came
  pub sent_received : (sh : Shape) (id p time : ℕ) (frames : List Sent) → FollowsPrimary sh.volume sh.block w → s.first ≤ p → p ≤ last s
      → All (Contains (sent_frames id s p)) frames
      → IsPrimary w time (received (starting w.number time w.image) frames)
      × ((received (starting w.number time w.image) frames).number ≡ gapless w.number (map (λ sent. sent.frame.seq) frames))
  sent_received sh id p time frames follows low high each =
      let has = history_received sh w time (arrivals frames) follows (all_came id p low high frames each) in
      (has.0, has.1 ∙ ap (gapless w.number) (numbers_are frames))

-- they are for a replica of the array's id and volume
pub sent_fits : (g : Geometry) (sh : Shape) (q : ℕ) (s : State) → IsValid g s → sh.volume ≡ volume g → s.first < q → q ≤ last s
    → FitsReplica sh (frame_of sh.id q (block_before s q) (entry_at s q)).frame
sent_fits g sh q s valid size low high =
    let inside = (valid.entries (q - (s.first + 1)) no_entry (omega arith)).block in
    record { own = refl; inside = omega (arith, size, inside) }

module _ (g : Geometry) (sh : Shape) (s : State) (n : ℕ) (valid : IsValid g s) (same_volume : sh.volume ≡ volume g) (same_block : sh.block ≡ g.block) (low : s.first ≤ n) (high : n ≤ last s) where
  -- some primary is in the state: its dropped entries wrote what stood there
  abbrev nothing : Entry
  nothing = record { time = 0; block = 0; bytes = block_of s.base 0; snap = false }

  abbrev dropped : List Entry
  dropped = replicate s.first nothing

  nothing_written : written s.base nothing ≡ s.base
  nothing_written = set-get_or s.base 0 []

  stays : (k : ℕ) → image_after s.base (replicate k nothing) ≡ s.base
  stays zero = refl
  stays (suc k) = ap (λ (i : List (List ℕ)). image_after i (replicate k nothing)) nothing_written ∙ stays k

  abbrev world : World
  world = record { all = dropped ++ s.entries; start = s.base; number = n; image = image_at s n }

  is_state : IsStateOf world s
  is_state = record {
    dropped = dropped;
    parts = refl;
    count = length-replicate s.first nothing;
    base = ap (image_after s.base) (ap (λ (k : ℕ). take k (dropped ++ s.entries)) (sym (length-replicate s.first nothing)) ∙ take-append_seam dropped s.entries) ∙ stays s.first;
  }

  writes : (entry : Entry) → IsEntry g entry → WritesWithin sh.volume sh.block entry
  writes entry is = record { inside = let inside = is.block in omega (arith, same_volume, inside); sized = is.size ∙ sym same_block }

  writes_nothing : WritesWithin sh.volume sh.block nothing
  writes_nothing =
      let some = sh.within.volume_least in
      record { inside = omega (arith, some); sized = valid.base.sized 0 (omega (arith, some, same_volume)) ∙ sym same_block }

  -- a receiver with the state's image follows it
  follows : FollowsPrimary sh.volume sh.block world
  follows =
      let Within = WritesWithin sh.volume sh.block in
      let long = length-append dropped s.entries in
      let first = length-replicate s.first nothing in
      record {
        start = record { long = valid.base.long ∙ sym same_volume; sized = λ b inside. valid.base.sized b (omega (arith, inside, same_volume)) ∙ sym same_block };
        each = All-append Within dropped s.entries (all_same Within nothing s.first writes_nothing) (All-weaker (IsEntry g) Within writes s.entries valid.entries);
        most = omega (arith, long, first, high);
        image = sym (primary_is s world is_state n low);
      }

  -- the disk holds the state's image
  pub copied : (id p time : ℕ) (frames : List Sent) (disks : Disks) → s.first ≤ p → p ≤ last s → All (Contains (sent_frames id s p)) frames
      → HoldsReached sh (starting n time (image_at s n)) (arrivals frames) disks → HoldsCopy sh s time n (gapless n (map (λ sent. sent.frame.seq) frames)) disks
  copied id p time frames disks least most each holds =
      let at = sent_copied s world is_state sh id p time frames disks follows least most each holds in
      let number = at.number in
      let over = at.above in
      record {
        number = number;
        holds = subst (λ (i : List (List ℕ)). ReplicaHolds sh number (copied_time s n time number) i disks) (primary_is s world is_state number (omega (arith, low, over)))
            (subst (λ (l : List Entry). ReplicaHolds sh number (time_after time (take (number - n) l)) (primary world number) disks) (above_is s world is_state n low) at.holds);
        above = over;
        below = at.below;
      }

  -- the receiver that got them has it, up to where the numbers go without a gap
  pub copied_all : (id p time : ℕ) (frames : List Sent) → s.first ≤ p → p ≤ last s → All (Contains (sent_frames id s p)) frames
      → HasCopy s time n (gapless n (map (λ sent. sent.frame.seq) frames)) (received (starting n time (image_at s n)) frames)
  copied_all id p time frames least most each =
      let has = sent_received s world is_state sh id p time frames follows least most each in
      let k = gapless n (map (λ sent. sent.frame.seq) frames) in
      let q = received (starting n time (image_at s n)) frames in
      let at : q.number ≡ k = has.1 in
      let low_k : n ≤ k = (let over = has.0.least in omega (arith, at, over)) in
      let long = length-append dropped s.entries in
      let first = length-replicate s.first nothing in
      record {
        number = at;
        time = has.0.time ∙ ap (λ (m : ℕ). time_after time (take (m - n) (drop n world.all))) at
            ∙ ap (λ (l : List Entry). time_after time (take (k - n) l)) (above_is s world is_state n low);
        image = has.0.image ∙ ap (primary world) at ∙ primary_is s world is_state k (omega (arith, low, low_k));
        above = low_k;
        below = (let under = has.0.most in omega (arith, at, under, long, first));
      }
