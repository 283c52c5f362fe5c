-- The first code of a record that was read again.
use Rattle.std.proofs.Common.{◌≡◌, ℕ, ◌+◌, ◌-◌, ◌<◌, ◌≤◌, List, ◌++◌, length, take, drop, slice_range, sym, ap, subst, ◌∙◌, IsTrue, arith, length-drop, length-take}
use Rattle.std.proofs.lemmas.List.{take-append-le, drop-append-le, get_or-take}
use Rattle.trap_bank.specs.Disks.{Disks, View}
use Rattle.trap_index.specs.Indexed.{item_at}
use Rattle.trap_model.specs.ZeroRun.{ZeroRun}
use Rattle.trap_model.specs.declared.history.State.{State}
use Rattle.trap_model.specs.declared.log_record.LogRec.{LogRec}
use Rattle.trap_record.specs.Reading.{IsWhole, parity_of}
use Rattle.trap_ring.specs.Ring.{RingPlace, RingHas}
use Rattle.trap_scan.proofs.Taking.{ring_after}
use Rattle.trap_past.specs.Undo.{parity_at}
use Rattle.trap_array.specs.Calls.{Mounted, StandsFor, running}
use Rattle.trap_array.specs.Coded.{IsEntryCode, HasFirstCode, WritesCode}
use Rattle.trap_array.specs.Holding.{log_ring}
use Rattle.trap_array.specs.Log.{IndexedLog}

-- bytes within the first ones
slice_of_front : (xs ys : List ℕ) (i j : ℕ) → i ≤ j → j ≤ length xs → slice_range (xs ++ ys) i j ≡ slice_range xs i j
slice_of_front xs ys i j up within =
    ap (take (j - i)) (drop-append-le i xs ys (omega arith)) ∙ take-append-le (j - i) (drop i xs) ys (let long = length-drop i xs in omega arith)

-- it is there, whatever bytes follow the record
pub has_first_code : (size : ℕ) (rec : LogRec) (block bytes rest spelled : List ℕ) → spelled ≡ bytes ++ rest → length block ≡ size → ZeroRun block (parity_of rec bytes)
    → IsWhole size rec (length bytes) bytes → HasFirstCode size rec.plen block spelled
has_first_code size rec block bytes rest spelled is sized spells whole = record {
  sized = sized;
  most = whole.is.ranges.parity.1;
  code = (let len = whole.len in subst (λ (l : List ℕ). ZeroRun block l)
      (sym (ap (λ (l : List ℕ). slice_range l 26 (26 + rec.plen)) is ∙ slice_of_front bytes rest 26 (26 + rec.plen) (omega arith) (omega arith))) spells);
}

-- it stands in the ring, after the header
pub ring_code : (r : RingPlace) (at i n : ℕ) (bytes rest : List ℕ) (disks : Disks) → i + n ≤ length bytes → RingHas r at bytes disks → RingHas r (at + i) (slice_range (bytes ++ rest) i (i + n)) disks
ring_code r at i n bytes rest disks within has =
    subst (λ (l : List ℕ). RingHas r (at + i) l disks) (sym (slice_of_front bytes rest i (i + n) (omega arith) within))
    (λ k less.
    let long = length-take (i + n - i) (drop i bytes) in
    let inner : k < i + n - i = omega (arith, less, long) in
    let whole : k < length (drop i bytes) = omega (arith, less, long) in
    ring_after r at i bytes disks has k whole ∙ sym (get_or-take (i + n - i) (drop i bytes) k 0 inner))

-- and it is copied
pub writes_code : (log : IndexedLog) (v : View) (q len : ℕ) (block spelled bytes old new : List ℕ) → len ≡ (item_at log.index q).plen
    → HasFirstCode log.g.block (item_at log.index q).plen block spelled → bytes ≡ spelled → take len new ≡ slice_range bytes 26 (26 + len) → drop len new ≡ drop len old
    → len ≤ length new → (IsTrue v.tells → RingHas (log_ring log.g) ((item_at log.index q).off + 26) (slice_range spelled 26 (26 + (item_at log.index q).plen)) v.now.disks)
    → (IsTrue v.tells → (s : State) → StandsFor (running log) s v.now.disks → block ≡ parity_at s q) → WritesCode (running log) v q len old new
writes_code log v q len block spelled bytes old new is has same front rest room there stands = record {
  most = (let most = has.most in omega (arith, is, most));
  code = record {
    parity = block;
    sized = has.sized;
    code = subst (λ (l : List ℕ). ZeroRun block l) copied has.code;
    there = λ told. subst (λ (l : List ℕ). RingHas (log_ring log.g) ((item_at log.index q).off + 26) l v.now.disks) copied (there told);
    long = (let long = length-take len new in omega (arith, is, long, room));
    is = stands;
  };
  rest = rest;
}
  where
    copied : slice_range spelled 26 (26 + (item_at log.index q).plen) ≡ take len new
    copied = ap (λ (n : ℕ). slice_range spelled 26 (26 + n)) (sym is) ∙ ap (λ (l : List ℕ). slice_range l 26 (26 + len)) (sym same) ∙ sym front

-- it is the same over a later moment of the same disks
pub code_kept : (a : Mounted) (v w : View) (q : ℕ) (bytes : List ℕ) → w.tells ≡ v.tells → (IsTrue v.tells → w.now.disks ≡ v.now.disks) → IsEntryCode a w q bytes → IsEntryCode a v q bytes
code_kept a v w q bytes tells same is = record {
  parity = is.parity;
  sized = is.sized;
  code = is.code;
  long = is.long;
  there = λ told. subst (λ (d : Disks). RingHas (log_ring a.g) ((item_at a.index q).off + 26) bytes d) (same told) (is.there (subst IsTrue (sym tells) told));
  is = λ told s stands. is.is (subst IsTrue (sym tells) told) s (subst (λ (d : Disks). StandsFor a s d) (sym (same told)) stands);
}
