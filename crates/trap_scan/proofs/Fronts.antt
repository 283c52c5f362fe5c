-- What stands at the front of bytes, from what stands at the front of the first of them.
use Rattle.std.proofs.Common.{◌≡◌, ℕ, ◌+◌, ◌-◌, ◌^◌, ◌<◌, ◌≤◌, Bool, true, false, None, List, ◌++◌, length, take, drop, slice_range, vec_len, sym, ◌∙◌, ap, subst, inl, inr, ⊎_elim, min, arith, append-nil, length-append, length-take, length-drop, take-append-drop}
use Rattle.std.proofs.lemmas.List.{ext_get_or, get_or-take, length-take-le, take-append-le, drop-append-le, drop_all}
use Rattle.std.proofs.lemmas.Bool.{cases_lt}
use Rattle.trap_bank.specs.Disks.{Disks}
use Rattle.trap_model.specs.declared.log_record.LogRec.{LogRec}
use Rattle.trap_model.specs.Limits.{greatest_record}
use Rattle.trap_model.specs.LogRecord.{header, SnapshotLength, LogRecord}
use Rattle.trap_model.specs.ZeroRun.{IsCode, IsRefused}
use Rattle.trap_record.specs.declared.reader.ReadRec.TheVariants.{Whole, Short, Bad}
use Rattle.trap_record.specs.Reading.{BeginsWith, record_len, parity_of, snapshot_of, IsThere, IsWhole, IsShort, ReadsAs}
use Rattle.trap_record.proofs.Getting.{one_reading, read_again}
use Rattle.trap_ring.specs.Ring.{RingPlace, RingHas}
use Rattle.trap_scan.specs.declared.window.Window.{Window}
use Rattle.trap_scan.specs.Window.{in_buffer, SamePlace, IsLoaded, HasBuffer, IsAhead, IsFront, IsWholeRecord}

-- bytes of a ring from one offset on begin one another
pub ring_front : (r : RingPlace) (at : ℕ) (front bytes : List ℕ) (disks : Disks) → RingHas r at front disks → RingHas r at bytes disks → length front ≤ length bytes
    → bytes ≡ front ++ drop (length front) bytes
ring_front r at front bytes disks has all short =
    let len = length-take-le (length front) bytes short in
    sym (take-append-drop (length front) bytes)
    ∙ ap (λ (l : List ℕ). l ++ drop (length front) bytes)
    (ext_get_or 0 (take (length front) bytes) front len
    (λ i within. let early : i < length front = omega arith in get_or-take (length front) bytes i 0 early ∙ sym (all i (omega arith)) ∙ has i early))

-- a range of the first bytes
slice_more : (bytes more : List ℕ) (i j : ℕ) → i ≤ j → j ≤ length bytes → slice_range (bytes ++ more) i j ≡ slice_range bytes i j
slice_more bytes more i j order within =
    ap (λ (l : List ℕ). take (j - i) l) (drop-append-le i bytes more (omega arith))
    ∙ take-append-le (j - i) (drop i bytes) more (let len = length-drop i bytes in omega arith)

begins_more : (size : ℕ) (r : LogRec) (bytes more : List ℕ) → 26 ≤ length bytes → BeginsWith size r bytes → BeginsWith size r (bytes ++ more)
begins_more size r bytes more long begins = record {
  ranges = begins.ranges;
  spelled =
      ap (λ (l : List ℕ). l ++ more) begins.spelled ∙ ap (λ (l : List ℕ). header r ++ l) (sym (drop-append-le 26 bytes more long));
}

begins_less : (size : ℕ) (r : LogRec) (bytes more : List ℕ) → 26 ≤ length bytes → BeginsWith size r (bytes ++ more) → BeginsWith size r bytes
begins_less size r bytes more long begins = record {
  ranges = begins.ranges;
  spelled =
      sym (take-append-drop 26 bytes)
      ∙ ap (λ (l : List ℕ). l ++ drop 26 bytes) (sym (take-append-le 26 bytes more long) ∙ ap (λ (l : List ℕ). take 26 l) begins.spelled);
}

parity_more : (r : LogRec) (bytes more : List ℕ) → record_len r ≤ length bytes → parity_of r (bytes ++ more) ≡ parity_of r bytes
parity_more r bytes more there = slice_more bytes more 26 (26 + r.plen) (omega arith) (omega arith)

snapshot_more : (r : LogRec) (bytes more : List ℕ) → record_len r ≤ length bytes → snapshot_of r (bytes ++ more) ≡ snapshot_of r bytes
snapshot_more r bytes more there = slice_more bytes more (26 + r.plen) (record_len r) (omega arith) there

-- a record begins all bytes that go on
pub whole_more : (size : ℕ) (r : LogRec) (used : ℕ) (bytes more : List ℕ) → IsWhole size r used bytes → IsWhole size r used (bytes ++ more)
whole_more size r used bytes more whole =
    let len = whole.len in
    let there = whole.there in
    let within : record_len r ≤ length bytes = omega arith in
    record {
      len = whole.len;
      there = (let long = length-append bytes more in omega arith);
      is =
          subst (λ (p : List ℕ). LogRecord size r p (snapshot_of r (bytes ++ more)) (take used (bytes ++ more))) (sym (parity_more r bytes more within))
          (subst (λ (s : List ℕ). LogRecord size r (parity_of r bytes) s (take used (bytes ++ more))) (sym (snapshot_more r bytes more within))
          (subst (λ (x : List ℕ). LogRecord size r (parity_of r bytes) (snapshot_of r bytes) x) (sym (take-append-le used bytes more there)) whole.is));
    }

there_more : (size : ℕ) (r : LogRec) (bytes more : List ℕ) → IsThere size r bytes → IsThere size r (bytes ++ more)
there_more size r bytes more is =
    let there = is.there in
    let long = length-append bytes more in
    record { begins = begins_more size r bytes more (omega arith) is.begins; there = omega arith }

-- what is refused is refused whatever follows it
pub bad_more : (size at : ℕ) (bytes more : List ℕ) → ReadsAs size bytes (Bad at) → ReadsAs size (bytes ++ more) (Bad at)
bad_more size at bytes more (inl bad) = inl (record {
  long = (let all = bad.long in let sum = length-append bytes more in omega arith);
  none = λ r begins. bad.none r (begins_less size r bytes more bad.long begins);
  place = bad.place;
})
bad_more size at bytes more (inr (inl bad)) = inr (inl (record {
  rec = bad.rec;
  there = there_more size bad.rec bytes more bad.there;
  inner = bad.inner;
  refused = subst (λ (l : List ℕ). IsRefused size l bad.inner) (sym (parity_more bad.rec bytes more bad.there.there)) bad.refused;
  place = bad.place;
}))
bad_more size at bytes more (inr (inr bad)) = inr (inr (record {
  rec = bad.rec;
  there = there_more size bad.rec bytes more bad.there;
  marked = bad.marked;
  inner = bad.inner;
  right = subst (λ (l : List ℕ). IsCode size l) (sym (parity_more bad.rec bytes more bad.there.there)) bad.right;
  refused = subst (λ (l : List ℕ). IsRefused size l bad.inner) (sym (snapshot_more bad.rec bytes more bad.there.there)) bad.refused;
  place = bad.place;
}))

-- so no record begins them
none_bad : (size at : ℕ) (bytes more : List ℕ) → size < 2 ^ 15 → ReadsAs size bytes (Bad at) → IsFront size (bytes ++ more) None
none_bad size at bytes more small bad r parity snapshot first rest is parts =
    let other = read_again size r parity snapshot first rest (Bad at) small is (subst (λ (l : List ℕ). ReadsAs size l (Bad at)) parts (bad_more size at bytes more bad)) in
    cc

none_short : (size : ℕ) (bytes : List ℕ) → size < 2 ^ 15 → IsShort size bytes → IsFront size bytes None
none_short size bytes small short r parity snapshot first rest is parts =
    let other = read_again size r parity snapshot first rest Short small is (subst (λ (l : List ℕ). ReadsAs size l Short) parts short) in
    cc

-- the second code isn't longer than the longest
pub snapshot_most : (size : ℕ) (snap : Bool) (len : ℕ) → SnapshotLength size snap len → len ≤ size + 7
snapshot_most size true len is = is.1
snapshot_most size false len is = let none : len ≡ 0 = is in omega arith

-- where there is room for the longest record, its bytes aren't too few
short_most : (size : ℕ) (bytes : List ℕ) → greatest_record size ≤ length bytes → IsShort size bytes → ⊥
short_most size bytes long (inl few) = omega arith
short_most size bytes long (inr (r, begins, few)) =
    let parity = begins.ranges.parity.1 in
    let snapshot = snapshot_most size r.snap r.slen begins.ranges.snapshot in
    omega arith

pub length_in_buffer : (w : Window) → length (in_buffer w) ≡ w.to - w.from
length_in_buffer w =
    let ordered = w.ordered in
    let within = w.within in
    let all = w.buf.ok.0 in
    length-take (w.to - w.from) (drop w.from w.buf.items) ∙ (let len = length-drop w.from w.buf.items in omega arith)

-- the bytes in the buffer begin those ahead
pub buffer_front : (r : RingPlace) (w : Window) (bytes : List ℕ) (disks : Disks) → IsLoaded r w disks → IsAhead r w bytes disks
    → bytes ≡ in_buffer w ++ drop (length (in_buffer w)) bytes
buffer_front r w bytes disks loaded ahead =
    let len = length_in_buffer w in
    let before = w.before_end in
    let long = ahead.long in
    ring_front r w.at (in_buffer w) bytes disks loaded ahead.there (omega arith)

-- the record that begins the bytes in the buffer begins those ahead
pub found_whole : (size : ℕ) (rec : LogRec) (used : ℕ) (r : RingPlace) (w : Window) (bytes : List ℕ) (disks : Disks) → IsWhole size rec used (in_buffer w)
    → IsLoaded r w disks → IsAhead r w bytes disks → IsWhole size rec used bytes
found_whole size rec used r w bytes disks whole loaded ahead =
    subst (λ (l : List ℕ). IsWhole size rec used l) (sym (buffer_front r w bytes disks loaded ahead))
    (whole_more size rec used (in_buffer w) (drop (length (in_buffer w)) bytes) whole)

-- where they are refused, no record begins those ahead
pub found_bad : (size at : ℕ) (r : RingPlace) (w : Window) (bytes : List ℕ) (disks : Disks) → size ≤ 4096 → ReadsAs size (in_buffer w) (Bad at)
    → IsLoaded r w disks → IsAhead r w bytes disks → IsFront size bytes None
found_bad size at r w bytes disks small bad loaded ahead =
    subst (λ (l : List ℕ). IsFront size l None) (sym (buffer_front r w bytes disks loaded ahead))
    (none_bad size at (in_buffer w) (drop (length (in_buffer w)) bytes) (omega arith) bad)

-- nor does one where they are too few and all that there are
pub found_end : (size : ℕ) (r : RingPlace) (w : Window) (bytes : List ℕ) (disks : Disks) → size ≤ 4096 → IsShort size (in_buffer w) → w.at + (w.to - w.from) ≡ w.end
    → IsLoaded r w disks → IsAhead r w bytes disks → IsFront size bytes None
found_end size r w bytes disks small short all loaded ahead =
    let len = length_in_buffer w in
    let long = ahead.long in
    let same : bytes ≡ in_buffer w =
    buffer_front r w bytes disks loaded ahead ∙ ap (λ (l : List ℕ). in_buffer w ++ l) (drop_all (length (in_buffer w)) bytes (omega arith)) ∙ append-nil (in_buffer w) in
    subst (λ (l : List ℕ). IsFront size l None) (sym same) (none_short size (in_buffer w) (omega arith) short)

-- nor does one where they are too few though the buffer is full
pub found_short : (size : ℕ) (r : RingPlace) (w : Window) (bytes : List ℕ) (disks : Disks) → size ≤ 4096 → HasBuffer size w → IsShort size (in_buffer w)
    → w.to - w.from ≡ min (w.end - w.at) (vec_len w.buf) → IsLoaded r w disks → IsAhead r w bytes disks → IsFront size bytes None
found_short size r w bytes disks small room short full loaded ahead =
    let len = length_in_buffer w in
    let long = ahead.long in
    let before = w.before_end in
    ⊎_elim
    (λ (part : w.at + (w.to - w.from) < w.end). absurd (short_most size (in_buffer w) (omega arith) short))
    (λ (all : w.end ≤ w.at + (w.to - w.from)). found_end size r w bytes disks small short (omega arith) loaded ahead)
    (cases_lt (w.at + (w.to - w.from)) w.end)

-- the same bytes are ahead of two windows of one place
pub ahead_again : (r : RingPlace) (old new : Window) (bytes : List ℕ) (disks : Disks) → SamePlace old new → IsAhead r old bytes disks → IsAhead r new bytes disks
ahead_again r old new bytes disks same ahead = record {
  long = (let at = same.at in let end = same.end in let long = ahead.long in omega arith);
  there = subst (λ (n : ℕ). RingHas r n bytes disks) (sym same.at) ahead.there;
}

-- and both have room
pub room_again : (size : ℕ) (old new : Window) → SamePlace old new → HasBuffer size old → HasBuffer size new
room_again size old new same room = let at = same.at in let end = same.end in let len = same.room in omega arith

-- a record that stands whole isn't too short
pub held_not_short : (size : ℕ) (w : Window) → size ≤ 4096 → IsWholeRecord size w → IsShort size (in_buffer w) → ⊥
held_not_short size w small held short =
    let other = one_reading size (in_buffer w) (Whole held.rec held.len) Short (omega arith) held.whole short in
    cc
