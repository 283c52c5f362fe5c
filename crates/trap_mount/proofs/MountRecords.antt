-- The index of the records that mounting reads, and what is known once the first ones are taken.
use Rattle.std.proofs.Common.{◌≡◌, ℕ, ◌+◌, ◌^◌, ◌<◌, ◌≤◌, List, [], ◌∷◌, ◌++◌, length, All, IsTrue, ap, sym, subst, refl, ◌∙◌, arith, append-nil, length-append}
use Rattle.std.proofs.lemmas.List.Elements.{All-head, All-tail}
use Rattle.std.proofs.lemmas.List.{append_assoc}
use Rattle.trap_bank.specs.Disks.{View, Disks}
use Rattle.trap_bank.specs.Steps.{OnlyReads}
use Rattle.trap_model.proofs.Adding.{time_rises}
use Rattle.trap_format.specs.declared.head.Head.{Head}
use Rattle.trap_index.specs.Indexed.{Indexed, with_record, last_seq, last_record_time}
use Rattle.trap_index.proofs.Numbered.{time_of_last-push}
use Rattle.trap_index.proofs.Added.{IsNext}
use Rattle.trap_index.specs.Describes.{Describes, headers_from}
use Rattle.trap_model.specs.Image.{volume, block_of, IsImage, written}
use Rattle.trap_model.specs.Records.{change_code, snapshot_code, rec_of, record_of, records_from, records}
use Rattle.trap_model.specs.State.{time_after, IsEntry, NeverFall}
use Rattle.trap_model.specs.declared.history.Entry.{Entry}
use Rattle.trap_model.specs.declared.history.State.{State}
use Rattle.trap_model.specs.declared.log_record.LogRec.{LogRec}
use Rattle.trap_model.specs.declared.numbers.Geometry.{Geometry}
use Rattle.trap_model.proofs.LogRecords.{LogRecord-apart, front-same}
use Rattle.trap_model.proofs.Records.{record_is_log_record, length-records}
use Rattle.trap_model.proofs.Validity.{written_is_image}
use Rattle.trap_model.specs.LogRecord.{IsRecordInRange}
use Rattle.trap_ring.specs.Ring.{RingPlace}
use Rattle.trap_scan.specs.Window.{IsWindow, IsLoaded, IsAhead}
use Rattle.trap_scan.specs.Scan.{IsAtFirst, GivesNext, TakesNext, IsChecked}
use Rattle.trap_scan.specs.declared.scan.Scan.{Scan}
use Rattle.trap_scan.specs.declared.expected.Expected.{Expected}
use Rattle.trap_scan.proofs.Chains.{Scanned, scanned_none, scanned_next}
use Rattle.trap_mount.specs.Holding.{log_ring, HoldsBy}
use Rattle.trap_mount.specs.Reading.{Begins, AreRecordsRead, Awaits, HasTaken, ReadsIndex}

cons_same : (a b : LogRec) (xs ys : List LogRec) → a ≡ b → xs ≡ ys → ◌≡◌ {A = List LogRec} (a ∷ xs) (b ∷ ys)
cons_same a b xs ys one two = cc

-- as many records as there are entries, read from the entries' bytes, are theirs
read_headers : (g : Geometry) (image : List (List ℕ)) (q time : ℕ) (entries : List Entry) (recs : List LogRec) → length recs ≡ length entries → time_after time entries < 2 ^ 64
    → IsImage g image → All (IsEntry g) entries → NeverFall time entries → q + length entries ≤ 2 ^ 40
    → AreRecordsRead g.block recs (records_from image q entries) → recs ≡ headers_from image q entries
read_headers g image q time [] [] count below is all rise most read = refl
read_headers g image q time [] (r ∷ recs) count below is all rise most read = absurd (omega arith)
read_headers g image q time (entry ∷ later) [] count below is all rise most read = absurd (omega arith)
read_headers g image q time (entry ∷ later) (r ∷ recs) count below is all rise most (rest, begins, more) =
    let fits = All-head (IsEntry g) entry later all in
    let old = block_of image entry.block in
    let high = time_rises entry.time later rise.1 in
    let small = g.within.block_most in
    let record_is = record_is_log_record g (q + 1) old entry fits (is.sized entry.block fits.block) (omega arith) (omega arith) (omega arith) in
    let after = records_from (written image entry) (q + 1) later in
    let parts : begins.first ++ rest ≡ record_of (q + 1) old entry ++ after = sym begins.parts in
    let same = LogRecord-apart g.block r (rec_of (q + 1) old entry) begins.parity (change_code old entry) begins.snapshot (snapshot_code entry) begins.first (record_of (q + 1) old entry) rest after
    (omega arith) begins.is record_is parts in
    let behind = (front-same begins.first (record_of (q + 1) old entry) rest after (ap length same.3) parts).1 in
    cons_same r (rec_of (q + 1) old entry) recs (headers_from (written image entry) (q + 1) later) same.0
    (read_headers g (written image entry) (q + 1) entry.time later recs (omega arith) below (written_is_image g image entry is fits) (All-tail (IsEntry g) entry later all) rise.1 (omega arith)
    (subst (λ (bytes : List ℕ). AreRecordsRead g.block recs bytes) behind more))

-- over disks that hold a state, the index of what was read describes it
pub read_described : (g : Geometry) (h : Head) (s : State) (index : Indexed) (v : View) → HoldsBy g h s v.now.disks → ReadsIndex g h index v → IsTrue v.tells → Describes index s
read_described g h s index v by known told =
    let valid = by.fits.valid in
    let is = by.fits.head in
    let first = known.first in
    let end = known.end in
    let count : length index.recs ≡ length s.entries = omega (arith, is.first, is.last) in
    let long = length-records s in
    let window : IsWindow (log_ring g) h.first_off h.end_off (records s) v.now.disks = record { long = omega (arith, is.window); there = by.fits.ring } in
    record {
      first = known.first ∙ is.first;
      base_time = known.base_time ∙ is.base_time;
      recs = read_headers g s.base s.first s.base_time s.entries index.recs count (omega (arith, is.last_time, is.head.time_fits)) valid.base valid.entries valid.times valid.last_most
          (known.read told (records s) window);
    }

-- From what is ahead of one scan, the bytes ahead of a later one follow these records.
pub record ReadsTo (place : RingPlace) (disks : Disks) (new : Scan) (size : ℕ) (recs : List LogRec) (bytes : List ℕ) : Type 0 where
  pub rest : List ℕ
  pub ahead : IsAhead place new.window rest disks
  pub before : (more : List LogRec) → AreRecordsRead size more rest → AreRecordsRead size (recs ++ more) bytes

-- some records were taken, and the index has them
pub record Taken (place : RingPlace) (a b : View) (old new : Scan) (before after : Indexed) : Type 0 where
  pub scanned : Scanned place a b old new
  pub same : after ≡ record before { recs = after.recs }
  pub end : last_seq after ≡ new.seq
  pub time : last_record_time after ≡ new.time
  pub last : new.expected.last ≤ new.seq → last_record_time after ≡ new.expected.last_time
  pub read : IsTrue a.tells → (bytes : List ℕ) → IsAhead place old.window bytes a.now.disks
      → ReadsTo place a.now.disks new before.g.block after.recs bytes

-- none yet
pub taken_none : (place : RingPlace) (v : View) (s : Scan) (i : Indexed) → IsAtFirst s.expected s → Awaits s.expected i → s.seq < s.expected.last
    → (IsTrue v.tells → IsLoaded place s.window v.now.disks) → Taken place v v s s i i
taken_none place v s i first awaits more loaded =
    let none : i.recs ≡ [] = ap (λ (k : Indexed). k.recs) awaits.none in
    let from : i.first ≡ s.expected.first = ap (λ (k : Indexed). k.first) awaits.none in
    let at : i.base_time ≡ s.expected.base_time = ap (λ (k : Indexed). k.base_time) awaits.none in
    let empty : length i.recs ≡ 0 = ap (λ (l : List LogRec). length l) none in
    record {
      scanned = scanned_none place v s loaded;
      same = refl;
      end = omega (arith, first.seq);
      time = ap last_record_time awaits.none ∙ sym first.time;
      last = λ done. absurd (omega arith);
      read = λ told bytes ahead. record {
        rest = bytes;
        ahead = ahead;
        before = λ records is. subst (λ (l : List LogRec). AreRecordsRead i.g.block (l ++ records) bytes) (sym none) is;
      };
    }

-- the next record may be added
pub taken_may : (place : RingPlace) (a b : View) (old mid new : Scan) (i j : Indexed) (r : LogRec) → Awaits old.expected i → Taken place a b old mid i j
    → mid.seq < mid.expected.last → TakesNext mid new r → IsChecked mid r → IsNext j r
taken_may place a b old mid new i j r awaits taken more takes checked =
    let expected = taken.scanned.expected in
    let first_same = ap (λ (k : Indexed). k.first) taken.same in
    let from = ap (λ (k : Indexed). k.first) awaits.none in
    let entries = ap (λ (k : Indexed). k.g.entries) taken.same in
    let last = ap (λ (e : Expected). e.last) expected in
    let volume_of = ap (λ (e : Expected). e.volume) expected in
    let size_of = ap (λ (e : Expected). e.size) expected in
    record {
      few = omega (arith, taken.end, awaits.room);
      number = omega (arith, takes.number, taken.end);
      time = omega (arith, taken.time, checked.later);
      block = subst (λ (n : ℕ). r.block < n) (volume_of ∙ awaits.volume_ ∙ ap (λ (k : Indexed). volume k.g) (sym taken.same)) checked.block;
      ranges = subst (λ (n : ℕ). IsRecordInRange n r) (size_of ∙ awaits.size ∙ ap (λ (k : Indexed). k.g.block) (sym taken.same)) checked.ranges;
    }

-- one more is taken, and added
pub taken_next : (place : RingPlace) (a b c : View) (old mid new : Scan) (i j k : Indexed) (r : LogRec) → Awaits old.expected i → Taken place a b old mid i j
    → mid.seq < mid.expected.last → OnlyReads b c → new.expected ≡ mid.expected → TakesNext mid new r → IsChecked mid r
    → (IsTrue b.tells → IsLoaded place new.window b.now.disks) → (IsTrue b.tells → GivesNext place mid new b.now.disks r) → k ≡ with_record j r
    → Taken place a c old new i k
taken_next place a b c old mid new i j k r awaits taken more looks expected takes checked loaded gives known = record {
  scanned = scanned_next place a b c old mid new r taken.scanned more looks expected takes loaded gives;
  same = added_same i j k r known taken.same;
  end = ap last_seq known ∙ (let long = length-append j.recs (r ∷ []) in omega (arith, taken.end, takes.number, takes.seq));
  time = now ∙ sym takes.time;
  last = λ done. now ∙ checked.last (let same = ap (λ (e : Expected). e.last) expected in omega (arith, takes.number, takes.seq)) ∙ sym (ap (λ (e : Expected). e.last_time) expected);
  read = λ told bytes ahead. reached told bytes (taken.read told bytes ahead);
}
  where
    now : last_record_time k ≡ r.time
    now = ap last_record_time known ∙ time_of_last-push j.base_time j.recs r

    added_same : (i j k : Indexed) (r : LogRec) → k ≡ with_record j r → j ≡ record i { recs = j.recs } → k ≡ record i { recs = k.recs }
    added_same i j k r one two = cc

    reached : IsTrue a.tells → (bytes : List ℕ) → ReadsTo place a.now.disks mid i.g.block j.recs bytes → ReadsTo place a.now.disks new i.g.block k.recs bytes
    reached told bytes reads =
        let same : b.now.disks ≡ a.now.disks = ap (λ n. n.disks) (taken.scanned.looks.same told) in
        let tells : IsTrue b.tells = subst IsTrue (sym taken.scanned.looks.moves.tells) told in
        let next = gives tells reads.rest (subst (λ (d : Disks). IsAhead place mid.window reads.rest d) (sym same) reads.ahead) in
        let size : mid.expected.size ≡ i.g.block = ap (λ (e : Expected). e.size) taken.scanned.expected ∙ awaits.size in
        let begins : Begins i.g.block reads.rest r next.0 = subst (λ (n : ℕ). Begins n reads.rest r next.0) size
        (record { parity = next.1.parity; snapshot = next.1.snapshot; first = next.1.first; is = next.1.is; parts = next.1.parts }) in
        record {
          rest = next.0;
          ahead = subst (λ (d : Disks). IsAhead place new.window next.0 d) same next.2;
          before = λ records is.
              let P : List LogRec → Type 0 = λ (l : List LogRec). AreRecordsRead i.g.block (l ++ records) bytes in
              subst P (sym (ap (λ (n : Indexed). n.recs) known))
              (subst (λ (l : List LogRec). AreRecordsRead i.g.block l bytes) (sym (append_assoc j.recs (r ∷ []) records)) (reads.before (r ∷ records) (next.0, begins, is)));
        }

-- all are taken, and the index ends where they do
pub has_taken : (place : RingPlace) (a b : View) (old new : Scan) (i j : Indexed) → Taken place a b old new i j → new.expected.last ≤ new.seq → HasTaken i j old.expected.last old.expected.last_time
has_taken place a b old new i j taken done =
    let expected = taken.scanned.expected in
    record {
      same = taken.same;
      end = taken.end ∙ ends new.seq new.expected.last old.expected.last (ap (λ (e : Expected). e.last) expected) done new.numbered;
      time_ = taken.last done ∙ ap (λ (e : Expected). e.last_time) expected;
    }
  where
    ends : (seq last_ before : ℕ) → last_ ≡ before → last_ ≤ seq → seq ≤ last_ → seq ≡ before
    ends seq last_ before same low high = omega (arith, same, low, high)

-- and their records are read
pub all_read : (place : RingPlace) (disks : Disks) (new : Scan) (size : ℕ) (recs : List LogRec) (bytes : List ℕ) → ReadsTo place disks new size recs bytes → AreRecordsRead size recs bytes
all_read place disks new size recs bytes reads = subst (λ (l : List LogRec). AreRecordsRead size l bytes) (append-nil recs) (reads.before [] tt)
