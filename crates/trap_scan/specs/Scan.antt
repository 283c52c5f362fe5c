-- What a scan has taken, and what it takes next.
use Rattle.std.specs.Prelude.{◌≡◌, ℕ, ◌+◌, ◌-◌, ◌<◌, ◌≤◌, List, []}
use Rattle.trap_bank.specs.Disks.{Disks}
use Rattle.trap_model.specs.declared.log_record.LogRec.{LogRec}
use Rattle.trap_model.specs.LogRecord.{IsRecordInRange}
use Rattle.trap_ring.specs.Ring.{RingPlace}
use Rattle.trap_scan.specs.declared.expected.Expected.{Expected}
use Rattle.trap_scan.specs.declared.scan.Scan.{Scan}
use Rattle.trap_scan.specs.declared.window.Front.{Front}
use Rattle.trap_scan.specs.Chain.{History, Follows, AreRecords, IsBroken}
use Rattle.trap_scan.specs.Window.{in_buffer, IsAhead, PassesOver}

-- what the records are of
abbrev pub history_of : Expected → History
history_of e = record { size = e.size; volume = e.volume; last_time = e.last_time }

-- the bytes are the records that are expected
abbrev pub AreExpected : Expected → List ℕ → Type 0
AreExpected e bytes = AreRecords (history_of e) e.first e.base_time (e.last - e.first) bytes

-- the first of them that isn't one begins at this offset
pub record BreaksAt (e : Expected) (bytes : List ℕ) (at : ℕ) : Type 0 where
  pub least : e.first_off ≤ at
  pub broken : IsBroken (history_of e) e.first e.base_time (e.last - e.first) bytes
      (at - e.first_off)

-- nothing is taken, and nothing loaded
pub record IsAtFirst (e : Expected) (s : Scan) : Type 0 where
  pub expected : s.expected ≡ e
  pub seq : s.seq ≡ e.first
  pub time : s.time ≡ e.base_time
  pub at : s.window.at ≡ e.first_off
  pub none : in_buffer s.window ≡ []

-- how many records are to follow the next one
abbrev pub more_of : Scan → ℕ
more_of s = s.expected.last - (s.seq + 1)

-- nothing stands after the record, and its time is the last one
pub record IsLast (s : Scan) (front : Front) : Type 0 where
  pub end : s.window.at + front.len ≡ s.window.end
  pub time : front.rec.time ≡ s.expected.last_time

-- the bytes are the records that are to follow
abbrev pub AreAhead : Scan → List ℕ → Type 0
AreAhead s bytes = AreRecords (history_of s.expected) s.seq s.time (s.expected.last - s.seq) bytes

-- the first of them that isn't one begins at this offset
pub record BreaksAhead (s : Scan) (bytes : List ℕ) (at : ℕ) : Type 0 where
  pub least : s.window.at ≤ at
  pub broken : IsBroken (history_of s.expected) s.seq s.time (s.expected.last - s.seq) bytes
      (at - s.window.at)

-- the record may follow the one that was taken last
pub record MayFollow (s : Scan) (front : Front) : Type 0 where
  pub number : front.rec.seq ≡ s.seq + 1
  pub block : front.rec.block < s.expected.volume
  pub later : s.time ≤ front.rec.time
  pub ends : more_of s ≡ 0 → IsLast s front

-- the record at the front was taken
pub record TakesRecord (front : Front) (old new : Scan) : Type 0 where
  pub expected : new.expected ≡ old.expected
  pub seq : new.seq ≡ front.rec.seq
  pub time : new.time ≡ front.rec.time
  pub over : PassesOver front.len old.window new.window

-- the record is one that may follow, by its numbers
pub record IsChecked (s : Scan) (r : LogRec) : Type 0 where
  pub ranges : IsRecordInRange s.expected.size r
  pub block : r.block < s.expected.volume
  pub later : s.time ≤ r.time
  pub last : more_of s ≡ 0 → r.time ≡ s.expected.last_time

-- this record was taken, is one that may follow by its numbers, and is the next one
pub record TakesNext (old new : Scan) (r : LogRec) : Type 0 where
  pub expected : new.expected ≡ old.expected
  pub checked : IsChecked old r
  pub number : r.seq ≡ old.seq + 1
  pub seq : new.seq ≡ r.seq
  pub time : new.time ≡ r.time
  pub at : old.window.at ≤ new.window.at

-- no record was taken, and the same bytes are ahead
pub record TakesNoRecord (old new : Scan) : Type 0 where
  pub expected : new.expected ≡ old.expected
  pub seq : new.seq ≡ old.seq
  pub time : new.time ≡ old.time
  pub at : new.window.at ≡ old.window.at
  pub end : new.window.end ≡ old.window.end

-- the next record begins the bytes, and the rest stands after it
abbrev pub ComesNext : Scan → List ℕ → LogRec → List ℕ → Type 0
ComesNext s bytes r rest = Follows (history_of s.expected) s.seq s.time (more_of s) bytes r rest

-- whatever is ahead, this record comes next, and what is ahead then stands after it
abbrev pub GivesNext : RingPlace → Scan → Scan → Disks → LogRec → Type 0
GivesNext place old new disks r =
    (bytes : List ℕ) → IsAhead place old.window bytes disks
    → (rest : List ℕ) × ComesNext old bytes r rest × IsAhead place new.window rest disks

-- no record comes next, and it should begin at this offset
pub record IsDamagedRecord (place : RingPlace) (s : Scan) (disks : Disks) (at : ℕ) : Type 0 where
  pub place_is : at ≡ s.window.at
  pub none : (bytes : List ℕ) → IsAhead place s.window bytes disks → (r : LogRec) (rest : List ℕ)
      → ComesNext s bytes r rest → ⊥
