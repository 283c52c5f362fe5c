-- The records that mounting reads, and the index of them.
use Rattle.std.specs.Prelude.{◌≡◌, ℕ, ◌+◌, ◌-◌, ◌^◌, ◌<◌, ◌≤◌, List, [], ◌∷◌, ◌++◌, IsTrue}
use Rattle.trap_bank.specs.Disks.{View}
use Rattle.trap_format.specs.declared.head.Head.{Head}
use Rattle.trap_index.specs.Indexed.{Indexed, nothing_indexed, last_seq, last_record_time}
use Rattle.trap_model.specs.Image.{volume}
use Rattle.trap_model.specs.LogRecord.{LogRecord}
use Rattle.trap_model.specs.declared.log_record.LogRec.{LogRec}
use Rattle.trap_model.specs.declared.numbers.Geometry.{Geometry}
use Rattle.trap_ring.specs.Ring.{RingPlace}
use Rattle.trap_scan.specs.Scan.{AreExpected, AreAhead, IsAtFirst}
use Rattle.trap_scan.specs.Window.{IsWindow, IsAhead, IsLoaded}
use Rattle.trap_scan.specs.declared.expected.Expected.{Expected}
use Rattle.trap_scan.specs.declared.scan.Scan.{Scan}
use Rattle.trap_mount.specs.Holding.{log_ring}
use Rattle.trap_mount.specs.OnDisks.{HasSlots, HasRecords}

-- the record begins the bytes, and the rest follows it
pub record Begins (size : ℕ) (bytes : List ℕ) (r : LogRec) (rest : List ℕ) : Type 0 where
  pub parity : List ℕ
  pub snapshot : List ℕ
  pub first : List ℕ
  pub is : LogRecord size r parity snapshot first
  pub parts : bytes ≡ first ++ rest

-- the records begin the bytes, one after the other
abbrev pub AreRecordsRead : ℕ → List LogRec → List ℕ → Type 0
AreRecordsRead size [] bytes = Unit {0}
AreRecordsRead size (r ∷ later) bytes = (rest : List ℕ) × Begins size bytes r rest
    × AreRecordsRead size later rest

-- an index without records, of an array whose records are expected: it has room for them
pub record Awaits (e : Expected) (index : Indexed) : Type 0 where
  pub none : index ≡ nothing_indexed index.g e.first e.base_time e.first_off
  pub size : e.size ≡ index.g.block
  pub volume_ : e.volume ≡ volume index.g
  pub room : e.last ≤ e.first + index.g.entries
  pub last_most : e.last ≤ 2 ^ 40

-- such records may stand in the ring
pub record MayExpect (r : RingPlace) (e : Expected) : Type 0 where
  pub empty : e.first ≡ e.last → e.base_time ≡ e.last_time
  pub order : e.first ≤ e.last
  pub offsets : e.first_off ≤ e.end_off
  pub room : e.end_off - e.first_off ≤ r.len

-- some records are to follow, the scan has taken none of them, and the index has none
pub record IsAtStart (r : RingPlace) (s : Scan) (index : Indexed) (v : View) : Type 0 where
  pub first : IsAtFirst s.expected s
  pub awaits : Awaits s.expected index
  pub more : s.seq < s.expected.last
  pub loaded : IsTrue v.tells → IsLoaded r s.window v.now.disks

-- the index has the records up to this number, and ends at this time
pub record HasTaken (old new : Indexed) (seq time : ℕ) : Type 0 where
  pub same : new ≡ record old { recs = new.recs }
  pub end : last_seq new ≡ seq
  pub time_ : last_record_time new ≡ time

-- All records that are expected in the ring stand there, and were added to the index.
pub record ReadsRecords (r : RingPlace) (e : Expected) (old new : Indexed) (v : View) : Type 0 where
  pub right : IsTrue v.tells → (bytes : List ℕ)
      → IsWindow r e.first_off e.end_off bytes v.now.disks → AreExpected e bytes
  pub taken : HasTaken old new e.last e.last_time
  pub read : IsTrue v.tells → (bytes : List ℕ)
      → IsWindow r e.first_off e.end_off bytes v.now.disks
      → AreRecordsRead old.g.block new.recs bytes

-- so it is of those that are ahead of a scan
pub record ReadsAhead (r : RingPlace) (s : Scan) (old new : Indexed) (v : View) : Type 0 where
  pub right : IsTrue v.tells → (bytes : List ℕ) → IsAhead r s.window bytes v.now.disks
      → AreAhead s bytes
  pub taken : HasTaken old new s.expected.last s.expected.last_time
  pub read : IsTrue v.tells → (bytes : List ℕ) → IsAhead r s.window bytes v.now.disks
      → AreRecordsRead old.g.block new.recs bytes

-- the index is that of the head's records, which were read
pub record ReadsIndex (g : Geometry) (h : Head) (index : Indexed) (old : View) : Type 0 where
  pub of : index.g ≡ g
  pub first : index.first ≡ h.first
  pub base_time : index.base_time ≡ h.base_time
  pub offset : index.first_off ≡ h.first_off
  pub end : last_seq index ≡ h.last
  pub time : last_record_time index ≡ h.last_time
  pub read : IsTrue old.tells → (bytes : List ℕ)
      → IsWindow (log_ring g) h.first_off h.end_off bytes old.now.disks
      → AreRecordsRead g.block index.recs bytes

-- the records of the head's entries were read: the index is theirs, and where the slots are right
-- the disks have them
pub record ReadsHistory (g : Geometry) (h : Head) (index : Indexed) (old : View) : Type 0 where
  pub known : ReadsIndex g h index old
  pub records : IsTrue old.tells → HasSlots g h old.now.disks → HasRecords g h old.now.disks
