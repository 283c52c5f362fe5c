-- The bytes of a ring up to an offset, a first part of which stands in a buffer.
use Rattle.std.specs.Prelude.{◌≡◌, ℕ, ◌+◌, ◌-◌, ◌≤◌, List, [], ◌++◌, length, min, take, drop}
use Rattle.std.specs.Prelude.{vec_len, Option, Some, None}
use Rattle.trap_bank.specs.Disks.{Disks}
use Rattle.trap_model.specs.Limits.{greatest_record}
use Rattle.trap_model.specs.LogRecord.{IsRecordInRange, LogRecord}
use Rattle.trap_model.specs.declared.log_record.LogRec.{LogRec}
use Rattle.trap_record.specs.Reading.{IsWhole}
use Rattle.trap_ring.specs.Ring.{RingPlace, RingHas}
use Rattle.trap_scan.specs.declared.window.Window.{Window}
use Rattle.trap_scan.specs.declared.window.Front.{Front}

-- these are the ring's bytes from one offset up to another
pub record IsWindow (r : RingPlace) (from to : ℕ) (bytes : List ℕ) (disks : Disks) : Type 0 where
  pub long : from + length bytes ≡ to
  pub there : RingHas r from bytes disks

-- the bytes that stand in the buffer
abbrev pub in_buffer : Window → List ℕ
in_buffer w = take (w.to - w.from) (drop w.from w.buf.items)

-- the bytes from one offset up to another, none of them in the buffer
pub record IsBegun (first last len : ℕ) (w : Window) : Type 0 where
  pub at : w.at ≡ first
  pub end : w.end ≡ last
  pub room : vec_len w.buf ≡ len
  pub none : in_buffer w ≡ []

-- the same bytes are ahead, and the buffer has the same room
pub record SamePlace (old new : Window) : Type 0 where
  pub at : new.at ≡ old.at
  pub end : new.end ≡ old.end
  pub room : vec_len new.buf ≡ vec_len old.buf

-- that many bytes were passed over
pub record PassesOver (len : ℕ) (old new : Window) : Type 0 where
  pub at : new.at ≡ old.at + len
  pub end : new.end ≡ old.end
  pub room : vec_len new.buf ≡ vec_len old.buf
  pub in_buffer : in_buffer new ≡ drop len (in_buffer old)

-- the bytes in the buffer are the ring's
abbrev pub IsLoaded : RingPlace → Window → Disks → Type 0
IsLoaded r w disks = RingHas r w.at (in_buffer w) disks

-- the buffer has room for the longest record, or for all bytes
abbrev pub HasBuffer : ℕ → Window → Type 0
HasBuffer size w = min (greatest_record size) (w.end - w.at) ≤ vec_len w.buf

-- these bytes are ahead
abbrev pub IsAhead : RingPlace → Window → List ℕ → Disks → Type 0
IsAhead r w bytes disks = IsWindow r w.at w.end bytes disks

-- the record that begins the bytes, or that none does
abbrev pub IsFront : ℕ → List ℕ → Option Front → Type 0
IsFront size bytes None =
    (r : LogRec) (parity snapshot first rest : List ℕ) → LogRecord size r parity snapshot first
    → bytes ≡ first ++ rest → ⊥
IsFront size bytes (Some front) = IsWhole size front.rec front.len bytes

-- where a record was found, all its bytes stand in the buffer
abbrev pub IsInBuffer : Window → Option Front → Type 0
IsInBuffer w None = Unit {0}
IsInBuffer w (Some front) = front.len ≤ w.to - w.from

-- where a record was found, its numbers are in their ranges
abbrev pub HasRanges : ℕ → Option Front → Type 0
HasRanges size None = Unit {0}
HasRanges size (Some front) = IsRecordInRange size front.rec

-- a record stands whole at the front of the buffer
pub record IsWholeRecord (size : ℕ) (w : Window) : Type 0 where
  pub rec : LogRec
  pub len : ℕ
  pub whole : IsWhole size rec len (in_buffer w)
