-- What stands at the front of a list of bytes: a record, the beginning of one, or neither.
use Rattle.std.specs.Prelude.{◌≡◌, ◌⊎◌, ℕ, ◌+◌, ◌<◌, ◌≤◌, List, ◌++◌, length, take, drop}
use Rattle.std.specs.Prelude.{slice_range, true}
use Rattle.trap_model.specs.declared.log_record.LogRec.{LogRec}
use Rattle.trap_model.specs.Limits.{record_header_len}
use Rattle.trap_model.specs.ZeroRun.{IsCode, IsRefused}
use Rattle.trap_model.specs.LogRecord.{header, IsRecordInRange, LogRecord}
use Rattle.trap_record.specs.declared.reader.ReadRec.{ReadRec}
use Rattle.trap_record.specs.declared.reader.ReadRec.TheVariants.{Whole, Short, Bad}

-- a header that keeps the ranges begins the bytes
pub record BeginsWith (size : ℕ) (r : LogRec) (bytes : List ℕ) : Type 0 where
  pub ranges : IsRecordInRange size r
  pub spelled : bytes ≡ header r ++ drop record_header_len bytes

-- how long the record of a header is
abbrev pub record_len : LogRec → ℕ
record_len r = record_header_len + r.plen + r.slen

-- the bytes of the first code, and of the second one
abbrev pub parity_of : LogRec → List ℕ → List ℕ
parity_of r bytes = slice_range bytes record_header_len (record_header_len + r.plen)

abbrev pub snapshot_of : LogRec → List ℕ → List ℕ
snapshot_of r bytes = slice_range bytes (record_header_len + r.plen) (record_len r)

-- all bytes that the header names are there
pub record IsThere (size : ℕ) (r : LogRec) (bytes : List ℕ) : Type 0 where
  pub begins : BeginsWith size r bytes
  pub there : record_len r ≤ length bytes

-- a record begins the bytes, and is that long
pub record IsWhole (size : ℕ) (r : LogRec) (used : ℕ) (bytes : List ℕ) : Type 0 where
  pub len : used ≡ record_len r
  pub there : used ≤ length bytes
  pub is : LogRecord size r (parity_of r bytes) (snapshot_of r bytes) (take used bytes)

-- fewer bytes are there than a header, or than the header names
abbrev pub IsShort : ℕ → List ℕ → Type 0
IsShort size bytes =
    (length bytes < record_header_len)
    ⊎ ((r : LogRec) × BeginsWith size r bytes × (length bytes < record_len r))

-- enough bytes for a header, and none that keeps the ranges begins them
pub record IsBadHeader (size : ℕ) (bytes : List ℕ) (at : ℕ) : Type 0 where
  pub long : record_header_len ≤ length bytes
  pub none : (r : LogRec) → ¬ BeginsWith size r bytes
  pub place : at ≡ 0

-- the first code is refused
pub record IsBadParity (size : ℕ) (bytes : List ℕ) (at : ℕ) : Type 0 where
  pub rec : LogRec
  pub there : IsThere size rec bytes
  pub inner : ℕ
  pub refused : IsRefused size (parity_of rec bytes) inner
  pub place : at ≡ record_header_len + inner

-- the first code is right and the second one is refused
pub record IsBadSnapshot (size : ℕ) (bytes : List ℕ) (at : ℕ) : Type 0 where
  pub rec : LogRec
  pub there : IsThere size rec bytes
  pub marked : rec.snap ≡ true
  pub inner : ℕ
  pub right : IsCode size (parity_of rec bytes)
  pub refused : IsRefused size (snapshot_of rec bytes) inner
  pub place : at ≡ record_header_len + rec.plen + inner

-- what reading the bytes answers, over blocks of that size
abbrev pub ReadsAs : ℕ → List ℕ → ReadRec → Type 0
ReadsAs size bytes (Whole rec used) = IsWhole size rec used bytes
ReadsAs size bytes Short = IsShort size bytes
ReadsAs size bytes (Bad at) =
    IsBadHeader size bytes at ⊎ (IsBadParity size bytes at ⊎ IsBadSnapshot size bytes at)
