-- The records of a log: a header, and one code or two after it.
use Rattle.std.specs.Prelude.{◌≡◌, ℕ, ◌+◌, ◌^◌, ◌<◌, ◌≤◌, List, [], ◌∷◌, ◌++◌, length, Bool, true}
use Rattle.std.specs.Prelude.{false}
use Rattle.std.specs.Int.{w16, w32, w64, to_be_bytes}
use Rattle.trap_model.specs.ZeroRun.{IsCode}
use Rattle.trap_model.specs.declared.log_record.LogRec.{LogRec}

abbrev pub flag : Bool → ℕ
flag true = 1
flag false = 0

-- kind 1, the flag, and the five numbers: `record_header_len` bytes
abbrev pub header : LogRec → List ℕ
header r = 1 ∷ flag r.snap ∷ to_be_bytes w64 r.seq ++ to_be_bytes w64 r.time
    ++ to_be_bytes w32 r.block ++ to_be_bytes w16 r.plen ++ to_be_bytes w16 r.slen

-- the length of the second code, over blocks of that size
abbrev pub SnapshotLength : ℕ → Bool → ℕ → Type 0
SnapshotLength size true len = (4 ≤ len) × (len ≤ size + 7)
SnapshotLength size false len = len ≡ 0

-- each field is in its range
pub record IsRecordInRange (size : ℕ) (r : LogRec) : Type 0 where
  pub first : 1 ≤ r.seq
  pub last : r.seq ≤ 2 ^ 40
  pub time : r.time < 2 ^ 64
  pub block : r.block < 2 ^ 32
  pub parity : (4 ≤ r.plen) × (r.plen ≤ size + 7)
  pub snapshot : SnapshotLength size r.snap r.slen

-- a code where the flag is set, and nothing otherwise
abbrev pub IsSnapshot : ℕ → Bool → List ℕ → Type 0
IsSnapshot size true bytes = IsCode size bytes
IsSnapshot size false bytes = bytes ≡ []

-- the bytes are the record of these codes
pub record LogRecord (size : ℕ) (r : LogRec) (parity snapshot bytes : List ℕ) : Type 0 where
  pub ranges : IsRecordInRange size r
  pub parity_len : r.plen ≡ length parity
  pub snapshot_len : r.slen ≡ length snapshot
  pub parity_code : IsCode size parity
  pub snapshot_code : IsSnapshot size r.snap snapshot
  pub spelled : bytes ≡ header r ++ (parity ++ snapshot)
