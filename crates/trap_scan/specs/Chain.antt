-- The records of a history, one after the other.
use Rattle.std.specs.Prelude.{◌≡◌, ◌⊎◌, ℕ, zero, suc, ◌+◌, ◌<◌, ◌≤◌, List, [], ◌++◌, length}
use Rattle.trap_model.specs.LogRecord.{LogRecord}
use Rattle.trap_model.specs.declared.log_record.LogRec.{LogRec}

-- what the records are of: blocks of a size, a volume of that many, and the time of the last entry
pub record History : Type 0 where
  pub size : ℕ
  pub volume : ℕ
  pub last_time : ℕ

-- A record that may follow the entry with this number and time begins the bytes, and the rest
-- stands after it. `more` further ones are to come: where none is, nothing stands after it, and its
-- time is that of the last entry.
pub record Follows (history : History) (seq time more : ℕ) (bytes : List ℕ) (r : LogRec)
    (rest : List ℕ) : Type 0 where
  pub parity : List ℕ
  pub snapshot : List ℕ
  pub first : List ℕ
  pub is : LogRecord history.size r parity snapshot first
  pub parts : bytes ≡ first ++ rest
  pub number : r.seq ≡ seq + 1
  pub block : r.block < history.volume
  pub later : time ≤ r.time
  pub ends : more ≡ 0 → (rest ≡ []) × (r.time ≡ history.last_time)

-- The bytes are that many records, the first of them after the entry with this number and time. Of
-- no records nothing is asked.
abbrev pub AreRecords : History → ℕ → ℕ → ℕ → List ℕ → Type 0
AreRecords history seq time zero bytes = Unit {0}
AreRecords history seq time (suc more) bytes =
    (r : LogRec) × (rest : List ℕ) × Follows history seq time more bytes r rest
    × AreRecords history r.seq r.time more rest

-- that many records are expected, and the first that isn't right begins that many bytes on
abbrev pub IsBroken : History → ℕ → ℕ → ℕ → List ℕ → ℕ → Type 0
IsBroken history seq time zero bytes at = ⊥
IsBroken history seq time (suc more) bytes at =
    ((at ≡ 0) × ((r : LogRec) (rest : List ℕ) → Follows history seq time more bytes r rest → ⊥))
    ⊎ ((r : LogRec) × (rest : List ℕ) × (after : ℕ) × Follows history seq time more bytes r rest
    × (at + length rest ≡ after + length bytes) × IsBroken history r.seq r.time more rest after)
