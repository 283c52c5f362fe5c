-- The log's records of the retained entries, as bytes.
use Rattle.std.specs.Prelude.{ℕ, ◌+◌, ◌-◌, List, [], ◌∷◌, ◌++◌, length, get_or, false}
use Rattle.std.specs.Prelude.{if◌then◌else◌}
use Rattle.trap_block.specs.Xor.{xor}
use Rattle.trap_model.specs.declared.history.Entry.{Entry}
use Rattle.trap_model.specs.declared.history.State.{State}
use Rattle.trap_model.specs.declared.log_record.LogRec.{LogRec}
use Rattle.trap_model.specs.Image.{block_of, written}
use Rattle.trap_model.specs.LogRecord.{header}
use Rattle.trap_model.specs.Size.{code_of}
use Rattle.trap_model.specs.State.{last, image}

-- what stands for an entry where there is none
abbrev pub no_entry : Entry
no_entry = record { time = 0; block = 0; bytes = []; snap = false }

-- entry number q, for first < q ≤ last
abbrev pub entry_at : State → ℕ → Entry
entry_at s q = get_or s.entries (q - (s.first + 1)) no_entry

-- the code of what an entry changed, over its block's contents before
abbrev pub change_code : List ℕ → Entry → List ℕ
change_code old entry = code_of (xor old entry.bytes)

-- the code of a marked entry's contents
abbrev pub snapshot_code : Entry → List ℕ
snapshot_code entry = if entry.snap then code_of entry.bytes else []

-- the numbers in the header of the record of entry number q
abbrev pub rec_of : ℕ → List ℕ → Entry → LogRec
rec_of q old entry = record {
  snap = entry.snap;
  seq = q;
  time = entry.time;
  block = entry.block;
  plen = length (change_code old entry);
  slen = length (snapshot_code entry);
}

-- the record of entry number q
abbrev pub record_of : ℕ → List ℕ → Entry → List ℕ
record_of q old entry = header (rec_of q old entry)
    ++ (change_code old entry ++ snapshot_code entry)

-- the records of these entries one after the other, the first of them over this image and with the
-- number after q
abbrev pub records_from : List (List ℕ) → ℕ → List Entry → List ℕ
records_from image q [] = []
records_from image q (entry ∷ later) =
    record_of (q + 1) (block_of image entry.block) entry
    ++ records_from (written image entry) (q + 1) later

-- the records of all retained entries
abbrev pub records : State → List ℕ
records s = records_from s.base s.first s.entries

-- the record of a further entry
abbrev pub next_record : State → Entry → List ℕ
next_record s entry = record_of (last s + 1) (block_of (image s) entry.block) entry
