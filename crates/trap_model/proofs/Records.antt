-- The records of a history: each is a log record, and together they are as long as the entries' sizes.
use Rattle.std.proofs.Common.{◌≡◌, ℕ, ◌+◌, ◌<◌, ◌≤◌, ◌^◌, List, [], ◌∷◌, ◌++◌, length, Bool, true, false, if◌then◌else◌, refl, sym, ap, ◌∙◌, arith, length-append, append_assoc}
use Rattle.trap_block.specs.Xor.{xor}
use Rattle.trap_block.proofs.XorLemmas.{length-xor}
use Rattle.trap_model.specs.declared.numbers.Geometry.{Geometry}
use Rattle.trap_model.specs.declared.history.Entry.{Entry}
use Rattle.trap_model.specs.declared.history.State.{State}
use Rattle.trap_model.specs.Limits.{greatest_record}
use Rattle.trap_model.specs.ZeroRun.{IsCode}
use Rattle.trap_model.specs.LogRecord.{SnapshotLength, IsSnapshot, LogRecord}
use Rattle.trap_model.specs.Image.{block_of, written, image_after}
use Rattle.trap_model.specs.Size.{code_of, entry_size, size_over}
use Rattle.trap_model.specs.State.{kept, IsEntry}
use Rattle.trap_model.specs.Records.{change_code, snapshot_code, rec_of, record_of, records_from, records}
use Rattle.trap_model.proofs.ZeroRuns.{ZeroRun-length}
use Rattle.trap_model.proofs.CodeOf.{code_of_spells}

-- the code of a block is a code of its size
pub code_of_is_code : (size : ℕ) (block : List ℕ) → length block ≡ size → IsCode size (code_of block)
code_of_is_code size block long = (block, long, code_of_spells block)

-- and how long it is
pub length-code_of : (size : ℕ) (block : List ℕ) → 1 ≤ size → length block ≡ size → (4 ≤ length (code_of block)) × (length (code_of block) ≤ size + 7)
length-code_of size block some long =
    let lens = ZeroRun-length block (code_of block) (omega arith) (code_of_spells block) in
    let least = lens.0 in
    let most = lens.1 in
    (least, omega arith)

-- the second code is one where the flag is set, and nothing otherwise
snapshot_is : (size : ℕ) (snap : Bool) (block : List ℕ) → length block ≡ size → IsSnapshot size snap (if snap then code_of block else [])
snapshot_is size true block long = code_of_is_code size block long
snapshot_is size false block long = refl

snapshot_len_is : (size : ℕ) (snap : Bool) (block : List ℕ) → 1 ≤ size → length block ≡ size → SnapshotLength size snap (length (if snap then code_of block else []))
snapshot_len_is size true block some long = length-code_of size block some long
snapshot_len_is size false block some long = refl

-- how long the second code of an entry is
pub snapshot_size : (snap : Bool) (block : List ℕ) → length (if snap then code_of block else []) ≡ (if snap then length (code_of block) else 0)
snapshot_size true block = refl
snapshot_size false block = refl

-- the exclusive-or of a block's old and new bytes
length-change : (g : Geometry) (old : List ℕ) (entry : Entry) → IsEntry g entry → length old ≡ g.block → length (xor old entry.bytes) ≡ g.block
length-change g old entry is long = length-xor old entry.bytes (is.size ∙ sym long) ∙ long

-- the record of an entry is a log record
pub record_is_log_record : (g : Geometry) (q : ℕ) (old : List ℕ) (entry : Entry) → IsEntry g entry → length old ≡ g.block → 1 ≤ q → q ≤ 2 ^ 40 → entry.time < 2 ^ 64
    → LogRecord g.block (rec_of q old entry) (change_code old entry) (snapshot_code entry) (record_of q old entry)
record_is_log_record g q old entry is long first last time =
    let some : 1 ≤ g.block = omega (arith, g.within.block_least) in
    let change = length-change g old entry is long in
    record {
      ranges = record {
        first = first;
        last = last;
        time = time;
        block = omega (arith, is.block, g.within.volume_most);
        parity = length-code_of g.block (xor old entry.bytes) some change;
        snapshot = snapshot_len_is g.block entry.snap entry.bytes some is.size;
      };
      parity_len = refl;
      snapshot_len = refl;
      parity_code = code_of_is_code g.block (xor old entry.bytes) change;
      snapshot_code = snapshot_is g.block entry.snap entry.bytes is.size;
      spelled = refl;
    }

-- a record is as long as the entry's size
pub length-record_of : (q : ℕ) (old : List ℕ) (entry : Entry) → length (record_of q old entry) ≡ entry_size old entry
length-record_of q old entry =
    let codes : length (change_code old entry ++ snapshot_code entry) ≡ length (change_code old entry) + length (snapshot_code entry) = length-append (change_code old entry) (snapshot_code entry) in
    let whole : length (record_of q old entry) ≡ 26 + length (change_code old entry ++ snapshot_code entry) = omega arith in
    let second = snapshot_size entry.snap entry.bytes in
    omega arith

-- and no longer than the greatest record
pub record_short : (g : Geometry) (q : ℕ) (old : List ℕ) (entry : Entry) → IsEntry g entry → length old ≡ g.block → (30 ≤ length (record_of q old entry))
    × (length (record_of q old entry) ≤ greatest_record g.block)
record_short g q old entry is long =
    let some : 1 ≤ g.block = omega (arith, g.within.block_least) in
    let first = length-code_of g.block (xor old entry.bytes) some (length-change g old entry is long) in
    let least = first.0 in
    let most = first.1 in
    let second = snapshot_most g.block entry.snap entry.bytes some is.size in
    let codes : length (change_code old entry ++ snapshot_code entry) ≡ length (change_code old entry) + length (snapshot_code entry) = length-append (change_code old entry) (snapshot_code entry) in
    let whole : length (record_of q old entry) ≡ 26 + length (change_code old entry ++ snapshot_code entry) = omega arith in
    (omega arith, omega arith)
  where
    snapshot_most : (size : ℕ) (snap : Bool) (block : List ℕ) → 1 ≤ size → length block ≡ size → length (if snap then code_of block else []) ≤ size + 7
    snapshot_most size true block some long = (length-code_of size block some long).1
    snapshot_most size false block some long = omega arith

pub length-records_from : (image : List (List ℕ)) (q : ℕ) (entries : List Entry) → length (records_from image q entries) ≡ size_over image entries
length-records_from image q [] = refl
length-records_from image q (entry ∷ later) =
    let first = length-record_of (q + 1) (block_of image entry.block) entry in
    let rest = length-records_from (written image entry) (q + 1) later in
    let both = length-append (record_of (q + 1) (block_of image entry.block) entry) (records_from (written image entry) (q + 1) later) in
    omega arith

-- the retained records are as long as what is kept
pub length-records : (s : State) → length (records s) ≡ kept s
length-records s = length-records_from s.base s.first s.entries

-- the records of some entries and of further ones
pub records_from-append : (image : List (List ℕ)) (q k : ℕ) (xs ys : List Entry) → k ≡ q + length xs
    → records_from image q (xs ++ ys) ≡ records_from image q xs ++ records_from (image_after image xs) k ys
records_from-append image q k [] ys is = ap (λ (n : ℕ). records_from image n ys) (let same : q ≡ k = omega arith in same)
records_from-append image q k (x ∷ xs) ys is =
    let front = record_of (q + 1) (block_of image x.block) x in
    ap (λ (bytes : List ℕ). front ++ bytes) (records_from-append (written image x) (q + 1) k xs ys (omega arith))
    ∙ sym (append_assoc front (records_from (written image x) (q + 1) xs) (records_from (image_after (written image x) xs) k ys))
