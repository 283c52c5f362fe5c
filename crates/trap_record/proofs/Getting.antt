-- What stands at the front of bytes is one of three things.
use Rattle.std.proofs.Common.{◌≡◌, ℕ, ◌+◌, ◌-◌, ◌^◌, ◌<◌, ◌≤◌, Bool, true, false, not, IsTrue, List, ◌++◌, length, take, drop, slice_range, refl, sym, ◌∙◌, ap, subst, inl, inr, arith, append_assoc, length-append, take_at, drop_at, drop-drop, take-append-drop, take-add}
use Rattle.std.proofs.lemmas.List.{nil_from_length}
use Rattle.std.proofs.lemmas.List.Edits.{length-between}
use Rattle.trap_model.specs.declared.log_record.LogRec.{LogRec}
use Rattle.trap_model.specs.ZeroRun.{IsCode, IsRefused}
use Rattle.trap_model.specs.LogRecord.{header, SnapshotLength, IsSnapshot, LogRecord}
use Rattle.trap_model.proofs.ZeroRuns.{IsRefused-not, IsRefused-same}
use Rattle.trap_model.proofs.LogRecords.{header-same}
use Rattle.trap_zrun.proofs.Coding.{front-more}
use Rattle.trap_record.specs.declared.reader.ReadRec.{ReadRec}
use Rattle.trap_record.specs.declared.reader.ReadRec.TheVariants.{Whole, Short, Bad}
use Rattle.trap_record.specs.Reading.{BeginsWith, record_len, parity_of, snapshot_of, IsThere, IsWhole, IsShort, IsBadParity, IsBadSnapshot, ReadsAs}

-- the record of a header whose codes are right
whole-by : (size : ℕ) (r : LogRec) (bytes : List ℕ) → BeginsWith size r bytes → record_len r ≤ length bytes
    → IsCode size (parity_of r bytes) → IsSnapshot size r.snap (snapshot_of r bytes) → IsWhole size r (record_len r) bytes
whole-by size r bytes begins there parity snapshot = record {
  len = refl;
  there = there;
  is = record {
    ranges = begins.ranges;
    parity_len = (let len = length-between bytes 26 (26 + r.plen) (omega arith) in omega arith);
    snapshot_len = (let len = length-between bytes (26 + r.plen) (record_len r) there in omega arith);
    parity_code = parity;
    snapshot_code = snapshot;
    spelled =
        sym (front-more bytes (26 + r.plen) (record_len r) (omega arith))
        ∙ ap (λ (l : List ℕ). l ++ snapshot_of r bytes) (sym (front-more bytes 26 (26 + r.plen) (omega arith)))
        ∙ ap (λ (l : List ℕ). take 26 l ++ parity_of r bytes ++ snapshot_of r bytes) begins.spelled
        ∙ append_assoc (header r) (parity_of r bytes) (snapshot_of r bytes);
  };
}

unmarked : (b : Bool) → not b ≡ true → b ≡ false
unmarked true e = cc
unmarked false e = refl

marked : (b : Bool) → not b ≡ false → b ≡ true
marked true e = refl
marked false e = cc

-- reading found a record with one code
pub read_plain : (size p s : ℕ) (r : LogRec) (bytes : List ℕ) → p ≡ r.plen → s ≡ r.slen → BeginsWith size r bytes → 26 + p + s ≤ length bytes
    → not r.snap ≡ true → IsCode size (slice_range bytes 26 (26 + p)) → IsWhole size r (26 + p + s) bytes
read_plain size p s r bytes plen slen begins there plain parity =
    let snap = unmarked r.snap plain in
    let none : r.slen ≡ 0 = subst (λ (b : Bool). SnapshotLength size b r.slen) snap begins.ranges.snapshot in
    let used : 26 + p + s ≡ record_len r = omega arith in
    let room : record_len r ≤ length bytes = omega arith in
    let len = length-between bytes (26 + r.plen) (record_len r) room in
    subst (λ (n : ℕ). IsWhole size r n bytes) (sym used)
    (whole-by size r bytes begins room
    (subst (λ (n : ℕ). IsCode size (slice_range bytes 26 (26 + n))) plen parity)
    (subst (λ (b : Bool). IsSnapshot size b (snapshot_of r bytes)) (sym snap) (nil_from_length (snapshot_of r bytes) (omega arith))))

-- the bytes of the second code, by the lengths that were read
snapshot-at : (size p s : ℕ) (r : LogRec) (bytes : List ℕ) (P : List ℕ → Type 0) → p ≡ r.plen → s ≡ r.slen → P (slice_range bytes (26 + p) (26 + p + s)) → P (snapshot_of r bytes)
snapshot-at size p s r bytes P plen slen has =
    subst (λ (n : ℕ). P (slice_range bytes (26 + n) (26 + n + r.slen))) plen (subst (λ (n : ℕ). P (slice_range bytes (26 + p) (26 + p + n))) slen has)

-- reading found a record with two codes
pub read_marked : (size p s : ℕ) (r : LogRec) (bytes : List ℕ) → p ≡ r.plen → s ≡ r.slen → BeginsWith size r bytes → 26 + p + s ≤ length bytes
    → not r.snap ≡ false → IsCode size (slice_range bytes 26 (26 + p)) → IsCode size (slice_range bytes (26 + p) (26 + p + s)) → IsWhole size r (26 + p + s) bytes
read_marked size p s r bytes plen slen begins there two parity snapshot =
    let snap = marked r.snap two in
    let used : 26 + p + s ≡ record_len r = omega arith in
    let room : record_len r ≤ length bytes = omega arith in
    subst (λ (n : ℕ). IsWhole size r n bytes) (sym used)
    (whole-by size r bytes begins room
    (subst (λ (n : ℕ). IsCode size (slice_range bytes 26 (26 + n))) plen parity)
    (subst (λ (b : Bool). IsSnapshot size b (snapshot_of r bytes)) (sym snap) (snapshot-at size p s r bytes (λ l. IsCode size l) plen slen snapshot)))

-- bytes that are as long as the record of their header, and whose codes are right, are that record
pub whole_codes : (size p s : ℕ) (r : LogRec) (bytes : List ℕ) → p ≡ r.plen → s ≡ r.slen → length bytes ≡ record_len r → BeginsWith size r bytes
    → IsCode size (slice_range bytes 26 (26 + p)) → IsSnapshot size r.snap (slice_range bytes (26 + p) (26 + p + s)) → IsWhole size r (length bytes) bytes
whole_codes size p s r bytes plen slen long begins parity snapshot =
    subst (λ (n : ℕ). IsWhole size r n bytes) (sym long)
    (whole-by size r bytes begins (omega arith)
    (subst (λ (n : ℕ). IsCode size (slice_range bytes 26 (26 + n))) plen parity)
    (snapshot-at size p s r bytes (λ l. IsSnapshot size r.snap l) plen slen snapshot))

-- where the flag is set, the second code is a snapshot
pub code-snapshot : (size : ℕ) (snap : Bool) (bytes : List ℕ) → IsTrue snap → IsCode size bytes → IsSnapshot size snap bytes
code-snapshot size snap bytes set code = subst (λ (b : Bool). IsSnapshot size b bytes) (sym set) code

-- reading found that the second code is refused
pub read_bad : (size p s inner : ℕ) (r : LogRec) (bytes : List ℕ) → p ≡ r.plen → s ≡ r.slen → BeginsWith size r bytes → 26 + p + s ≤ length bytes
    → not r.snap ≡ false → IsCode size (slice_range bytes 26 (26 + p)) → IsRefused size (slice_range bytes (26 + p) (26 + p + s)) inner → IsBadSnapshot size bytes (26 + p + inner)
read_bad size p s inner r bytes plen slen begins there two parity refused = record {
  rec = r;
  there = record { begins = begins; there = omega arith };
  marked = marked r.snap two;
  inner = inner;
  right = subst (λ (n : ℕ). IsCode size (slice_range bytes 26 (26 + n))) plen parity;
  refused = snapshot-at size p s r bytes (λ l. IsRefused size l inner) plen slen refused;
  place = omega arith;
}

-- one header begins the bytes
BeginsWith-one : (size : ℕ) (r q : LogRec) (bytes : List ℕ) → size < 2 ^ 15 → BeginsWith size r bytes → BeginsWith size q bytes → r ≡ q
BeginsWith-one size r q bytes small a b =
    (header-same size r q (drop 26 bytes) (drop 26 bytes) small a.ranges b.ranges (sym a.spelled ∙ b.spelled)).0

-- a record begins with its header
whole-begins : (size : ℕ) (r : LogRec) (used : ℕ) (bytes : List ℕ) → IsWhole size r used bytes → BeginsWith size r bytes
whole-begins size r used bytes whole =
    let codes = parity_of r bytes ++ snapshot_of r bytes in
    let parts : bytes ≡ header r ++ (codes ++ drop used bytes) =
    sym (take-append-drop used bytes) ∙ ap (λ (l : List ℕ). l ++ drop used bytes) whole.is.spelled ∙ append_assoc (header r) codes (drop used bytes) in
    record {
      ranges = whole.is.ranges;
      spelled = parts ∙ ap (λ (l : List ℕ). header r ++ l) (sym (ap (λ (l : List ℕ). drop 26 l) parts));
    }

refused-code : (size : ℕ) (bytes : List ℕ) (at : ℕ) → size < 2 ^ 15 → IsRefused size bytes at → IsCode size bytes → ⊥
refused-code size bytes at small refused code = IsRefused-not size bytes code.0 at (omega arith) refused code.1 code.2

-- no two of the answers hold at once

whole-whole : (size : ℕ) (bytes : List ℕ) (r q : LogRec) (m n : ℕ) → size < 2 ^ 15 → IsWhole size r m bytes → IsWhole size q n bytes → Whole r m ≡ Whole q n
whole-whole size bytes r q m n small a b =
    let same = BeginsWith-one size r q bytes small (whole-begins size r m bytes a) (whole-begins size q n bytes b) in
    let used : m ≡ n = a.len ∙ ap record_len same ∙ sym b.len in
    cc

whole-short : (size : ℕ) (bytes : List ℕ) (r : LogRec) (m : ℕ) → size < 2 ^ 15 → IsWhole size r m bytes → IsShort size bytes → ⊥
whole-short size bytes r m small a (inl few) = let len = a.len in let there = a.there in omega arith
whole-short size bytes r m small a (inr (q, begins, few)) =
    let same = BeginsWith-one size r q bytes small (whole-begins size r m bytes a) begins in
    let len : m ≡ record_len q = a.len ∙ ap record_len same in
    let there = a.there in
    omega arith

whole-bad : (size : ℕ) (bytes : List ℕ) (r : LogRec) (m at : ℕ) → size < 2 ^ 15 → IsWhole size r m bytes → ReadsAs size bytes (Bad at) → ⊥
whole-bad size bytes r m at small a (inl bad) = bad.none r (whole-begins size r m bytes a)
whole-bad size bytes r m at small a (inr (inl bad)) =
    let same = BeginsWith-one size bad.rec r bytes small bad.there.begins (whole-begins size r m bytes a) in
    refused-code size (parity_of r bytes) bad.inner small (subst (λ (q : LogRec). IsRefused size (parity_of q bytes) bad.inner) same bad.refused) a.is.parity_code
whole-bad size bytes r m at small a (inr (inr bad)) =
    let same = BeginsWith-one size bad.rec r bytes small bad.there.begins (whole-begins size r m bytes a) in
    let snap : r.snap ≡ true = ap (λ (q : LogRec). q.snap) (sym same) ∙ bad.marked in
    refused-code size (snapshot_of r bytes) bad.inner small (subst (λ (q : LogRec). IsRefused size (snapshot_of q bytes) bad.inner) same bad.refused)
    (subst (λ (b : Bool). IsSnapshot size b (snapshot_of r bytes)) snap a.is.snapshot_code)

there-short : (size : ℕ) (bytes : List ℕ) (r : LogRec) → size < 2 ^ 15 → IsThere size r bytes → IsShort size bytes → ⊥
there-short size bytes r small is (inl few) = let there = is.there in omega arith
there-short size bytes r small is (inr (q, begins, few)) =
    let same = BeginsWith-one size r q bytes small is.begins begins in
    let len : record_len r ≡ record_len q = ap record_len same in
    let there = is.there in
    omega arith

short-bad : (size : ℕ) (bytes : List ℕ) (at : ℕ) → size < 2 ^ 15 → IsShort size bytes → ReadsAs size bytes (Bad at) → ⊥
short-bad size bytes at small (inl few) (inl bad) = let long = bad.long in omega arith
short-bad size bytes at small (inr (q, begins, few)) (inl bad) = bad.none q begins
short-bad size bytes at small short (inr (inl bad)) = there-short size bytes bad.rec small bad.there short
short-bad size bytes at small short (inr (inr bad)) = there-short size bytes bad.rec small bad.there short

parity-parity : (size : ℕ) (bytes : List ℕ) (a b : ℕ) → size < 2 ^ 15 → IsBadParity size bytes a → IsBadParity size bytes b → a ≡ b
parity-parity size bytes a b small x y =
    let same = BeginsWith-one size x.rec y.rec bytes small x.there.begins y.there.begins in
    let inner = IsRefused-same size (parity_of y.rec bytes) x.inner y.inner (omega arith) (subst (λ (q : LogRec). IsRefused size (parity_of q bytes) x.inner) same x.refused) y.refused in
    x.place ∙ ap (λ (n : ℕ). 26 + n) inner ∙ sym y.place

parity-snapshot : (size : ℕ) (bytes : List ℕ) (a b : ℕ) → size < 2 ^ 15 → IsBadParity size bytes a → IsBadSnapshot size bytes b → ⊥
parity-snapshot size bytes a b small x y =
    let same = BeginsWith-one size x.rec y.rec bytes small x.there.begins y.there.begins in
    refused-code size (parity_of y.rec bytes) x.inner small (subst (λ (q : LogRec). IsRefused size (parity_of q bytes) x.inner) same x.refused) y.right

snapshot-snapshot : (size : ℕ) (bytes : List ℕ) (a b : ℕ) → size < 2 ^ 15 → IsBadSnapshot size bytes a → IsBadSnapshot size bytes b → a ≡ b
snapshot-snapshot size bytes a b small x y =
    let same = BeginsWith-one size x.rec y.rec bytes small x.there.begins y.there.begins in
    let inner = IsRefused-same size (snapshot_of y.rec bytes) x.inner y.inner (omega arith) (subst (λ (q : LogRec). IsRefused size (snapshot_of q bytes) x.inner) same x.refused) y.refused in
    let plen : x.rec.plen ≡ y.rec.plen = ap (λ (q : LogRec). q.plen) same in
    let place_x = x.place in
    let place_y = y.place in
    omega arith

bad-bad : (size : ℕ) (bytes : List ℕ) (a b : ℕ) → size < 2 ^ 15 → ReadsAs size bytes (Bad a) → ReadsAs size bytes (Bad b) → a ≡ b
bad-bad size bytes a b small (inl x) (inl y) = x.place ∙ sym y.place
bad-bad size bytes a b small (inl x) (inr (inl y)) = absurd (x.none y.rec y.there.begins)
bad-bad size bytes a b small (inl x) (inr (inr y)) = absurd (x.none y.rec y.there.begins)
bad-bad size bytes a b small (inr (inl x)) (inl y) = absurd (y.none x.rec x.there.begins)
bad-bad size bytes a b small (inr (inl x)) (inr (inl y)) = parity-parity size bytes a b small x y
bad-bad size bytes a b small (inr (inl x)) (inr (inr y)) = absurd (parity-snapshot size bytes a b small x y)
bad-bad size bytes a b small (inr (inr x)) (inl y) = absurd (y.none x.rec x.there.begins)
bad-bad size bytes a b small (inr (inr x)) (inr (inl y)) = absurd (parity-snapshot size bytes b a small y x)
bad-bad size bytes a b small (inr (inr x)) (inr (inr y)) = snapshot-snapshot size bytes a b small x y

-- reading has one answer
pub one_reading : (size : ℕ) (bytes : List ℕ) (a b : ReadRec) → size < 2 ^ 15 → ReadsAs size bytes a → ReadsAs size bytes b → a ≡ b
one_reading size bytes (Whole r m) (Whole q n) small x y = whole-whole size bytes r q m n small x y
one_reading size bytes (Whole r m) Short small x y = absurd (whole-short size bytes r m small x y)
one_reading size bytes (Whole r m) (Bad at) small x y = absurd (whole-bad size bytes r m at small x y)
one_reading size bytes Short (Whole q n) small x y = absurd (whole-short size bytes q n small y x)
one_reading size bytes Short Short small x y = refl
one_reading size bytes Short (Bad at) small x y = absurd (short-bad size bytes at small x y)
one_reading size bytes (Bad at) (Whole q n) small x y = absurd (whole-bad size bytes q n at small y x)
one_reading size bytes (Bad at) Short small x y = absurd (short-bad size bytes at small y x)
one_reading size bytes (Bad a) (Bad b) small x y = ap Bad (bad-bad size bytes a b small x y)

-- what was written reads whole, whatever follows it
pub written-whole : (size : ℕ) (r : LogRec) (p s x more : List ℕ) → LogRecord size r p s x → IsWhole size r (length x) (x ++ more)
written-whole size r p s x more is = record {
  len = (let same : length x ≡ length (header r ++ (p ++ s)) = ap length is.spelled in
      let all = length-append (header r) (p ++ s) in
      let codes = length-append p s in
      let plen = is.parity_len in
      let slen = is.snapshot_len in
      omega arith);
  there = (let all = length-append x more in omega arith);
  is = subst (λ (l : List ℕ). LogRecord size r (parity_of r (x ++ more)) (snapshot_of r (x ++ more)) l) (sym (take_at x more (length x) refl))
      (subst (λ (l : List ℕ). LogRecord size r l (snapshot_of r (x ++ more)) x) (sym first)
      (subst (λ (l : List ℕ). LogRecord size r p l x) (sym second) is));
}
  where
    parts : x ++ more ≡ header r ++ (p ++ (s ++ more))
    parts = ap (λ (l : List ℕ). l ++ more) is.spelled ∙ append_assoc (header r) (p ++ s) more ∙ ap (λ (l : List ℕ). header r ++ l) (append_assoc p s more)

    behind : drop 26 (x ++ more) ≡ p ++ (s ++ more)
    behind = ap (λ (l : List ℕ). drop 26 l) parts

    first : parity_of r (x ++ more) ≡ p
    first =
        let len : length p ≡ 26 + r.plen - 26 = (let plen = is.parity_len in omega arith) in
        ap (λ (l : List ℕ). take (26 + r.plen - 26) l) behind ∙ take_at p (s ++ more) (26 + r.plen - 26) len

    second : snapshot_of r (x ++ more) ≡ s
    second =
        let len : length s ≡ record_len r - (26 + r.plen) = (let slen = is.snapshot_len in omega arith) in
        ap (λ (l : List ℕ). take (record_len r - (26 + r.plen)) l)
        (sym (drop-drop r.plen 26 (x ++ more)) ∙ ap (λ (l : List ℕ). drop r.plen l) behind ∙ drop_at p (s ++ more) r.plen (sym is.parity_len))
        ∙ take_at s more (record_len r - (26 + r.plen)) len

pub read_again : (size : ℕ) (r : LogRec) (p s x more : List ℕ) (answer : ReadRec) → size < 2 ^ 15 → LogRecord size r p s x → ReadsAs size (x ++ more) answer → answer ≡ Whole r (length x)
read_again size r p s x more answer small is reads = one_reading size (x ++ more) answer (Whole r (length x)) small reads (written-whole size r p s x more is)
