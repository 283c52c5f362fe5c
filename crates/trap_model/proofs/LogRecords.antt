-- The laws of log records: the header tells its fields, and so where the codes after it end.
use Rattle.std.proofs.Common.{◌≡◌, ℕ, ◌^◌, ◌<◌, Bool, true, false, List, ◌++◌, length, take, drop, get_or, refl, sym, ◌∙◌, ap, arith, w16, w32, w64, append_assoc, take_at, drop_at}
use Rattle.std.specs.Int.{from_be_bytes}
use Rattle.std.proofs.lemmas.Nat.{from_be_bytes-to_be_bytes_2, from_be_bytes-to_be_bytes_4, from_be_bytes-to_be_bytes_8}
use Rattle.trap_model.specs.declared.log_record.LogRec.{LogRec}
use Rattle.trap_model.specs.LogRecord.{flag, header, SnapshotLength, IsRecordInRange, LogRecord}

pub length-header : (r : LogRec) → length (header r) ≡ 26
length-header r = refl

flag-same : (a b : Bool) → flag a ≡ flag b → a ≡ b
flag-same true true e = refl
flag-same true false e = cc
flag-same false true e = cc
flag-same false false e = refl

-- a record by its fields
abbrev rec_of : Bool → ℕ → ℕ → ℕ → ℕ → ℕ → LogRec
rec_of snap seq time block plen slen = record { snap = snap; seq = seq; time = time; block = block; plen = plen; slen = slen }

pub same_rec : (r q : LogRec) → r.snap ≡ q.snap → r.seq ≡ q.seq → r.time ≡ q.time → r.block ≡ q.block → r.plen ≡ q.plen → r.slen ≡ q.slen → r ≡ q
same_rec r q snap seq time block plen slen =
    ap (λ (b : Bool). rec_of b r.seq r.time r.block r.plen r.slen) snap
    ∙ ap (λ (n : ℕ). rec_of q.snap n r.time r.block r.plen r.slen) seq
    ∙ ap (λ (n : ℕ). rec_of q.snap q.seq n r.block r.plen r.slen) time
    ∙ ap (λ (n : ℕ). rec_of q.snap q.seq q.time n r.plen r.slen) block
    ∙ ap (λ (n : ℕ). rec_of q.snap q.seq q.time q.block n r.slen) plen
    ∙ ap (λ (n : ℕ). rec_of q.snap q.seq q.time q.block q.plen n) slen

-- both lengths fit two bytes
snapshot-small : (size : ℕ) (snap : Bool) (len : ℕ) → size < 2 ^ 15 → SnapshotLength size snap len → len < 2 ^ 16
snapshot-small size true len small is = let most = is.1 in omega arith
snapshot-small size false len small is = let none : len ≡ 0 = is in omega arith

-- the header tells its fields
pub header-same : (size : ℕ) (r q : LogRec) (x y : List ℕ) → size < 2 ^ 15 → IsRecordInRange size r → IsRecordInRange size q → header r ++ x ≡ header q ++ y → (r ≡ q) × (x ≡ y)
header-same size r q x y small is_r is_q e = (same_rec r q snap seq time block plen slen, ap (λ (l : List ℕ). drop 26 l) e)
  where
    snap : r.snap ≡ q.snap
    snap = flag-same r.snap q.snap (ap (λ (l : List ℕ). get_or l 1 0) e)

    seq : r.seq ≡ q.seq
    seq = let most_r = is_r.last in let most_q = is_q.last in
        sym (from_be_bytes-to_be_bytes_8 r.seq (omega arith)) ∙ ap (λ (l : List ℕ). from_be_bytes w64 (take 8 (drop 2 l))) e ∙ from_be_bytes-to_be_bytes_8 q.seq (omega arith)

    time : r.time ≡ q.time
    time = sym (from_be_bytes-to_be_bytes_8 r.time is_r.time) ∙ ap (λ (l : List ℕ). from_be_bytes w64 (take 8 (drop 10 l))) e ∙ from_be_bytes-to_be_bytes_8 q.time is_q.time

    block : r.block ≡ q.block
    block = sym (from_be_bytes-to_be_bytes_4 r.block is_r.block) ∙ ap (λ (l : List ℕ). from_be_bytes w32 (take 4 (drop 18 l))) e ∙ from_be_bytes-to_be_bytes_4 q.block is_q.block

    plen : r.plen ≡ q.plen
    plen = let most_r = is_r.parity.1 in let most_q = is_q.parity.1 in
        sym (from_be_bytes-to_be_bytes_2 r.plen (omega arith)) ∙ ap (λ (l : List ℕ). from_be_bytes w16 (take 2 (drop 22 l))) e ∙ from_be_bytes-to_be_bytes_2 q.plen (omega arith)

    slen : r.slen ≡ q.slen
    slen = sym (from_be_bytes-to_be_bytes_2 r.slen (snapshot-small size r.snap r.slen small is_r.snapshot)) ∙ ap (λ (l : List ℕ). from_be_bytes w16 (take 2 (drop 24 l))) e
        ∙ from_be_bytes-to_be_bytes_2 q.slen (snapshot-small size q.snap q.slen small is_q.snapshot)

-- bytes in front of others are told apart by their length
pub front-same : (p u x y : List ℕ) → length p ≡ length u → p ++ x ≡ u ++ y → (p ≡ u) × (x ≡ y)
front-same p u x y len e = (
  sym (take_at p x (length u) len) ∙ ap (λ (l : List ℕ). take (length u) l) e ∙ take_at u y (length u) refl,
  sym (drop_at p x (length u) len) ∙ ap (λ (l : List ℕ). drop (length u) l) e ∙ drop_at u y (length u) refl,
)

-- no record begins another
pub LogRecord-apart : (size : ℕ) (r q : LogRec) (p u s v x y a b : List ℕ) → size < 2 ^ 15 → LogRecord size r p s x → LogRecord size q u v y → x ++ a ≡ y ++ b → (r ≡ q) × (p ≡ u) × (s ≡ v) × (x ≡ y)
LogRecord-apart size r q p u s v x y a b small is_r is_q e =
    let whole : header r ++ ((p ++ s) ++ a) ≡ header q ++ ((u ++ v) ++ b) =
    sym (append_assoc (header r) (p ++ s) a) ∙ ap (λ (l : List ℕ). l ++ a) (sym is_r.spelled) ∙ e ∙ ap (λ (l : List ℕ). l ++ b) is_q.spelled ∙ append_assoc (header q) (u ++ v) b in
    let same = header-same size r q ((p ++ s) ++ a) ((u ++ v) ++ b) small is_r.ranges is_q.ranges whole in
    let first = front-same p u (s ++ a) (v ++ b) (sym is_r.parity_len ∙ ap (λ (k : LogRec). k.plen) same.0 ∙ is_q.parity_len)
    (sym (append_assoc p s a) ∙ same.1 ∙ append_assoc u v b) in
    let second = front-same s v a b (sym is_r.snapshot_len ∙ ap (λ (k : LogRec). k.slen) same.0 ∙ is_q.snapshot_len) first.1 in (
      same.0,
      first.0,
      second.0,
      is_r.spelled ∙ ap (λ (k : LogRec). header k ++ (p ++ s)) same.0 ∙ ap (λ (l : List ℕ). header q ++ (l ++ s)) first.0 ∙ ap (λ (l : List ℕ). header q ++ (u ++ l)) second.0 ∙ sym is_q.spelled,
    )
