-- The laws of log records over blocks of whatever sizes.
use Rattle.std.proofs.Common.{◌≡◌, ℕ, ◌^◌, ◌<◌, ◌≤◌, max, Bool, true, false, List, ◌++◌, sym, ◌∙◌, ap, arith, append_assoc}
use Rattle.trap_model.specs.declared.log_record.LogRec.{LogRec}
use Rattle.trap_model.specs.LogRecord.{header, SnapshotLength, IsRecordInRange, LogRecord}
use Rattle.trap_model.proofs.LogRecords.{header-same, front-same}

snapshot_wider : (n m : ℕ) (snap : Bool) (len : ℕ) → n ≤ m → SnapshotLength n snap len → SnapshotLength m snap len
snapshot_wider n m true len more is = let most = is.1 in (is.0, omega arith)
snapshot_wider n m false len more is = is

-- the ranges over a block are ranges over a larger one
ranges_wider : (n m : ℕ) (r : LogRec) → n ≤ m → IsRecordInRange n r → IsRecordInRange m r
ranges_wider n m r more is = record {
  first = is.first;
  last = is.last;
  time = is.time;
  block = is.block;
  parity = let most = is.parity.1 in (is.parity.0, omega arith);
  snapshot = snapshot_wider n m r.snap r.slen more is.snapshot;
}

-- no record begins another
pub records_apart : (n m : ℕ) (r q : LogRec) (p u s v x y a b : List ℕ) → n < 2 ^ 15 → m < 2 ^ 15 → LogRecord n r p s x → LogRecord m q u v y → x ++ a ≡ y ++ b → (r ≡ q) × (p ≡ u) × (s ≡ v) × (x ≡ y)
records_apart n m r q p u s v x y a b small small' is_r is_q e =
    let whole : header r ++ ((p ++ s) ++ a) ≡ header q ++ ((u ++ v) ++ b) =
    sym (append_assoc (header r) (p ++ s) a) ∙ ap (λ (l : List ℕ). l ++ a) (sym is_r.spelled) ∙ e ∙ ap (λ (l : List ℕ). l ++ b) is_q.spelled ∙ append_assoc (header q) (u ++ v) b in
    let same = header-same (max n m) r q ((p ++ s) ++ a) ((u ++ v) ++ b) (omega arith) (ranges_wider n (max n m) r (omega arith) is_r.ranges)
    (ranges_wider m (max n m) q (omega arith) is_q.ranges) whole in
    let first = front-same p u (s ++ a) (v ++ b) (sym is_r.parity_len ∙ ap (λ (k : LogRec). k.plen) same.0 ∙ is_q.parity_len)
    (sym (append_assoc p s a) ∙ same.1 ∙ append_assoc u v b) in
    let second = front-same s v a b (sym is_r.snapshot_len ∙ ap (λ (k : LogRec). k.slen) same.0 ∙ is_q.snapshot_len) first.1 in (
      same.0,
      first.0,
      second.0,
      is_r.spelled ∙ ap (λ (k : LogRec). header k ++ (p ++ s)) same.0 ∙ ap (λ (l : List ℕ). header q ++ (l ++ s)) first.0 ∙ ap (λ (l : List ℕ). header q ++ (u ++ l)) second.0 ∙ sym is_q.spelled,
    )
