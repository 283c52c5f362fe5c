-- A record written piece by piece.
use Rattle.std.proofs.Common.{◌≡◌, ℕ, ◌+◌, ◌≤◌, ◌^◌, ◌<◌, Bool, true, false, List, [], ◌∷◌, ◌++◌, length, take, drop, set, refl, ◌∙◌, ap, arith, w16, w32, w64, append_assoc, length-append, length-take-le, take_at}
use Rattle.std.specs.Int.{to_be_bytes}
use Rattle.std.proofs.lemmas.Slice.{take-put_mid}
use mir.Val.{bool_byte}
use borrow.Rule.Slice.PartMut.{put_mid, post_of}
use Rattle.trap_block.specs.Fields.{put_over}
use Rattle.trap_block.proofs.Cuts.{put-next}
use Rattle.trap_model.specs.declared.log_record.LogRec.{LogRec}
use Rattle.trap_model.specs.ZeroRun.{IsCode}
use Rattle.trap_model.specs.LogRecord.{flag, header, SnapshotLength, IsSnapshot, LogRecord}
use Rattle.trap_model.proofs.ZeroRuns.{ZeroRun-length}

-- the first two bytes
two-first : (out : List ℕ) (kind mark : ℕ) → 2 ≤ length out → set (set out 0 kind) 1 mark ≡ (kind ∷ mark ∷ []) ++ drop 2 out
two-first [] kind mark long = absurd (omega arith)
two-first (a ∷ []) kind mark long = absurd (omega arith)
two-first (a ∷ (b ∷ out)) kind mark long = refl

-- the flag's byte
pub flag-byte : (b : Bool) → bool_byte b ≡ flag b
flag-byte true = refl
flag-byte false = refl

-- the header, field by field
pub header-put : (r : LogRec) (out : List ℕ) → 26 ≤ length out
    → put_over 24 (to_be_bytes w16 r.slen) (put_over 22 (to_be_bytes w16 r.plen) (put_over 18 (to_be_bytes w32 r.block)
    (put_over 10 (to_be_bytes w64 r.time) (put_over 2 (to_be_bytes w64 r.seq) (set (set out 0 1) 1 (flag r.snap)))))) ≡ header r ++ drop 26 out
header-put r out long =
    let a = 1 ∷ flag r.snap ∷ [] in
    let b = a ++ to_be_bytes w64 r.seq in
    let d = b ++ to_be_bytes w64 r.time in
    let e = d ++ to_be_bytes w32 r.block in
    let f = e ++ to_be_bytes w16 r.plen in
    let first = ap (λ (l : List ℕ). put_over 2 (to_be_bytes w64 r.seq) l) (two-first out 1 (flag r.snap) (omega arith)) ∙ put-next a (to_be_bytes w64 r.seq) out 2 8 refl refl in
    let second = ap (λ (l : List ℕ). put_over 10 (to_be_bytes w64 r.time) l) first ∙ put-next b (to_be_bytes w64 r.time) out 10 8 refl refl in
    let third = ap (λ (l : List ℕ). put_over 18 (to_be_bytes w32 r.block) l) second ∙ put-next d (to_be_bytes w32 r.block) out 18 4 refl refl in
    let fourth = ap (λ (l : List ℕ). put_over 22 (to_be_bytes w16 r.plen) l) third ∙ put-next e (to_be_bytes w16 r.plen) out 22 2 refl refl in
    ap (λ (l : List ℕ). put_over 24 (to_be_bytes w16 r.slen) l) fourth ∙ put-next f (to_be_bytes w16 r.slen) out 24 2 refl refl

-- both codes after the header
pub codes-put : (out head rest p s : List ℕ) (k m : ℕ) → out ≡ head ++ rest → length head ≡ 26 → 26 + length p + length s ≤ length out
    → take (26 + length p + length s) (put_mid (26 + length p) m (put_mid 26 k out p) s) ≡ head ++ (p ++ s)
codes-put out head rest p s k m is len room =
    take-put_mid (26 + length p) m (put_mid 26 k out p) s (26 + length p + length s) refl inside
    ∙ ap (λ (l : List ℕ). l ++ s) (take-put_mid 26 k out p (26 + length p) refl (omega arith))
    ∙ ap (λ (l : List ℕ). take 26 l ++ p ++ s) is
    ∙ ap (λ (l : List ℕ). l ++ p ++ s) (take_at head rest 26 len)
    ∙ append_assoc head p s
  where
    inside : 26 + length p ≤ length (put_mid 26 k out p)
    inside =
        let front = length-take-le 26 out (omega arith) in
        let all = length-append (take 26 out) (p ++ post_of 26 k out) in
        let behind = length-append p (post_of 26 k out) in
        omega arith

-- a code of a block that isn't empty has a length in range
code-length : (size : ℕ) (bytes : List ℕ) → 1 ≤ size → IsCode size bytes → (4 ≤ length bytes) × (length bytes ≤ size + 7)
code-length size bytes some code =
    let whole = code.1 in
    let len = ZeroRun-length code.0 bytes (omega arith) code.2 in
    (len.0, (let most = len.1 in omega arith))

snapshot-length : (size : ℕ) (snap : Bool) (len : ℕ) (bytes : List ℕ) → 1 ≤ size → len ≡ length bytes → IsSnapshot size snap bytes → SnapshotLength size snap len
snapshot-length size true len bytes some same code = let n = code-length size bytes some code in let least = n.0 in let most = n.1 in (omega arith, omega arith)
snapshot-length size false len bytes some same none = same ∙ ap length none

-- what was written is a record, where the codes are codes
pub record-put : (size : ℕ) (r : LogRec) (p s bytes : List ℕ) → 1 ≤ size → 1 ≤ r.seq → r.seq ≤ 2 ^ 40 → r.time < 2 ^ 64 → r.block < 2 ^ 32
    → r.plen ≡ length p → r.slen ≡ length s → IsCode size p → IsSnapshot size r.snap s → bytes ≡ header r ++ (p ++ s) → LogRecord size r p s bytes
record-put size r p s bytes some first last time block plen slen parity snapshot spelled = record {
  ranges = record {
    first = first;
    last = last;
    time = time;
    block = block;
    parity = (let n = code-length size p some parity in let least = n.0 in let most = n.1 in (omega arith, omega arith));
    snapshot = snapshot-length size r.snap r.slen s some slen snapshot;
  };
  parity_len = plen;
  snapshot_len = slen;
  parity_code = parity;
  snapshot_code = snapshot;
  spelled = spelled;
}
