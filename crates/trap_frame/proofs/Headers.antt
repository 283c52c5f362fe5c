-- A frame written and read piece by piece.
use Rattle.std.proofs.Common.{◌≡◌, ℕ, ◌+◌, ◌≤◌, ◌<◌, ◌^◌, List, ◌++◌, length, take, drop, refl, sym, ◌∙◌, ap, arith, w16, w32, w64, take_at, drop_at, drop-drop, take-append-drop, slice_range}
use Rattle.std.specs.Int.{to_be_bytes}
use Rattle.std.proofs.lemmas.Slice.{take-put_mid}
use Rattle.std.proofs.lemmas.List.Folds.{drop_split}
use borrow.Rule.Slice.PartMut.{put_mid}
use Rattle.trap_block.specs.Fields.{put_over}
use Rattle.trap_model.specs.declared.frame.Frame.{Frame}
use Rattle.trap_model.specs.ZeroRun.{ZeroRun}
use Rattle.trap_model.specs.Frame.{frame_magic, frame_header, SpellsFrame}
use Rattle.trap_model.proofs.ZeroRuns.{ZeroRun-length}
use Rattle.trap_frame.specs.Headers.{HasFrameFields}

-- a piece written after what is done
put-next : (done piece out : List ℕ) (at n : ℕ) → length done ≡ at → length piece ≡ n → put_over at piece (done ++ drop at out) ≡ (done ++ piece) ++ drop (at + n) out
put-next done piece out at n len size =
    ap (λ (l : List ℕ). l ++ piece ++ drop (at + length piece) (done ++ drop at out)) (take_at done (drop at out) at len)
    ∙ ap (λ (l : List ℕ). done ++ piece ++ l)
    (sym (drop-drop (length piece) at (done ++ drop at out)) ∙ ap (λ (l : List ℕ). drop (length piece) l) (drop_at done (drop at out) at len) ∙ drop-drop (length piece) at out
    ∙ ap (λ (m : ℕ). drop (at + m) out) size)

-- the header, field by field
pub frame_header-put : (f : Frame) (out a b c d e g : List ℕ) → a ≡ frame_magic ++ drop 4 out → b ≡ put_over 4 (to_be_bytes w64 f.id) a → c ≡ put_over 12 (to_be_bytes w64 f.seq) b
    → d ≡ put_over 20 (to_be_bytes w64 f.time) c → e ≡ put_over 28 (to_be_bytes w32 f.block) d → g ≡ put_over 32 (to_be_bytes w16 f.length) e → g ≡ frame_header f ++ drop 34 out
frame_header-put f out a b c d e g magic id seq time block len =
    let x = frame_magic ++ to_be_bytes w64 f.id in
    let y = x ++ to_be_bytes w64 f.seq in
    let z = y ++ to_be_bytes w64 f.time in
    let u = z ++ to_be_bytes w32 f.block in
    let first = id ∙ ap (λ (l : List ℕ). put_over 4 (to_be_bytes w64 f.id) l) magic ∙ put-next frame_magic (to_be_bytes w64 f.id) out 4 8 refl refl in
    let second = seq ∙ ap (λ (l : List ℕ). put_over 12 (to_be_bytes w64 f.seq) l) first ∙ put-next x (to_be_bytes w64 f.seq) out 12 8 refl refl in
    let third = time ∙ ap (λ (l : List ℕ). put_over 20 (to_be_bytes w64 f.time) l) second ∙ put-next y (to_be_bytes w64 f.time) out 20 8 refl refl in
    let fourth = block ∙ ap (λ (l : List ℕ). put_over 28 (to_be_bytes w32 f.block) l) third ∙ put-next z (to_be_bytes w32 f.block) out 28 4 refl refl in
    len ∙ ap (λ (l : List ℕ). put_over 32 (to_be_bytes w16 f.length) l) fourth ∙ put-next u (to_be_bytes w16 f.length) out 32 2 refl refl

-- what stands from a place on is a piece, and what stands after it
piece : (xs p rest : List ℕ) (at end : ℕ) → at ≤ end → p ≡ slice_range xs at end → drop end xs ≡ rest → drop at xs ≡ p ++ rest
piece xs p rest at end low is behind =
    drop_split xs at end low ∙ ap (λ (q : List ℕ). q ++ drop end xs) (sym is) ∙ ap (λ (r : List ℕ). p ++ r) behind

-- the header that was read is that of the fields at its places
pub frame_header-read : (bytes : List ℕ) (f : Frame) → take 4 bytes ≡ frame_magic → HasFrameFields bytes f → bytes ≡ frame_header f ++ drop 34 bytes
frame_header-read bytes f magic at =
    let len = piece bytes (to_be_bytes w16 f.length) (drop 34 bytes) 32 34 (omega arith) at.length refl in
    let block = piece bytes (to_be_bytes w32 f.block) _ 28 32 (omega arith) at.block len in
    let time = piece bytes (to_be_bytes w64 f.time) _ 20 28 (omega arith) at.time block in
    let seq = piece bytes (to_be_bytes w64 f.seq) _ 12 20 (omega arith) at.seq time in
    let id = piece bytes (to_be_bytes w64 f.id) _ 4 12 (omega arith) at.id seq in
    sym (take-append-drop 4 bytes) ∙ ap (λ (q : List ℕ). q ++ drop 4 bytes) magic ∙ ap (λ (r : List ℕ). frame_magic ++ r) id

-- the code after the header
pub code-put : (out head rest code : List ℕ) (k : ℕ) → out ≡ head ++ rest → length head ≡ 34 → 34 + length code ≤ length out → take (34 + length code) (put_mid 34 k out code) ≡ head ++ code
code-put out head rest code k is len room =
    take-put_mid 34 k out code (34 + length code) refl (omega arith) ∙ ap (λ (l : List ℕ). take 34 l ++ code) is ∙ ap (λ (l : List ℕ). l ++ code) (take_at head rest 34 len)

-- what was written is a frame, where the code is that of a block
pub frame-put : (f : Frame) (code bytes : List ℕ) (size : ℕ) (parity : List ℕ) → f.id < 2 ^ 64 → f.time < 2 ^ 64 → f.block < 2 ^ 32 → f.length ≡ length code → bytes ≡ frame_header f ++ code
    → 1 ≤ size → length parity ≡ size → 1 ≤ f.seq → f.seq ≤ 2 ^ 40 → ZeroRun parity code → SpellsFrame size f parity bytes
frame-put f code bytes size parity id time block len spelled some sized first last coded =
    let range = ZeroRun-length parity code (omega arith) coded in
    let least = range.0 in
    let most = range.1 in
    record {
      ranges = record { id = id; first = first; last = last; time = time; block = block; least = omega arith; most = omega arith };
      code = code;
      code_len = sym len;
      sized = sized;
      coded = coded;
      spelled = spelled;
    }
