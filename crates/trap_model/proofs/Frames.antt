-- The laws of frames: the header tells its fields, and so where the code after it ends.
use Rattle.std.proofs.Common.{◌≡◌, ℕ, ◌+◌, ◌-◌, ◌^◌, ◌<◌, ◌≤◌, List, [], ◌∷◌, ◌++◌, length, take, drop, refl, sym, ◌∙◌, ap, subst, inl, inr, arith, w16, w32, w64, append_assoc, length-append, length-drop, take_at}
use Rattle.std.proofs.lemmas.List.{take-append-drop, take-append-le, drop-append-le}
use Rattle.std.specs.Int.{from_be_bytes}
use Rattle.std.proofs.lemmas.Nat.{from_be_bytes-to_be_bytes_2, from_be_bytes-to_be_bytes_4, from_be_bytes-to_be_bytes_8}
use Rattle.trap_model.specs.declared.frame.Frame.{Frame}
use Rattle.trap_model.specs.ZeroRun.{IsCode}
use Rattle.trap_model.specs.Frame.{frame_header, frame_len, code_in, IsFrameInRange, SpellsFrame, BeginsFrame, IsPart, IsBadFrame, Sent, BeginsWithFrames, Ending, AtEnd, CutAt, BadAt, EndsStream, AreFrames, further}
use Rattle.trap_model.proofs.ZeroRuns.{ZeroRun-apart}
use Rattle.trap_model.proofs.LogRecords.{front-same}

pub length-frame_header : (f : Frame) → length (frame_header f) ≡ 34
length-frame_header f = refl

-- a frame's header by its fields
abbrev frame_of : ℕ → ℕ → ℕ → ℕ → ℕ → Frame
frame_of id seq time block len = record { id = id; seq = seq; time = time; block = block; length = len }

pub same_frame : (f g : Frame) → f.id ≡ g.id → f.seq ≡ g.seq → f.time ≡ g.time → f.block ≡ g.block → f.length ≡ g.length → f ≡ g
same_frame f g id seq time block len =
    ap (λ (n : ℕ). frame_of n f.seq f.time f.block f.length) id
    ∙ ap (λ (n : ℕ). frame_of g.id n f.time f.block f.length) seq
    ∙ ap (λ (n : ℕ). frame_of g.id g.seq n f.block f.length) time
    ∙ ap (λ (n : ℕ). frame_of g.id g.seq g.time n f.length) block
    ∙ ap (λ (n : ℕ). frame_of g.id g.seq g.time g.block n) len

-- the header tells its fields
pub frame_header-same : (size : ℕ) (f g : Frame) (x y : List ℕ) → size < 2 ^ 15 → IsFrameInRange size f → IsFrameInRange size g → frame_header f ++ x ≡ frame_header g ++ y → (f ≡ g) × (x ≡ y)
frame_header-same size f g x y small is_f is_g e = (same_frame f g id seq time block len, ap (λ (l : List ℕ). drop 34 l) e)
  where
    id : f.id ≡ g.id
    id = sym (from_be_bytes-to_be_bytes_8 f.id is_f.id) ∙ ap (λ (l : List ℕ). from_be_bytes w64 (take 8 (drop 4 l))) e ∙ from_be_bytes-to_be_bytes_8 g.id is_g.id

    seq : f.seq ≡ g.seq
    seq = let most_f = is_f.last in let most_g = is_g.last in
        sym (from_be_bytes-to_be_bytes_8 f.seq (omega arith)) ∙ ap (λ (l : List ℕ). from_be_bytes w64 (take 8 (drop 12 l))) e ∙ from_be_bytes-to_be_bytes_8 g.seq (omega arith)

    time : f.time ≡ g.time
    time = sym (from_be_bytes-to_be_bytes_8 f.time is_f.time) ∙ ap (λ (l : List ℕ). from_be_bytes w64 (take 8 (drop 20 l))) e ∙ from_be_bytes-to_be_bytes_8 g.time is_g.time

    block : f.block ≡ g.block
    block = sym (from_be_bytes-to_be_bytes_4 f.block is_f.block) ∙ ap (λ (l : List ℕ). from_be_bytes w32 (take 4 (drop 28 l))) e ∙ from_be_bytes-to_be_bytes_4 g.block is_g.block

    len : f.length ≡ g.length
    len = let most_f = is_f.most in let most_g = is_g.most in
        sym (from_be_bytes-to_be_bytes_2 f.length (omega arith)) ∙ ap (λ (l : List ℕ). from_be_bytes w16 (take 2 (drop 32 l))) e ∙ from_be_bytes-to_be_bytes_2 g.length (omega arith)

-- a frame and what follows it, as a header and what follows that
pub spelled-more : (size : ℕ) (f : Frame) (p x more : List ℕ) (is : SpellsFrame size f p x) → x ++ more ≡ frame_header f ++ (is.code ++ more)
spelled-more size f p x more is = ap (λ (l : List ℕ). l ++ more) is.spelled ∙ append_assoc (frame_header f) is.code more

-- no frame begins another
pub SpellsFrame-apart : (size : ℕ) (f g : Frame) (p u x y a b : List ℕ) → size < 2 ^ 15 → SpellsFrame size f p x → SpellsFrame size g u y → x ++ a ≡ y ++ b → (f ≡ g) × (p ≡ u) × (x ≡ y)
SpellsFrame-apart size f g p u x y a b small is_f is_g e =
    let whole : frame_header f ++ (is_f.code ++ a) ≡ frame_header g ++ (is_g.code ++ b) =
    sym (spelled-more size f p x a is_f) ∙ e ∙ spelled-more size g u y b is_g in
    let same = frame_header-same size f g (is_f.code ++ a) (is_g.code ++ b) small is_f.ranges is_g.ranges whole in
    let fits : length p < 2 ^ 16 = (let sized = is_f.sized in omega arith) in
    let codes = ZeroRun-apart p u is_f.code is_g.code a b (is_f.sized ∙ sym is_g.sized) fits is_f.coded is_g.coded same.1 in (
      same.0,
      codes.0,
      is_f.spelled ∙ ap (λ (h : Frame). frame_header h ++ is_f.code) same.0 ∙ ap (λ (l : List ℕ). frame_header g ++ l) codes.1 ∙ sym is_g.spelled,
    )

pub BeginsFrame-one : (size : ℕ) (f g : Frame) (bytes : List ℕ) → size < 2 ^ 15 → BeginsFrame size f bytes → BeginsFrame size g bytes → f ≡ g
BeginsFrame-one size f g bytes small a b =
    (frame_header-same size f g (drop 34 bytes) (drop 34 bytes) small a.ranges b.ranges (sym a.spelled ∙ b.spelled)).0

-- a frame begins with its header
pub spelled-begins : (size : ℕ) (f : Frame) (p x more : List ℕ) → SpellsFrame size f p x → BeginsFrame size f (x ++ more)
spelled-begins size f p x more is =
    let parts = spelled-more size f p x more is in
    record {
      ranges = is.ranges;
      spelled = parts ∙ ap (λ (l : List ℕ). frame_header f ++ l) (sym (ap (λ (l : List ℕ). drop 34 l) parts));
    }

pub length-spelled : (size : ℕ) (f : Frame) (p x : List ℕ) → SpellsFrame size f p x → length x ≡ frame_len f
length-spelled size f p x is =
    let e : length x ≡ length (frame_header f ++ is.code) = ap length is.spelled in
    let all = length-append (frame_header f) is.code in
    let code = is.code_len in
    omega arith

-- where a frame begins the bytes, its code stands after the header
spelled-code : (size : ℕ) (f : Frame) (p x more : List ℕ) (is : SpellsFrame size f p x) → code_in f (x ++ more) ≡ is.code
spelled-code size f p x more is =
    let len : length is.code ≡ 34 + f.length - 34 = (let e = is.code_len in omega arith) in
    ap (λ (l : List ℕ). take (34 + f.length - 34) (drop 34 l)) (spelled-more size f p x more is) ∙ take_at is.code more (34 + f.length - 34) len

-- what breaks off holds no whole frame
pub part-no_frame : (size : ℕ) (f : Frame) (p x more : List ℕ) → size < 2 ^ 15 → SpellsFrame size f p x → IsPart size (x ++ more) → ⊥
part-no_frame size f p x more small is (inl few) =
    let len = length-spelled size f p x is in let all = length-append x more in omega arith
part-no_frame size f p x more small is (inr (g, off)) =
    let same : frame_len g ≡ frame_len f = ap frame_len (BeginsFrame-one size g f (x ++ more) small off.begins (spelled-begins size f p x more is)) in
    let len = length-spelled size f p x is in let all = length-append x more in let few = off.few in omega arith

bad-no_frame : (size : ℕ) (f : Frame) (p x more : List ℕ) → size < 2 ^ 15 → SpellsFrame size f p x → IsBadFrame size (x ++ more) → ⊥
bad-no_frame size f p x more small is (inl bad) = bad.none f (spelled-begins size f p x more is)
bad-no_frame size f p x more small is (inr (g, bad)) =
    let same = BeginsFrame-one size g f (x ++ more) small bad.begins (spelled-begins size f p x more is) in
    bad.refused (subst (λ (h : Frame). IsCode size (code_in h (x ++ more))) (sym same)
    (subst (λ (l : List ℕ). IsCode size l) (sym (spelled-code size f p x more is)) (p, is.sized, is.coded)))

-- a stream doesn't end where a frame begins
frame-no_end : (size : ℕ) (f : Frame) (p x more : List ℕ) (at : ℕ) (e : Ending) → size < 2 ^ 15 → SpellsFrame size f p x → EndsStream size at (x ++ more) e → ⊥
frame-no_end size f p x more at AtEnd small is none =
    let len = length-spelled size f p x is in let all = length-append x more in let nil = ap length none in omega arith
frame-no_end size f p x more at (CutAt offset) small is (place, cut) = part-no_frame size f p x more small is cut.part
frame-no_end size f p x more at (BadAt offset) small is (place, bad) = bad-no_frame size f p x more small is bad

part-bad : (size : ℕ) (bytes : List ℕ) → size < 2 ^ 15 → IsPart size bytes → IsBadFrame size bytes → ⊥
part-bad size bytes small (inl few) (inl bad) = let long = bad.long in omega arith
part-bad size bytes small (inl few) (inr (g, bad)) = let there = bad.there in omega arith
part-bad size bytes small (inr (f, off)) (inl bad) = bad.none f off.begins
part-bad size bytes small (inr (f, off)) (inr (g, bad)) =
    let same : frame_len f ≡ frame_len g = ap frame_len (BeginsFrame-one size f g bytes small off.begins bad.begins) in
    let few = off.few in let there = bad.there in omega arith

-- nothing is neither cut off nor bad
some-bad : (size : ℕ) (bytes : List ℕ) → IsBadFrame size bytes → 34 ≤ length bytes
some-bad size bytes (inl bad) = bad.long
some-bad size bytes (inr (g, bad)) = let there = bad.there in omega arith

-- bytes end a stream in one way
EndsStream-one : (size at : ℕ) (bytes : List ℕ) (e d : Ending) → size < 2 ^ 15 → EndsStream size at bytes e → EndsStream size at bytes d → e ≡ d
EndsStream-one size at bytes AtEnd AtEnd small x y = refl
EndsStream-one size at bytes AtEnd (CutAt n) small none (place, cut) = let some = cut.some in let nil = ap length none in absurd (omega arith)
EndsStream-one size at bytes AtEnd (BadAt n) small none (place, bad) = let long = some-bad size bytes bad in let nil = ap length none in absurd (omega arith)
EndsStream-one size at bytes (CutAt m) AtEnd small (place, cut) none = let some = cut.some in let nil = ap length none in absurd (omega arith)
EndsStream-one size at bytes (CutAt m) (CutAt n) small x y = ap CutAt (x.0 ∙ sym y.0)
EndsStream-one size at bytes (CutAt m) (BadAt n) small x y = absurd (part-bad size bytes small x.1.part y.1)
EndsStream-one size at bytes (BadAt m) AtEnd small (place, bad) none = let long = some-bad size bytes bad in let nil = ap length none in absurd (omega arith)
EndsStream-one size at bytes (BadAt m) (CutAt n) small x y = absurd (part-bad size bytes small y.1.part x.1)
EndsStream-one size at bytes (BadAt m) (BadAt n) small x y = ap BadAt (x.0 ∙ sym y.0)

abbrev sent_of : Frame → List ℕ → Sent
sent_of f p = record { frame = f; parity = p }

same_sent : (x y : Sent) → x.frame ≡ y.frame → x.parity ≡ y.parity → x ≡ y
same_sent x y frame parity = ap (λ (f : Frame). sent_of f x.parity) frame ∙ ap (sent_of y.frame) parity

-- a stream is one list of frames and a rest in which it ends
frames-one : (size m n : ℕ) (a b : List Sent) (r s stream : List ℕ) (e d : Ending) → size < 2 ^ 15 → BeginsWithFrames size a r stream → BeginsWithFrames size b s stream
    → EndsStream size m r e → EndsStream size n s d → (a ≡ b) × (r ≡ s)
frames-one size m n [] [] r s stream e d small x y end_r end_s = (refl, sym x ∙ y)
frames-one size m n [] (sent ∷ b) r s stream e d small x (bytes, more, is, parts, later) end_r end_s =
    absurd (frame-no_end size sent.frame sent.parity bytes more m e small is (subst (λ (l : List ℕ). EndsStream size m l e) (sym x ∙ parts) end_r))
frames-one size m n (sent ∷ a) [] r s stream e d small (bytes, more, is, parts, later) y end_r end_s =
    absurd (frame-no_end size sent.frame sent.parity bytes more n d small is (subst (λ (l : List ℕ). EndsStream size n l d) (sym y ∙ parts) end_s))
frames-one size m n (x ∷ a) (y ∷ b) r s stream e d small (p, more, is, parts, later) (q, others, are, splits, further) end_r end_s =
    let same = SpellsFrame-apart size x.frame y.frame x.parity y.parity p q more others small is are (sym parts ∙ splits) in
    let behind = front-same p q more others (ap length same.2) (sym parts ∙ splits) in
    let rest = frames-one size m n a b r s more e d small later (subst (λ (l : List ℕ). BeginsWithFrames size b s l) (sym behind.1) further) end_r end_s in
    (ap (λ (z : Sent). z ∷ a) (same_sent x y same.0 same.1) ∙ ap (λ (l : List Sent). y ∷ l) rest.0, rest.1)

pub AreFrames-one : (size : ℕ) (stream : List ℕ) (a b : List Sent) (e d : Ending) → size < 2 ^ 15 → AreFrames size stream a e → AreFrames size stream b d → (a ≡ b) × (e ≡ d)
AreFrames-one size stream a b e d small x y =
    let same = frames-one size x.at y.at a b x.rest y.rest stream e d small x.begins y.begins x.ends y.ends in
    let at : y.at ≡ x.at = (let p = x.offset in let q = y.offset in let r = ap length same.1 in omega arith) in (
      same.0,
      EndsStream-one size x.at x.rest e d small x.ends
          (subst (λ (n : ℕ). EndsStream size n x.rest d) at (subst (λ (l : List ℕ). EndsStream size y.at l d) (sym same.1) y.ends)),
    )

-- where more follows, the same header begins the bytes
begins-more : (size : ℕ) (f : Frame) (bytes more : List ℕ) → 34 ≤ length bytes → BeginsFrame size f bytes → BeginsFrame size f (bytes ++ more)
begins-more size f bytes more long begins =
    record {
      ranges = begins.ranges;
      spelled = ap (λ (l : List ℕ). l ++ more) begins.spelled ∙ append_assoc (frame_header f) (drop 34 bytes) more
          ∙ ap (λ (l : List ℕ). frame_header f ++ l) (sym (drop-append-le 34 bytes more long));
    }

-- a header that begins the bytes and more stands in the bytes, where they are long enough
begins-less : (size : ℕ) (f : Frame) (bytes more : List ℕ) → 34 ≤ length bytes → BeginsFrame size f (bytes ++ more) → BeginsFrame size f bytes
begins-less size f bytes more long begins =
    let header : take 34 bytes ≡ frame_header f = sym (take-append-le 34 bytes more long) ∙ ap (λ (l : List ℕ). take 34 l) begins.spelled in
    record {
      ranges = begins.ranges;
      spelled = sym (take-append-drop 34 bytes) ∙ ap (λ (l : List ℕ). l ++ drop 34 bytes) header;
    }

-- the code that a header names is the same, whatever follows it
code-more : (f : Frame) (bytes more : List ℕ) → 34 ≤ length bytes → frame_len f ≤ length bytes → code_in f (bytes ++ more) ≡ code_in f bytes
code-more f bytes more long there =
    ap (λ (l : List ℕ). take (34 + f.length - 34) l) (drop-append-le 34 bytes more long)
    ∙ take-append-le (34 + f.length - 34) (drop 34 bytes) more (let rest = length-drop 34 bytes in omega arith)

-- bytes that are no frame are none, whatever follows them
bad-more : (size : ℕ) (bytes more : List ℕ) → IsBadFrame size bytes → IsBadFrame size (bytes ++ more)
bad-more size bytes more (inl bad) =
    inl record {
      long = (let all = length-append bytes more in let long = bad.long in omega arith);
      none = λ (f : Frame). λ begins. bad.none f (begins-less size f bytes more bad.long begins);
    }
bad-more size bytes more (inr (f, bad)) =
    let long : 34 ≤ length bytes = (let there = bad.there in omega arith) in
    inr (
      f,
      record {
        begins = begins-more size f bytes more long bad.begins;
        there = (let all = length-append bytes more in let there = bad.there in omega arith);
        refused = λ is. bad.refused (subst (λ (l : List ℕ). IsCode size l) (code-more f bytes more long bad.there) is);
      },
    )

pub frames-bad : (size : ℕ) (bytes more : List ℕ) → IsBadFrame size bytes → AreFrames size (bytes ++ more) [] (BadAt 0)
frames-bad size bytes more bad = record { rest = bytes ++ more; at = 0; begins = refl; offset = omega arith; ends = (refl, bad-more size bytes more bad) }

-- the end of a stream, seen from further in front
ends-further : (size more at : ℕ) (rest : List ℕ) (e : Ending) → EndsStream size at rest e → EndsStream size (more + at) rest (further more e)
ends-further size more at rest AtEnd none = none
ends-further size more at rest (CutAt offset) (place, cut) = (ap (λ (n : ℕ). more + n) place, cut)
ends-further size more at rest (BadAt offset) (place, bad) = (ap (λ (n : ℕ). more + n) place, bad)

-- a frame, and then the frames of a stream
pub frames-next : (size : ℕ) (f : Frame) (p x rest : List ℕ) (frames : List Sent) (e : Ending) → SpellsFrame size f p x → AreFrames size rest frames e
    → AreFrames size (x ++ rest) (record { frame = f; parity = p } ∷ frames) (further (length x) e)
frames-next size f p x rest frames e is are =
    record {
      rest = are.rest;
      at = length x + are.at;
      begins = (x, rest, is, refl, are.begins);
      offset = (let all = length-append x rest in let offset = are.offset in omega arith);
      ends = ends-further size (length x) are.at are.rest e are.ends;
    }
