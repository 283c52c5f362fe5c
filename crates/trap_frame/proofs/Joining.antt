-- What a reader takes for one frame, joined to the bytes of that frame.
use Rattle.std.proofs.Common.{◌≡◌, ℕ, ◌+◌, ◌-◌, ◌≤◌, ◌<◌, ◌^◌, List, ◌++◌, length, take, drop, slice_range, refl, sym, ◌∙◌, ap, subst, inl, inr, arith, length-append, take-append-drop}
use Rattle.std.specs.Prelude.{Ok, Err}
use Rattle.std.proofs.lemmas.List.{take_all}
use Rattle.trap_bank.specs.Stream.{Stream}
use Rattle.trap_model.specs.declared.frame.Frame.{Frame}
use Rattle.trap_model.specs.ZeroRun.{ZeroRun, IsCode, IsRefused}
use Rattle.trap_model.specs.Frame.{frame_header, code_in, SpellsFrame, BeginsFrame, IsPart, IsBadFrame}
use Rattle.trap_model.proofs.ZeroRuns.{IsRefused-not}
use Rattle.trap_frame.specs.declared.filling.Stop.{Stop}
use Rattle.trap_frame.specs.declared.filling.Stop.TheVariants.{Source, TooLong}
use Rattle.trap_frame.specs.declared.found.FrameFault.{FrameFault}
use Rattle.trap_frame.specs.declared.found.FrameFault.TheVariants as Fault
use Rattle.trap_frame.specs.Filling.{TakesBytes, Stops, FillsBuffer}
use Rattle.trap_frame.specs.Reading.{FindsNoFrame, IsFaultAtStop}
use Rattle.trap_frame.proofs.Taking.{took_then}

-- a header that begins the buffer begins what was taken of it
pub begins_front : (size : ℕ) (f : Frame) (buf head more : List ℕ) → BeginsFrame size f buf → take 34 buf ≡ head → (head ≡ frame_header f) × BeginsFrame size f (head ++ more)
begins_front size f buf head more begins there =
    let is : head ≡ frame_header f = sym there ∙ ap (take 34) begins.spelled in
    let joined : head ++ more ≡ frame_header f ++ more = ap (λ (l : List ℕ). l ++ more) is in
    (is, record { ranges = begins.ranges; spelled = joined ∙ ap (λ (l : List ℕ). frame_header f ++ l) (sym (ap (drop 34) joined)) })

-- a header and all of its code, taken
pub whole_header : (head : List ℕ) (have u v : ℕ) (s t : Stream) → FillsBuffer head 34 (Ok have) u v s t → (have < 34 → ⊥) → length head ≡ 34
whole_header head have u v s t fills long = let same = fills.ended.0 in let most = fills.within in omega arith

pub no_header : (size : ℕ) (buf head : List ℕ) → length head ≡ 34 → take (length head) buf ≡ head → ((f : Frame) → BeginsFrame size f buf → ⊥) → IsBadFrame size head
no_header size buf head len there none = inl (record {
  long = omega arith;
  none = λ f begins.
      let same : take 34 buf ≡ head = subst (λ n. take n buf ≡ head) len there in
      let whole : buf ≡ head ++ drop 34 buf = sym (take-append-drop 34 buf) ∙ ap (λ (l : List ℕ). l ++ drop 34 buf) same in
      none f (subst (λ l. BeginsFrame size f l) (sym whole) (begins_front size f head head (drop 34 buf) begins (take_all 34 head (omega arith))).1);
})

-- the header that was read begins the reader's buffer
pub begins_in : (size n : ℕ) (f : Frame) (read buf : List ℕ) → n ≡ size → read ≡ buf → BeginsFrame n f read → BeginsFrame size f buf
begins_in size n f read buf same is begins = subst (λ l. BeginsFrame size f l) is (subst (λ m. BeginsFrame m f read) same begins)

-- both parts that were taken
pub record TakenFrame (size : ℕ) (f : Frame) (head code : List ℕ) (u w : ℕ) (s t r : Stream) : Type 0 where
  pub head_is : head ≡ frame_header f
  pub begins : BeginsFrame size f (head ++ code)
  pub len : length (head ++ code) ≡ 34 + length code
  pub took : TakesBytes (head ++ code) u w s r
  pub earlier : s.faults ≤ t.faults

pub taken_frame : (size : ℕ) (f : Frame) (buf head code : List ℕ) (u v w : ℕ) (s t r : Stream) → length head ≡ 34 → take (length head) buf ≡ head → BeginsFrame size f buf
    → TakesBytes head u v s t → TakesBytes code v w t r
    → TakenFrame size f head code u w s t r
taken_frame size f buf head code u v w s t r len there begins first second =
    let both = begins_front size f buf head code begins (subst (λ n. take n buf ≡ head) len there) in
    record {
      head_is = both.0;
      begins = both.1;
      len = length-append head code ∙ ap (λ (n : ℕ). n + length code) len;
      took = took_then head code u v w s t r first second;
      earlier = first.counts.faults;
    }

-- the code stands after the header
code_of_parts : (f : Frame) (head code : List ℕ) → head ≡ frame_header f → length code ≡ f.length → code_in f (head ++ code) ≡ code
code_of_parts f head code is len =
    ap (λ (l : List ℕ). take (34 + f.length - 34) (drop 34 (l ++ code))) is ∙ take_all (34 + f.length - 34) code (omega arith)

-- no more bytes of the frame came
pub finds_stop : (size : ℕ) (fault : FrameFault) (stop : Stop) (bytes : List ℕ) (u w : ℕ) (s r : Stream) (before : ℕ) → IsFaultAtStop fault stop → IsPart size bytes
    → TakesBytes bytes u w s r → s.faults ≤ before
    → Stops stop w (record s { faults = before }) r → FindsNoFrame size fault u w s r
finds_stop size fault Source bytes u w s r before is part took earlier stops =
    subst (λ x. FindsNoFrame size x u w s r) (sym is) (bytes, part, took, omega (arith, stops))
finds_stop size fault TooLong bytes u w s r before is part took earlier stops =
    subst (λ x. FindsNoFrame size x u w s r) (sym is) (bytes, part, took, stops)

stops_at : (stop : Stop) (w : ℕ) (s t r : Stream) → Stops stop w t r → Stops stop w (record s { faults = t.faults }) r
stops_at Source w s t r stops = stops
stops_at TooLong w s t r stops = stops

pub code_stops : (size : ℕ) (f : Frame) (head code : List ℕ) (len u v w : ℕ) (s t r : Stream) (fault : FrameFault) (stop : Stop) → TakenFrame size f head code u w s t r → len ≡ f.length
    → FillsBuffer code (34 + len - 34) (Err stop) v w t r → IsFaultAtStop fault stop → FindsNoFrame size fault u w s r
code_stops size f head code len u v w s t r fault stop taken same fills is =
    let few = fills.ended.0 in
    let long = taken.len in
    finds_stop size fault stop (head ++ code) u w s r t.faults is (inr (f, record { begins = taken.begins; few = omega arith })) taken.took taken.earlier (stops_at stop w s t r fills.ended.1)

pub code_cut : (size : ℕ) (f : Frame) (head code : List ℕ) (len have u v w : ℕ) (s t r : Stream) → TakenFrame size f head code u w s t r → len ≡ f.length
    → FillsBuffer code (34 + len - 34) (Ok have) v w t r → have < len → FindsNoFrame size (Fault.Cut u) u w s r
code_cut size f head code len have u v w s t r taken same fills few =
    let is = fills.ended.0 in
    let long = taken.len in
    (refl, (head ++ code, record { some = omega arith; part = inr (f, record { begins = taken.begins; few = omega arith }) }, taken.took, fills.ended.1 (omega arith)))

-- all of the code is there
pub whole_code : (code buf bytes : List ℕ) (len have v w : ℕ) (t r : Stream) → FillsBuffer code (34 + len - 34) (Ok have) v w t r → (have < len → ⊥) → take (length code) (drop 34 buf) ≡ code
    → bytes ≡ slice_range buf 34 (34 + len) → (length code ≡ len) × (bytes ≡ code)
whole_code code buf bytes len have v w t r fills long there is =
    let same = fills.ended.0 in
    let most = fills.within in
    let size : length code ≡ len = omega arith in
    let room : 34 + len - 34 ≡ length code = omega arith in
    (size, is ∙ ap (λ (n : ℕ). take n (drop 34 buf)) room ∙ there)

pub code_whole : (size : ℕ) (f : Frame) (head code parity bytes : List ℕ) (len u w : ℕ) (s t r : Stream) → TakenFrame size f head code u w s t r → len ≡ f.length → length code ≡ len → bytes ≡ code
    → length parity ≡ size → ZeroRun parity bytes → SpellsFrame size f parity (head ++ code)
code_whole size f head code parity bytes len u w s t r taken same long is sized coded = record {
  ranges = taken.begins.ranges;
  code = code;
  code_len = long ∙ same;
  sized = sized;
  coded = subst (λ l. ZeroRun parity l) is coded;
  spelled = ap (λ (l : List ℕ). l ++ code) taken.head_is;
}

pub code_bad : (size : ℕ) (f : Frame) (head code bytes : List ℕ) (len at u w : ℕ) (s t r : Stream) → size < 2 ^ 15 → TakenFrame size f head code u w s t r
    → len ≡ f.length → length code ≡ len → bytes ≡ code
    → IsRefused size bytes at → IsBadFrame size (head ++ code)
code_bad size f head code bytes len at u w s t r small taken same long is refused =
    let all = taken.len in
    inr (
      f,
      record {
        begins = taken.begins;
        there = omega arith;
        refused = λ coded.
            let here : IsCode size bytes = subst (λ l. IsCode size l) (code_of_parts f head code taken.head_is (long ∙ same) ∙ sym is) coded in
            IsRefused-not size bytes here.0 at (omega arith) refused here.1 here.2;
      },
    )

-- no more was taken than the longest frame has
pub frame_most : (size : ℕ) (f : Frame) (head code : List ℕ) (len u w : ℕ) (s t r : Stream) → TakenFrame size f head code u w s t r → len ≡ f.length → length code ≡ len
    → length (head ++ code) ≤ size + 41
frame_most size f head code len u w s t r taken same long =
    let all = taken.len in
    let most = taken.begins.ranges.most in
    omega arith
