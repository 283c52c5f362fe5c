-- What the reader's loops keep.
use Rattle.std.proofs.Common.{◌≡◌, ℕ, ◌+◌, ◌-◌, ◌<◌, ◌≤◌, List, [], ◌++◌, length, take, drop, refl, sym, ◌∙◌, ap, subst, arith, ◌^◌, Result, Ok, Err, IsOk, IsErr, length-append, length-drop, length-take-le, take-add, take_at, take_all, take-append-drop}
use Rattle.trap_model.specs.ZeroRun.{Segment, spelling, contents, segment_size, KeepsRules, ZeroRun, IsCode, NoneFollows, IsRefused}
use Rattle.trap_model.proofs.ZeroRuns.{length-spelling, length-contents, Follows_within, NoneFollows-whole, IsRefused-not}
use Rattle.trap_zrun.specs.Scans.{IsNextSegment}
use Rattle.trap_zrun.proofs.Begun.{Begun, begun_nothing, begun-more, begun_all, begun_refused}

-- so many bytes were read, and spell a front of what was filled
pub record IsDecoded (out bytes : List ℕ) (least filled at : ℕ) : Type 0 where
  pub inside : at ≤ length bytes
  pub room : filled ≤ length out
  pub begun : Begun (length out) least (take filled out) (take at bytes)

-- so many bytes were read, and spell a front of that size of a block
pub record IsChecked (size : ℕ) (bytes : List ℕ) (least filled at : ℕ) : Type 0 where
  pub inside : at ≤ length bytes
  pub room : filled ≤ size
  pub front : List ℕ
  pub len : length front ≡ filled
  pub begun : Begun size least front (take at bytes)

pub decoded_nothing : (out bytes : List ℕ) → IsDecoded out bytes 0 0 0
decoded_nothing out bytes = record { inside = omega arith; room = omega arith; begun = begun_nothing (length out) }

pub checked_nothing : (size : ℕ) (bytes : List ℕ) → IsChecked size bytes 0 0 0
checked_nothing size bytes = record { inside = omega arith; room = omega arith; front = []; len = refl; begun = begun_nothing size }

-- the bytes up to the end of the next segment
read-more : (bytes : List ℕ) (least owed at : ℕ) (s : Segment) → at ≤ length bytes → IsNextSegment least owed (drop at bytes) s
    → (at + (4 + length s.literal) ≤ length bytes) × (take at bytes ++ spelling s ≡ take (at + (4 + length s.literal)) bytes)
read-more bytes least owed at s inside next =
    let behind = drop (4 + length s.literal) (drop at bytes) in
    let lens : length (drop at bytes) ≡ length (spelling s ++ behind) = ap length next.spelled in
    let left = length-drop at bytes in
    let parts = length-append (spelling s) behind in
    let front = length-spelling s in (
      omega arith,
      ap (λ (l : List ℕ). take at bytes ++ l) (sym (take_at (spelling s) behind (4 + length s.literal) front) ∙ ap (λ (l : List ℕ). take (4 + length s.literal) l) (sym next.spelled))
          ∙ sym (take-add at (4 + length s.literal) bytes),
    )

pub decoded-more : (old out bytes : List ℕ) (least filled at end : ℕ) (s : Segment) → IsDecoded old bytes least filled at
    → IsNextSegment least (length old - filled) (drop at bytes) s → length out ≡ length old → end ≡ filled + segment_size s → take end out ≡ take filled old ++ contents s
    → IsDecoded out bytes 4 end (at + (4 + length s.literal))
decoded-more old out bytes least filled at end s decoded next same place front =
    let inside = decoded.inside in
    let room = decoded.room in
    let read = read-more bytes least (length old - filled) at s inside next in
    let within = Follows_within least (length old - filled) s next.rules in
    let len = length-take-le filled old room in
    let more = begun-more (length old) least (take filled old) (take at bytes) s decoded.begun
    (subst (λ (n : ℕ). KeepsRules least (length old - n) s) (sym len) next.rules) in
    record {
      inside = read.0;
      room = omega arith;
      begun = subst (λ (n : ℕ). Begun n 4 (take end out) (take (at + (4 + length s.literal)) bytes)) (sym same)
          (subst (λ (l : List ℕ). Begun (length old) 4 l (take (at + (4 + length s.literal)) bytes)) (sym front)
          (subst (λ (l : List ℕ). Begun (length old) 4 (take filled old ++ contents s) l) read.1 more));
    }

pub checked-more : (size : ℕ) (bytes : List ℕ) (least filled at end : ℕ) (s : Segment) → IsChecked size bytes least filled at
    → IsNextSegment least (size - filled) (drop at bytes) s → end ≡ filled + segment_size s
    → IsChecked size bytes 4 end (at + (4 + length s.literal))
checked-more size bytes least filled at end s checked next place =
    let inside = checked.inside in
    let room = checked.room in
    let read = read-more bytes least (size - filled) at s inside next in
    let within = Follows_within least (size - filled) s next.rules in
    let len = checked.len in
    let parts = length-append checked.front (contents s) in
    let more_len = length-contents s in
    let more = begun-more size least checked.front (take at bytes) s checked.begun
    (subst (λ (n : ℕ). KeepsRules least (size - n) s) (sym len) next.rules) in
    record {
      inside = read.0;
      room = omega arith;
      front = checked.front ++ contents s;
      len = omega arith;
      begun = subst (λ (l : List ℕ). Begun size 4 (checked.front ++ contents s) l) read.1 more;
    }

-- where no segment follows the bytes are refused
refused-at : (size : ℕ) (front bytes : List ℕ) (least at : ℕ) → at ≤ length bytes → Begun size least front (take at bytes) → NoneFollows least (size - length front) (drop at bytes)
    → 0 < (size - length front) + length (drop at bytes) → IsRefused size bytes at
refused-at size front bytes least at inside begun stops unfinished =
    subst (λ (n : ℕ). IsRefused size bytes n) (length-take-le at bytes inside)
    (begun_refused size least front (take at bytes) bytes (drop at bytes) begun (sym (take-append-drop at bytes)) stops unfinished)

-- a refusal is at the place that it names
pub refused_there : (size : ℕ) (bytes : List ℕ) (at there : ℕ) → there ≡ at → IsRefused size bytes at → IsRefused size bytes there
refused_there size bytes at there same refused = subst (λ (n : ℕ). IsRefused size bytes n) (sym same) refused

pub decoded_stops : (out bytes : List ℕ) (least filled at : ℕ) → IsDecoded out bytes least filled at → filled < length out
    → NoneFollows least (length out - filled) (drop at bytes) → IsRefused (length out) bytes at
decoded_stops out bytes least filled at decoded more stops =
    let room = decoded.room in
    let len = length-take-le filled out room in
    refused-at (length out) (take filled out) bytes least at decoded.inside decoded.begun
    (subst (λ (n : ℕ). NoneFollows least (length out - n) (drop at bytes)) (sym len) stops)
    (omega arith)

pub checked_stops : (size : ℕ) (bytes : List ℕ) (least filled at : ℕ) → IsChecked size bytes least filled at → filled < size
    → NoneFollows least (size - filled) (drop at bytes) → IsRefused size bytes at
checked_stops size bytes least filled at checked more stops =
    let len = checked.len in
    refused-at size checked.front bytes least at checked.inside checked.begun
    (subst (λ (n : ℕ). NoneFollows least (size - n) (drop at bytes)) (sym len) stops)
    (omega arith)

-- where bytes are left after the block they are refused
long-at : (size : ℕ) (front bytes : List ℕ) (least at : ℕ) → at < length bytes → Begun size least front (take at bytes) → size ≤ length front → IsRefused size bytes at
long-at size front bytes least at more begun whole =
    let none : size - length front ≡ 0 = omega arith in
    let left = length-drop at bytes in
    refused-at size front bytes least at (omega arith) begun
    (subst (λ (n : ℕ). NoneFollows least n (drop at bytes)) (sym none) (NoneFollows-whole least (drop at bytes)))
    (omega arith)

pub decoded_long : (out bytes : List ℕ) (least filled at : ℕ) → IsDecoded out bytes least filled at → length out ≤ filled → at < length bytes → IsRefused (length out) bytes at
decoded_long out bytes least filled at decoded whole more =
    let len = length-take-le filled out decoded.room in
    long-at (length out) (take filled out) bytes least at more decoded.begun (omega arith)

pub checked_long : (size : ℕ) (bytes : List ℕ) (least filled at : ℕ) → IsChecked size bytes least filled at → size ≤ filled → at < length bytes → IsRefused size bytes at
checked_long size bytes least filled at checked whole more =
    let len = checked.len in
    long-at size checked.front bytes least at more checked.begun (omega arith)

pub decoded_done : (out bytes : List ℕ) (least filled at : ℕ) → IsDecoded out bytes least filled at → length out ≤ filled → length bytes ≤ at → ZeroRun out bytes
decoded_done out bytes least filled at decoded whole read =
    begun_all (length out) least out bytes
    (subst (λ (l : List ℕ). Begun (length out) least l bytes) (take_all filled out whole)
    (subst (λ (l : List ℕ). Begun (length out) least (take filled out) l) (take_all at bytes read) decoded.begun))
    refl

pub checked_done : (size : ℕ) (bytes : List ℕ) (least filled at : ℕ) → IsChecked size bytes least filled at → size ≤ filled → length bytes ≤ at → IsCode size bytes
checked_done size bytes least filled at checked whole read =
    let len = checked.len in
    let room = checked.room in
    let all : length checked.front ≡ size = omega arith in
    (checked.front, all, begun_all size least checked.front bytes (subst (λ (l : List ℕ). Begun size least checked.front l) (take_all at bytes read) checked.begun) all)

not-both : {T E : Type 0} (r : Result T E) → IsErr r → IsOk r → ⊥
not-both (Ok v) err ok = cc
not-both (Err e) err ok = cc

-- what is refused is no code, and the answer says so
pub no-code : {T E : Type 0} (r : Result T E) (size : ℕ) (bytes : List ℕ) (at : ℕ) → IsErr r → size < 2 ^ 16 → IsRefused size bytes at → (IsOk r → IsCode size bytes) × (IsCode size bytes → IsOk r)
no-code r size bytes at err small refused = (
  λ ok. absurd (not-both r err ok),
  λ code. absurd (IsRefused-not size bytes code.0 at small refused code.1 code.2),
)
