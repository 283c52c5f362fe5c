-- What taking the record at the front makes of what is ahead.
use Rattle.std.proofs.Common.{◌≡◌, ℕ, ◌+◌, ◌<◌, ◌≤◌, Bool, true, false, IsTrue, List, [], ◌++◌, length, take, drop, sym, ◌∙◌, ap, subst, ⊎_elim, arith, length-append, length-drop, take-append-drop}
use Rattle.std.proofs.lemmas.List.{get_or-drop, length-take-le, drop_all}
use Rattle.std.proofs.lemmas.Bool.{cases_lt}
use Rattle.trap_bank.specs.Disks.{Disks}
use Rattle.trap_model.specs.declared.log_record.LogRec.{LogRec}
use Rattle.trap_model.proofs.LogRecords.{LogRecord-apart}
use Rattle.trap_record.specs.Reading.{parity_of, snapshot_of, IsWhole}
use Rattle.trap_ring.specs.Ring.{RingPlace, RingHas, ring_byte}
use Rattle.trap_scan.specs.declared.scan.Scan.{Scan}
use Rattle.trap_scan.specs.declared.window.Front.{Front}
use Rattle.trap_scan.specs.declared.window.Window.{Window}
use Rattle.trap_scan.specs.Window.{in_buffer, SamePlace, PassesOver, IsLoaded, IsAhead}
use Rattle.trap_scan.specs.Scan.{MayFollow, ComesNext}

-- a test that failed
pub is_not : (b : Bool) → b ≡ false → IsTrue b → ⊥
is_not true e is = cc
is_not false e is = cc

pub not_below : (b : Bool) (m n : ℕ) → b ≡ false → (m < n → IsTrue b) → n ≤ m
not_below b m n e below = ⊎_elim (λ (less : m < n). absurd (is_not b e (below less))) (λ (most : n ≤ m). most) (cases_lt m n)

-- the bytes of a ring after the first ones
pub ring_after : (r : RingPlace) (at len : ℕ) (bytes : List ℕ) (disks : Disks) → RingHas r at bytes disks → RingHas r (at + len) (drop len bytes) disks
ring_after r at len bytes disks has k below =
    let short = length-drop len bytes in
    let place : at + len + k ≡ at + (len + k) = omega arith in
    ap (λ (n : ℕ). ring_byte r n disks) place ∙ has (len + k) (omega arith) ∙ sym (get_or-drop len bytes k 0)

-- what is loaded stays so
pub loaded_after : (r : RingPlace) (len : ℕ) (old new : Window) (disks : Disks) → IsLoaded r old disks → PassesOver len old new → IsLoaded r new disks
loaded_after r len old new disks loaded over =
    subst (λ (n : ℕ). RingHas r n (in_buffer new) disks) (sym over.at)
    (subst (λ (l : List ℕ). RingHas r (old.at + len) l disks) (sym over.in_buffer) (ring_after r old.at len (in_buffer old) disks loaded))

-- and the rest of what was ahead is ahead
pub ahead_after : (r : RingPlace) (len : ℕ) (old mid new : Window) (bytes : List ℕ) (disks : Disks) → SamePlace old mid → PassesOver len mid new → len ≤ length bytes
    → IsAhead r old bytes disks → IsAhead r new (drop len bytes) disks
ahead_after r len old mid new bytes disks same over within ahead =
    let at : new.at ≡ old.at + len = over.at ∙ ap (λ (n : ℕ). n + len) same.at in
    let end : new.end ≡ old.end = over.end ∙ same.end in
    let long = ahead.long in
    let short = length-drop len bytes in
    record {
      long = omega arith;
      there = subst (λ (n : ℕ). RingHas r n (drop len bytes) disks) (sym at) (ring_after r old.at len bytes disks ahead.there);
    }

-- the same scan, whose window has the same place
pub record SameScan (old new : Scan) : Type 0 where
  pub expected : new.expected ≡ old.expected
  pub seq : new.seq ≡ old.seq
  pub time : new.time ≡ old.time
  pub place : SamePlace old.window new.window

-- a record at the front that may follow comes next
pub comes_next : (r : RingPlace) (old mid : Scan) (front : Front) (bytes : List ℕ) (disks : Disks) → SameScan old mid → MayFollow mid front
    → IsWhole old.expected.size front.rec front.len bytes → IsAhead r old.window bytes disks → ComesNext old bytes front.rec (drop front.len bytes)
comes_next r old mid front bytes disks same may whole ahead =
    let number = may.number in
    let later = may.later in
    let seq = same.seq in
    let time = same.time in
    let volume = ap (λ e. e.volume) same.expected in
    let block = may.block in
    let there = whole.there in
    record {
      parity = parity_of front.rec bytes;
      snapshot = snapshot_of front.rec bytes;
      first = take front.len bytes;
      is = whole.is;
      parts = sym (take-append-drop front.len bytes);
      number = omega arith;
      block = omega arith;
      later = omega arith;
      ends = λ none.
          let last = ap (λ e. e.last) same.expected in
          let last_time = ap (λ e. e.last_time) same.expected in
          let is_last = may.ends (omega arith) in
          let end = is_last.end in
          let at = same.place.at in
          let same_end = same.place.end in
          let long = ahead.long in
          (drop_all front.len bytes (omega arith), is_last.time ∙ last_time);
    }

-- and where it may not, no record does
pub none_next : (r : RingPlace) (old mid : Scan) (front : Front) (bytes : List ℕ) (disks : Disks) → SameScan old mid → (MayFollow mid front → ⊥)
    → IsWhole old.expected.size front.rec front.len bytes → IsAhead r old.window bytes disks → (rec : LogRec) (rest : List ℕ) → ComesNext old bytes rec rest → ⊥
none_next r old mid front bytes disks same may_not whole ahead rec rest next = may_not (record {
  number = (let e = ap (λ q. q.seq) apart.0 in let number = next.number in let seq = same.seq in omega arith);
  block = (let e = ap (λ q. q.block) apart.0 in let block = next.block in let volume = ap (λ e. e.volume) same.expected in omega arith);
  later = (let e = ap (λ q. q.time) apart.0 in let later = next.later in let time = same.time in omega arith);
  ends = λ none.
      let last = ap (λ e. e.last) same.expected in
      let last_time = ap (λ e. e.last_time) same.expected in
      let seq = same.seq in
      let ends = next.ends (omega arith) in
      record { end = end ends.0; time = ap (λ q. q.time) apart.0 ∙ ends.1 ∙ sym last_time };
})
  where
    apart : (front.rec ≡ rec) × (parity_of front.rec bytes ≡ next.parity) × (snapshot_of front.rec bytes ≡ next.snapshot) × (take front.len bytes ≡ next.first)
    apart = LogRecord-apart old.expected.size front.rec rec (parity_of front.rec bytes) next.parity (snapshot_of front.rec bytes) next.snapshot (take front.len bytes) next.first
        (drop front.len bytes) rest (let sized = old.sized in omega arith) whole.is next.is (take-append-drop front.len bytes ∙ next.parts)

    end : rest ≡ [] → mid.window.at + front.len ≡ mid.window.end
    end none =
        let all : length bytes ≡ length (next.first ++ rest) = ap length next.parts in
        let sum = length-append next.first rest in
        let nothing : length rest ≡ 0 = ap length none in
        let first : length (take front.len bytes) ≡ length next.first = ap length apart.3 in
        let len = length-take-le front.len bytes whole.there in
        let long = ahead.long in
        let at = same.place.at in
        let same_end = same.place.end in
        omega arith
