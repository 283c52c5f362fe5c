-- Absolute offsets and the places where their bytes stand.
use Rattle.std.proofs.Common.{◌≡◌, ℕ, ◌+◌, ◌-◌, ◌*◌, ◌/◌, ◌%◌, ◌<◌, ◌≤◌, ◌∙◌, ap, ⊎_elim, arith, mod-lt}
use Rattle.std.proofs.Math.Nat.{mod-add-div'}
use Rattle.std.proofs.lemmas.Nat.{mod-mul-add}
use Rattle.std.proofs.lemmas.Bool.{cases_lt}
use Rattle.trap_bank.specs.Disks.{Disks, Within, Differs}
use Rattle.trap_bank.proofs.Regions.{differs_mono}
use Rattle.trap_ring.specs.Ring.{RingPlace, ring_pos, whole_ring, InRing, KeepsWindow}

-- an offset that is reached before the ring's end
pub mod_within : (len x k : ℕ) → x % len + k < len → (x + k) % len ≡ x % len + k
mod_within len x k within =
    let parts : x % len + x / len * len ≡ x = mod-add-div' x len in
    let sum : x + k ≡ x / len * len + (x % len + k) = omega arith in
    ap (λ (n : ℕ). n % len) sum ∙ mod-mul-add (x / len) len (x % len + k) within

-- an offset that is reached after the ring's end, once round
pub mod_wrapped : (len x k : ℕ) → len ≤ x % len + k → x % len + k - len < len → (x + k) % len ≡ x % len + k - len
mod_wrapped len x k past once =
    let parts : x % len + x / len * len ≡ x = mod-add-div' x len in
    let more : (x / len + 1) * len ≡ x / len * len + len = omega arith in
    let sum : x + k ≡ (x / len + 1) * len + (x % len + k - len) = omega arith in
    ap (λ (n : ℕ). n % len) sum ∙ mod-mul-add (x / len + 1) len (x % len + k - len) once

-- two offsets less than a ring apart stand at two places
pub mod_apart : (len x y : ℕ) → 0 < len → x < y → y < x + len → x % len ≡ y % len → ⊥
mod_apart len x y some above near same =
    let low : x % len < len = mod-lt x some in
    let k = y - x in
    let sum : x + (y - x) ≡ y = omega arith in
    ⊎_elim
    (λ (within : x % len + (y - x) < len).
    let at = mod_within len x (y - x) within in
    let there : (x + (y - x)) % len ≡ y % len = ap (λ (n : ℕ). n % len) sum in
    absurd (omega arith))
    (λ (past : len ≤ x % len + (y - x)).
    let at = mod_wrapped len x (y - x) past (omega arith) in
    let there : (x + (y - x)) % len ≡ y % len = ap (λ (n : ℕ). n % len) sum in
    absurd (omega arith))
    (cases_lt (x % len + (y - x)) len)

-- the bytes of the first offsets stand one after the other, up to the ring's end
pub first-in : (r : RingPlace) (from n m e i : ℕ) → m ≤ n → from % r.len + m ≤ r.len → Within r.disk (r.at + from % r.len) m e i → InRing r from n e i
first-in r from n m e i part fits within =
    let low = within.from in
    let high = within.to in
    let k = i - (r.at + from % r.len) in
    record {
      disk = within.disk;
      offset = from + (i - (r.at + from % r.len));
      low = omega arith;
      high = omega arith;
      place = (let same = mod_within r.len from (i - (r.at + from % r.len)) (omega arith) in omega arith);
    }

-- and those after them stand at its beginning
pub second-in : (r : RingPlace) (from n m p e i : ℕ) → from % r.len + m ≡ r.len → m + p ≤ n → p ≤ r.len → Within r.disk r.at p e i → InRing r from n e i
second-in r from n m p e i end part fits within =
    let low = within.from in
    let high = within.to in
    record {
      disk = within.disk;
      offset = from + (m + (i - r.at));
      low = omega arith;
      high = omega arith;
      place = (let same = mod_wrapped r.len from (m + (i - r.at)) (omega arith) (omega arith) in omega arith);
    }

-- no offset of the window stands where one after it does
pub window-apart : (r : RingPlace) (from to n x : ℕ) → 0 < r.len → to - from + n ≤ r.len → from ≤ x → x < to → InRing r to n r.disk (ring_pos r x) → ⊥
window-apart r from to n x some room low high there =
    let above = there.low in
    let below = there.high in
    let place = there.place in
    mod_apart r.len x there.offset some (omega arith) (omega arith) (omega arith)

-- what changes only after the window keeps it
pub keeps-window : (r : RingPlace) (from to n : ℕ) (old new : Disks) → 0 < r.len → to - from + n ≤ r.len → Differs (InRing r to n) old new → KeepsWindow r from to old new
keeps-window r from to n old new some room differs = record {
  outside = differs_mono (InRing r to n) (whole_ring r) old new
      (λ e i there. let place = there.place in let below : there.offset % r.len < r.len = mod-lt there.offset some in
      record { disk = there.disk; from = omega arith; to = omega arith })
      differs;
  window = λ x low high. differs.bytes r.disk (ring_pos r x) (window-apart r from to n x some room low high);
}
