-- A ring has exactly one window between two offsets.
use Rattle.std.proofs.Common.{◌≡◌, ℕ, zero, suc, ◌+◌, ◌<◌, List, [], ◌∷◌, length, get_or, refl, sym, ◌∙◌, ap, arith}
use Rattle.std.proofs.lemmas.List.{ext_get_or}
use Rattle.trap_bank.specs.Disks.{Disks}
use Rattle.trap_ring.specs.Ring.{RingPlace, ring_byte}
use Rattle.trap_scan.specs.Window.{IsWindow}

-- so many bytes of a ring from an offset on
abbrev ring_bytes : RingPlace → ℕ → ℕ → Disks → List ℕ
ring_bytes r from zero disks = []
ring_bytes r from (suc n) disks = ring_byte r from disks ∷ ring_bytes r (from + 1) n disks

length-ring_bytes : (r : RingPlace) (from n : ℕ) (disks : Disks) → length (ring_bytes r from n disks) ≡ n
length-ring_bytes r from zero disks = refl
length-ring_bytes r from (suc n) disks = ap suc (length-ring_bytes r (from + 1) n disks)

ring_bytes-has : (r : RingPlace) (from n : ℕ) (disks : Disks) (k : ℕ) → k < n → ring_byte r (from + k) disks ≡ get_or (ring_bytes r from n disks) k 0
ring_bytes-has r from zero disks k below = absurd (omega arith)
ring_bytes-has r from (suc n) disks zero below = ap (λ (x : ℕ). ring_byte r x disks) (let same : from + 0 ≡ from = omega arith in same)
ring_bytes-has r from (suc n) disks (suc k) below =
    ap (λ (x : ℕ). ring_byte r x disks) (let same : from + suc k ≡ from + 1 + k = omega arith in same) ∙ ring_bytes-has r (from + 1) n disks k (omega arith)

-- there is one
pub window_some : (r : RingPlace) (from n : ℕ) (disks : Disks) → (bytes : List ℕ) × IsWindow r from (from + n) bytes disks
window_some r from n disks = (
  ring_bytes r from n disks,
  record {
    long = ap (λ (k : ℕ). from + k) (length-ring_bytes r from n disks);
    there = λ k below. ring_bytes-has r from n disks k (let long = length-ring_bytes r from n disks in omega arith);
  },
)

-- and no other
pub window_one : (r : RingPlace) (from to : ℕ) (a b : List ℕ) (disks : Disks) → IsWindow r from to a disks → IsWindow r from to b disks → a ≡ b
window_one r from to a b disks x y =
    let long = x.long in
    let also = y.long in
    ext_get_or 0 a b (omega arith) (λ k below. sym (x.there k below) ∙ y.there k (omega arith))
