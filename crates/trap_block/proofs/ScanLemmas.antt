-- What the searches for zero bytes keep and find.
use Rattle.std.proofs.Common.{◌≡◌, ◌↔◌, ℕ, ◌+◌, ◌-◌, ◌^◌, ◌<◌, ◌≤◌, List, length, get_or, subst, ⊎_elim, arith}
use Rattle.std.specs.Int.{bit_at}
use Rattle.std.proofs.lemmas.Bool.{cases_lt}
use Rattle.std.proofs.lemmas.Nat.Bits.{bit_at_above}
use Rattle.trap_block.specs.Zeros.{AreZeros, FourSet}

-- zero bytes stand from one place to another
pub record AreZerosTo (bytes : List ℕ) (at end : ℕ) : Type 0 where
  pub from : at ≤ end
  pub inside : end ≤ length bytes
  pub zeros : (place : ℕ) → at ≤ place → place < end → get_or bytes place 0 ≡ 0

pub zeros_between : (bytes : List ℕ) (at end : ℕ) → AreZerosTo bytes at end → AreZeros bytes at (end - at)
zeros_between bytes at end run = record {
  inside = (let from = run.from in let inside = run.inside in omega arith);
  zeros = λ k below. run.zeros (at + k) (omega arith) (omega arith);
}

-- zero bytes further on
pub zeros-more : (bytes : List ℕ) (at end more : ℕ) → AreZerosTo bytes at end → AreZeros bytes end more → AreZerosTo bytes at (end + more)
zeros-more bytes at end more run next = record {
  from = (let from = run.from in omega arith);
  inside = next.inside;
  zeros = λ place from below. ⊎_elim
      (λ (before : place < end). run.zeros place from before)
      (λ (behind : end ≤ place).
      let same : end + (place - end) ≡ place = omega arith in
      subst (λ (i : ℕ). get_or bytes i 0 ≡ 0) same (next.zeros (place - end) (omega arith)))
      (cases_lt place end);
}

-- no four zero bytes begin at a place from one on and below another
pub record IsApart (bytes : List ℕ) (at end : ℕ) : Type 0 where
  pub from : at ≤ end
  pub none : (place : ℕ) → at ≤ place → place < end → ¬ AreZeros bytes place 4

-- after fewer than four zero bytes stands one that isn't zero, so four begin nowhere up to it
pub apart-more : (bytes : List ℕ) (at end zeros : ℕ) → IsApart bytes at end → AreZeros bytes end zeros → zeros < 4
    → (end + zeros < length bytes → 0 < get_or bytes (end + zeros) 0) → IsApart bytes at (end + (zeros + 1))
apart-more bytes at end gap apart run few stop = record {
  from = (let from = apart.from in omega arith);
  none = λ place from below four. ⊎_elim
      (λ (before : place < end). apart.none place from before four)
      (λ (behind : end ≤ place).
      let inside = four.inside in
      let nonzero = stop (omega arith) in
      let at : place + (end + gap - place) ≡ end + gap = omega arith in
      let here : get_or bytes (end + gap) 0 ≡ 0 = subst (λ (i : ℕ). get_or bytes i 0 ≡ 0) at (four.zeros (end + gap - place) (omega arith)) in
      absurd (omega arith))
      (cases_lt place end);
}

-- the mask of the 32 bytes from a place on
pub record IsMask (bytes : List ℕ) (at mask : ℕ) : Type 0 where
  pub inside : at + 32 ≤ length bytes
  pub bits : (k : ℕ) → k < 32 → (bit_at mask k ≡ 1) ↔ (get_or bytes (at + k) 0 ≡ 0)
  pub fits : mask < 2 ^ 32

-- set bits stand for zero bytes
pub mask-zeros : (bytes : List ℕ) (at mask count : ℕ) → IsMask bytes at mask → count ≤ 32 → ((k : ℕ) → k < count → bit_at mask k ≡ 1) → AreZeros bytes at count
mask-zeros bytes at mask count is most set = record {
  inside = (let inside = is.inside in omega arith);
  zeros = λ k below. (is.bits k (omega arith)).0 (set k below);
}

-- a bit that isn't set stands for a byte that isn't zero
pub mask-nonzero : (bytes : List ℕ) (at mask k : ℕ) → IsMask bytes at mask → k < 32 → bit_at mask k ≡ 0 → 0 < get_or bytes (at + k) 0
mask-nonzero bytes at mask k is within clear = ⊎_elim
    (λ (some : 0 < get_or bytes (at + k) 0). some)
    (λ (none : get_or bytes (at + k) 0 ≤ 0).
    let zero_there : get_or bytes (at + k) 0 ≡ 0 = omega arith in
    let set = (is.bits k within).1 zero_there in
    absurd (omega arith))
    (cases_lt 0 (get_or bytes (at + k) 0))

-- four set bits are inside the mask
pub four-within : (mask place : ℕ) → mask < 2 ^ 32 → FourSet mask place → place + 3 < 32
four-within mask place fits four = ⊎_elim
    (λ (within : place + 3 < 32). within)
    (λ (past : 32 ≤ place + 3). let set = four 3 (omega arith) in let clear = bit_at_above mask 32 (place + 3) fits past in absurd (omega arith))
    (cases_lt (place + 3) 32)

-- four set bits stand for four zero bytes
pub mask-four : (bytes : List ℕ) (at mask place : ℕ) → IsMask bytes at mask → FourSet mask place → AreZeros bytes (at + place) 4
mask-four bytes at mask place is four =
    let within = four-within mask place is.fits four in
    let inside = is.inside in
    record {
      inside = omega arith;
      zeros = λ k below.
          let same : at + (place + k) ≡ at + place + k = omega arith in
          subst (λ (i : ℕ). get_or bytes i 0 ≡ 0) same ((is.bits (place + k) (omega arith)).0 (four k below));
    }

-- as far as no four set bits begin in the mask, no four zero bytes do
pub apart-mask : (bytes : List ℕ) (at place mask upto : ℕ) → IsApart bytes at place → IsMask bytes place mask → upto ≤ 29
    → ((k : ℕ) → k < upto → ¬ FourSet mask k) → IsApart bytes at (place + upto)
apart-mask bytes at place mask upto apart is most none = record {
  from = (let from = apart.from in omega arith);
  none = λ there from below four. ⊎_elim
      (λ (before : there < place). apart.none there from before four)
      (λ (behind : place ≤ there).
      none (there - place) (omega arith)
      (λ k small.
      let same : there + k ≡ place + (there - place + k) = omega arith in
      (is.bits (there - place + k) (omega arith)).1 (subst (λ (i : ℕ). get_or bytes i 0 ≡ 0) same (four.zeros k small))))
      (cases_lt there place);
}
