-- Masks of 32 lanes, and the bits in them.
use Rattle.std.proofs.Common.{◌≡◌, ◌↔◌, ℕ, zero, suc, ◌+◌, ◌/◌, ◌%◌, ◌^◌, ◌<◌, ◌≤◌, List, Bool, true, false, cond, eqb, length, get_or, map, replicate, refl, sym, ap, subst, ◌∙◌, arith, w8, w32, ⊎_elim, shr-shr, eqb-true, eq-eqb, min, bit_and}
use Rattle.std.specs.Int.{bit_at, trailing_zeros, trailing_ones}
use lib.Count.{count_trailing_zeros}
use Rattle.std.specs.Simd.Lanes.{zip2, mask_l, top}
use Rattle.std.proofs.lemmas.Simd.{bitmask_splat, mask_l-lt, bit_mask_l}
use Rattle.std.proofs.lemmas.Bool.{cases_lt}
use Rattle.std.proofs.lemmas.List.{length-map, get_or-map}
use Rattle.std.proofs.lemmas.Nat.{and_le_l}
use Rattle.std.proofs.lemmas.Nat.Bits.{bit_at_and, bit_at-zero, bit_at-lt, bit_at_ones, bit_at-trailing_zeros, bit_at-trailing_ones}
use Rattle.trap_block.specs.Zeros.{FourSet}

-- the mask of the lanes that are zero
abbrev pub mask_of : List ℕ → ℕ
mask_of lanes = mask_l (map (λ x. eqb x 0) lanes)

pub mask_of-lt : (lanes : List ℕ) → length lanes ≡ 32 → mask_of lanes < 2 ^ 32
mask_of-lt lanes long = subst (λ (n : ℕ). mask_of lanes < 2 ^ n) (length-map lanes (λ x. eqb x 0) ∙ long) (mask_l-lt (map (λ x. eqb x 0) lanes))

bit_tells : (x : ℕ) (b : Bool) → eqb x 0 ≡ b → (cond {A = ℕ} b 1 0 ≡ 1) ↔ (x ≡ 0)
bit_tells x true e = (λ h. eqb-true x 0 e, λ h. refl)
bit_tells x false e = (λ h. absurd (omega arith), λ h. let is = eq-eqb x 0 h in cc)

pub mask_of_tells : (lanes : List ℕ) (k : ℕ) → k < length lanes → (bit_at (mask_of lanes) k ≡ 1) ↔ (get_or lanes k 0 ≡ 0)
mask_of_tells lanes k within =
    let e : bit_at (mask_of lanes) k ≡ cond (eqb (get_or lanes k 0) 0) 1 0 =
    bit_mask_l (map (λ x. eqb x 0) lanes) k ∙ ap (λ b. cond b 1 0) (get_or-map (λ x. eqb x 0) lanes k 0 false within) in
    let t = bit_tells (get_or lanes k 0) _ refl in
    (λ h. t.0 (sym e ∙ h), λ h. e ∙ t.1 h)

-- how the mask of a comparison with zero is computed
pub mask_computed : (lanes : List ℕ) → length lanes ≡ 32
    → mask_l (map (top 7) (zip2 (λ a b. cond (eqb a b) 255 0) lanes (replicate 32 0))) % 2 ^ 64 ≡ mask_of lanes
mask_computed lanes long = bitmask_splat w8 eqb lanes 32 0 long (omega arith)

-- the lowest place that isn't set
pub ones-tell : (mask : ℕ) → mask < 2 ^ 32
    → ((k : ℕ) → k < trailing_ones w32 mask → bit_at mask k ≡ 1) × (trailing_ones w32 mask < 32 → bit_at mask (trailing_ones w32 mask) ≡ 0)
unfolding count_trailing_zeros
ones-tell mask fits = ⊎_elim
    (λ (below : mask + 1 < 2 ^ 32). let h = bit_at-trailing_ones w32 mask below in (h.2, λ _. h.1))
    (λ (most : 2 ^ 32 ≤ mask + 1).
    let all : mask ≡ 4294967295 = omega arith in
    let len : trailing_ones w32 mask ≡ 32 = ap (trailing_ones w32) all in (
      (λ k below. ap (λ m. bit_at m k) all ∙ bit_at_ones 32 k (omega arith)),
      (λ below. absurd (omega arith)),
    ))
    (cases_lt (mask + 1) (2 ^ 32))

-- the places at which two set bits begin, and four
abbrev pub pairs : ℕ → ℕ
pairs mask = bit_and mask (mask / 2)

abbrev pub fours : ℕ → ℕ
fours mask = bit_and (pairs mask) (pairs mask / 4)

bit_at-pairs : (mask k : ℕ) → bit_at (pairs mask) k ≡ min (bit_at mask k) (bit_at mask (1 + k))
bit_at-pairs mask k = bit_at_and mask (mask / 2) k ∙ ap (λ (x : ℕ). min (bit_at mask k) (x % 2)) (shr-shr mask 1 k)

bit_at-fours : (mask k : ℕ) → bit_at (fours mask) k ≡ min (min (bit_at mask k) (bit_at mask (1 + k))) (min (bit_at mask (2 + k)) (bit_at mask (1 + (2 + k))))
bit_at-fours mask k =
    bit_at_and (pairs mask) (pairs mask / 4) k
    ∙ ap (λ (x : ℕ). min (bit_at (pairs mask) k) (x % 2)) (shr-shr (pairs mask) 2 k)
    ∙ ap (λ (x : ℕ). min x (bit_at (pairs mask) (2 + k))) (bit_at-pairs mask k)
    ∙ ap (λ (x : ℕ). min (min (bit_at mask k) (bit_at mask (1 + k))) x) (bit_at-pairs mask (2 + k))

four_set : (mask place : ℕ) → bit_at mask place ≡ 1 → bit_at mask (1 + place) ≡ 1 → bit_at mask (2 + place) ≡ 1 → bit_at mask (1 + (2 + place)) ≡ 1 → FourSet mask place
four_set mask place a b c d zero below = let e : place + 0 ≡ place = omega arith in ap (bit_at mask) e ∙ a
four_set mask place a b c d (suc zero) below = let e : place + 1 ≡ 1 + place = omega arith in ap (bit_at mask) e ∙ b
four_set mask place a b c d (suc (suc zero)) below = let e : place + 2 ≡ 2 + place = omega arith in ap (bit_at mask) e ∙ c
four_set mask place a b c d (suc (suc (suc zero))) below = let e : place + 3 ≡ 1 + (2 + place) = omega arith in ap (bit_at mask) e ∙ d
four_set mask place a b c d (suc (suc (suc (suc k)))) below = absurd (omega arith)

pub fours_tell : (mask place : ℕ) → (bit_at (fours mask) place ≡ 1) ↔ FourSet mask place
fours_tell mask place =
    let e = bit_at-fours mask place in
    let p = bit_at-lt mask place in
    let q = bit_at-lt mask (1 + place) in
    let r = bit_at-lt mask (2 + place) in
    let s = bit_at-lt mask (1 + (2 + place)) in (
      λ h. four_set mask place (omega arith) (omega arith) (omega arith) (omega arith),
      λ set.
          let a : bit_at mask place ≡ 1 = (let i : place ≡ place + 0 = omega arith in ap (bit_at mask) i) ∙ set 0 (omega arith) in
          let b : bit_at mask (1 + place) ≡ 1 = (let i : 1 + place ≡ place + 1 = omega arith in ap (bit_at mask) i) ∙ set 1 (omega arith) in
          let c : bit_at mask (2 + place) ≡ 1 = (let i : 2 + place ≡ place + 2 = omega arith in ap (bit_at mask) i) ∙ set 2 (omega arith) in
          let d : bit_at mask (1 + (2 + place)) ≡ 1 = (let i : 1 + (2 + place) ≡ place + 3 = omega arith in ap (bit_at mask) i) ∙ set 3 (omega arith) in
          omega arith,
    )

fours-lt : (mask : ℕ) → mask < 2 ^ 32 → fours mask < 2 ^ 32
fours-lt mask fits = omega (arith, and_le_l (pairs mask) (pairs mask / 4), and_le_l mask (mask / 2))

-- the lowest place at which four set bits begin
pub fours-first : (mask : ℕ) → mask < 2 ^ 32
    → (trailing_zeros w32 (fours mask) < 32 → FourSet mask (trailing_zeros w32 (fours mask)))
    × ((place : ℕ) → place < trailing_zeros w32 (fours mask) → ¬ FourSet mask place)
unfolding count_trailing_zeros
fours-first mask fits = ⊎_elim
    (λ (some : 0 < fours mask).
    let h = bit_at-trailing_zeros w32 (fours mask) some (fours-lt mask fits) in (
      (λ _. (fours_tell mask (trailing_zeros w32 (fours mask))).0 h.1),
      (λ place below four. let set = (fours_tell mask place).1 four in let clear = h.2 place below in absurd (omega arith)),
    ))
    (λ (none : fours mask ≤ 0).
    let is : fours mask ≡ 0 = omega arith in
    let len : trailing_zeros w32 (fours mask) ≡ 32 = ap (trailing_zeros w32) is in (
      (λ below. absurd (omega arith)),
      (λ place below four. let set = (fours_tell mask place).1 four in let clear : bit_at (fours mask) place ≡ 0 = ap (λ m. bit_at m place) is ∙ bit_at-zero place in absurd (omega arith)),
    ))
    (cases_lt 0 (fours mask))
