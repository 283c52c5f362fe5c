-- The algebra of exclusive-or on lists of bytes.
use Rattle.std.proofs.Common.{◌≡◌, ℕ, zero, suc, ◌+◌, ◌-◌, ◌<◌, ◌≤◌, List, [], ◌∷◌, length, get_or, refl, sym, ap, subst, ◌∙◌, arith, ⊎_elim}
use Rattle.std.specs.Simd.Lanes.{chunk, put_chunk}
use Rattle.std.proofs.lemmas.Bool.{cases_lt}
use Rattle.std.proofs.lemmas.Simd.{length-chunk, get_or-chunk, length-put_chunk, get_or-put_chunk_below, get_or-put_chunk_at, get_or-put_chunk_above}
use Rattle.std.specs.Int.Bits.{bit_xor, xor_assoc, xor_self, xor_zero_r}
use Rattle.std.proofs.lemmas.Nat.{xor_comm}
use Rattle.trap_block.specs.Xor.{xor, zeros}

-- the length
pub length-xor : (xs ys : List ℕ) → length ys ≡ length xs → length (xor xs ys) ≡ length xs
length-xor [] ys e = refl
length-xor (x ∷ xs) [] e = cc
length-xor (x ∷ xs) (y ∷ ys) e = let h : length ys ≡ length xs = omega arith in omega (arith, length-xor xs ys h)

-- the byte at an index
pub get_or-xor : (xs ys : List ℕ) (k : ℕ) → length ys ≡ length xs → get_or (xor xs ys) k 0 ≡ bit_xor (get_or xs k 0) (get_or ys k 0)
get_or-xor [] [] k e = refl
get_or-xor [] (y ∷ ys) k e = cc
get_or-xor (x ∷ xs) [] k e = cc
get_or-xor (x ∷ xs) (y ∷ ys) zero e = refl
get_or-xor (x ∷ xs) (y ∷ ys) (suc k) e = get_or-xor xs ys k (omega arith)

-- a list with the bytes of an exclusive-or is the exclusive-or
pub xor_from_bytes : (zs xs ys : List ℕ) → length xs ≡ length zs → length ys ≡ length zs → ((k : ℕ) → k < length zs → get_or zs k 0 ≡ bit_xor (get_or xs k 0) (get_or ys k 0)) → zs ≡ xor xs ys
xor_from_bytes [] [] [] e f h = refl
xor_from_bytes [] [] (y ∷ ys) e f h = cc
xor_from_bytes [] (x ∷ xs) ys e f h = cc
xor_from_bytes (z ∷ zs) [] ys e f h = cc
xor_from_bytes (z ∷ zs) (x ∷ xs) [] e f h = cc
xor_from_bytes (z ∷ zs) (x ∷ xs) (y ∷ ys) e f h =
    let first : z ≡ bit_xor x y = h 0 (omega arith) in
    let rest : zs ≡ xor xs ys = xor_from_bytes zs xs ys (omega arith) (omega arith) (λ k below. h (suc k) (omega arith)) in
    cc

pub xor-comm : (xs ys : List ℕ) → xor xs ys ≡ xor ys xs
xor-comm [] [] = refl
xor-comm [] (y ∷ ys) = refl
xor-comm (x ∷ xs) [] = refl
xor-comm (x ∷ xs) (y ∷ ys) = let h = xor_comm x y in let r = xor-comm xs ys in cc

pub xor-assoc : (xs ys zs : List ℕ) → xor (xor xs ys) zs ≡ xor xs (xor ys zs)
xor-assoc [] ys zs = refl
xor-assoc (x ∷ xs) [] zs = refl
xor-assoc (x ∷ xs) (y ∷ ys) [] = refl
xor-assoc (x ∷ xs) (y ∷ ys) (z ∷ zs) = let h = xor_assoc x y z in let r = xor-assoc xs ys zs in cc

pub xor-self : (xs : List ℕ) → xor xs xs ≡ zeros (length xs)
xor-self [] = refl
xor-self (x ∷ xs) = let h = xor_self x in let r = xor-self xs in cc

pub xor-zeros : (xs : List ℕ) (n : ℕ) → length xs ≡ n → xor xs (zeros n) ≡ xs
xor-zeros [] n e = refl
xor-zeros (x ∷ xs) zero e = cc
xor-zeros (x ∷ xs) (suc n) e = let h = xor_zero_r x in let r = xor-zeros xs n (omega arith) in cc

-- where the exclusive-or stands before one place, and what was there from it on
pub record IsXoredTo (at : ℕ) (old src new : List ℕ) : Type 0 where
  pub inside : at ≤ length new
  pub done : (k : ℕ) → k < at → get_or new k 0 ≡ bit_xor (get_or old k 0) (get_or src k 0)
  pub still : (k : ℕ) → at ≤ k → get_or new k 0 ≡ get_or old k 0

-- one vector more is stored
pub xor_stored : (at : ℕ) (old src dst both : List ℕ) → at + 32 ≤ length dst → length src ≡ length dst
    → ((k : ℕ) → k < at → get_or dst k 0 ≡ bit_xor (get_or old k 0) (get_or src k 0)) → ((k : ℕ) → at ≤ k → get_or dst k 0 ≡ get_or old k 0)
    → both ≡ xor (chunk at 32 dst) (chunk at 32 src) → IsXoredTo (at + 32) old src (put_chunk at dst both)
xor_stored at old src dst both room same done still is =
    let len_d = length-chunk at 32 dst room in
    let len_s = length-chunk at 32 src (omega arith) in
    let len : length both ≡ 32 = ap length is ∙ length-xor (chunk at 32 dst) (chunk at 32 src) (len_s ∙ sym len_d) ∙ len_d in
    let all = length-put_chunk at dst both in
    let lane : (j : ℕ) → j < 32 → get_or (put_chunk at dst both) (at + j) 0 ≡ bit_xor (get_or old (at + j) 0) (get_or src (at + j) 0) =
    λ j small.
    get_or-put_chunk_at at dst both j 0 (omega arith) (omega arith)
    ∙ ap (λ (l : List ℕ). get_or l j 0) is
    ∙ get_or-xor (chunk at 32 dst) (chunk at 32 src) j (len_s ∙ sym len_d)
    ∙ ap (λ (x : ℕ). bit_xor x (get_or (chunk at 32 src) j 0)) (get_or-chunk at 32 dst j 0 small ∙ still (at + j) (omega arith))
    ∙ ap (λ (x : ℕ). bit_xor (get_or old (at + j) 0) x) (get_or-chunk at 32 src j 0 small) in
    record {
      inside = omega arith;
      done = λ k below. ⊎_elim
          (λ (before : k < at). get_or-put_chunk_below at dst both k 0 before ∙ done k before)
          (λ (behind : at ≤ k).
          let e : at + (k - at) ≡ k = omega arith in
          subst (λ (i : ℕ). get_or (put_chunk at dst both) i 0 ≡ bit_xor (get_or old i 0) (get_or src i 0)) e (lane (k - at) (omega arith)))
          (cases_lt k at);
      still = λ k from. get_or-put_chunk_above at dst both k 0 (omega arith) ∙ still k (omega arith);
    }
