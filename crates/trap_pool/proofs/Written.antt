-- A list of bytes with a piece written over a part of it.
use Rattle.std.proofs.Common.{◌≡◌, ℕ, zero, suc, ◌+◌, ◌≤◌, List, [], ◌∷◌, ◌++◌, length, take, drop, refl, ap, sym, ◌∙◌, arith, zero-add}
use Rattle.trap_block.specs.Fields.{put_over}
use Rattle.trap_pool.specs.Lending.{laid}

-- a piece written over a list from a place on, as far as that goes
abbrev pub over : ℕ → List ℕ → List ℕ → List ℕ
over zero ws xs = laid ws xs
over (suc i) ws [] = []
over (suc i) ws (x ∷ xs) = x ∷ over i ws xs

laid_nil : (ws : List ℕ) → laid ws [] ≡ []
laid_nil [] = refl
laid_nil (w ∷ ws) = refl

pub take_laid : (n : ℕ) (ws xs : List ℕ) → take n (laid ws xs) ≡ laid ws (take n xs)
take_laid zero ws xs = sym (laid_nil ws)
take_laid (suc n) [] xs = refl
take_laid (suc n) (w ∷ ws) [] = refl
take_laid (suc n) (w ∷ ws) (x ∷ xs) = ap (λ ys. w ∷ ys) (take_laid n ws xs)

pub drop_laid : (n : ℕ) (ws xs : List ℕ) → drop n (laid ws xs) ≡ laid (drop n ws) (drop n xs)
drop_laid zero ws xs = refl
drop_laid (suc n) [] xs = refl
drop_laid (suc n) (w ∷ ws) [] = sym (laid_nil (drop n ws))
drop_laid (suc n) (w ∷ ws) (x ∷ xs) = drop_laid n ws xs

-- before the place the list is as it was
pub take_over : (n at : ℕ) (ws xs : List ℕ) → n ≤ at → take n (over at ws xs) ≡ take n xs
take_over zero at ws xs h = refl
take_over (suc n) zero ws xs h = absurd (omega (arith, h))
take_over (suc n) (suc at) ws [] h = refl
take_over (suc n) (suc at) ws (x ∷ xs) h = ap (λ ys. x ∷ ys) (take_over n at ws xs (omega (arith, h)))

-- what is left after n is the rest, written over from that much earlier
pub drop_over : (n at to : ℕ) (ws xs : List ℕ) → to ≡ n + at → drop n (over to ws xs) ≡ over at ws (drop n xs)
drop_over zero at to ws xs h = let e : to ≡ at = omega (arith, h) in ap (λ i. over i ws xs) e
drop_over (suc n) at zero ws xs h = absurd (omega (arith, h))
drop_over (suc n) zero (suc to) ws [] h = sym (laid_nil ws)
drop_over (suc n) (suc at) (suc to) ws [] h = refl
drop_over (suc n) at (suc to) ws (x ∷ xs) h = drop_over n at to ws xs (omega (arith, h))

-- where the whole piece fits
pub take_piece : (ws xs : List ℕ) → length ws ≤ length xs → take (length ws) (laid ws xs) ≡ ws
take_piece [] xs h = refl
take_piece (w ∷ ws) [] h = absurd (omega (arith, h))
take_piece (w ∷ ws) (x ∷ xs) h = ap (λ ys. w ∷ ys) (take_piece ws xs (omega (arith, h)))

pub drop_piece : (n : ℕ) (ws xs : List ℕ) → length ws ≤ n → drop n (laid ws xs) ≡ drop n xs
drop_piece n [] xs h = refl
drop_piece zero (w ∷ ws) xs h = absurd (omega (arith, h))
drop_piece (suc n) (w ∷ ws) [] h = refl
drop_piece (suc n) (w ∷ ws) (x ∷ xs) h = drop_piece n ws xs (omega (arith, h))

front_is_laid : (ws xs : List ℕ) → length ws ≤ length xs → ws ++ drop (length ws) xs ≡ laid ws xs
front_is_laid [] xs h = refl
front_is_laid (w ∷ ws) [] h = absurd (omega (arith, h))
front_is_laid (w ∷ ws) (x ∷ xs) h = ap (λ ys. w ∷ ys) (front_is_laid ws xs (omega (arith, h)))

pub put_is_over : (at : ℕ) (ws xs : List ℕ) → at + length ws ≤ length xs → put_over at ws xs ≡ over at ws xs
put_is_over zero ws xs h =
    let e : 0 + length ws ≡ length ws = zero-add (length ws) in
    ap (λ n. ws ++ drop n xs) e ∙ front_is_laid ws xs (omega (arith, h))
put_is_over (suc at) ws [] h = absurd (omega (arith, h))
put_is_over (suc at) ws (x ∷ xs) h =
    let e : suc at + length ws ≡ suc (at + length ws) = omega arith in
    ap (λ n. x ∷ (take at xs ++ ws ++ drop n (x ∷ xs))) e ∙ ap (λ ys. x ∷ ys) (put_is_over at ws xs (omega (arith, h)))

-- a list cut and filled up to another one's length
pub filled : (ys xs : List ℕ) → take (length xs) (ys ++ drop (length ys) xs) ≡ laid ys xs
filled [] [] = refl
filled [] (x ∷ xs) = ap (λ ys. x ∷ ys) (filled [] xs)
filled (y ∷ ys) [] = refl
filled (y ∷ ys) (x ∷ xs) = ap (λ zs. y ∷ zs) (filled ys xs)

laid_twice : (ws xs : List ℕ) → laid (ws ++ drop (length ws) xs) xs ≡ laid ws xs
laid_twice [] [] = refl
laid_twice [] (x ∷ xs) = ap (λ ys. x ∷ ys) (laid_twice [] xs)
laid_twice (w ∷ ws) [] = refl
laid_twice (w ∷ ws) (x ∷ xs) = ap (λ ys. w ∷ ys) (laid_twice ws xs)

-- a piece written from a place on, as a Vec has it
laid_at : (at : ℕ) (ws xs : List ℕ) → laid (take at xs ++ (ws ++ drop (length ws) (drop at xs))) xs ≡ over at ws xs
laid_at zero ws xs = laid_twice ws xs
laid_at (suc at) ws [] = laid_nil (ws ++ drop (length ws) [])
laid_at (suc at) ws (x ∷ xs) = ap (λ ys. x ∷ ys) (laid_at at ws xs)

pub vec_is_over : (n at : ℕ) (ws xs : List ℕ) → n ≡ length xs
    → let all = take at xs ++ (ws ++ drop (length ws) (drop at xs)) in take n (all ++ drop (length all) xs) ≡ over at ws xs
vec_is_over n at ws xs e =
    let all = take at xs ++ (ws ++ drop (length ws) (drop at xs)) in
    ap (λ i. take i (all ++ drop (length all) xs)) e ∙ filled all xs ∙ laid_at at ws xs
