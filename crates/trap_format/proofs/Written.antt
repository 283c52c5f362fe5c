-- A list of bytes that is written piece by piece, from its front on.
use Rattle.std.proofs.Common.{◌≡◌, ℕ, ◌+◌, ◌≤◌, List, [], ◌++◌, length, take, drop, refl, ap, sym, ◌∙◌, arith, length-append, length-drop}
use Rattle.std.proofs.lemmas.List.{length-take-le, take_at, take_all}
use Rattle.trap_block.specs.Fields.{put_over}

-- of n bytes the first ones are these
pub record Written (n at : ℕ) (front ys : List ℕ) : Type 0 where
  pub len : length ys ≡ n
  pub is : take at ys ≡ front

pub written_none : (n : ℕ) (xs : List ℕ) → length xs ≡ n → Written n 0 [] xs
written_none n xs len = record { len = len; is = refl }

-- one more piece
pub written_more : (n at : ℕ) (front p xs ys : List ℕ) → Written n at front xs → at + length p ≤ n → ys ≡ put_over at p xs → Written n (at + length p) (front ++ p) ys
written_more n at front p xs ys w room e =
    let short : length (take at xs) ≡ at = length-take-le at xs (omega (arith, w.len)) in
    let first = length-append (take at xs) p in
    let rest = length-drop (at + length p) xs in
    let all = length-append (take at xs ++ p) (drop (at + length p) xs) in
    let size : length (take at xs ++ p) ≡ at + length p = omega arith in
    let len : length (put_over at p xs) ≡ n = omega (arith, w.len) in
    record {
      len = ap length e ∙ len;
      is = ap (take (at + length p)) e ∙ take_at (take at xs ++ p) (drop (at + length p) xs) (at + length p) size ∙ ap (λ (f : List ℕ). f ++ p) w.is;
    }

-- all of them
pub written_all : (n : ℕ) (front ys : List ℕ) → Written n n front ys → ys ≡ front
written_all n front ys w = sym (take_all n ys (omega (arith, w.len))) ∙ w.is
