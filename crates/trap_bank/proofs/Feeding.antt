-- What a source in memory gives.
use Rattle.std.proofs.Common.{◌≡◌, ℕ, ◌+◌, ◌-◌, ◌<◌, min, max, List, [], ◌++◌, length, take, drop, sym, ◌∙◌, ap, arith, take-append-drop, drop-drop, length-drop}
use Rattle.std.proofs.lemmas.List.{nil_from_length}

-- what was left is what was given and what is left
pub given_of_left : (bytes buf : List ℕ) (given n : ℕ) → take n buf ≡ take n (drop given bytes) → drop given bytes ≡ take n buf ++ drop (given + n) bytes
given_of_left bytes buf given n front =
    sym (take-append-drop n (drop given bytes)) ∙ ap (λ (xs : List ℕ). xs ++ drop n (drop given bytes)) (sym front)
    ∙ ap (λ (xs : List ℕ). take n buf ++ xs) (drop-drop n given bytes)

-- where nothing is given although there is room, nothing is left
pub none_left : (bytes : List ℕ) (given piece room n : ℕ) → n ≡ min (max piece 1) (min room (length bytes - given)) → 0 < room → n ≡ 0 → drop (given + n) bytes ≡ []
none_left bytes given piece room n is open_ none = nil_from_length (drop (given + n) bytes) (simp length-drop (omega arith))
