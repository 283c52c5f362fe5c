-- Replies that were given.
use Rattle.std.specs.Prelude.{ℕ, suc, List, [], ◌∷◌, length, drop, nat_eq, if◌then◌else◌}
use Rattle.std.specs.List.{starts_with}

-- how many of these texts, one after the other, begin the bytes: the greatest number of them
abbrev pub given : List (List ℕ) → List ℕ → ℕ
given [] bytes = 0
given (text ∷ texts) bytes =
    if starts_with nat_eq bytes text then suc (given texts (drop (length text) bytes)) else 0
