-- Numbers that follow from a seed.
use Rattle.std.specs.Prelude.{ℕ, zero, suc, ◌+◌, ◌*◌, ◌/◌, ◌%◌, ◌^◌, List, [], ◌∷◌}

-- the number after this one
abbrev pub next_number : ℕ → ℕ
next_number x = (x * 1103515245 + 12345) % 2 ^ 31

-- the byte that is drawn with a number
abbrev pub drawn_byte : ℕ → ℕ
drawn_byte x = x / 65536 % 256

-- the number after that many draws
abbrev pub after_draws : ℕ → ℕ → ℕ
after_draws zero x = x
after_draws (suc n) x = after_draws n (next_number x)

-- that many bytes, drawn after this number
abbrev pub drawn : ℕ → ℕ → List ℕ
drawn zero x = []
drawn (suc n) x = drawn_byte (next_number x) ∷ drawn n (next_number x)
