-- Numbers with the same bytes are the same.
use Rattle.std.proofs.Common.{◌≡◌, ℕ, ◌^◌, ◌<◌, ap, sym, ◌∙◌}
use Rattle.std.specs.Int.{w16, w32, w64, to_be_bytes, from_be_bytes}
use Rattle.std.proofs.lemmas.Nat.{from_be_bytes-to_be_bytes_2, from_be_bytes-to_be_bytes_4, from_be_bytes-to_be_bytes_8}

pub same_of_2 : (x y : ℕ) → x < 2 ^ 16 → y < 2 ^ 16 → to_be_bytes w16 x ≡ to_be_bytes w16 y → x ≡ y
same_of_2 x y a b e = sym (from_be_bytes-to_be_bytes_2 x a) ∙ ap (from_be_bytes w16) e ∙ from_be_bytes-to_be_bytes_2 y b

pub same_of_4 : (x y : ℕ) → x < 2 ^ 32 → y < 2 ^ 32 → to_be_bytes w32 x ≡ to_be_bytes w32 y → x ≡ y
same_of_4 x y a b e = sym (from_be_bytes-to_be_bytes_4 x a) ∙ ap (from_be_bytes w32) e ∙ from_be_bytes-to_be_bytes_4 y b

pub same_of_8 : (x y : ℕ) → x < 2 ^ 64 → y < 2 ^ 64 → to_be_bytes w64 x ≡ to_be_bytes w64 y → x ≡ y
same_of_8 x y a b e = sym (from_be_bytes-to_be_bytes_8 x a) ∙ ap (from_be_bytes w64) e ∙ from_be_bytes-to_be_bytes_8 y b
