-- Hexadecimal digits by a table.
use Rattle.std.proofs.Common.{◌≡◌, ℕ, ◌+◌, ◌*◌, ◌<◌, ◌≤◌, List, get_or, map, Option, Some, None, unwrap_or, Ok, Err, refl, ap, arith}
use Rattle.std.specs.List.{range_with_len}
use Rattle.std.proofs.lemmas.List.FromFn.{get_or-map-range_with_len}
use Rattle.hex.specs.Hex.{hex_digit_value, digit_or_error, value_at, pair_value}
use Rattle.hex.specs.declared.error.FromHexError.TheVariants.{InvalidHexCharacter}

-- the value of a digit, or 255
abbrev pub value_or : ℕ → ℕ
value_or c = unwrap_or (hex_digit_value c) 255

-- the value of each byte
abbrev pub table : List ℕ
table = map value_or (range_with_len 0 256)

pub table_at : (c : ℕ) → c < 256 → get_or table c 0 ≡ value_or c
table_at c below = get_or-map-range_with_len value_or 0 256 c c 0 below (omega arith)

small : (c v : ℕ) → hex_digit_value c ≡ Some v → v < 16
small c v h = grind (arith)

digit_by : (c i : ℕ) (o : Option ℕ) → hex_digit_value c ≡ o → unwrap_or o 255 ≤ 15 → value_at c i ≡ Ok (unwrap_or o 255)
digit_by c i (Some v) is most = ap (digit_or_error c i) is
digit_by c i None is most = absurd (omega arith)

-- a value up to 15 is a digit's
pub digit : (c i : ℕ) → value_or c ≤ 15 → value_at c i ≡ Ok (value_or c)
digit c i most = digit_by c i (hex_digit_value c) refl most

none_by : (c i : ℕ) (o : Option ℕ) → hex_digit_value c ≡ o → 15 < unwrap_or o 255 → value_at c i ≡ Err (InvalidHexCharacter c i)
none_by c i (Some v) is more = let few = small c v is in absurd (omega arith)
none_by c i None is more = ap (digit_or_error c i) is

-- a greater one is no digit's
pub no_digit : (c i : ℕ) → 15 < value_or c → value_at c i ≡ Err (InvalidHexCharacter c i)
no_digit c i more = none_by c i (hex_digit_value c) refl more

pub pair_read : (high low i : ℕ) → value_or high ≤ 15 → value_or low ≤ 15 → pair_value high low i ≡ Ok (value_or high * 16 + value_or low)
pair_read high low i a b = let first = digit high i a in let second = digit low (i + 1) b in rw (first, second) refl

pub high_refused : (high low i : ℕ) → 15 < value_or high → pair_value high low i ≡ Err (InvalidHexCharacter high i)
high_refused high low i a = let first = no_digit high i a in rw first refl

pub low_refused : (high low i : ℕ) → value_or high ≤ 15 → 15 < value_or low → pair_value high low i ≡ Err (InvalidHexCharacter low (i + 1))
low_refused high low i a b = let first = digit high i a in let second = no_digit low (i + 1) b in rw (first, second) refl
