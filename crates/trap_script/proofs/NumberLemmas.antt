-- Texts of digits, and the numbers that they are.
use Rattle.std.proofs.Common.{arith, add-one, ◌≡◌, ℕ, zero, suc, ◌+◌, ◌-◌, ◌^◌, ◌<◌, ◌≤◌, length, take, get_or, true, false, List, [], ◌∷◌, Some, None, decimal, sym, ◌∙◌, ap}
use Rattle.std.proofs.lemmas.Fmt.{decimal-digits_value, digits_value-decimal, digits_decimal, decimal_nonempty, length-decimal-le, first_decimal, decimal_digit}
use Rattle.std.proofs.lemmas.Str.Parse.{IsNumeralModel, numerals_by_value, tells_all_ascii_digits, digits_value-take-le}
use Rattle.std.specs.Char.{is_ascii_digit, digit_value}
use Rattle.std.specs.Str.{all_ascii_digits}
use Rattle.std.specs.Str.Parse.{digits_value}
use Rattle.trap_script.specs.Numbers.{number_of}

-- a byte that is no digit
no_digits : (text : List ℕ) (i : ℕ) → i < length text → is_ascii_digit (get_or text i 0) ≡ false → all_ascii_digits text ≡ false
no_digits [] i inside other = grind arith
no_digits (byte ∷ text) zero inside other = grind arith
no_digits (byte ∷ text) (suc i) inside other = grind (arith, no_digits text i)

-- one more digit
digits_suc : (text : List ℕ) (i : ℕ) → i < length text → all_ascii_digits (take i text) ≡ true
    → is_ascii_digit (get_or text i 0) ≡ true → all_ascii_digits (take (suc i) text) ≡ true
digits_suc [] i inside before here = grind arith
digits_suc (byte ∷ text) zero inside before here = grind arith
digits_suc (byte ∷ text) (suc i) inside before here = grind (arith, digits_suc text i)

pub digits_more : (text : List ℕ) (i : ℕ) → i < length text → all_ascii_digits (take i text) ≡ true
    → is_ascii_digit (get_or text i 0) ≡ true → all_ascii_digits (take (i + 1) text) ≡ true
digits_more text i inside before here = rw add-one (digits_suc text i inside before here)

-- the value of a digit
pub value_of_digit : (byte : ℕ) → is_ascii_digit byte ≡ true → digit_value byte ≡ byte - 48
value_of_digit byte digit = grind arith

-- with a byte that is no digit a text is no number
pub not_digits : (text : List ℕ) (i : ℕ) → i < length text → is_ascii_digit (get_or text i 0) ≡ false → number_of text ≡ None
not_digits text i inside other = let e = no_digits text i inside other in grind (arith, e)

-- a text that begins with digits of too great a value is no number
pub too_great : (text : List ℕ) (i : ℕ) → 2 ^ 64 ≤ digits_value 10 (take i text) → number_of text ≡ None
too_great text i great =
    let e : 2 ^ 64 ≤ digits_value 10 text = omega (arith, digits_value-take-le 10 text i) in
    grind (arith, e)

-- the test of digits, and their value, as the library's lemmas take them
numerals : IsNumeralModel (λ digits. all_ascii_digits digits ≡ true) (digits_value 10)
numerals = numerals_by_value _ tells_all_ascii_digits

-- what a text must be to be a number
pub record IsNumberText (text : List ℕ) (n : ℕ) : Type 0 where
  pub some : 0 < length text
  pub short : length text ≤ 20
  pub first : get_or text 0 0 ≡ 48 → length text ≡ 1
  pub digits : all_ascii_digits text ≡ true
  pub value : digits_value 10 text ≡ n
  pub fits : n < 2 ^ 64

number_parts : (text : List ℕ) (n : ℕ) → number_of text ≡ Some n → IsNumberText text n
number_parts text n found = record {
  some = grind (arith, found);
  short = grind (arith, found);
  first = λ zero. grind (arith, found, zero);
  digits = grind (arith, found);
  value = grind (arith, found);
  fits = grind (arith, found);
}

number_from : (text : List ℕ) (n : ℕ) → IsNumberText text n → number_of text ≡ Some n
number_from text n is = grind (arith, is)

-- the decimal text of a number begins with 0 only where it is `0`
decimal_first : (n : ℕ) → n < 2 ^ 64 → get_or (decimal n) 0 0 ≡ 48 → length (decimal n) ≡ 1
decimal_first zero small is = ap length (decimal_digit 0 (omega arith))
decimal_first (suc n) small is = absurd (omega (arith, first_decimal (suc n) (omega arith) small, is))

-- a text that is a number is the number's decimal text
pub number_is_decimal : (text : List ℕ) (n : ℕ) → number_of text ≡ Some n → (n < 2 ^ 64) × (text ≡ decimal n)
number_is_decimal text n found =
    let parts = number_parts text n found in
    let fits : digits_value 10 text < 2 ^ 64 = omega (arith, parts.value, parts.fits) in
    (parts.fits, sym (decimal-digits_value numerals text parts.digits parts.some parts.first fits) ∙ ap decimal parts.value)

-- the decimal text of a number below 2 ^ 64 is that number
pub decimal_is_number : (text : List ℕ) (n : ℕ) → n < 2 ^ 64 → text ≡ decimal n → number_of text ≡ Some n
decimal_is_number text n small is = ap number_of is ∙ number_from (decimal n) n (record {
  some = decimal_nonempty n small;
  short = length-decimal-le 20 n (omega arith) (omega arith) small;
  first = decimal_first n small;
  digits = digits_decimal numerals n small;
  value = digits_value-decimal numerals n small;
  fits = small;
})
