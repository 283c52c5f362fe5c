use Rattle.std.proofs.Common.{arith, ◌≡◌, ◌+◌, ◌^◌, ◌≤◌, take, get_or, true, false, sym, ◌∙◌}
use Rattle.std.proofs.lemmas.Int.Digits.{digits_value_more}
use Rattle.std.specs.Char.{is_ascii_digit}
use Rattle.std.specs.Str.Parse.{digits_value}
use Rattle.trap_script.proofs.NumberLemmas.{not_digits, too_great, digits_more, value_of_digit}
use Rattle.trap_script.proofs.numbers.read_number.Goals as goal

pub returns-then-not-is_ascii_digit : goal.returns-then-not-is_ascii_digit
returns-then-not-is_ascii_digit c =
    let other : is_ascii_digit (get_or c.args.bytes.now c.digits.byte-index 0) ≡ false = cc in
    sym (not_digits c.args.bytes.now c.digits.byte-index c.digits-test.true other)

pub returns-in_err-checked_mul : goal.returns-in_err-checked_mul
returns-in_err-checked_mul c =
    let more = digits_value_more 10 c.args.bytes.now c.digits.byte-index c.digits-test.true in
    let great : 2 ^ 64 ≤ digits_value 10 (take (c.digits.byte-index + 1) c.args.bytes.now) = omega (arith, more, c.in_err-checked_mul.ensures) in
    c.from_residual.ensures ∙ sym (too_great c.args.bytes.now (c.digits.byte-index + 1) great)

pub returns-in_err-value : goal.returns-in_err-value
returns-in_err-value c =
    let more = digits_value_more 10 c.args.bytes.now c.digits.byte-index c.digits-test.true in
    let digit : is_ascii_digit (get_or c.args.bytes.now c.digits.byte-index 0) ≡ true = cc in
    let value = value_of_digit (get_or c.args.bytes.now c.digits.byte-index 0) digit in
    let great : 2 ^ 64 ≤ digits_value 10 (take (c.digits.byte-index + 1) c.args.bytes.now) = omega (arith, more, value, c.from.ensures, c.in_ok-checked_mul.ensures, c.in_err-value.ensures) in
    c.from_residual-in_err-value.ensures ∙ sym (too_great c.args.bytes.now (c.digits.byte-index + 1) great)

pub digits-preserved : goal.digits-preserved
digits-preserved c =
    let more = digits_value_more 10 c.args.bytes.now c.digits.byte-index c.digits-test.true in
    let digit : is_ascii_digit (get_or c.args.bytes.now c.digits.byte-index 0) ≡ true = cc in
    let value = value_of_digit (get_or c.args.bytes.now c.digits.byte-index 0) digit in
    record {
      digits = digits_more c.args.bytes.now c.digits.byte-index c.digits-test.true c.digits.invariant.digits digit;
      value = omega (arith, more, value, c.from.ensures, c.in_ok-checked_mul.ensures, c.in_ok-value.ensures);
      fits = omega (arith, c.in_ok-value.ensures);
    }
