use Rattle.std.proofs.Common.{◌≡◌, ◌^◌, ◌<◌, take, true}
use Rattle.std.specs.Str.{all_ascii_digits}
use Rattle.std.specs.Str.Parse.{digits_value}
use Rattle.trap_script.proofs.numbers.read_number.Given as goal

-- The bytes so far are digits, and the value is theirs.
abbrev pub invariant-digits : goal.invariant-digits
invariant-digits l = record {
  digits : all_ascii_digits (take l.byte-index l.bytes) ≡ true;
  value : l.value ≡ digits_value 10 (take l.byte-index l.bytes);
  fits : l.value < 2 ^ 64;
}
