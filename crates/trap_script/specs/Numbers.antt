-- Decimal numbers as text.
use Rattle.std.specs.Prelude.{ℕ, ◌^◌, List, length, slice_index, nat_le, nat_lt, ◌==◌, ◌&&◌, ◌||◌}
use Rattle.std.specs.Prelude.{not, Bool, if◌then◌else◌, Option, Some, None}
use Rattle.std.specs.Str.{all_ascii_digits}
use Rattle.std.specs.Str.Parse.{digits_value}

-- one to twenty bytes, and no leading zero other than `0` itself
abbrev pub has_shape : List ℕ → Bool
has_shape text =
    nat_le 1 (length text) && nat_le (length text) 20
    && (not (slice_index text 0 == 48) || length text == 1)

-- the number that a text is, if it is one below 2 ^ 64 in decimal digits
abbrev pub number_of : List ℕ → Option ℕ
number_of text =
    if has_shape text && all_ascii_digits text && nat_lt (digits_value 10 text) (2 ^ 64)
    then Some (digits_value 10 text)
    else None
