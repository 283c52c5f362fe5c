-- The forms of a request line: what the fields after its first one ask.
use Rattle.std.specs.Prelude.{ℕ, List, [], ◌∷◌, Option, Some, None, Result, Ok, Err}
use Rattle.hex.specs.Hex.{decode_sized}
use Rattle.trap_model.specs.declared.request.Request.{Request}
use Rattle.trap_model.specs.declared.request.Request.TheVariants.{Write, Read, At, By, Info, Quit}
use Rattle.trap_model.specs.declared.request.Request.TheVariants.{Bad}
use Rattle.trap_script.specs.Numbers.{number_of}

-- `Q`
abbrev pub quit_form : List (List ℕ) → Request
quit_form [] = Quit
quit_form (field ∷ fields) = Bad

-- `R BLOCK`
abbrev pub read_request : Option ℕ → Request
read_request (Some block) = Read block
read_request None = Bad

abbrev pub read_form : List (List ℕ) → Request
read_form (block ∷ []) = read_request (number_of block)
read_form [] = Bad
read_form (block ∷ field ∷ fields) = Bad

-- `W TIME BLOCK HEX`
abbrev pub write_request : {E : Type 0} → Option ℕ → Option ℕ → Result (List ℕ) E → Request
write_request (Some time) (Some block) (Ok bytes) = Write time block bytes
write_request (Some time) (Some block) (Err e) = Bad
write_request (Some time) None bytes = Bad
write_request None block bytes = Bad

abbrev pub write_form : ℕ → List (List ℕ) → Request
write_form size (time ∷ block ∷ hex ∷ []) =
    write_request (number_of time) (number_of block) (decode_sized hex size)
write_form size [] = Bad
write_form size (time ∷ []) = Bad
write_form size (time ∷ block ∷ []) = Bad
write_form size (time ∷ block ∷ hex ∷ field ∷ fields) = Bad

-- two fields, each a number
abbrev pub both_numbers : Option ℕ → Option ℕ → Option (ℕ × ℕ)
both_numbers (Some first) (Some second) = Some (first, second)
both_numbers (Some first) None = None
both_numbers None second = None

abbrev pub two_numbers : List (List ℕ) → Option (ℕ × ℕ)
two_numbers (first ∷ second ∷ []) = both_numbers (number_of first) (number_of second)
two_numbers [] = None
two_numbers (first ∷ []) = None
two_numbers (first ∷ second ∷ field ∷ fields) = None

-- `A SEQ BLOCK`
abbrev pub at_request : Option (ℕ × ℕ) → Request
at_request (Some numbers) = At numbers.0 numbers.1
at_request None = Bad

abbrev pub at_form : List (List ℕ) → Request
at_form fields = at_request (two_numbers fields)

-- `T TIME BLOCK`
abbrev pub by_request : Option (ℕ × ℕ) → Request
by_request (Some numbers) = By numbers.0 numbers.1
by_request None = Bad

abbrev pub by_form : List (List ℕ) → Request
by_form fields = by_request (two_numbers fields)

-- `I`
abbrev pub info_form : List (List ℕ) → Request
info_form [] = Info
info_form (field ∷ fields) = Bad
