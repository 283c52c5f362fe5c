-- Lines cut into fields, and inputs cut into lines.
use Rattle.std.proofs.Common.{arith, ◌≡◌, ℕ, ◌+◌, ◌-◌, ◌<◌, ◌≤◌, length, take, drop, true, false, Bool, cond, ltb, List, [], ◌∷◌, Option, Some, None, Result, Ok, Err, IsOk, ◌∙◌, ap, refl, sym, subst, MatchResult}
use Rattle.std.proofs.lemmas.List.{take_all, length-drop}
use Rattle.std.proofs.lemmas.List.Splits.{slice_split_first, slice_split_none, length-slice_split}
use Rattle.std.proofs.lemmas.List.Sums.{fails_before_first}
use Rattle.std.proofs.lemmas.List.Elements.{All-from_get_or, All-weaker}
use Rattle.std.proofs.lemmas.Bool.{false≢true}
use Rattle.std.specs.List.{AllPass}
use Rattle.hex.proofs.HexLemmas.{IsOk-decode_sized}
use Rattle.hex.specs.Hex.{decode_sized, is_hex_digit}
use Rattle.hex.specs.declared.error.FromHexError.{FromHexError}
use Rattle.std.specs.List.{slice_split, position_or_len}
use Rattle.trap_model.specs.declared.request.Request.TheVariants.{Write, Bad}
use Rattle.trap_script.specs.Numbers.{number_of}
use Rattle.trap_script.specs.declared.lines.Line.{Line}
use Rattle.trap_script.specs.declared.lines.Line.TheVariants as line
use Rattle.trap_script.specs.Lines.{is_space, quit_form, read_form, write_form, write_request, two_numbers, info_form, LeavesBuffer}

-- the place of the first space, if there is one
abbrev pub first_space : List ℕ → Option ℕ
first_space line =
    cond (ltb (position_or_len is_space line) (length line)) (Some (position_or_len is_space line)) None

-- a line with a space is cut there
pub cut_at_space : (line : List ℕ) (at : ℕ) → first_space line ≡ Some at
    → slice_split is_space line ≡ take at line ∷ slice_split is_space (take (length line - (at + 1)) (drop (at + 1) line))
cut_at_space line at found =
    let here : at ≡ position_or_len is_space line = grind (arith, found) in
    let inside : position_or_len is_space line < length line = grind (arith, found) in
    let rest : take (length line - (at + 1)) (drop (at + 1) line) ≡ drop (at + 1) line = take_all (length line - (at + 1)) (drop (at + 1) line) (omega (arith, length-drop (at + 1) line)) in
    rw (rest, here) (slice_split_first is_space line 0 inside)

-- a line without a space is one field
pub no_cut : (line : List ℕ) → first_space line ≡ None → slice_split is_space line ≡ line ∷ []
no_cut line found =
    let all : length line ≤ position_or_len is_space line = grind (arith, found) in
    slice_split_none is_space line (All-from_get_or (λ byte. is_space byte ≡ false) line 0
    (λ i inside. fails_before_first is_space line i 0 (omega arith)))

-- a list of parts that has a first one
pub record HasFirst (parts : List (List ℕ)) : Type 0 where
  pub first : List ℕ
  pub others : List (List ℕ)
  pub is : parts ≡ first ∷ others

-- a list that isn't empty has a first part
pub has_first : (parts : List (List ℕ)) → 0 < length parts → HasFirst parts
has_first [] some = absurd (omega (arith, some))
has_first (part ∷ parts) some = record { first = part; others = parts; is = refl }

-- a text has at least one field
pub fields_have_first : (text : List ℕ) → HasFirst (slice_split is_space text)
fields_have_first text = has_first (slice_split is_space text) (omega (arith, length-slice_split is_space text))

-- after `Q` nothing may stand
pub quit_with_more : (rest : List ℕ) → quit_form (slice_split is_space rest) ≡ Bad
quit_with_more rest = let fields = fields_have_first rest in ap quit_form fields.is

-- nor after `I`
pub info_with_more : (rest : List ℕ) → info_form (slice_split is_space rest) ≡ Bad
info_with_more rest = let fields = fields_have_first rest in ap info_form fields.is

-- after two numbers nothing may stand
pub numbers_with_more : (rest first behind second more : List ℕ)
    → slice_split is_space rest ≡ first ∷ slice_split is_space behind
    → slice_split is_space behind ≡ second ∷ slice_split is_space more
    → two_numbers (slice_split is_space rest) ≡ None
numbers_with_more rest first behind second more cut cut2 =
    let fields = fields_have_first more in
    ap two_numbers (cut ∙ ap (λ parts. first ∷ parts) (cut2 ∙ ap (λ parts. second ∷ parts) fields.is))

-- after the block of an `R` nothing may stand
pub read_with_more : (rest block more : List ℕ) → slice_split is_space rest ≡ block ∷ slice_split is_space more
    → read_form (slice_split is_space rest) ≡ Bad
read_with_more rest block more cut =
    let fields = fields_have_first more in
    ap read_form (cut ∙ ap (λ parts. block ∷ parts) fields.is)

-- a digit is no space
digit_apart : (byte : ℕ) → is_hex_digit byte ≡ true → is_space byte ≡ false
digit_apart byte digit = by (is_space byte) refl
  where
    by : (b : Bool) → is_space byte ≡ b → b ≡ false
    by false is = refl
    by true is = let same : byte ≡ 32 = grind (arith, is) in absurd (false≢true (subst (λ (c : ℕ). is_hex_digit c ≡ true) same digit))

-- digits are one field
one_field : (digits : List ℕ) → AllPass is_hex_digit digits → slice_split is_space digits ≡ digits ∷ []
one_field digits all =
    slice_split_none is_space digits (All-weaker (λ byte. is_hex_digit byte ≡ true) (λ byte. is_space byte ≡ false) digit_apart digits all)

-- without contents a `W` has no form
pub no_contents : (time block : Option ℕ) (e : FromHexError) → write_request time block (Err e) ≡ Bad
no_contents None block e = refl
no_contents (Some time) None e = refl
no_contents (Some time) (Some block) e = refl

-- after the block of a `W` stand the digits of its contents; a further field makes them none
pub write_fields : (size : ℕ) (time block digits : List ℕ)
    → write_form size (time ∷ block ∷ slice_split is_space digits) ≡ write_request (number_of time) (number_of block) (decode_sized digits size)
write_fields size time block digits = by (decode_sized digits size) refl
  where
    cut : (place : Option ℕ) → first_space digits ≡ place → (e : FromHexError) → decode_sized digits size ≡ Err e
        → write_form size (time ∷ block ∷ slice_split is_space digits) ≡ Bad
    cut None is e bad = ap (λ parts. write_form size (time ∷ block ∷ parts)) (no_cut digits is)
        ∙ ap (write_request (number_of time) (number_of block)) bad ∙ no_contents (number_of time) (number_of block) e
    cut (Some at) is e bad =
        let fields = fields_have_first (take (length digits - (at + 1)) (drop (at + 1) digits)) in
        ap (λ parts. write_form size (time ∷ block ∷ parts)) (cut_at_space digits at is ∙ ap (λ parts. take at digits ∷ parts) fields.is)

    by : (read : Result (List ℕ) FromHexError) → decode_sized digits size ≡ read
        → write_form size (time ∷ block ∷ slice_split is_space digits) ≡ write_request (number_of time) (number_of block) (decode_sized digits size)
    by (Ok bytes) is = ap (λ parts. write_form size (time ∷ block ∷ parts))
        (one_field digits ((IsOk-decode_sized digits size).0 (subst (λ (r : Result (List ℕ) FromHexError). IsOk r) (sym is) refl)).1)
    by (Err e) is = cut (first_space digits) refl e is
        ∙ sym (ap (write_request (number_of time) (number_of block)) is ∙ no_contents (number_of time) (number_of block) e)

-- what the text after a `W` asks, where its first two fields are cut off
pub write_parts : (size : ℕ) (rest time behind block digits : List ℕ)
    → slice_split is_space rest ≡ time ∷ slice_split is_space behind
    → slice_split is_space behind ≡ block ∷ slice_split is_space digits
    → write_form size (slice_split is_space rest) ≡ write_request (number_of time) (number_of block) (decode_sized digits size)
write_parts size rest time behind block digits cut cut2 =
    ap (write_form size) (cut ∙ ap (λ parts. time ∷ parts) cut2) ∙ write_fields size time block digits

-- what a decoder into a buffer says, by its answer
pub decoded : (read : Result (List ℕ) FromHexError) (result : Result Unit FromHexError) (new : List ℕ)
    → MatchResult read (λ bytes. (result ≡ Ok tt) × (new ≡ bytes)) (λ e. result ≡ Err e) → result ≡ Ok tt → read ≡ Ok new
decoded (Ok bytes) result new says is = ap Ok (sym says.1)
decoded (Err e) result new says is = absurd (cc (says, is))

pub undecoded : (read : Result (List ℕ) FromHexError) (result : Result Unit FromHexError) (new : List ℕ) (e : FromHexError)
    → MatchResult read (λ bytes. (result ≡ Ok tt) × (new ≡ bytes)) (λ e. result ≡ Err e) → result ≡ Err e → read ≡ Err e
undecoded (Ok bytes) result new e says is = absurd (cc (says.0, is))
undecoded (Err f) result new e says is = ap Err (cc (says, is))

-- a `W` that is asked, by what its three fields say
pub write_asked : {E : Type 0} (time block : Option ℕ) (read : Result (List ℕ) E) (t b : ℕ) (bytes : List ℕ)
    → time ≡ Some t → block ≡ Some b → read ≡ Ok bytes → write_request time block read ≡ Write t b bytes
write_asked time block read t b bytes one two three = rw (one, two, three) refl

-- a line that leaves the buffer alone
pub buffer_left : (read : Line) (buffer : List ℕ) → LeavesBuffer read buffer buffer
buffer_left (line.Write time block) buffer = tt
buffer_left (line.Read block) buffer = refl
buffer_left (line.At seq block) buffer = refl
buffer_left (line.By time block) buffer = refl
buffer_left line.Info buffer = refl
buffer_left (line.Keep seq) buffer = refl
buffer_left line.Quit buffer = refl
buffer_left line.Bad buffer = tt
