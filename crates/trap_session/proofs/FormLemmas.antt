-- Which requests a line can be, and what is kept of a line.
use Rattle.std.proofs.Common.{◌≡◌, ⊎_elim, ℕ, ◌+◌, ◌<◌, ◌≤◌, nat_lt, List, [], ◌∷◌, length, take, length-take, Bool, true, false, Option, Some, None, Result, Ok, Err, sym, ap, subst, ◌∙◌, arith}
use Rattle.std.proofs.lemmas.Bool.{cases_lt, lt-ltb}
use Rattle.std.specs.Prelude.{if◌then◌else◌, min}
use Rattle.std.specs.List.{slice_split}
use Rattle.trap_model.specs.declared.request.Request.{Request}
use Rattle.trap_model.specs.declared.request.Request.TheVariants.{Write, Read, At, By, Info, Keep, Quit, Bad}
use Rattle.trap_script.specs.declared.lines.Line.{Line}
use Rattle.trap_script.specs.declared.lines.Line.TheVariants as line
use Rattle.trap_script.specs.Numbers.{number_of}
use Rattle.trap_script.specs.Lines.{is_space, is_letter, quit_form, read_request, read_form, write_request, write_form, two_numbers, at_request, at_form, by_request, by_form, info_form, request_of_fields, longest_line, request_of, request_with}
use Rattle.trap_session.specs.Forms.{IsAsked}

-- every request but `K`
abbrev IsPlain : Request → Type 0
IsPlain (Write time block bytes) = Unit {0}
IsPlain (Read block) = Unit {0}
IsPlain (At seq block) = Unit {0}
IsPlain (By time block) = Unit {0}
IsPlain Info = Unit {0}
IsPlain (Keep seq) = ⊥
IsPlain Quit = Unit {0}
IsPlain Bad = Unit {0}

plain-if : (test : Bool) (x y : Request) → IsPlain x → IsPlain y → IsPlain (if test then x else y)
plain-if true x y is other = is
plain-if false x y is other = other

plain-quit : (fields : List (List ℕ)) → IsPlain (quit_form fields)
plain-quit [] = tt
plain-quit (field ∷ fields) = tt

plain-read_request : (block : Option ℕ) → IsPlain (read_request block)
plain-read_request (Some block) = tt
plain-read_request None = tt

plain-read : (fields : List (List ℕ)) → IsPlain (read_form fields)
plain-read [] = tt
plain-read (block ∷ []) = plain-read_request (number_of block)
plain-read (block ∷ field ∷ fields) = tt

plain-write_request : {E : Type 0} (time block : Option ℕ) (bytes : Result (List ℕ) E) → IsPlain (write_request time block bytes)
plain-write_request (Some time) (Some block) (Ok bytes) = tt
plain-write_request (Some time) (Some block) (Err e) = tt
plain-write_request (Some time) None bytes = tt
plain-write_request None block bytes = tt

plain-write : (size : ℕ) (fields : List (List ℕ)) → IsPlain (write_form size fields)
plain-write size [] = tt
plain-write size (time ∷ []) = tt
plain-write size (time ∷ block ∷ []) = tt
plain-write size (time ∷ block ∷ hex ∷ []) = plain-write_request (number_of time) (number_of block) _
plain-write size (time ∷ block ∷ hex ∷ field ∷ fields) = tt

plain-at : (numbers : Option (ℕ × ℕ)) → IsPlain (at_request numbers)
plain-at (Some numbers) = tt
plain-at None = tt

plain-by : (numbers : Option (ℕ × ℕ)) → IsPlain (by_request numbers)
plain-by (Some numbers) = tt
plain-by None = tt

plain-info : (fields : List (List ℕ)) → IsPlain (info_form fields)
plain-info [] = tt
plain-info (field ∷ fields) = tt

plain-fields : (size : ℕ) (fields : List (List ℕ)) → IsPlain (request_of_fields size fields)
plain-fields size [] = tt
plain-fields size (name ∷ fields) = plain-if (is_letter name 81) (quit_form fields) _ (plain-quit fields)
    (plain-if (is_letter name 82) (read_form fields) _ (plain-read fields)
    (plain-if (is_letter name 87) (write_form size fields) _ (plain-write size fields)
    (plain-if (is_letter name 65) (at_form fields) _ (plain-at (two_numbers fields))
    (plain-if (is_letter name 84) (by_form fields) _ (plain-by (two_numbers fields))
    (plain-if (is_letter name 73) (info_form fields) Bad (plain-info fields) tt)))))

plain-request : (size : ℕ) (bytes : List ℕ) → IsPlain (request_of size bytes)
plain-request size bytes = plain-if (nat_lt (longest_line size) (length bytes)) Bad (request_of_fields size (slice_split is_space bytes)) tt (plain-fields size (slice_split is_space bytes))

plain_line : (read : Line) (fresh : List ℕ) → IsPlain (request_with read fresh) → IsAsked read
plain_line (line.Write time block) fresh plain = tt
plain_line (line.Read block) fresh plain = tt
plain_line (line.At seq block) fresh plain = tt
plain_line (line.By time block) fresh plain = tt
plain_line line.Info fresh plain = tt
plain_line (line.Keep seq) fresh plain = plain
plain_line line.Quit fresh plain = tt
plain_line line.Bad fresh plain = tt

-- a line that was read is one of these
pub asked_line : (size : ℕ) (bytes : List ℕ) (read : Line) (fresh : List ℕ) → request_of size bytes ≡ request_with read fresh → IsAsked read
asked_line size bytes read fresh is = plain_line read fresh (subst IsPlain is (plain-request size bytes))

too_long : (size : ℕ) (line : List ℕ) → longest_line size < length line → request_of size line ≡ Bad
too_long size line long = ap (λ (above : Bool). if above then Bad else request_of_fields size (slice_split is_space line)) (lt-ltb (longest_line size) (length line) long)

-- What is kept of a line asks the same: of one that is too long, more is kept than a line has.
pub kept_asks : (size kept : ℕ) (line items : List ℕ) → length items ≡ longest_line size + 1 → kept ≡ min (length line) (longest_line size + 1)
    → (length line ≤ length items → take (length line) items ≡ line) → request_of size (take kept items) ≡ request_of size line
kept_asks size kept line items room is held = ⊎_elim
    (λ (long : longest_line size < length line).
    let more : longest_line size < length (take kept items) = omega (arith, length-take kept items) in
    too_long size (take kept items) more ∙ sym (too_long size line long))
    (λ (fits : length line ≤ longest_line size).
    let all : kept ≡ length line = omega arith in
    ap (request_of size) (ap (λ (n : ℕ). take n items) all ∙ held (omega arith)))
    (cases_lt (longest_line size) (length line))
