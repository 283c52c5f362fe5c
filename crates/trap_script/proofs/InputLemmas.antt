-- The lines and the requests of an input, line after line.
use Rattle.std.proofs.Common.{arith, ◌≡◌, ℕ, ◌+◌, ◌<◌, length, drop, map, Option, Some, None, List, [], ◌∷◌, ◌++◌, append_assoc, length-append, sym, ◌∙◌, ap, refl, true, false, cond, subst, inl, inr}
use Rattle.std.proofs.lemmas.Bool.{cases_Bool}
use Rattle.std.proofs.lemmas.List.{drop-drop}
use Rattle.std.proofs.lemmas.List.Elements.{All-nil, All-cons, All-head, All-tail}
use Rattle.std.proofs.lemmas.List.Splits.{slice_split_none, slice_split_at, length-slice_split}
use Rattle.std.proofs.lemmas.List.Sums.{take_while-cons, sum_by-append}
use Rattle.std.proofs.Math.Seq.{drop-append_seam}
use Rattle.std.proofs.Math.Dec.{eqb-suc-zero}
use Rattle.std.specs.List.{slice_split, take_while, All}
use Rattle.std.specs.Io.KnownBytes.{Consumes}
use Rattle.trap_model.specs.declared.request.Request.{Request}
use Rattle.trap_script.specs.Lines.{is_line_feed, request_of, goes_on, HasNoFeed, line_feeds, without_empty_last, lines_of, lines}
use Rattle.trap_script.proofs.LineLemmas.{HasFirst, has_first}

-- a part before others stays
kept_part : (part : List ℕ) (parts : List (List ℕ)) → HasFirst parts
    → without_empty_last (part ∷ parts) ≡ part ∷ without_empty_last parts
kept_part part [] some = absurd (cc some.is)
kept_part part (next ∷ parts) some = refl

-- the first line of an input, and its other lines
pub lines_of-next : (line rest : List ℕ) → HasNoFeed line → lines_of (line ++ 10 ∷ rest) ≡ line ∷ lines_of rest
lines_of-next line rest none =
    ap without_empty_last (slice_split_at is_line_feed line 10 rest none refl)
    ∙ kept_part line (slice_split is_line_feed rest) (has_first (slice_split is_line_feed rest) (omega (arith, length-slice_split is_line_feed rest)))

-- an input without a line feed is one line, unless it is empty
pub lines_of-last : (line : List ℕ) → HasNoFeed line → 0 < length line → lines_of line ≡ line ∷ []
lines_of-last [] none some = absurd (omega (arith, some))
lines_of-last (byte ∷ line) none some = ap without_empty_last (slice_split_none is_line_feed (byte ∷ line) none)
    ∙ ap (λ b. cond b [] ((byte ∷ line) ∷ [])) (eqb-suc-zero (length line))

-- the first request of a list of lines
first_of_lines : (size : ℕ) (line : List ℕ) (others : List (List ℕ)) → goes_on (request_of size line) ≡ true
    → take_while goes_on (map (request_of size) (line ∷ others)) ≡ request_of size line ∷ take_while goes_on (map (request_of size) others)
first_of_lines size line others more =
    take_while-cons goes_on (request_of size line) (map (request_of size) others)
    ∙ ap (λ b. cond b (request_of size line ∷ take_while goes_on (map (request_of size) others)) []) more

none_of_lines : (size : ℕ) (line : List ℕ) (others : List (List ℕ)) → goes_on (request_of size line) ≡ false
    → take_while goes_on (map (request_of size) (line ∷ others)) ≡ []
none_of_lines size line others quit =
    take_while-cons goes_on (request_of size line) (map (request_of size) others)
    ∙ ap (λ b. cond b (request_of size line ∷ take_while goes_on (map (request_of size) others)) []) quit

-- the first request of an input, and its other requests
pub lines-next : (size : ℕ) (line rest : List ℕ) → HasNoFeed line → goes_on (request_of size line) ≡ true
    → lines size (line ++ 10 ∷ rest) ≡ request_of size line ∷ lines size rest
lines-next size line rest none more =
    ap (λ those. take_while goes_on (map (request_of size) those)) (lines_of-next line rest none)
    ∙ first_of_lines size line (lines_of rest) more

-- an input that begins with `Q` has no requests
pub lines-quit : (size : ℕ) (line rest : List ℕ) → HasNoFeed line → goes_on (request_of size line) ≡ false
    → lines size (line ++ 10 ∷ rest) ≡ []
lines-quit size line rest none quit =
    ap (λ those. take_while goes_on (map (request_of size) those)) (lines_of-next line rest none)
    ∙ none_of_lines size line (lines_of rest) quit

-- a last line without a line feed is one request
pub lines-last : (size : ℕ) (line : List ℕ) → HasNoFeed line → 0 < length line → goes_on (request_of size line) ≡ true
    → lines size line ≡ request_of size line ∷ []
lines-last size line none some more =
    ap (λ those. take_while goes_on (map (request_of size) those)) (lines_of-last line none some)
    ∙ first_of_lines size line [] more

pub lines-last_quit : (size : ℕ) (line : List ℕ) → HasNoFeed line → 0 < length line → goes_on (request_of size line) ≡ false
    → lines size line ≡ []
lines-last_quit size line none some quit =
    ap (λ those. take_while goes_on (map (request_of size) those)) (lines_of-last line none some)
    ∙ none_of_lines size line [] quit

going_on : (requests : List Request) → All (λ request. goes_on request ≡ true) (take_while goes_on requests)
going_on [] = All-nil (λ request. goes_on request ≡ true)
going_on (request ∷ requests) =
    elim (cases_Bool (goes_on request)) as (λ _. All (λ request. goes_on request ≡ true) (take_while goes_on (request ∷ requests))) [
      | inl more ↦ subst (All (λ request. goes_on request ≡ true))
          (sym (take_while-cons goes_on request requests ∙ ap (λ b. cond b (request ∷ take_while goes_on requests) []) more))
          (All-cons (λ request. goes_on request ≡ true) request (take_while goes_on requests) more (going_on requests))
      | inr quit ↦ subst (All (λ request. goes_on request ≡ true))
          (sym (take_while-cons goes_on request requests ∙ ap (λ b. cond b (request ∷ take_while goes_on requests) []) quit))
          (All-nil (λ request. goes_on request ≡ true))
    ]

-- no request of an input is `Q`
pub lines_go_on : (size : ℕ) (input : List ℕ) → All (λ request. goes_on request ≡ true) (lines size input)
lines_go_on size input = going_on (map (request_of size) (lines_of input))

-- line feeds of bytes put together
pub line_feeds-append : (front behind : List ℕ) → line_feeds (front ++ behind) ≡ line_feeds front + line_feeds behind
line_feeds-append front behind = sum_by-append (λ byte. cond (is_line_feed byte) 1 0) front behind

pub line_feeds-none : (front : List ℕ) → HasNoFeed front → line_feeds front ≡ 0
line_feeds-none [] none = refl
line_feeds-none (byte ∷ front) none =
    let first : is_line_feed byte ≡ false = All-head (λ byte. is_line_feed byte ≡ false) byte front none in
    let others = line_feeds-none front (All-tail (λ byte. is_line_feed byte ≡ false) byte front none) in
    let here : line_feeds (byte ∷ []) ≡ 0 = ap (λ b. 0 + cond {A = ℕ} b 1 0) first in
    let whole = line_feeds-append (byte ∷ []) front in
    omega (arith, here, others, whole)

-- one more line
pub line_feeds-line : (passed line : List ℕ) → HasNoFeed line → line_feeds (passed ++ (line ++ 10 ∷ [])) ≡ line_feeds passed + 1
line_feeds-line passed line none =
    let whole = line_feeds-append passed (line ++ 10 ∷ []) in
    let part = line_feeds-append line (10 ∷ []) in
    let feed : line_feeds (10 ∷ []) ≡ 1 = refl in
    omega (arith, whole, part, feed, line_feeds-none line none)

-- the front of a line has none
pub line_feeds-front : (passed front : List ℕ) → HasNoFeed front → line_feeds (passed ++ front) ≡ line_feeds passed
line_feeds-front passed front none = omega (arith, line_feeds-append passed front, line_feeds-none front none)

-- what is left after one more line
pub drop-line : (input passed line rest : List ℕ) → drop (length passed) input ≡ line ++ 10 ∷ rest
    → drop (length (passed ++ (line ++ 10 ∷ []))) input ≡ rest
drop-line input passed line rest ahead =
    ap (λ n. drop n input) (length-append passed (line ++ 10 ∷ []))
    ∙ sym (drop-drop (length (line ++ 10 ∷ [])) (length passed) input)
    ∙ ap (drop (length (line ++ 10 ∷ []))) (ahead ∙ sym (append_assoc line (10 ∷ []) rest))
    ∙ drop-append_seam (line ++ 10 ∷ []) rest

-- what a source gave is a front of its input
pub passed_from : (input passed : List ℕ) (left : Option (List ℕ)) → Consumes (Some input) left passed
    → (left ≡ Some (drop (length passed) input)) × (input ≡ passed ++ drop (length passed) input)
passed_from input passed None gave = absurd gave
passed_from input passed (Some rest) gave =
    let behind : drop (length passed) input ≡ rest = ap (drop (length passed)) gave ∙ drop-append_seam passed rest in
    (ap Some (sym behind), gave ∙ ap (λ bytes. passed ++ bytes) (sym behind))

-- and what it gave next begins what was left
pub next_passed : (input passed more : List ℕ) (left left' : Option (List ℕ)) → Consumes (Some input) left passed
    → Consumes left left' more
    → drop (length passed) input ≡ more ++ drop (length more) (drop (length passed) input)
next_passed input passed more None left' gave next = absurd gave
next_passed input passed more (Some rest) None gave next = absurd next
next_passed input passed more (Some rest) (Some rest') gave next =
    let behind : drop (length passed) input ≡ rest = ap (drop (length passed)) gave ∙ drop-append_seam passed rest in
    let after : drop (length more) rest ≡ rest' = ap (drop (length more)) next ∙ drop-append_seam more rest' in
    behind ∙ next ∙ ap (λ bytes. more ++ bytes) (sym after ∙ ap (drop (length more)) (sym behind))
