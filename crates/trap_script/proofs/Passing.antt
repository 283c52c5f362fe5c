-- The whole lines of an input that were passed over.
use Rattle.std.proofs.Common.{arith, ◌≡◌, ℕ, ◌≤◌, ◌<◌, length, drop, List, [], ◌∷◌, ◌++◌, sym, ◌∙◌, ap, refl, true, false}
use Rattle.std.proofs.lemmas.List.{drop-drop}
use Rattle.trap_script.specs.Lines.{request_of, goes_on, HasNoFeed, line_feeds, lines}
use Rattle.trap_script.proofs.InputLemmas.{lines-next, lines-quit, lines-last, lines-last_quit, line_feeds-line, drop-line}
use Rattle.trap_script.proofs.GivenLemmas.{below_end}

-- what was passed over is whole lines of the input, none of them `Q`: as many requests as line feeds
pub record HasPassed (size : ℕ) (input passed : List ℕ) : Type 0 where
  pub within : line_feeds passed ≤ length (lines size input)
  pub ahead : drop (line_feeds passed) (lines size input) ≡ lines size (drop (length passed) input)

-- at the start
pub passed_none : (size : ℕ) (input : List ℕ) → HasPassed size input []
passed_none size input = record { within = omega arith; ahead = refl }

-- the next request, where the next line goes on
pub next_request : (size : ℕ) (input passed line rest : List ℕ) → HasPassed size input passed
    → drop (length passed) input ≡ line ++ 10 ∷ rest → HasNoFeed line → goes_on (request_of size line) ≡ true
    → drop (line_feeds passed) (lines size input) ≡ request_of size line ∷ lines size rest
next_request size input passed line rest whole ahead none more =
    whole.ahead ∙ ap (lines size) ahead ∙ lines-next size line rest none more

-- the next request, where it is a last line without a line feed
pub last_request : (size : ℕ) (input passed line : List ℕ) → HasPassed size input passed
    → drop (length passed) input ≡ line → HasNoFeed line → 0 < length line → goes_on (request_of size line) ≡ true
    → drop (line_feeds passed) (lines size input) ≡ request_of size line ∷ []
last_request size input passed line whole ahead none some more =
    whole.ahead ∙ ap (lines size) ahead ∙ lines-last size line none some more

-- there is no request more: the next line is `Q`, with a line feed or without, or the input has ended
pub no_request_at_quit : (size : ℕ) (input passed line rest : List ℕ) → HasPassed size input passed
    → drop (length passed) input ≡ line ++ 10 ∷ rest → HasNoFeed line → goes_on (request_of size line) ≡ false
    → drop (line_feeds passed) (lines size input) ≡ []
no_request_at_quit size input passed line rest whole ahead none quit =
    whole.ahead ∙ ap (lines size) ahead ∙ lines-quit size line rest none quit

pub no_request_at_last_quit : (size : ℕ) (input passed line : List ℕ) → HasPassed size input passed
    → drop (length passed) input ≡ line → HasNoFeed line → 0 < length line → goes_on (request_of size line) ≡ false
    → drop (line_feeds passed) (lines size input) ≡ []
no_request_at_last_quit size input passed line whole ahead none some quit =
    whole.ahead ∙ ap (lines size) ahead ∙ lines-last_quit size line none some quit

pub no_request_at_end : (size : ℕ) (input passed : List ℕ) → HasPassed size input passed
    → drop (length passed) input ≡ [] → drop (line_feeds passed) (lines size input) ≡ []
no_request_at_end size input passed whole ahead = whole.ahead ∙ ap (lines size) ahead

-- one more line
pub passed_line : (size : ℕ) (input passed line rest : List ℕ) → HasPassed size input passed
    → drop (length passed) input ≡ line ++ 10 ∷ rest → HasNoFeed line → goes_on (request_of size line) ≡ true
    → HasPassed size input (passed ++ (line ++ 10 ∷ []))
passed_line size input passed line rest whole ahead none more =
    let at = next_request size input passed line rest whole ahead none more in
    let count = line_feeds-line passed line none in
    record {
      within = omega (arith, count, below_end (lines size input) (line_feeds passed) (request_of size line) (lines size rest) at);
      ahead =
          ap (λ n. drop n (lines size input)) count
          ∙ sym (drop-drop 1 (line_feeds passed) (lines size input))
          ∙ ap (drop 1) at
          ∙ ap (lines size) (sym (drop-line input passed line rest ahead));
    }
