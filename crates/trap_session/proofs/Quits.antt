-- Where no `Q` was among the lines, each goes on.
use Rattle.std.proofs.Common.{◌≡◌, ℕ, ◌<◌, List, [], ◌∷◌, ◌++◌, length, drop, Option, Some, Bool, true, false, Result, Ok, ◌↔◌, refl, sym, ap, subst, ◌∙◌, append_assoc}
use Rattle.std.proofs.lemmas.List.Elements.{All-cons, All-nil}
use Rattle.std.specs.Prelude.{All}
use Rattle.std.specs.Io.KnownBytes.{Consumes}
use Rattle.trap_model.specs.declared.request.Request.{Request}
use Rattle.trap_model.specs.declared.request.Request.TheVariants as request
use Rattle.trap_model.specs.declared.numbers.Geometry.{Geometry}
use Rattle.trap_model.specs.declared.history.State.{State}
use Rattle.trap_model.specs.ArrayStep.{step}
use Rattle.trap_script.specs.Lines.{lines_of, request_of, goes_on, HasNoFeed}
use Rattle.trap_script.proofs.InputLemmas.{lines_of-next, lines_of-last, passed_from}
use Rattle.trap_session.specs.declared.outcome.Next.{Next}
use Rattle.trap_session.specs.declared.outcome.Next.TheVariants.{More, Quit}
use Rattle.trap_session.specs.declared.outcome.Ended.{Ended}
use Rattle.trap_session.specs.declared.outcome.Ended.TheVariants as ended
use Rattle.trap_session.specs.declared.outcome.SessionFault.{SessionFault}
use Rattle.trap_session.specs.Serving.{ended_by}

-- each line goes on
abbrev pub AllGoOn : ℕ → List (List ℕ) → Type 0
AllGoOn size lines = All (λ line. goes_on (request_of size line) ≡ true) lines

-- None of these whole lines is a `Q`: whatever lines come after them, all go on if those do.
pub record IsUnquit (size : ℕ) (passed : List ℕ) : Type 0 where
  pub all : (rest : List ℕ) → AllGoOn size (lines_of rest) → AllGoOn size (lines_of (passed ++ rest))

pub unquit_start : (size : ℕ) → IsUnquit size []
unquit_start size = record { all = λ rest those. those }

-- one more line, which isn't `Q`
pub unquit_on : (size : ℕ) (passed line : List ℕ) → IsUnquit size passed → HasNoFeed line → goes_on (request_of size line) ≡ true
    → IsUnquit size (passed ++ (line ++ 10 ∷ []))
unquit_on size passed line was none more = record {
  all = λ rest those.
      let here : passed ++ (line ++ 10 ∷ rest) ≡ (passed ++ (line ++ 10 ∷ [])) ++ rest =
      ap (λ (l : List ℕ). passed ++ l) (sym (append_assoc line (10 ∷ []) rest)) ∙ sym (append_assoc passed (line ++ 10 ∷ []) rest) in
      subst (λ (bytes : List ℕ). AllGoOn size (lines_of bytes)) here
      (was.all (line ++ 10 ∷ rest)
      (subst (AllGoOn size) (sym (lines_of-next line rest none))
      (All-cons (λ line. goes_on (request_of size line) ≡ true) line (lines_of rest) more those)));
}

-- a last line without a line feed
pub last_goes_on : (size : ℕ) (line : List ℕ) → HasNoFeed line → 0 < length line → goes_on (request_of size line) ≡ true → AllGoOn size (lines_of line)
last_goes_on size line none some more = subst (AllGoOn size) (sym (lines_of-last line none some))
    (All-cons (λ line. goes_on (request_of size line) ≡ true) line [] more (All-nil (λ line. goes_on (request_of size line) ≡ true)))

-- and none
pub none_goes_on : (size : ℕ) → AllGoOn size (lines_of [])
none_goes_on size = All-nil (λ line. goes_on (request_of size line) ≡ true)

-- The input ends after these lines, or with a last one that has no line feed.
pub ends_unquit : (size : ℕ) (input passed last : List ℕ) (left : Option (List ℕ)) → Consumes (Some input) left passed → IsUnquit size passed
    → drop (length passed) input ≡ last → AllGoOn size (lines_of last) → AllGoOn size (lines_of input)
ends_unquit size input passed last left gave was here those =
    let whole : input ≡ passed ++ last = (passed_from input passed left gave).1 ∙ ap (λ l. passed ++ l) here in
    subst (λ (bytes : List ℕ). AllGoOn size (lines_of bytes)) (sym whole) (was.all last those)

-- `Q` changes no state
pub quit_stays : (g : Geometry) (s : State) (asked : Request) → goes_on asked ≡ false → (step g).next s asked ≡ s
quit_stays g s (request.Write time block bytes) quit = absurd (cc quit)
quit_stays g s (request.Read block) quit = absurd (cc quit)
quit_stays g s (request.At seq block) quit = absurd (cc quit)
quit_stays g s (request.By time block) quit = absurd (cc quit)
quit_stays g s request.Info quit = absurd (cc quit)
quit_stays g s (request.Keep seq) quit = absurd (cc quit)
quit_stays g s request.Quit quit = refl
quit_stays g s request.Bad quit = absurd (cc quit)

-- after an answer that isn't `Quit` the session goes on
pub more_goes : (r : Result Next SessionFault) (on : Bool) → r ≡ Ok More → ((r ≡ Ok Quit) ↔ (on ≡ false)) → on ≡ true
more_goes r true is exact = refl
more_goes r false is exact = absurd (two (sym is ∙ exact.1 refl))
  where
    two : ◌≡◌ {A = Result Next SessionFault} (Ok More) (Ok Quit) → ⊥
    two e = cc

-- where a session ended with the input, its last line went on
pub input_goes : (next : Next) (on : Bool) → ◌≡◌ {A = Result Ended SessionFault} (Ok (ended_by next)) (Ok ended.Input)
    → (◌≡◌ {A = Result Next SessionFault} (Ok next) (Ok Quit)) ↔ (on ≡ false) → on ≡ true
input_goes More on is exact = more_goes (Ok More) on refl exact
input_goes Quit on is exact = absurd (cc is)
