-- A session as its lines, one after another.
use Rattle.std.specs.Prelude.{◌≡◌, ℕ, List, [], ◌∷◌, ◌++◌, length, Some, Result, Ok, Err}
use Rattle.trap_bank.specs.Disks.{View}
use Rattle.trap_bank.specs.Stream.{Stream}
use Rattle.trap_model.specs.declared.request.Request.{Request}
use Rattle.trap_model.specs.declared.request.Request.TheVariants.{Quit as Q}
use Rattle.trap_script.specs.Lines.{lines, line_feeds}
use Rattle.trap_array.specs.Calls.{Mounted}
use Rattle.trap_session.specs.Answers.{AnswersLine}
use Rattle.trap_session.specs.Serving.{bytes_taken}
use Rattle.trap_session.specs.declared.outcome.Ended.{Ended}
use Rattle.trap_session.specs.declared.outcome.Ended.TheVariants as ended
use Rattle.trap_session.specs.declared.outcome.Next.TheVariants.{More, Quit}
use Rattle.trap_session.specs.declared.outcome.SessionFault.{SessionFault}
use Rattle.trap_session.specs.declared.outcome.SessionFault.TheVariants.{ReadFault, TooLong}

-- A session over an array and a bank answers these requests, one line after another, and ends so.
-- No call of the bank comes between two lines, nor before the first or after the last.
pub data Exchange {B : Type 0} (view : B → View) : Mounted → B → List Request
    → Result Ended SessionFault → Mounted → B → Type 0 where
  -- the line was answered, and the session went on
  answers : (a b c : Mounted) (first mid last : B) (asked : Request) (rest : List Request)
      (result : Result Ended SessionFault)
      → AnswersLine a b (Ok More) asked (view first) (view mid)
      → Exchange view b mid rest result c last
      → Exchange view a first (asked ∷ rest) result c last
  -- the line was `Q`
  quits : (a b : Mounted) (first last : B) → AnswersLine a b (Ok Quit) Q (view first) (view last)
      → Exchange view a first [] (Ok ended.Quit) b last
  -- the line failed
  fails : (a b : Mounted) (first last : B) (asked : Request) (fault : SessionFault)
      → AnswersLine a b (Err fault) asked (view first) (view last)
      → Exchange view a first (asked ∷ []) (Err fault) b last
  -- no line was left
  input_ends : (a : Mounted) (bank : B) → Exchange view a bank [] (Ok ended.Input) a bank
  -- no line was found
  source_fails : (a : Mounted) (bank : B) → Exchange view a bank [] (Err ReadFault) a bank
  too_long : (a : Mounted) (bank : B) → Exchange view a bank [] (Err TooLong) a bank

-- where the input is known, these are the requests of its first lines, and where the session went
-- well, of all
abbrev pub AreLinesOf : {T E : Type 0} → ℕ → Stream → Result T E → List Request → Type 0
AreLinesOf size from (Ok value) asked =
    (input : List ℕ) → from.left ≡ Some input → lines size input ≡ asked
AreLinesOf size from (Err fault) asked =
    (input : List ℕ) → from.left ≡ Some input
    → (rest : List Request) × (lines size input ≡ asked ++ rest)

-- where the input is known, these are as many requests as lines were taken whole
abbrev pub AreTaken : Stream → Stream → List Request → Type 0
AreTaken from to asked = (input : List ℕ) → from.left ≡ Some input
    → length asked ≡ line_feeds (bytes_taken input from to)

-- where the source failed, or gave too much, every line that was taken whole was answered
abbrev pub ReadsLines : Result Ended SessionFault → Stream → Stream → List Request → Type 0
ReadsLines (Err ReadFault) from to asked = AreTaken from to asked
ReadsLines (Err TooLong) from to asked = AreTaken from to asked
ReadsLines other from to asked = Unit {0}

-- a session of these lines, which it read from the source
pub record IsSessionOver {B : Type 0} (view : B → View) (a b : Mounted)
    (result : Result Ended SessionFault) (first last : B) (from to : Stream) : Type 0 where
  pub asked : List Request
  pub exchange : Exchange view a first asked result b last
  pub lines : AreLinesOf a.g.block from result asked
  pub read : ReadsLines result from to asked
