-- What a run over a mounted array is. A session: the array is mounted, its lines are answered one
-- after another, and the last line is said. No call of the bank comes between.
use Rattle.std.specs.Prelude.{◌≡◌, ℕ, ◌+◌, ◌-◌, ◌*◌, List, [], ◌∷◌, ◌++◌, IsTrue, Option, Some}
use Rattle.std.specs.Prelude.{Result, Ok, Err}
use Rattle.trap_bank.specs.Disks.{Contents, View}
use Rattle.trap_bank.specs.Calls.{Says, SaysPart}
use Rattle.trap_bank.specs.Stream.{Stream}
use Rattle.trap_bank.specs.declared.disks.Failed.{Failed}
use Rattle.trap_array.specs.Calls.{Mounted}
use Rattle.trap_array.specs.MountEnds.{MountsFor}
use Rattle.trap_array.specs.Mounting.{KeepsEachState, WritesHead}
use Rattle.trap_array.specs.Sources.{CallsAtMost}
use Rattle.trap_index.specs.Indexed.{last_seq}
use Rattle.trap_session.specs.Exchange.{IsSessionOver}
use Rattle.trap_session.specs.declared.outcome.Ended.{Ended as Answered}
use Rattle.trap_session.specs.declared.outcome.SessionFault.{SessionFault}
use Rattle.trap_cli.specs.Ended.{last_line}
use Rattle.trap_cli.specs.Frame.{ChangesNothing}
use Rattle.trap_cli.specs.Listing.{index_text}
use Rattle.trap_cli.specs.Sending.{SaysFrames}
use Rattle.trap_cli.specs.declared.outcome.Ended.{Ended}
use Rattle.trap_cli.specs.declared.command.Command.{Command}
use Rattle.trap_cli.specs.declared.command.Command.TheVariants.{History, Send}
use Rattle.trap_cli.specs.declared.outcome.Ended.TheVariants.{Done, NotRetained, Stopped, Port}
use Rattle.trap_cli.specs.declared.outcome.Ended.TheVariants.{Memory}

-- how a run ends whose lines were answered so
abbrev pub ended_of : Result Answered SessionFault → Ended
ended_of (Ok answered) = Done
ended_of (Err why) = Stopped why

-- the line was said, whole or not, in one call of the bank; where it is empty, no call was made
abbrev pub SaysInOne : {B : Type 0} → (B → View) → List ℕ → B → B → Type 0
SaysInOne view [] old new = new ≡ old
SaysInOne view (byte ∷ more) old new =
    (result : Result (Unit {0}) Failed) × Says (byte ∷ more) result (view old) (view new)

-- The array was mounted. What is known of it is what stands on the disks; each state that they held
-- is kept, nothing was written but the head, and no size changed.
pub record MountsArray (a : Mounted) (old new : View) : Type 0 where
  pub mounts : MountsFor a old new
  pub keeps : KeepsEachState old new
  pub writes : WritesHead old new
  pub sizes : (e : ℕ) → new.sizes e ≡ old.sizes e

-- What was said over a mounted array, whatever the disks hold. A history that was done said the
-- lines of the records that were read, one in which the port failed a first part of them; `send`
-- said frames of these records.
abbrev pub SaysFound : Option Command → Mounted → View → Ended → Contents → Contents → Type 0
SaysFound (Some History) a v Done old new = new.said ≡ old.said ++ index_text a.index
SaysFound (Some History) a v Port old new = SaysPart (index_text a.index) old new
SaysFound (Some (Send seq)) a v ended old new = SaysFrames a v seq ended old new
SaysFound command a v ended old new = Unit {0}

-- How often the bank was called after mounting, before the last line. Where the array doesn't have
-- the instant, or memory is wanting, it wasn't called at all. `send` reads a record at most twice,
-- and says what waits at most once a frame and once at the end; a history says once a line at most,
-- and once at the end.
abbrev pub CallsFound : {B : Type 0} → (B → View) → Option Command → Mounted → Ended → B → B
    → Type 0
CallsFound view (Some (Send seq)) a (NotRetained why) old new = new ≡ old
CallsFound view (Some (Send seq)) a Memory old new = new ≡ old
CallsFound view (Some (Send seq)) a ended old new =
    CallsAtMost (3 * (last_seq a.index - seq) + 1) (view old) (view new)
CallsFound view (Some History) a ended old new =
    CallsAtMost (last_seq a.index - a.index.first + 1) (view old) (view new)
CallsFound view command a ended old new = new ≡ old

-- The array was mounted, and after that no disk changed, at the end or at any moment.
pub record MountsOnly {B : Type 0} (view : B → View) (command : Option Command) (ended : Ended)
    (first last : B) : Type 0 where
  pub a : Mounted
  pub mounted : B
  pub mounts : MountsArray a (view first) (view mounted)
  pub stays : ChangesNothing (view mounted) (view last)
  pub says : IsTrue (view first).tells
      → SaysFound command a (view mounted) ended (view mounted).now (view last).now
  pub calls : CallsFound view command a ended mounted last

-- and then the last line was said
pub record GoesByMounting {B : Type 0} (view : B → View) (command : Option Command)
    (ended : Ended) (first last : B) : Type 0 where
  pub done : B
  pub only : MountsOnly view command ended first done
  pub said : SaysInOne view (last_line ended) done last

-- the lines of the input were answered over this array, and the session ended so
pub record AnswersLines {B : Type 0} (view : B → View) (a : Mounted) (ended : Ended)
    (first last : B) (from to : Stream) : Type 0 where
  pub b : Mounted
  pub result : Result Answered SessionFault
  pub is : ended ≡ ended_of result
  pub exchange : IsSessionOver view a b result first last from to

-- the array was mounted, and the lines were answered over it
pub record AnswersMounted {B : Type 0} (view : B → View) (ended : Ended) (first last : B)
    (from to : Stream) : Type 0 where
  pub a : Mounted
  pub mounted : B
  pub mounts : MountsArray a (view first) (view mounted)
  pub lines : AnswersLines view a ended mounted last from to

-- and then the last line was said
pub record GoesByLines {B : Type 0} (view : B → View) (ended : Ended) (first last : B)
    (from to : Stream) : Type 0 where
  pub answered : B
  pub lines : AnswersMounted view ended first answered from to
  pub said : SaysInOne view (last_line ended) answered last
