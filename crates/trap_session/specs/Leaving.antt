-- What a session leaves of its array and its source.
use Rattle.std.specs.Prelude.{◌≡◌, ◌≢◌, ℕ, ◌+◌, ◌≤◌, List, ◌++◌, length, Some, IsTrue, false}
use Rattle.std.specs.Prelude.{Result, Ok, Err}
use Rattle.std.specs.Io.KnownBytes.{IsAtEnd}
use Rattle.trap_bank.specs.Disks.{View}
use Rattle.trap_bank.specs.Steps.{Always}
use Rattle.trap_bank.specs.Stream.{Stream}
use Rattle.trap_index.specs.Indexed.{Indexed}
use Rattle.trap_model.specs.ArrayStep.{step}
use Rattle.trap_model.specs.declared.log_record.LogRec.{LogRec}
use Rattle.trap_model.specs.declared.history.State.{State}
use Rattle.trap_script.specs.Lines.{lines}
use Rattle.trap_script.specs.Walk.{state_after}
use Rattle.trap_array.specs.Areas.{MayTouch}
use Rattle.trap_array.specs.Beside.{StaysFrom}
use Rattle.trap_array.specs.Calls.{Mounted, IsReady, SameArray, StandsFor}
use Rattle.trap_array.specs.declared.fault.Denied.TheVariants.{Stopped}
use Rattle.trap_session.specs.Answers.{is_stopping}
use Rattle.trap_session.specs.Changing.{ChangesOnly}
use Rattle.trap_session.specs.Serving.{Took}
use Rattle.trap_session.specs.declared.outcome.Ended.{Ended}
use Rattle.trap_session.specs.declared.outcome.Ended.TheVariants as ended
use Rattle.trap_session.specs.declared.outcome.SessionFault.{SessionFault}
use Rattle.trap_session.specs.declared.outcome.SessionFault.TheVariants.{Array}

-- the array stands for the state after the first lines of the input, where that is known
pub record StandsAfter (a b : Mounted) (s : State) (new : View) (from : Stream) : Type 0 where
  pub state : State
  pub stands : Always new (StandsFor b state)
  pub after : (input : List ℕ) → from.left ≡ Some input
      → (j : ℕ) × (j ≤ length (lines a.g.block input))
      × (state ≡ state_after (step a.g) s (lines a.g.block input) j)

-- some records were added to the index
pub record HasRecordsMore (i j : Indexed) : Type 0 where
  pub more : List LogRec
  pub added : j ≡ record i { recs = i.recs ++ more }

-- What a session leaves of its array, its disks and its source. The array goes on with the same
-- numbers and lost member, and is ready, or stopped where a disk failed. Unless one did, it stands
-- for a state where it stood for one on entry. Whatever the disks hold, no byte changes but those
-- that calls of the array may touch, at the end and at any moment.
pub record HasServed (a b : Mounted) (result : Result Ended SessionFault) (old new : View)
    (from to : Stream) : Type 0 where
  pub goes_on : SameArray a b
  pub stopped : b.is_stopped ≡ is_stopping result
  pub ready : IsReady b new
  pub stands : is_stopping result ≡ false → result ≢ Err (Array Stopped) → IsTrue old.tells
      → (s : State) → Always old (StandsFor a s) → StandsAfter a b s new from
  pub index : HasRecordsMore a.index b.index
  pub changes : ChangesOnly (MayTouch a) old new
  pub sizes : (e : ℕ) → new.sizes e ≡ old.sizes e
  pub others : StaysFrom (a.g.members + 1) old new
  pub took : Took from to
  pub all : result ≡ Ok ended.Input → IsAtEnd to.left
