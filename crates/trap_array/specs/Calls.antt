-- What the calls of a mounted array do.
use Rattle.std.specs.Prelude.{◌≡◌, ◌≢◌, ℕ, List, Bool, true, false, IsTrue, Result, Ok, Err}
use Rattle.trap_bank.specs.Disks.{View}
use Rattle.trap_bank.specs.Steps.{Moves, Always}
use Rattle.trap_model.specs.ArrayStep.{step}
use Rattle.trap_model.specs.declared.history.State.{State}
use Rattle.trap_model.specs.declared.request.Reply.{Reply}
use Rattle.trap_model.specs.declared.request.Request.{Request}
use Rattle.trap_model.specs.declared.request.Reply.TheVariants.{Kept, Is, At, No}
pub use Rattle.trap_log.specs.Calls.{running, SameArray, SameLog, HoldsLike, AtAnyMoment}
pub use Rattle.trap_log.specs.Calls.{StandsAfterCall, MemberFails}
pub use Rattle.trap_mount.specs.Mounted.{Mounted, StandsFor, HasSizes, IsReady}
use Rattle.trap_array.specs.declared.fault.Denied.{Denied}
use Rattle.trap_array.specs.declared.fault.Denied.TheVariants.{Refused, LogFault, MemberFault}
use Rattle.trap_array.specs.declared.fault.Denied.TheVariants.{Damaged, Stopped}

-- a fault stops the array
abbrev pub is_fault : {T : Type 0} → Result T Denied → Bool
is_fault (Ok value) = false
is_fault (Err (Refused why)) = false
is_fault (Err LogFault) = true
is_fault (Err (MemberFault first second)) = true
is_fault (Err (Damaged offset)) = false
is_fault (Err Stopped) = false

-- What a call makes of the state that the array stood for: unless a fault came, or the array was
-- stopped, the array stands for the next one. Stopped at any moment, the disks hold the state or
-- the next one.
pub record TakesTo {T : Type 0} (a b : Mounted) (next : State → State) (result : Result T Denied)
    (old new : View) : Type 0 where
  pub turned : is_fault result ≡ false → result ≢ Err Stopped
      → Moves old new (AtAnyMoment a old next) (StandsAfterCall a b old next)
  pub any_moment : Moves old new (AtAnyMoment a old next) (AtAnyMoment a old next)

-- What a read did: its answer is a reply of this kind to the state that the array stood for, and
-- the array stands for the same state.
pub record AnswersRead {T : Type 0} (a b : Mounted) (asked : Request) (replies : Reply → Type 0)
    (result : Result T Denied) (old new : View) : Type 0 where
  pub reply : IsTrue old.tells → (s : State) → Always old (StandsFor a s)
      → replies ((step a.g).reply s asked)
  pub state : TakesTo a b (λ s. s) result old new

-- the answer to a write is this reply
abbrev pub WriteReplies : Result ℕ Denied → Reply → Type 0
WriteReplies (Ok seq) reply = reply ≡ Kept seq
WriteReplies (Err (Refused why)) reply = reply ≡ No why
WriteReplies (Err LogFault) reply = Unit {0}
WriteReplies (Err (MemberFault first second)) reply = Unit {0}
WriteReplies (Err (Damaged offset)) reply = Unit {0}
WriteReplies (Err Stopped) reply = Unit {0}

-- the answer to a read, with the bytes that it filled in, is this reply
abbrev pub ReadReplies : {T : Type 0} → Result T Denied → List ℕ → Reply → Type 0
ReadReplies (Ok value) bytes reply = reply ≡ Is bytes
ReadReplies (Err (Refused why)) bytes reply = reply ≡ No why
ReadReplies (Err LogFault) bytes reply = Unit {0}
ReadReplies (Err (MemberFault first second)) bytes reply = Unit {0}
ReadReplies (Err (Damaged offset)) bytes reply = Unit {0}
ReadReplies (Err Stopped) bytes reply = Unit {0}

-- the answer to a read of an earlier instant, likewise
abbrev pub AtReplies : {T : Type 0} → Result T Denied → List ℕ → Reply → Type 0
AtReplies (Ok value) bytes reply = reply ≡ At bytes
AtReplies (Err (Refused why)) bytes reply = reply ≡ No why
AtReplies (Err LogFault) bytes reply = Unit {0}
AtReplies (Err (MemberFault first second)) bytes reply = Unit {0}
AtReplies (Err (Damaged offset)) bytes reply = Unit {0}
AtReplies (Err Stopped) bytes reply = Unit {0}
