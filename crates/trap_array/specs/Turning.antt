-- What a write does, step by step, to the state that an array stands for.
use Rattle.std.specs.Prelude.{◌≡◌, ◌≢◌, ℕ, ◌+◌, Result, IfErr, IsTrue, false}
use Rattle.trap_bank.specs.Disks.{View}
use Rattle.trap_bank.specs.Steps.{Moves, Always}
use Rattle.trap_model.specs.declared.history.State.{State}
use Rattle.trap_model.specs.declared.request.Refusal.TheVariants.{NoBlock}
use Rattle.trap_model.specs.declared.request.Reply.{Reply}
use Rattle.trap_array.specs.Beside.{StaysFrom}
use Rattle.trap_array.specs.Calls.{Mounted, StandsFor, SameArray, AtAnyMoment, StandsAfterCall}
use Rattle.trap_array.specs.Calls.{MemberFails, WriteReplies, is_fault, running}
use Rattle.trap_array.specs.Ending.{EndsBy}
use Rattle.trap_array.specs.Log.{IndexedLog, AreInStep}
use Rattle.trap_array.specs.Ready.{KnowsCell}
pub use Rattle.trap_log.specs.Room.{ring_limit, IsFull, early_refusal}
use Rattle.trap_array.specs.declared.fault.Denied.{Denied}

-- what failed has a count of faults that rose
abbrev pub IsFaultOf : Mounted → View → View → Denied → Type 0
IsFaultOf a old new denied =
    EndsBy (λ why. ⊥) (λ m k. MemberFails a m k old new) (λ at. ⊥) old new denied

-- the same, or a block that is there is refused
abbrev pub Denies : Mounted → View → View → Denied → Type 0
Denies a old new denied =
    EndsBy (λ why. why ≢ NoBlock) (λ m k. MemberFails a m k old new) (λ at. ⊥) old new denied

-- the answer is this reply to the state, and the array stands for the next one, or at a fault for
-- one of the two
pub record MovesLog (a b : IndexedLog) (next : State → State) (replies : State → Reply)
    (result : Result ℕ Denied) (old new : View) : Type 0 where
  pub reply : IsTrue old.tells → (s : State) → Always old (StandsFor (running a) s)
      → WriteReplies result (replies s)
  pub turned : is_fault result ≡ false → Moves old new (AtAnyMoment (running a) old next)
      (StandsAfterCall (running a) (running b) old next)
  pub in_step : is_fault result ≡ false → AreInStep b.head b.stage b.index
  pub cell : is_fault result ≡ false → KnowsCell b.cell b.head new
  pub same_array : SameArray (running a) (running b)
  pub sizes : (e : ℕ) → new.sizes e ≡ old.sizes e
  pub others : StaysFrom (a.g.members + 1) old new
  pub cause : IfErr result (Denies (running a) old new)
  pub any_moment : Moves old new (AtAnyMoment (running a) old next)
      (AtAnyMoment (running a) old next)
