-- What a write of a mounted array does.
use Rattle.std.specs.Prelude.{◌≡◌, ◌⊎◌, ℕ, List, [], IsTrue, IfSome, Result, Err}
use Rattle.trap_bank.specs.Disks.{View}
use Rattle.trap_bank.specs.Steps.{Always}
use Rattle.trap_model.specs.ArrayStep.{step}
use Rattle.trap_model.specs.declared.history.State.{State}
use Rattle.trap_model.specs.declared.request.Refusal.{Refusal}
use Rattle.trap_model.specs.declared.request.Request.TheVariants.{Write}
use Rattle.trap_array.specs.Areas.{Touches, InWrite}
use Rattle.trap_array.specs.Calling.{CallsFor, CallsInWrite}
use Rattle.trap_array.specs.Calls.{Mounted, StandsFor, TakesTo, WriteReplies}
use Rattle.trap_array.specs.Growing.{HeadAfter, IndexAfter}
use Rattle.trap_array.specs.Owed.{owed, pending_writes, reply_of_write}
use Rattle.trap_array.specs.declared.fault.Denied.{Denied}
use Rattle.trap_array.specs.declared.fault.Denied.TheVariants.{Refused}

-- the state after a write
abbrev pub after_write : Mounted → ℕ → ℕ → List ℕ → State → State
after_write a time block bytes s = (step a.g).next s (Write time block bytes)

-- a refusal leaves the pending writes, or has put them all onto the members to make a slot free
abbrev pub StagedAfter : Mounted → Mounted → Result ℕ Denied → Type 0
StagedAfter a b result = (why : Refusal) → result ≡ Err (Refused why)
    → (b.pending ≡ a.pending) ⊎ (b.pending ≡ [])

-- what a write touches and leaves, and how often it calls the bank: head and index follow from the
-- answer
pub record LeavesWrite (allowed : ℕ → ℕ) (a b : Mounted) (time block : ℕ)
    (result : Result ℕ Denied) (old new : View) : Type 0 where
  pub touches : Touches (InWrite a block) old new
  pub head : HeadAfter a.g a.head b.head time result
  pub index : IndexAfter a b time block result
  pub calls : CallsFor allowed a b result old new

-- What a write did: its answer is the model's reply to the state that the array stood for, and
-- after it the array stands for the next state. Stopped at any moment, the disks hold the one or
-- the other, and no byte changed that such a write may not touch. Its head, its index and its
-- pending writes are those that follow from the answer, and so is how often it called the bank.
pub record TakesStep (a b : Mounted) (time block : ℕ) (bytes : List ℕ) (result : Result ℕ Denied)
    (old new : View) : Type 0 where
  pub reply : IsTrue old.tells → (s : State) → Always old (StandsFor a s)
      → WriteReplies result ((step a.g).reply s (Write time block bytes))
  pub state : TakesTo a b (after_write a time block bytes) result old new
  pub head : HeadAfter a.g a.head b.head time result
  pub index : IndexAfter a b time block result
  pub touches : Touches (InWrite a block) old new
  pub pending : IfSome (reply_of_write result)
      (λ reply. pending_writes b.head ≡ owed a.g (Write time block bytes) reply
      (pending_writes a.head))
  pub staged : StagedAfter a b result
  pub calls : CallsInWrite a b block result old new
