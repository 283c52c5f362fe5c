-- What a line does to a mounted array: the state that it stands for is the one after the request,
-- and the reply is said.
use Rattle.std.specs.Prelude.{◌≡◌, ◌≢◌, ◌↔◌, ◌⊎◌, ℕ, ◌+◌, true, false, Bool, ◌||◌, ◌++◌}
use Rattle.std.specs.Prelude.{Some, IsTrue, Result, Ok, Err, IfErr}
use Rattle.trap_bank.specs.Called.{moment_after}
use Rattle.trap_bank.specs.Disks.{Contents, View}
use Rattle.trap_bank.specs.Calls.{Says, SaysPart}
use Rattle.trap_bank.specs.Steps.{Steps, Always}
use Rattle.trap_model.specs.ArrayStep.{step}
use Rattle.trap_model.specs.declared.history.State.{State}
use Rattle.trap_model.specs.declared.request.Reply.{Reply}
use Rattle.trap_model.specs.declared.request.Request.{Request}
use Rattle.trap_script.specs.Replies.{reply_text}
use Rattle.trap_array.specs.Beside.{StaysFrom}
use Rattle.trap_array.specs.Calls.{Mounted, IsReady, SameArray, StandsFor}
use Rattle.trap_array.specs.Untouched.{Untouched}
use Rattle.trap_array.specs.declared.fault.Denied.TheVariants.{LogFault, MemberFault}
use Rattle.trap_array.specs.declared.fault.Denied.TheVariants.{Damaged, Stopped}
use Rattle.trap_session.specs.After.{AfterFault}
use Rattle.trap_session.specs.Calling.{CallsInLine}
use Rattle.trap_session.specs.Changing.{ChangesOnly, InLine}
use Rattle.trap_session.specs.Deciding.{decided_reply, RepliesTo}
use Rattle.trap_session.specs.Fitting.{AsksBlock, FaultFits}
use Rattle.trap_session.specs.Store.{array_store, Served, Answering, FaultRose, IsDamagedFor}
use Rattle.trap_session.specs.declared.outcome.Next.{Next}
use Rattle.trap_session.specs.declared.outcome.Next.TheVariants.{More, Quit}
use Rattle.trap_session.specs.declared.outcome.SessionFault.{SessionFault}
use Rattle.trap_session.specs.declared.outcome.SessionFault.TheVariants.{Array, WriteFault}

-- At any moment, whatever state the array stood for on entry: this is what a crash leaves while the
-- line is answered.
abbrev pub LeavesInLine : Mounted → View → Request → Contents → Contents → Type 0
LeavesInLine a v asked old new = (s : State) → Always v (StandsFor a s)
    → Answering (array_store a) s asked old new

-- At its end, whatever state the array stood for on entry: the line was answered so.
abbrev pub HasAnswered : Mounted → View → Result Next SessionFault → Request → Contents → Contents
    → Type 0
HasAnswered a v result asked old new =
    (s : State) → Always v (StandsFor a s) → Served (array_store a) result s asked old new

-- whatever state the array stood for, it stands for the one after the request
abbrev pub StandsOn : Mounted → Mounted → Request → View → View → Type 0
StandsOn a b asked old new =
    (s : State) → Always old (StandsFor a s) → Always new (StandsFor b ((step a.g).next s asked))

-- the fault of a disk stops the array
abbrev pub is_stopping : {T : Type 0} → Result T SessionFault → Bool
is_stopping (Err (Array LogFault)) = true
is_stopping (Err (Array (MemberFault first second))) = true
is_stopping other = false

-- All that was said was said in one call: where the bank tells, and each call raises the moment by
-- one, a crash one call ago may have left what was said on entry.
abbrev pub SaidInOneCall : View → View → Type 0
SaidInOneCall old new = IsTrue old.tells → IsTrue new.by_one
    → (before : ℕ) × (entry : Contents) × (new.moment ≡ moment_after 1 before)
    × new.left before entry × (entry.said ≡ old.now.said)

-- A reply is said in one call. Where there is none, nothing is said.
abbrev pub Speaks : Result Next SessionFault → View → View → Type 0
Speaks (Ok More) old new = SaidInOneCall old new
Speaks (Err WriteFault) old new = SaidInOneCall old new
Speaks other old new = IsTrue old.tells → new.now.said ≡ old.now.said

-- Whatever the disks hold, a possible reply was said: whole, or in part where the port failed. What
-- the array knows after the line is what follows from that reply, or from its fault.
abbrev pub RepliesPossibly : Mounted → Mounted → Request → Result Next SessionFault → View → View
    → Type 0
RepliesPossibly a b asked (Ok More) old new =
    RepliesTo a b asked (λ text. IsTrue old.tells → new.now.said ≡ old.now.said ++ text)
RepliesPossibly a b asked (Ok Quit) old new = b ≡ a
RepliesPossibly a b asked (Err (Array denied)) old new = AfterFault a b asked denied
RepliesPossibly a b asked (Err WriteFault) old new =
    RepliesTo a b asked (λ text. IsTrue old.tells → SaysPart text old.now new.now)
RepliesPossibly a b asked other old new = ⊥

-- One line and its reply, over the array before and after it. A reply comes when the request is
-- committed, in one call; after the fault of a disk the array is stopped, and the disks may hold
-- either state. A stopped array answers all but requests of its blocks. What the array's own
-- numbers decide is replied whatever the disks hold, and whatever they hold, no byte changes but
-- those that a write of the line's block may touch, at the end and at any moment. The bank is
-- called as often as the request needs; for a `Q`, and a line that a stopped array denies, never.
pub record AnswersLine (a b : Mounted) (result : Result Next SessionFault) (asked : Request)
    (old new : View) : Type 0 where
  pub steps : Steps old new (LeavesInLine a old asked) (HasAnswered a old result asked)
  pub stands : is_stopping result ≡ false → result ≢ Err (Array Stopped)
      → StandsOn a b asked old new
  pub stopped : b.is_stopped ≡ (a.is_stopped || is_stopping result)
  pub speaks : Speaks result old new
  pub denied : (result ≡ Err (Array Stopped)) ↔ (AsksBlock a.g asked × (a.is_stopped ≡ true))
  pub ready : IsReady b new
  pub goes_on : SameArray a b
  pub cause : IfErr result (λ fault. FaultRose a fault old new)
  pub damaged : (offset : ℕ) → result ≡ Err (Array (Damaged offset)) → IsTrue new.tells
      → IsDamagedFor b.g b.index asked new.now.disks offset
  pub asks : IfErr result (FaultFits a asked)
  pub replies : RepliesPossibly a b asked result old new
  pub own : (reply : Reply) → decided_reply a asked ≡ Some reply
      → Says (reply_text reply) result old new
  pub touches : ChangesOnly (InLine a asked) old new
  pub untouched : (result ≡ Ok Quit) ⊎ (result ≡ Err (Array Stopped)) → Untouched old new
  pub calls : CallsInLine a b asked result old new
  pub sizes : (e : ℕ) → new.sizes e ≡ old.sizes e
  pub others : StaysFrom (a.g.members + 1) old new
