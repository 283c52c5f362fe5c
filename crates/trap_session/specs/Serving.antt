-- How a session stops, and what a crash leaves while it goes on.
use Rattle.std.specs.Prelude.{◌≡◌, ◌⊎◌, ℕ, ◌+◌, ◌-◌, ◌^◌, ◌≤◌, List, [], ◌∷◌, ◌++◌, length, take}
use Rattle.std.specs.Prelude.{drop, All, Some, true, false, IsTrue, Result, Ok, Err}
use Rattle.std.specs.Io.KnownBytes.{Consumes, IsAtEnd, prepend_known}
use Rattle.trap_bank.specs.Faults.{Rose}
use Rattle.trap_bank.specs.Disks.{Contents, View}
use Rattle.trap_bank.specs.Stream.{Stream}
use Rattle.trap_model.specs.declared.request.Request.{Request}
use Rattle.trap_script.specs.Lines.{lines, lines_of, line_feeds, request_of, goes_on, HasNoFeed}
use Rattle.trap_script.specs.Walk.{state_after, first_texts, Answered, AnsweredAll, AnsweredPart}
use Rattle.trap_bank.specs.Steps.{Always}
use Rattle.trap_model.specs.declared.history.State.{State}
use Rattle.trap_array.specs.Calls.{Mounted, StandsFor, HoldsLike}
use Rattle.trap_array.specs.declared.fault.Denied.TheVariants.{Damaged, Stopped}
use Rattle.trap_session.specs.Store.{Store, array_store, FaultRose}
use Rattle.trap_session.specs.declared.outcome.Next.{Next}
use Rattle.trap_session.specs.declared.outcome.Next.TheVariants.{More, Quit}
use Rattle.trap_session.specs.declared.outcome.Ended.{Ended}
use Rattle.trap_session.specs.declared.outcome.Ended.TheVariants as ended
use Rattle.trap_session.specs.declared.outcome.SessionFault.{SessionFault}
use Rattle.trap_session.specs.declared.outcome.SessionFault.TheVariants.{Array, ReadFault}
use Rattle.trap_session.specs.declared.outcome.SessionFault.TheVariants.{WriteFault, TooLong}

-- the bytes that were taken from the input
abbrev pub bytes_taken : List ℕ → Stream → Stream → List ℕ
bytes_taken input from to = take (to.given - from.given) input

-- the replies to all lines were said
abbrev pub StopsDone : {S : Type 0} → Store S → S → List ℕ → Contents → Contents → Type 0
StopsDone store s input old now =
    AnsweredAll store.machine (store.holds now.disks) s (lines store.block input) old.said now.said

-- the replies to the first j lines were said
abbrev pub StopsAfter : {S : Type 0} → Store S → S → List ℕ → ℕ → Contents → Contents → Type 0
StopsAfter store s input j old now =
    Answered store.machine (store.holds now.disks) s (lines store.block input) j old.said now.said

-- the replies to the first j lines were said, and a disk failed in the next one
pub record StopsTorn {S : Type 0} (store : Store S) (s : S) (input : List ℕ)
    (old now : Contents) : Type 0 where
  pub j : ℕ
  pub asked : Request
  pub rest : List Request
  pub next : drop j (lines store.block input) ≡ asked ∷ rest
  pub said : now.said ≡ old.said ++ first_texts store.machine s (lines store.block input) j
  pub torn : store.torn now.disks (state_after store.machine s (lines store.block input) j) asked

-- What was said, and what the disks hold, when a session stops so: the replies to all lines; those
-- before the line in which a disk failed; a part of them, where the port failed; or those to the
-- lines that were taken whole. No record that is read again is damaged.
abbrev pub StopsAs : {S : Type 0} → Store S → Result Ended SessionFault → S → List ℕ → Contents
    → Contents → Stream → Stream → Type 0
StopsAs store (Ok ended) s input old now from to = StopsDone store s input old now
StopsAs store (Err (Array (Damaged offset))) s input old now from to = ⊥
StopsAs store (Err (Array denied)) s input old now from to = StopsTorn store s input old now
StopsAs store (Err WriteFault) s input old now from to =
    AnsweredPart store.machine (store.holds now.disks) s (lines store.block input) old.said now.said
StopsAs store (Err other) s input old now from to =
    StopsAfter store s input (line_feeds (bytes_taken input from to)) old now

-- nothing, or bytes up to a line feed
abbrev pub AreWholeLines : List ℕ → Type 0
AreWholeLines bytes = (bytes ≡ []) ⊎ ((front : List ℕ) × (bytes ≡ front ++ 10 ∷ []))

-- one of the bytes' whole lines is a `Q`
pub record HasQuit (size : ℕ) (bytes : List ℕ) : Type 0 where
  pub before : List ℕ
  pub line : List ℕ
  pub rest : List ℕ
  pub parts : bytes ≡ before ++ (line ++ 10 ∷ rest)
  pub whole : AreWholeLines before
  pub no_feed : HasNoFeed line
  pub quit : goes_on (request_of size line) ≡ false

-- the bytes' last line is a `Q` without a line feed, and no more input comes
pub record EndsInQuit (size : ℕ) (bytes : List ℕ) (to : Stream) : Type 0 where
  pub before : List ℕ
  pub line : List ℕ
  pub rest : List ℕ
  pub parts : bytes ≡ before ++ (line ++ rest)
  pub whole : AreWholeLines before
  pub no_feed : HasNoFeed line
  pub quit : goes_on (request_of size line) ≡ false
  pub none_left : IsAtEnd (prepend_known rest to.left)
  pub ended : to.ended ≡ true

-- a `Q` is among the lines of the bytes taken: a whole line, or the last one, at the input's end
pub record TookQuit (size : ℕ) (from to : Stream) : Type 0 where
  pub bytes : List ℕ
  pub taken : Consumes from.left to.left bytes
  pub given : to.given ≡ from.given + length bytes
  pub has_quit : HasQuit size bytes ⊎ EndsInQuit size bytes to

-- where the input is known, none of its lines is a `Q`
abbrev pub HadNoQuit : ℕ → Stream → Type 0
HadNoQuit size from =
    (input : List ℕ) → from.left ≡ Some input → All (λ line. goes_on (request_of size line) ≡ true)
    (lines_of input)

-- the next bytes of the source were taken, at most 2^40 of them
pub record Took (from to : Stream) : Type 0 where
  pub bytes : List ℕ
  pub taken : Consumes from.left to.left bytes
  pub given : to.given ≡ from.given + length bytes
  pub most : length bytes ≤ 2 ^ 40

-- how a session ends after its last line
abbrev pub ended_by : Next → Ended
ended_by More = ended.Input
ended_by Quit = ended.Quit

-- Why a session stops so. It begins with an array that isn't stopped, and ends at the first fault.
abbrev pub StopsBy : Mounted → Result Ended SessionFault → View → View → Stream → Stream → Type 0
StopsBy a (Ok ended.Quit) old new from to = TookQuit a.g.block from to
StopsBy a (Ok ended.Input) old new from to = to.ended ≡ true
StopsBy a (Err (Array Stopped)) old new from to = ⊥
StopsBy a (Err (Array denied)) old new from to = FaultRose a (Array denied) old new
StopsBy a (Err ReadFault) old new from to = Rose from.faults to.faults
StopsBy a (Err WriteFault) old new from to = FaultRose a WriteFault old new
StopsBy a (Err TooLong) old new from to = (to.given ≡ from.given + 2 ^ 40) × (to.ended ≡ false)

-- At any moment, where the array stood for a state on entry and the input is known: a part of the
-- replies was said, and the disks hold the state after the requests whose replies were given, or
-- after one more.
abbrev pub Serves : Mounted → View → Stream → Contents → Contents → Type 0
Serves a v from old new =
    (s : State) → Always v (StandsFor a s) → (input : List ℕ) → from.left ≡ Some input
    → AnsweredPart (array_store a).machine ((array_store a).holds new.disks) s
    (lines a.g.block input) old.said new.said

-- At its end, where the array stood for a state on entry and the input is known, it stopped so.
abbrev pub HasStopped : Mounted → View → Result Ended SessionFault → Stream → Stream → Contents
    → Contents → Type 0
HasStopped a v result from to old new =
    (s : State) → Always v (StandsFor a s) → (input : List ℕ) → from.left ≡ Some input
    → StopsAs (array_store a) result s input old new from to

-- At its end, whether the input is known or not: where the array stood for a state on entry, the
-- disks hold one, by a head that names the same lost member.
abbrev pub StandsAtEnd : Mounted → View → View → Type 0
StandsAtEnd a old new = IsTrue old.tells → (s : State) → Always old (StandsFor a s)
    → (t : State) × HoldsLike a.g a.head t new.now.disks
