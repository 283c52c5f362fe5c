-- What a crash leaves while one line is answered, from the calls that it makes.
use Rattle.std.proofs.Common.{◌≡◌, ◌⊎◌, ◌↔◌, inl, inr, ⊎_elim, ℕ, ◌+◌, ◌<◌, ◌≤◌, Option, List, ◌++◌, length, take, Some, None, Bool, true, false, ◌||◌, IsTrue, Result, Ok, Err, OnErr, IfOk, IfErr, IsErr, IsErrAnd, refl, sym, ap, subst, ◌∙◌, arith}
use Rattle.std.specs.Prelude.{◌≢◌, IfSome}
use Rattle.std.proofs.Math.Seq.{take-append_seam}
use Rattle.trap_bank.specs.Disks.{Contents, Disks, View, Quiet}
use Rattle.trap_bank.specs.Calls.{MayLeave, IsLawful, Says}
use Rattle.trap_bank.specs.Faults.{Rose}
use Rattle.trap_bank.specs.Steps.{Steps, Moves, Same, Spoke, SpokePart, Always}
use Rattle.trap_bank.proofs.Called.{called_once, not_called}
use Rattle.trap_bank.proofs.Moves.{say_steps, said_steps, then_, weaken, nothing_done, always_same, read_is_left, unmoved}
use Rattle.trap_model.specs.Image.{volume}
use Rattle.trap_model.specs.ArrayStep.{step, or_refused, refusal}
use Rattle.trap_model.specs.declared.history.State.{State}
use Rattle.trap_model.specs.declared.numbers.Geometry.{Geometry}
use Rattle.trap_model.specs.declared.request.Request.{Request}
use Rattle.trap_model.specs.declared.request.Request.TheVariants.{Write, Read, At, By, Info, Keep, Bad, Quit as Q}
use Rattle.trap_model.specs.declared.request.Refusal.{Refusal}
use Rattle.trap_model.specs.declared.request.Refusal.TheVariants.{NoLine}
use Rattle.trap_model.specs.declared.request.Reply.{Reply}
use Rattle.trap_model.specs.declared.request.Reply.TheVariants.{No, Span}
use Rattle.trap_script.specs.Lines.{goes_on}
use Rattle.trap_script.specs.Replies.{reply_text}
use Rattle.trap_array.specs.Areas.{Touches, InWrite}
use Rattle.trap_array.specs.Holding.{HoldsBy}
use Rattle.trap_array.specs.Beside.{StaysFrom}
use Rattle.trap_array.specs.Calls.{Mounted, WriteReplies, ReadReplies, AtReplies, is_fault, MemberFails, StandsFor, HoldsLike, IsReady, SameArray, AtAnyMoment, StandsAfterCall}
use Rattle.trap_array.specs.Growing.{HeadAfter, IndexAfter}
use Rattle.trap_array.specs.Owed.{owed, pending_writes, reply_of_write}
use Rattle.trap_array.specs.Taking.{StagedAfter}
use Rattle.trap_array.specs.Turning.{early_refusal}
use Rattle.trap_array.specs.Untouched.{Untouched}
use Rattle.trap_array.specs.declared.fault.Denied.{Denied}
use Rattle.trap_array.specs.declared.fault.Denied.TheVariants.{Refused, LogFault, MemberFault, Damaged, Stopped}
use Rattle.trap_array.proofs.Beside.{stays_none, stays_same, stays_then}
use Rattle.trap_array.proofs.AreaSteps.{touches_same}
use Rattle.trap_array.proofs.Denials.{untouched_none}
use Rattle.trap_array.proofs.Sizes.{sizes_still}
use Rattle.trap_array.proofs.TurnSteps.{goes_still}
use Rattle.trap_array.proofs.Turns.{later_same}
use Rattle.trap_session.specs.After.{KnowsSame, AfterReply, AfterFault}
use Rattle.trap_session.specs.Calling.{CallsInLine}
use Rattle.trap_session.specs.Changing.{InLine, InNothing}
use Rattle.trap_session.specs.Fitting.{FaultFits, FailsReading, AsksBlock}
use Rattle.trap_session.specs.Store.{Store, array_store, Replied, CutShort, Struck, Served, StandsForNone, FaultRose, IsDamagedFor}
use Rattle.trap_session.specs.Deciding.{decided_of_block, decided_reply, MayReply}
use Rattle.trap_session.specs.Denying.{EndsSession}
use Rattle.trap_session.specs.Answers.{LeavesInLine, HasAnswered, StandsOn, is_stopping, SaidInOneCall, Speaks, RepliesPossibly, AnswersLine}
use Rattle.trap_session.specs.declared.outcome.Next.{Next}
use Rattle.trap_session.specs.declared.outcome.Next.TheVariants.{More, Quit}
use Rattle.trap_session.specs.declared.outcome.SessionFault.{SessionFault}
use Rattle.trap_session.specs.declared.outcome.SessionFault.TheVariants.{Array, ReadFault, WriteFault, TooLong}
use Rattle.trap_session.proofs.Decided.{says_since}
use Rattle.trap_session.proofs.Touching.{says_then, says_nothing, changes_none}

-- The request is done and its reply not said yet.
pub record IsDone {S : Type 0} (store : Store S) (s : S) (asked : Request) (old new : Contents) : Type 0 where
  pub more : goes_on asked ≡ true
  pub said : new.said ≡ old.said
  pub holds : store.holds new.disks (store.machine.next s asked)

module _ {S : Type 0} (store : Store S) (s : S) (asked : Request) (piece : List ℕ) (text : piece ≡ reply_text (store.machine.reply s asked)) where
  cut_part : (x y z : Contents) → IsDone store s asked x y → SpokePart piece y z → CutShort store s asked x z
  cut_part x y z done spoke = record {
    more = done.more;
    part = record {
      part = spoke.says.part;
      rest = spoke.says.rest;
      whole = spoke.says.whole ∙ text;
      said = spoke.says.said ∙ ap (λ l. l ++ spoke.says.part) done.said;
    };
    holds = subst (λ disks. store.holds disks (store.machine.next s asked)) (sym spoke.disks) done.holds;
  }

  said_all : (x y z : Contents) → IsDone store s asked x y → Spoke piece y z → Replied store s asked x z
  said_all x y z done spoke = record {
    more = done.more;
    said = spoke.said ∙ ap (λ l. l ++ piece) done.said ∙ ap (λ l. x.said ++ l) text;
    holds = subst (λ disks. store.holds disks (store.machine.next s asked)) (sym spoke.disks) done.holds;
  }

-- the request is done, whatever state the array stood for
abbrev pub HasDone : Mounted → View → Request → Contents → Contents → Type 0
HasDone a v asked old new = (s : State) → Always v (StandsFor a s) → IsDone (array_store a) s asked old new

-- A reply is said after a request that is done.
pub reply_after : (a : Mounted) (v u w : View) (asked : Request) (reply : Reply) (result : Result Next SessionFault)
    → (IsTrue v.tells → (s : State) → Always v (StandsFor a s) → (step a.g).reply s asked ≡ reply)
    → Steps v u (LeavesInLine a v asked) (HasDone a v asked) → Says (reply_text reply) result u w
    → IfOk result (λ next. next ≡ More) → IfErr result (λ fault. fault ≡ WriteFault)
    → Steps v w (LeavesInLine a v asked) (HasAnswered a v result asked)
reply_after a v u w asked reply (Ok More) is done call ok err = then_ v u w (LeavesInLine a v asked) (HasDone a v asked) (SpokePart (reply_text reply)) (Spoke (reply_text reply))
    (LeavesInLine a v asked) (HasAnswered a v (Ok More) asked) done (said_steps {T = Next} {E = SessionFault} More u w (reply_text reply) call)
    (λ x y was step. step)
    (λ x y z was done mid spoke s stands. inr (inr (cut_part (array_store a) s asked (reply_text reply) (ap reply_text (sym (is was.told s stands))) x y z (done s stands) spoke)))
    (λ x y z was done mid spoke s stands. said_all (array_store a) s asked (reply_text reply) (ap reply_text (sym (is was.told s stands))) x y z (done s stands) spoke)
reply_after a v u w asked reply (Ok Quit) is done call ok err = absurd (cc ok)
reply_after a v u w asked reply (Err (Array denied)) is done call ok err = absurd (cc err)
reply_after a v u w asked reply (Err ReadFault) is done call ok err = absurd (cc err)
reply_after a v u w asked reply (Err WriteFault) is done call ok err = then_ v u w (LeavesInLine a v asked) (HasDone a v asked) (SpokePart (reply_text reply)) (SpokePart (reply_text reply))
    (LeavesInLine a v asked) (HasAnswered a v (Err WriteFault) asked) done (say_steps {T = Next} {E = SessionFault} (Err WriteFault) u w (reply_text reply) call)
    (λ x y was step. step)
    (λ x y z was done mid spoke s stands. inr (inr (cut_part (array_store a) s asked (reply_text reply) (ap reply_text (sym (is was.told s stands))) x y z (done s stands) spoke)))
    (λ x y z was done mid spoke s stands. cut_part (array_store a) s asked (reply_text reply) (ap reply_text (sym (is was.told s stands))) x y z (done s stands) spoke)
reply_after a v u w asked reply (Err TooLong) is done call ok err = absurd (cc err)

-- what every crash leaves is the same after a reply
always_said : {T E : Type 0} (u w : View) (result : Result T E) (piece : List ℕ) (has : Disks → Type 0) → Says piece result u w → Always u has → Always w has
always_said u w result piece has call always c left =
    let from = (say_steps result u w piece call).now c left in
    subst has (sym from.by.disks) (always from.origin from.was)

-- an array is ready where the disks have the same sizes, and every crash leaves its cell as before
ready_as : (a : Mounted) (u w : View) → ((e : ℕ) → w.sizes e ≡ u.sizes e) → ((has : Disks → Type 0) → Always u has → Always w has) → IsReady a u → IsReady a w
ready_as a u w sizes still ready = record {
  sizes = λ running. sizes_still a.g a.head.lost a.head.rebuilt u w sizes (ready.sizes running);
  stands = λ running. still _ (ready.stands running);
  value = λ running. still _ (ready.value running);
  count = ready.count;
  room = ready.room;
}

rose_port : (a : Mounted) (v u w : View) (result : Result Next SessionFault) → v.port_faults ≤ u.port_faults → OnErr result (Rose u.port_faults w.port_faults)
    → IfErr result (λ fault. fault ≡ WriteFault) → IfErr result (λ fault. FaultRose a fault v w)
rose_port a v u w (Ok next) later rose is = rose
rose_port a v u w (Err fault) later rose is = subst (λ f. FaultRose a f v w) (sym is) (omega (arith, later, rose))

-- A call that changes nothing but whether the array is stopped names the damaged record that it found.
names_same : (a b : Mounted) (asked : Request) (v u : View) (stopped : Bool) → b ≡ record a { is_stopped = stopped } → u.tells ≡ v.tells → (IsTrue v.tells → u.now ≡ v.now)
    → (denied : Denied) → ((offset : ℕ) → denied ≡ Damaged offset → IsTrue v.tells → IsDamagedFor a.g a.index asked v.now.disks offset)
    → (offset : ℕ) → denied ≡ Damaged offset → IsTrue u.tells → IsDamagedFor b.g b.index asked u.now.disks offset
names_same a b asked v u stopped same tells alike denied damaged offset is told =
    let told_before = subst IsTrue tells told in
    subst (λ (m : Mounted). IsDamagedFor m.g m.index asked u.now.disks offset) (sym same)
    (subst (λ (x : Contents). IsDamagedFor a.g a.index asked x.disks offset) (sym (alike told_before)) (damaged offset is told_before))

-- no disk changes while a piece is said
stays_said : (d : ℕ) (u w : View) → (IsTrue u.tells → w.now.disks ≡ u.now.disks) → StaysFrom d u w
stays_said d u w same told e above = ap (λ (disks : Disks). disks e) (same told)

-- a fault of the port is none of the array
port_only : (result : Result Next SessionFault) {denied : Denied} → IfErr result (λ fault. fault ≡ WriteFault) → result ≡ Err (Array denied) → ⊥
port_only (Ok next) port is = cc is
port_only (Err fault) port is = cc (port, is)

-- nor is a line with a reply the last one
not_quit : (result : Result Next SessionFault) → IfOk result (λ next. next ≡ More) → result ≡ Ok Quit → ⊥
not_quit (Ok next) more is = cc (more, is)
not_quit (Err fault) more is = cc is

-- where only disks were worked on, nothing was said
pub quiet_moves : (v u : View) (during after : Disks → Disks → Type 0) → Moves v u during after → IsTrue v.tells → u.now.said ≡ v.now.said
quiet_moves v u during after moves told =
    let came = moves.now u.now (read_is_left u (subst IsTrue (sym moves.tells) told)) in
    came.by.said ∙ came.was.torn.said

-- a reply in one call
said_once : (v u w : View) → u.tells ≡ v.tells → (IsTrue v.tells → u.now.said ≡ v.now.said) → SaidInOneCall u w → SaidInOneCall v w
said_once v u w tells quiet once told by_one =
    let since = once (subst IsTrue (sym tells) told) by_one in
    (since.0, since.1, since.2, since.3, since.4 ∙ quiet told)

speaks_reply : (result : Result Next SessionFault) (v w : View) → SaidInOneCall v w → IfOk result (λ next. next ≡ More) → IfErr result (λ fault. fault ≡ WriteFault)
    → Speaks result v w
speaks_reply (Ok More) v w once ok err = once
speaks_reply (Ok Quit) v w once ok err = absurd (cc ok)
speaks_reply (Err (Array denied)) v w once ok err = absurd (cc err)
speaks_reply (Err ReadFault) v w once ok err = absurd (cc err)
speaks_reply (Err WriteFault) v w once ok err = once
speaks_reply (Err TooLong) v w once ok err = absurd (cc err)

-- the port stops no array
not_stopping : (result : Result Next SessionFault) → IfErr result (λ fault. fault ≡ WriteFault) → is_stopping result ≡ false
not_stopping (Ok next) err = refl
not_stopping (Err fault) err = ap (λ (f : SessionFault). is_stopping {T = Next} (Err f)) err

or_false : (b : Bool) → b ≡ (b || false)
or_false true = refl
or_false false = refl

-- a possible reply that is said after calls that say nothing
replied_as : (a b : Mounted) (asked : Request) (reply : Reply) (v u w : View) (result : Result Next SessionFault)
    → (decided_reply a asked ≡ Some reply) ⊎ MayReply a asked reply → AfterReply a b asked reply → u.tells ≡ v.tells → (IsTrue v.tells → u.now.said ≡ v.now.said)
    → Says (reply_text reply) result u w → IfOk result (λ next. next ≡ More) → IfErr result (λ fault. fault ≡ WriteFault) → RepliesPossibly a b asked result v w
replied_as a b asked reply v u w (Ok More) possible after tells quiet call ok err = record {
  reply = reply;
  possible = possible;
  after = after;
  said = λ told. call.said (subst IsTrue (sym tells) told) ∙ ap (λ (l : List ℕ). l ++ reply_text reply) (quiet told);
}
replied_as a b asked reply v u w (Ok Quit) possible after tells quiet call ok err = absurd (cc ok)
replied_as a b asked reply v u w (Err (Array denied)) possible after tells quiet call ok err = absurd (cc err)
replied_as a b asked reply v u w (Err ReadFault) possible after tells quiet call ok err = absurd (cc err)
replied_as a b asked reply v u w (Err WriteFault) possible after tells quiet call ok err = record {
  reply = reply;
  possible = possible;
  after = after;
  said = λ told. let some = call.part (subst IsTrue (sym tells) told) in
      record { part = some.part; rest = some.rest; whole = some.whole; said = some.said ∙ ap (λ (l : List ℕ). l ++ some.part) (quiet told) };
}
replied_as a b asked reply v u w (Err TooLong) possible after tells quiet call ok err = absurd (cc err)

-- what was denied, in a fault of the session
same_denied : {first second : Denied} → ◌≡◌ {A = Result Next SessionFault} (Err (Array first)) (Err (Array second)) → first ≡ second
same_denied is = cc is

same_fault : {first second : Denied} → Array first ≡ Array second → first ≡ second
same_fault is = cc is

-- a line with a reply makes a call
calls_said : {P : Type 0} (result : Result Next SessionFault) → IfOk result (λ next. next ≡ More) → IfErr result (λ fault. fault ≡ WriteFault)
    → (result ≡ Ok Quit) ⊎ (result ≡ Err (Array Stopped)) → P
calls_said result ok err none = absurd (⊎_elim (λ quit. not_quit result ok quit) (λ stopped. port_only result err stopped) none)

-- a line that fails makes none where the array is stopped
calls_denied : {P : Type 0} (denied : Denied) → (denied ≡ Stopped → P)
    → (◌≡◌ {A = Result Next SessionFault} (Err (Array denied)) (Ok Quit)) ⊎ (◌≡◌ {A = Result Next SessionFault} (Err (Array denied)) (Err (Array Stopped))) → P
calls_denied denied still none = ⊎_elim (λ quit. absurd (cc quit)) (λ stopped. still (same_denied stopped)) none

-- the port may fail in every reply
fits_port : (a : Mounted) (asked : Request) → goes_on asked ≡ true → FaultFits a asked WriteFault
fits_port a (Write time block bytes) more = λ offset is. cc is
fits_port a (Read block) more = ((λ first second is. absurd (cc is)), (λ offset is. cc is), (λ is. cc is))
fits_port a (At seq block) more = λ first second is. absurd (cc is)
fits_port a (By time block) more = λ first second is. absurd (cc is)
fits_port a (Keep seq) more = refl
fits_port a Info more = refl
fits_port a Q more = absurd (cc more)
fits_port a Bad more = refl

port_fits : (a : Mounted) (asked : Request) → goes_on asked ≡ true → (result : Result Next SessionFault) → IfErr result (λ fault. fault ≡ WriteFault) → IfErr result (FaultFits a asked)
port_fits a asked more (Ok next) is = is
port_fits a asked more (Err fault) is = subst (FaultFits a asked) (sym is) (fits_port a asked more)

-- a call that reads no record again finds none damaged
pub no_record : (denied : Denied) → ((offset : ℕ) → denied ≡ Damaged offset → ⊥) → (offset : ℕ) → Array denied ≢ Array (Damaged offset)
no_record denied never offset is = never offset (same_fault is)

-- and one that uses disk 0 for nothing doesn't fail by it
pub no_log : (denied : Denied) → (denied ≡ LogFault → ⊥) → Array denied ≢ Array LogFault
no_log denied never is = never (same_fault is)

-- nor one that never reads the lost member by that one
pub not_by_lost : (a : Mounted) {T : Type 0} (call : Result T Denied) (denied : Denied) → call ≡ Err denied
    → ((first second : ℕ) → call ≡ Err (MemberFault first second) → a.head.lost ≢ Some second) → FailsReading a (Array denied)
not_by_lost a call denied is used first second same = used first second (is ∙ ap Err (same_fault same))

-- One line whose reply is said: all that is owed of it.
pub line_replied : (a b : Mounted) (v u w : View) (asked : Request) → goes_on asked ≡ true → (reply : Reply) (result : Result Next SessionFault)
    → (IsTrue v.tells → (s : State) → Always v (StandsFor a s) → (step a.g).reply s asked ≡ reply)
    → Steps v u (LeavesInLine a v asked) (HasDone a v asked) → StandsOn a b asked v u
    → (decided_reply a asked ≡ Some reply) ⊎ MayReply a asked reply → AfterReply a b asked reply
    → ((r : Reply) → decided_reply a asked ≡ Some r → (reply ≡ r) × Untouched v u) → Touches (InLine a asked) v u
    → ((e : ℕ) → u.sizes e ≡ v.sizes e) → StaysFrom (a.g.members + 1) v u → IsReady b u → b.is_stopped ≡ a.is_stopped → SameArray a b → (IsTrue v.tells → u.now.said ≡ v.now.said)
    → Says (reply_text reply) result u w → SaidInOneCall u w → IfOk result (λ next. next ≡ More) → IfErr result (λ fault. fault ≡ WriteFault) → (AsksBlock a.g asked → a.is_stopped ≡ true → ⊥)
    → CallsInLine a b asked result v w → AnswersLine a b result asked v w
line_replied a b v u w asked more reply result is done stands possible after own near sizes others ready alike goes_on quiet call once ok err asks calls = record {
  steps = reply_after a v u w asked reply result is done call ok err;
  stands = λ going other s was. always_said u w result (reply_text reply) (StandsFor b ((step a.g).next s asked)) call (stands s was);
  stopped = alike ∙ or_false a.is_stopped ∙ ap (λ (stops : Bool). a.is_stopped || stops) (sym (not_stopping result err));
  speaks = speaks_reply result v w (said_once v u w done.tells quiet once) ok err;
  denied = (λ is. absurd (port_only result err is), λ both. absurd (asks both.0 both.1));
  ready = ready_as b u w call.sizes (λ has. always_said u w result (reply_text reply) has call) ready;
  goes_on = goes_on;
  cause = rose_port a v u w result done.port_faults call.cause err;
  damaged = λ offset is told. absurd (port_only result err is);
  asks = port_fits a asked more result err;
  replies = replied_as a b asked reply v u w result possible after done.tells quiet call ok err;
  own = λ r same. let both = own r same in says_since (reply_text r) result v u w both.1 (subst (λ (t : Reply). Says (reply_text t) result u w) both.0 call);
  touches = says_then (InLine a asked) (reply_text reply) result v u w near call;
  untouched = calls_said result ok err;
  calls = calls;
  sizes = λ e. call.sizes e ∙ sizes e;
  others = stays_then (a.g.members + 1) v u w done.tells others (stays_said (a.g.members + 1) u w call.disks);
}

-- the array as it stood holds the state by its own head
pub holds_own : (a : Mounted) (s : State) (disks : Disks) → StandsFor a s disks → HoldsLike a.g a.head s disks
holds_own a s disks stands = record { head = a.head; by = stands.by; follows = later_same a.head }

-- and an array that goes on holds it by a head with the same lost member
pub holds_on : (a b : Mounted) (s : State) (disks : Disks) → SameArray a b → StandsFor b s disks → HoldsLike a.g a.head s disks
holds_on a b s disks goes stands = record {
  head = b.head;
  by = subst (λ g. HoldsBy g b.head s disks) goes.g stands.by;
  follows = goes.follows;
}

-- where the array stood for a state, no record is damaged
comes : (a : Mounted) (v u : View) (denied : Denied) → FaultRose a (Array denied) v u → (x y : Contents) → MayLeave v x → (s : State) → Always v (StandsFor a s)
    → (asked : Request) → Struck (array_store a) s asked x y → Served (array_store a) (Err (Array denied)) s asked x y
comes a v u (Damaged offset) risen x y was s stands asked done = absurd (risen was.told s stands)
comes a v u other risen x y was s stands asked done = done

-- A request that calls of the array turn the state by.
module _ (a : Mounted) (v u : View) (asked : Request) (more : goes_on asked ≡ true) where
  torn_at : (x y : Contents) → Quiet (AtAnyMoment a v (λ s. (step a.g).next s asked)) x y → (s : State) → Always v (StandsFor a s) → Struck (array_store a) s asked x y
  torn_at x y may s stands = record { more = more; said = may.said; torn = may.disks s stands }

  -- it was done
  pub turned_done : (b : Mounted) → SameArray a b → Moves v u (AtAnyMoment a v (λ s. (step a.g).next s asked)) (StandsAfterCall a b v (λ s. (step a.g).next s asked))
      → Steps v u (LeavesInLine a v asked) (HasDone a v asked)
  turned_done b goes moves = weaken v u (Quiet (AtAnyMoment a v (λ s. (step a.g).next s asked))) (Quiet (StandsAfterCall a b v (λ s. (step a.g).next s asked)))
      (LeavesInLine a v asked) (HasDone a v asked) moves
      (λ x y was may s stands. inr (inl (torn_at x y may s stands)))
      (λ x y was left turned s stands. record { more = more; said = turned.said; holds = holds_on a b ((step a.g).next s asked) y.disks goes (turned.disks s stands) })

  pub turned_stands : (b : Mounted) → Moves v u (AtAnyMoment a v (λ s. (step a.g).next s asked)) (StandsAfterCall a b v (λ s. (step a.g).next s asked))
      → StandsOn a b asked v u
  turned_stands b moves s stands c left = (moves.now c left).by.disks s stands

  -- or a disk failed
  pub turned_struck : (denied : Denied) → FaultRose a (Array denied) v u → Moves v u (AtAnyMoment a v (λ s. (step a.g).next s asked)) (AtAnyMoment a v (λ s. (step a.g).next s asked))
      → Steps v u (LeavesInLine a v asked) (HasAnswered a v (Err (Array denied)) asked)
  turned_struck denied risen moves = weaken v u (Quiet (AtAnyMoment a v (λ s. (step a.g).next s asked))) (Quiet (AtAnyMoment a v (λ s. (step a.g).next s asked)))
      (LeavesInLine a v asked) (HasAnswered a v (Err (Array denied)) asked) moves
      (λ x y was may s stands. inr (inl (torn_at x y may s stands)))
      (λ x y was left may s stands. comes a v u denied risen x y was s stands asked (torn_at x y may s stands))

  -- The disks are as they were.
  module _ (moves : Moves v u Same Same) where
    held_still : (x y : Contents) → MayLeave v x → Quiet Same x y → (s : State) → Always v (StandsFor a s) → HoldsLike a.g a.head s y.disks
    held_still x y was same s stands = subst (HoldsLike a.g a.head s) (sym same.disks) (holds_own a s x.disks (stands x was))

    pub same_done : ((s : State) → (step a.g).next s asked ≡ s) → Steps v u (LeavesInLine a v asked) (HasDone a v asked)
    same_done still = weaken v u (Quiet Same) (Quiet Same) (LeavesInLine a v asked) (HasDone a v asked) moves
        (λ x y was same s stands. inl (record { said = same.said; holds = held_still x y was same s stands }))
        (λ x y was left same s stands. record { more = more; said = same.said; holds = subst (λ t. HoldsLike a.g a.head t y.disks) (sym (still s)) (held_still x y was same s stands) })

    pub same_stands : (b : Mounted) (stopped : Bool) → b ≡ record a { is_stopped = stopped } → ((s : State) → (step a.g).next s asked ≡ s) → StandsOn a b asked v u
    same_stands b stopped same still s stands = always_same v u (StandsFor b ((step a.g).next s asked)) moves
        (λ c left. let was = stands c left in
        subst (λ m. StandsFor m ((step a.g).next s asked) c.disks) (sym same)
        (subst (λ t. StandsFor (record a { is_stopped = stopped }) t c.disks) (sym (still s)) (record { by = was.by; cell = was.cell; pending = was.pending; index = was.index })))

    pub same_struck : (denied : Denied) → FaultRose a (Array denied) v u → Steps v u (LeavesInLine a v asked) (HasAnswered a v (Err (Array denied)) asked)
    same_struck denied risen = weaken v u (Quiet Same) (Quiet Same) (LeavesInLine a v asked) (HasAnswered a v (Err (Array denied)) asked) moves
        (λ x y was same s stands. inl (record { said = same.said; holds = held_still x y was same s stands }))
        (λ x y was left same s stands. comes a v u denied risen x y was s stands asked
        (record { more = more; said = same.said; torn = inl (held_still x y was same s stands) }))

-- a read changes no state, refused or not
stays : (why : Option Refusal) (s : State) → or_refused why s (λ _. s) ≡ s
stays None s = refl
stays (Some why) s = refl

pub read_still : (g : Geometry) (s : State) (block : ℕ) → (step g).next s (Read block) ≡ s
read_still g s block = stays (refusal g s (Read block)) s

-- nor does a read of an earlier instant
pub at_still : (g : Geometry) (s : State) (seq block : ℕ) → (step g).next s (At seq block) ≡ s
at_still g s seq block = stays (refusal g s (At seq block)) s

pub by_still : (g : Geometry) (s : State) (time block : ℕ) → (step g).next s (By time block) ≡ s
by_still g s time block = stays (refusal g s (By time block)) s

-- a record is damaged only where the array stood for no state
stands_struck : (a b : Mounted) (v u : View) (asked : Request) (denied : Denied) → u.tells ≡ v.tells → FaultRose a (Array denied) v u
    → is_stopping {T = Next} (Err (Array denied)) ≡ false → (◌≡◌ {A = Result Next SessionFault} (Err (Array denied)) (Err (Array Stopped)) → ⊥) → StandsOn a b asked v u
stands_struck a b v u asked (Refused why) tells risen going other = absurd risen
stands_struck a b v u asked LogFault tells risen going other = absurd (cc going)
stands_struck a b v u asked (MemberFault first second) tells risen going other = absurd (cc going)
stands_struck a b v u asked (Damaged offset) tells risen going other = λ s stands c left. absurd (risen (subst IsTrue tells left.told) s stands)
stands_struck a b v u asked Stopped tells risen going other = absurd (other refl)

-- what stops the array in its own call
denied_stops : (T : Type 0) (denied : Denied) → is_fault {T = T} (Err denied) ≡ is_stopping {T = Next} (Err (Array denied))
denied_stops T (Refused why) = refl
denied_stops T LogFault = refl
denied_stops T (MemberFault first second) = refl
denied_stops T (Damaged offset) = refl
denied_stops T Stopped = refl

pub stops_as : {T : Type 0} (call : Result T Denied) (denied : Denied) → call ≡ Err denied → is_fault call ≡ is_stopping {T = Next} (Err (Array denied))
stops_as {T} call denied is = ap (λ (r : Result T Denied). is_fault r) is ∙ denied_stops T denied

-- One line in which a disk failed.
pub line_struck : (a b : Mounted) (v u : View) (asked : Request) (denied : Denied)
    → Steps v u (LeavesInLine a v asked) (HasAnswered a v (Err (Array denied)) asked)
    → ((r : Reply) → decided_reply a asked ≡ Some r → ⊥)
    → Touches (InLine a asked) v u → (a.is_stopped ≡ true → Untouched v u)
    → b.is_stopped ≡ (a.is_stopped || is_stopping {T = Next} (Err (Array denied))) → (IsTrue v.tells → u.now.said ≡ v.now.said)
    → ((e : ℕ) → u.sizes e ≡ v.sizes e) → StaysFrom (a.g.members + 1) v u → IsReady b u → SameArray a b → FaultRose a (Array denied) v u
    → ((offset : ℕ) → denied ≡ Damaged offset → IsTrue u.tells → IsDamagedFor b.g b.index asked u.now.disks offset)
    → FaultFits a asked (Array denied) → AfterFault a b asked denied → (denied ≡ Stopped) ↔ (AsksBlock a.g asked × (a.is_stopped ≡ true))
    → CallsInLine a b asked (Err (Array denied)) v u → AnswersLine a b (Err (Array denied)) asked v u
line_struck a b v u asked denied steps own near still stopped quiet sizes others ready goes risen names fits after exact calls = record {
  steps = steps;
  stands = stands_struck a b v u asked denied steps.tells risen;
  stopped = stopped;
  speaks = quiet;
  denied = (λ is. exact.0 (same_denied is), λ both. ap (λ why. Err (Array why)) (exact.1 both));
  ready = ready;
  goes_on = goes;
  cause = risen;
  damaged = λ offset is told. names offset (same_denied is) told;
  asks = fits;
  replies = after;
  own = λ r same. absurd (own r same);
  touches = says_nothing (InLine a asked) v u near;
  untouched = calls_denied denied (λ same. still (exact.0 same).1);
  calls = calls;
  sizes = sizes;
  others = others;
}

-- a call without a fault leaves an array stopped or not, as it was
pub still_going : (before now : Bool) → now ≡ (before || false) → now ≡ before
still_going true now is = is
still_going false now is = is

-- a write that was done, and is replied to
pub write_replied : (a b : Mounted) (v u w : View) (time block : ℕ) (bytes fresh : List ℕ) → bytes ≡ fresh → (reply : Reply) (result : Result Next SessionFault)
    → (IsTrue v.tells → (s : State) → Always v (StandsFor a s) → (step a.g).reply s (Write time block bytes) ≡ reply)
    → Moves v u (AtAnyMoment a v (λ s. (step a.g).next s (Write time block bytes))) (StandsAfterCall a b v (λ s. (step a.g).next s (Write time block bytes)))
    → (decided_of_block a block (early_refusal a.head time) ≡ Some reply) ⊎ MayReply a (Write time block bytes) reply → AfterReply a b (Write time block bytes) reply
    → ((r : Reply) → decided_of_block a block (early_refusal a.head time) ≡ Some r → (reply ≡ r) × Untouched v u)
    → Touches (InWrite a block) v u
    → ((e : ℕ) → u.sizes e ≡ v.sizes e) → StaysFrom (a.g.members + 1) v u → IsReady b u → b.is_stopped ≡ a.is_stopped → SameArray a b
    → Says (reply_text reply) result u w → SaidInOneCall u w → IfOk result (λ next. next ≡ More) → IfErr result (λ fault. fault ≡ WriteFault) → (block < volume a.g → a.is_stopped ≡ true → ⊥)
    → CallsInLine a b (Write time block bytes) result v w → AnswersLine a b result (Write time block fresh) v w
write_replied a b v u w time block bytes fresh same reply result is moves possible after own near sizes others ready alike goes call once ok err asks calls =
    subst (λ l. AnswersLine a b result (Write time block l) v w) same
    (line_replied a b v u w (Write time block bytes) refl reply result is (turned_done a v u (Write time block bytes) refl b goes moves)
    (turned_stands a v u (Write time block bytes) refl b moves) possible after own near sizes others ready alike goes
    (quiet_moves v u (AtAnyMoment a v (λ s. (step a.g).next s (Write time block bytes))) (StandsAfterCall a b v (λ s. (step a.g).next s (Write time block bytes))) moves) call once ok err asks calls)

-- a write in which a disk failed
pub write_struck : (a b : Mounted) (v u : View) (time block : ℕ) (bytes fresh : List ℕ) → bytes ≡ fresh → (denied : Denied)
    → Moves v u (AtAnyMoment a v (λ s. (step a.g).next s (Write time block bytes))) (AtAnyMoment a v (λ s. (step a.g).next s (Write time block bytes)))
    → ((r : Reply) → decided_of_block a block (early_refusal a.head time) ≡ Some r → ⊥)
    → Touches (InWrite a block) v u → (a.is_stopped ≡ true → Untouched v u)
    → b.is_stopped ≡ (a.is_stopped || is_stopping {T = Next} (Err (Array denied)))
    → ((e : ℕ) → u.sizes e ≡ v.sizes e) → StaysFrom (a.g.members + 1) v u → IsReady b u → SameArray a b → FaultRose a (Array denied) v u → ((offset : ℕ) → denied ≡ Damaged offset → ⊥)
    → AfterFault a b (Write time block bytes) denied
    → (denied ≡ Stopped) ↔ ((block < volume a.g) × (a.is_stopped ≡ true))
    → CallsInLine a b (Write time block bytes) (Err (Array denied)) v u → AnswersLine a b (Err (Array denied)) (Write time block fresh) v u
write_struck a b v u time block bytes fresh same denied moves own near still stopped sizes others ready goes risen never after exact calls =
    subst (λ l. AnswersLine a b (Err (Array denied)) (Write time block l) v u) same
    (line_struck a b v u (Write time block bytes) denied (turned_struck a v u (Write time block bytes) refl denied risen moves) own near still stopped
    (quiet_moves v u (AtAnyMoment a v (λ s. (step a.g).next s (Write time block bytes))) (AtAnyMoment a v (λ s. (step a.g).next s (Write time block bytes))) moves) sizes others ready goes risen
    (λ offset is told. absurd (never offset is)) (no_record denied never) after exact calls)

-- a call that changes nothing of the array but perhaps whether it is stopped
pub same_goes : (a b : Mounted) (stopped : Bool) → b ≡ record a { is_stopped = stopped } → SameArray a b
same_goes a b stopped same = subst (SameArray a) (sym same) (record { g = refl; follows = later_same a.head })

-- and leaves all that the array knows
known_same : (a b : Mounted) (stopped : Bool) → b ≡ record a { is_stopped = stopped } → KnowsSame a b
known_same a b stopped same = same ∙ ap (λ (now : Bool). record a { is_stopped = now }) (sym (ap (λ (m : Mounted). m.is_stopped) same))

-- a request that changes no state, and is replied to
pub same_replied : (a b : Mounted) (v u w : View) (asked : Request) → goes_on asked ≡ true → ((s : State) → (step a.g).next s asked ≡ s)
    → (stopped : Bool) → b ≡ record a { is_stopped = stopped } → stopped ≡ a.is_stopped → (reply : Reply) (result : Result Next SessionFault)
    → (IsTrue v.tells → (s : State) → Always v (StandsFor a s) → (step a.g).reply s asked ≡ reply)
    → (decided_reply a asked ≡ Some reply) ⊎ MayReply a asked reply → (KnowsSame a b → AfterReply a b asked reply)
    → ((r : Reply) → decided_reply a asked ≡ Some r → (reply ≡ r) × Untouched v u)
    → Moves v u Same Same → ((e : ℕ) → u.sizes e ≡ v.sizes e) → (IsTrue v.tells → u.now ≡ v.now) → IsReady b u
    → Says (reply_text reply) result u w → SaidInOneCall u w → IfOk result (λ next. next ≡ More) → IfErr result (λ fault. fault ≡ WriteFault) → (AsksBlock a.g asked → a.is_stopped ≡ true → ⊥)
    → CallsInLine a b asked result v w → AnswersLine a b result asked v w
same_replied a b v u w asked more still stopped same is_same reply result is possible after own moves sizes alike ready call once ok err asks calls =
    line_replied a b v u w asked more reply result is (same_done a v u asked more moves still) (same_stands a v u asked more moves b stopped same still)
    possible (after (known_same a b stopped same)) own (touches_same (InLine a asked) v u alike moves)
    sizes (stays_same (a.g.members + 1) v u alike) ready
    (ap (λ (m : Mounted). m.is_stopped) same ∙ is_same) (same_goes a b stopped same)
    (λ told. ap (λ (c : Contents). c.said) (alike told)) call once ok err asks calls

-- a request that changes no state, in which the array failed
pub same_failed : (a b : Mounted) (v u : View) (asked : Request) → goes_on asked ≡ true → (stopped : Bool) → b ≡ record a { is_stopped = stopped } → (denied : Denied)
    → stopped ≡ (a.is_stopped || is_stopping {T = Next} (Err (Array denied)))
    → ((r : Reply) → decided_reply a asked ≡ Some r → ⊥)
    → Moves v u Same Same → ((e : ℕ) → u.sizes e ≡ v.sizes e) → (IsTrue v.tells → u.now ≡ v.now) → IsReady b u → FaultRose a (Array denied) v u
    → ((offset : ℕ) → denied ≡ Damaged offset → IsTrue v.tells → IsDamagedFor a.g a.index asked v.now.disks offset) → FaultFits a asked (Array denied) → (KnowsSame a b → AfterFault a b asked denied)
    → (a.is_stopped ≡ true → Untouched v u) → (denied ≡ Stopped) ↔ (AsksBlock a.g asked × (a.is_stopped ≡ true))
    → CallsInLine a b asked (Err (Array denied)) v u → AnswersLine a b (Err (Array denied)) asked v u
same_failed a b v u asked more stopped same denied stops own moves sizes alike ready risen damaged fits after still exact calls =
    line_struck a b v u asked denied (same_struck a v u asked more moves denied risen) own
    (touches_same (InLine a asked) v u alike moves) still
    (ap (λ (m : Mounted). m.is_stopped) same ∙ stops) (λ told. ap (λ (c : Contents). c.said) (alike told)) sizes (stays_same (a.g.members + 1) v u alike) ready (same_goes a b stopped same) risen
    (names_same a b asked v u stopped same moves.tells alike denied damaged) fits (after (known_same a b stopped same)) exact calls

-- The line ends the session.
pub line_quits : (a : Mounted) (v : View) → IsReady a v → AnswersLine a a (Ok Quit) Q v v
line_quits a v ready = record {
  steps = nothing_done v (LeavesInLine a v Q) (HasAnswered a v (Ok Quit) Q) (λ x was s stands. (refl, record { said = refl; holds = holds_own a s x.disks (stands x was) }));
  stands = λ going other s stands. stands;
  stopped = or_false a.is_stopped;
  speaks = λ told. refl;
  denied = (λ is. cc is, λ both. absurd both.0);
  ready = ready;
  goes_on = goes_still a;
  cause = tt;
  damaged = λ offset is. absurd (cc is);
  asks = tt;
  replies = refl;
  own = λ r is. absurd (cc is);
  touches = changes_none InNothing v;
  untouched = λ is. untouched_none v;
  calls = not_called v;
  sizes = λ e. refl;
  others = stays_none (a.g.members + 1) v;
}

-- a refused write is replied to so,
pub refused_write : (a : Mounted) (v : View) (asked : Request) (written : Result ℕ Denied) (why : Refusal) → written ≡ Err (Refused why)
    → (IsTrue v.tells → (s : State) → Always v (StandsFor a s) → WriteReplies written ((step a.g).reply s asked))
    → IsTrue v.tells → (s : State) → Always v (StandsFor a s) → (step a.g).reply s asked ≡ No why
refused_write a v asked written why is replies told s stands = subst (λ r. WriteReplies r ((step a.g).reply s asked)) is (replies told s stands)

-- and a refused read
pub refused_read : (a : Mounted) (v : View) (asked : Request) {T : Type 0} (read : Result T Denied) (bytes : List ℕ) (why : Refusal) → read ≡ Err (Refused why)
    → (IsTrue v.tells → (s : State) → Always v (StandsFor a s) → ReadReplies read bytes ((step a.g).reply s asked))
    → IsTrue v.tells → (s : State) → Always v (StandsFor a s) → (step a.g).reply s asked ≡ No why
refused_read a v asked read bytes why is replies told s stands = subst (λ r. ReadReplies r bytes ((step a.g).reply s asked)) is (replies told s stands)

-- and a refused read of an earlier instant
pub refused_at : (a : Mounted) (v : View) (asked : Request) {T : Type 0} (read : Result T Denied) (bytes : List ℕ) (why : Refusal) → read ≡ Err (Refused why)
    → (IsTrue v.tells → (s : State) → Always v (StandsFor a s) → AtReplies read bytes ((step a.g).reply s asked))
    → IsTrue v.tells → (s : State) → Always v (StandsFor a s) → (step a.g).reply s asked ≡ No why
refused_at a v asked read bytes why is replies told s stands = subst (λ r. AtReplies r bytes ((step a.g).reply s asked)) is (replies told s stands)

-- none is a fault
pub refused_going : {T : Type 0} {call : Result T Denied} {why : Refusal} (before : Bool) → call ≡ Err (Refused why) → (before || is_fault call) ≡ before
refused_going true is = refl
refused_going false is = ap is_fault is

-- a buffer that is filled whole
pub filled_whole : (n : ℕ) (front behind : List ℕ) → length front ≡ n → take n (front ++ behind) ≡ front
filled_whole n front behind long = subst (λ k. take k (front ++ behind) ≡ front) long (take-append_seam front behind)

-- the bytes that were filled in are those of the reply
pub shown : (as_reply : List ℕ → Reply) (reply : Reply) (filled bytes : List ℕ) → bytes ≡ filled → reply ≡ as_reply filled → reply ≡ as_reply bytes
shown as_reply reply filled bytes is says = says ∙ ap as_reply (sym is)

-- The line has no form.
pub bad_replied : (a : Mounted) (v w : View) (result : Result Next SessionFault) → IsReady a v
    → Says (reply_text (No NoLine)) result v w → SaidInOneCall v w → IfOk result (λ next. next ≡ More) → IfErr result (λ fault. fault ≡ WriteFault)
    → AnswersLine a a result Bad v w
bad_replied a v w result ready call once ok err = same_replied a a v v w Bad refl (λ s. refl) a.is_stopped refl refl (No NoLine) result
    (λ told s stands. refl) (inl refl) (λ same. same) (λ r is. (cc is, untouched_none v)) (unmoved v) (λ e. refl) (λ told. refl) ready call once ok err (λ asks stopped. asks)
    (called_once result v w call.goes)

same_reply : {x y : Reply} → Some x ≡ Some y → x ≡ y
same_reply is = cc is

-- The line asks for the numbers of the history.
pub info_replied : (a : Mounted) (v w : View) (first last base_time last_time : ℕ) (result : Result Next SessionFault) → IsReady a v
    → ((s : State) (disks : Disks) → StandsFor a s disks → (step a.g).reply s Info ≡ Span first last base_time last_time)
    → Span first last base_time last_time ≡ Span a.head.first a.head.last a.head.base_time a.head.last_time
    → Says (reply_text (Span first last base_time last_time)) result v w → SaidInOneCall v w → IfOk result (λ next. next ≡ More) → IfErr result (λ fault. fault ≡ WriteFault)
    → AnswersLine a a result Info v w
info_replied a v w first last base_time last_time result ready span head call once ok err =
    same_replied a a v v w Info refl (λ s. refl) a.is_stopped refl refl (Span first last base_time last_time) result
    (λ told s stands. span s v.now.disks (stands v.now (read_is_left v told))) (inl (ap Some (sym head))) (λ same. same) (λ r is. (head ∙ same_reply is, untouched_none v)) (unmoved v) (λ e. refl)
    (λ told. refl) ready call once ok err (λ asks stopped. asks) (called_once result v w call.goes)

-- What ended the session rose, as the array's call says.
pub risen_of : (a : Mounted) (v u : View) {T : Type 0} (call : Result T Denied)
    → (call ≡ Err LogFault → Rose (v.faults 0) (u.faults 0))
    → ((first second : ℕ) → call ≡ Err (MemberFault first second) → MemberFails a first second v u)
    → ((offset : ℕ) → call ≡ Err (Damaged offset) → StandsForNone a v)
    → (call ≡ Err Stopped → a.is_stopped ≡ true)
    → (denied : Denied) → call ≡ Err denied → EndsSession denied → FaultRose a (Array denied) v u
risen_of a v u call log member damaged stopped (Refused why) is ends = ends
risen_of a v u call log member damaged stopped LogFault is ends = log is
risen_of a v u call log member damaged stopped (MemberFault first second) is ends = member first second is
risen_of a v u call log member damaged stopped (Damaged offset) is ends = damaged offset is
risen_of a v u call log member damaged stopped Stopped is ends = stopped is

-- a fault that is handed on
pub err_is : {T E : Type 0} (r : Result T E) (fault : E) → IsErr r × IsErrAnd r (λ e. e ≡ fault) → r ≡ Err fault
err_is (Ok value) fault both = absurd (cc both.0)
err_is (Err e) fault both = ap Err both.1

-- the array's answer is handed on
pub line_ended : (a b : Mounted) (v u : View) (asked : Request) (denied : Denied) (result : Result Next SessionFault) (fault : SessionFault)
    → IsErr result × IsErrAnd result (λ e. e ≡ fault) → fault ≡ Array denied
    → AnswersLine a b (Err (Array denied)) asked v u → AnswersLine a b result asked v u
line_ended a b v u asked denied result fault handed is answers =
    subst (λ r. AnswersLine a b r asked v u) (sym (err_is result fault handed ∙ ap Err is)) answers

-- an array that refused wasn't stopped, or no such block is there
pub refused_not_denied : {T : Type 0} {P Q : Type 0} (call : Result T Denied) (why : Refusal) → call ≡ Err (Refused why) → (call ≡ Err Stopped) ↔ (P × Q) → P → Q → ⊥
refused_not_denied call why is exact p q = cc (is, exact.1 (p, q))

-- what the array knows after a write that it refused
pub write_refused_after : (a b : Mounted) (time block : ℕ) (bytes : List ℕ) (call : Result ℕ Denied) (why : Refusal) → call ≡ Err (Refused why)
    → HeadAfter a.g a.head b.head time call → IndexAfter a b time block call → StagedAfter a b call
    → IfSome (reply_of_write call) (λ reply. pending_writes b.head ≡ owed a.g (Write time block bytes) reply (pending_writes a.head))
    → AfterReply a b (Write time block bytes) (No why)
write_refused_after a b time block bytes call why is head index staged pending = (
  (
    subst (λ (r : Result ℕ Denied). HeadAfter a.g a.head b.head time r) is head,
    subst (λ (r : Result ℕ Denied). IndexAfter a b time block r) is index,
    staged why is,
  ),
  subst (λ (r : Result ℕ Denied). IfSome (reply_of_write r) (λ reply. pending_writes b.head ≡ owed a.g (Write time block bytes) reply (pending_writes a.head))) is pending,
)

-- and after one that failed
pub write_failed_after : (a b : Mounted) (time block : ℕ) (bytes : List ℕ) (call : Result ℕ Denied) (denied : Denied) → call ≡ Err denied
    → HeadAfter a.g a.head b.head time call → IndexAfter a b time block call → AfterFault a b (Write time block bytes) denied
write_failed_after a b time block bytes call denied is head index = (
  subst (λ (r : Result ℕ Denied). HeadAfter a.g a.head b.head time r) is head,
  subst (λ (r : Result ℕ Denied). IndexAfter a b time block r) is index,
)

-- what the array denied is what is handed on
pub denied_as : {T : Type 0} {P : Type 0} (call : Result T Denied) (denied : Denied) → call ≡ Err denied → (call ≡ Err Stopped) ↔ P → (denied ≡ Stopped) ↔ P
denied_as call denied is exact = (λ same. exact.0 (is ∙ ap Err same), λ p. cc (is, exact.1 p))

-- the reply is said by one call
pub one_say : {T E : Type 0} (piece : List ℕ) (result : Result T E) (u w : View) → IsLawful u → Says piece result u w → SaidInOneCall u w
one_say piece result u w lawful call told by_one = (
  u.moment,
  u.now,
  call.goes.by_one told (subst IsTrue call.goes.same_by_one by_one),
  call.time.keeps u.moment u.now (omega arith) (lawful.counts_now u.moment told (omega arith)),
  refl,
)
