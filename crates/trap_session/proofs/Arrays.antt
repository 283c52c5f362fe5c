-- The store of a mounted array, as it goes on.
use Rattle.std.proofs.Common.{◌≡◌, ◌⊎◌, inl, inr, ⊎_elim, ℕ, ◌+◌, ◌<◌, ◌≤◌, List, Option, Some, None, true, Result, Ok, Err, subst, ◌∙◌, arith}
use Rattle.std.specs.Prelude.{◌≢◌}
use Rattle.trap_bank.specs.Disks.{Contents, Disks, View}
use Rattle.trap_bank.specs.Stream.{Stream}
use Rattle.trap_model.specs.ArrayStep.{step, or_refused, refusal, accepted}
use Rattle.trap_model.specs.declared.numbers.Geometry.{Geometry}
use Rattle.trap_model.specs.declared.history.State.{State}
use Rattle.trap_model.specs.declared.request.Request.{Request}
use Rattle.trap_model.specs.declared.request.Request.TheVariants as request
use Rattle.trap_model.specs.declared.request.Refusal.{Refusal}
use Rattle.trap_model.specs.declared.request.Reply.{Reply}
use Rattle.trap_model.specs.declared.request.Reply.TheVariants.{No, Silent}
use Rattle.trap_script.specs.Lines.{goes_on}
use Rattle.trap_script.proofs.GivenLemmas.{AnswersByLines}
use Rattle.trap_array.specs.Calls.{Mounted, HoldsLike, SameArray}
use Rattle.trap_array.specs.declared.fault.Denied.{Denied}
use Rattle.trap_array.specs.declared.fault.Denied.TheVariants.{Refused, LogFault, MemberFault, Damaged, Stopped}
use Rattle.trap_array.proofs.Turns.{later_then}
use Rattle.trap_session.specs.Serving.{StopsAs, StopsTorn}
use Rattle.trap_session.specs.Store.{Store, store_of, array_store, Served, Answering, CutShort, Struck, Waits, StandsForNone, FaultRose}
use Rattle.trap_session.specs.declared.outcome.Next.{Next}
use Rattle.trap_session.specs.declared.outcome.Next.TheVariants.{More, Quit}
use Rattle.trap_session.specs.declared.outcome.SessionFault.{SessionFault}
use Rattle.trap_session.specs.declared.outcome.SessionFault.TheVariants.{Array, ReadFault, WriteFault, TooLong}

-- a reply that is no silence
reply-spoken : (why : Option Refusal) (reply : Reply) → reply ≢ Silent → or_refused why reply No ≢ Silent
reply-spoken None reply spoken = spoken
reply-spoken (Some why) reply spoken = λ e. cc

array_speaks : (g : Geometry) (s : State) (asked : Request) → goes_on asked ≡ true → (step g).reply s asked ≢ Silent
array_speaks g s (request.Write time block bytes) more = reply-spoken (refusal g s (request.Write time block bytes)) (accepted s (request.Write time block bytes)) (λ e. cc)
array_speaks g s (request.Read block) more = reply-spoken (refusal g s (request.Read block)) (accepted s (request.Read block)) (λ e. cc)
array_speaks g s (request.At seq block) more = reply-spoken (refusal g s (request.At seq block)) (accepted s (request.At seq block)) (λ e. cc)
array_speaks g s (request.By time block) more = reply-spoken (refusal g s (request.By time block)) (accepted s (request.By time block)) (λ e. cc)
array_speaks g s request.Info more = λ e. cc
array_speaks g s (request.Keep seq) more = reply-spoken (refusal g s (request.Keep seq)) (accepted s (request.Keep seq)) (λ e. cc)
array_speaks g s request.Quit more = absurd (cc more)
array_speaks g s request.Bad more = λ e. cc

-- an array replies to every request but `Q`
pub array_answers : (a : Mounted) → AnswersByLines (array_store a).machine
array_answers a = record { speaks = array_speaks a.g }

pub array_torn : (a : Mounted) (disks : Disks) (t : State) (asked : Request) → (array_store a).torn disks t asked
    → (array_store a).holds disks t ⊎ (array_store a).holds disks ((array_store a).machine.next t asked)
array_torn a disks t asked torn = torn

-- A fault of the array comes with what was done, and no record was damaged.
pub struck_of : {S : Type 0} (store : Store S) (denied : Denied) (s : S) (asked : Request) (x y : Contents)
    → Served store (Err (Array denied)) s asked x y → Struck store s asked x y
struck_of store (Damaged offset) s asked x y served = absurd served
struck_of store other s asked x y served = served

pub served_also : {S T : Type 0} (store : Store S) (also : Store T) (denied : Denied) (s : S) (t : T) (asked : Request) (x y : Contents)
    → (Struck store s asked x y → Struck also t asked x y) → Served store (Err (Array denied)) s asked x y → Served also (Err (Array denied)) t asked x y
served_also store also (Damaged offset) s t asked x y so served = served
served_also store also other s t asked x y so served = so served

-- so with the session that ends by it
pub torn_of : {S : Type 0} (store : Store S) (denied : Denied) (s : S) (input : List ℕ) (x y : Contents) (from to : Stream)
    → StopsAs store (Err (Array denied)) s input x y from to → StopsTorn store s input x y
torn_of store (Damaged offset) s input x y from to stops = absurd stops
torn_of store other s input x y from to stops = stops

pub torn_also : {S T : Type 0} (store : Store S) (also : Store T) (denied : Denied) (s : S) (t : T) (input : List ℕ) (x y z : Contents) (from to : Stream)
    → (StopsTorn store s input x z → StopsTorn also t input y z)
    → StopsAs store (Err (Array denied)) s input x z from to → StopsAs also (Err (Array denied)) t input y z from to
torn_also store also (Damaged offset) s t input x y z from to so stops = stops
torn_also store also other s t input x y z from to so stops = so stops

pub torn_by : {S : Type 0} (store : Store S) (denied : Denied) (s t : S) (asked : Request) (input : List ℕ) (x y z : Contents) (from to : Stream)
    → (Struck store t asked y z → StopsTorn store s input x z) → Served store (Err (Array denied)) t asked y z → StopsAs store (Err (Array denied)) s input x z from to
torn_by store (Damaged offset) s t asked input x y z from to so served = served
torn_by store other s t asked input x y z from to so served = so served

-- whatever a line's answer is, the disks hold a state after it
pub served_some : (a : Mounted) (result : Result Next SessionFault) (s : State) (asked : Request) (x y : Contents)
    → Served (array_store a) result s asked x y → (t : State) × HoldsLike a.g a.head t y.disks
served_some a (Ok More) s asked x y served = (_, served.holds)
served_some a (Ok Quit) s asked x y served = (_, served.1.holds)
served_some a (Err (Array denied)) s asked x y served = ⊎_elim (λ holds. (_, holds)) (λ holds. (_, holds)) (struck_of (array_store a) denied s asked x y served).torn
served_some a (Err WriteFault) s asked x y served = (_, served.holds)
served_some a (Err ReadFault) s asked x y served = absurd served
served_some a (Err TooLong) s asked x y served = absurd served

pub goes_then : {a b c : Mounted} → SameArray a b → SameArray b c → SameArray a c
goes_then {a} {b} {c} p q = record { g = q.g ∙ p.g; follows = later_then a.head b.head c.head p.follows q.follows }

-- the store by numbers that are an array's, and the head of an array
abbrev store_by : Geometry → Mounted → Store State
store_by g b = store_of g (λ disks s. HoldsLike g b.head s disks)

-- What the disks hold by a later array they hold by the first.
module _ (a b : Mounted) (goes : SameArray a b) where
  like : (s : State) (disks : Disks) → HoldsLike a.g b.head s disks → HoldsLike a.g a.head s disks
  like s disks holds = record { head = holds.head; by = holds.by; follows = later_then a.head b.head holds.head goes.follows holds.follows }

  module _ (s : State) (asked : Request) (x y : Contents) where
    torn_like : (disks : Disks) → (store_by a.g b).torn disks s asked → (array_store a).torn disks s asked
    torn_like disks torn = ⊎_elim (λ same. inl (like s disks same)) (λ next. inr (like ((step a.g).next s asked) disks next)) torn

    struck_like : Struck (store_by a.g b) s asked x y → Struck (array_store a) s asked x y
    struck_like struck = record { more = struck.more; said = struck.said; torn = torn_like y.disks struck.torn }

    cut_like : CutShort (store_by a.g b) s asked x y → CutShort (array_store a) s asked x y
    cut_like cut = record { more = cut.more; part = cut.part; holds = like ((step a.g).next s asked) y.disks cut.holds }

    answering_like : Answering (store_by a.g b) s asked x y → Answering (array_store a) s asked x y
    answering_like answering = ⊎_elim (λ (waits : Waits (store_by a.g b) s x y). inl (record { said = waits.said; holds = like s y.disks waits.holds }))
        (λ more. inr (⊎_elim (λ struck. inl (struck_like struck)) (λ cut. inr (cut_like cut)) more)) answering

    served_like : (result : Result Next SessionFault) → Served (store_by a.g b) result s asked x y → Served (array_store a) result s asked x y
    served_like (Ok More) served = record { more = served.more; said = served.said; holds = like ((step a.g).next s asked) y.disks served.holds }
    served_like (Ok Quit) served = (served.0, record { said = served.1.said; holds = like s y.disks served.1.holds })
    served_like (Err (Array denied)) served = served_also (store_by a.g b) (array_store a) denied s s asked x y struck_like served
    served_like (Err WriteFault) served = cut_like served
    served_like (Err ReadFault) served = absurd served
    served_like (Err TooLong) served = absurd served

    pub answering_first : Answering (array_store b) s asked x y → Answering (array_store a) s asked x y
    answering_first answering = answering_like (subst (λ (g : Geometry). Answering (store_by g b) s asked x y) goes.g answering)

    pub served_first : (result : Result Next SessionFault) → Served (array_store b) result s asked x y → Served (array_store a) result s asked x y
    served_first result served = served_like result (subst (λ (g : Geometry). Served (store_by g b) result s asked x y) goes.g served)

  -- what rose since then rose since the first moment; where it stood for no state then, it stood for none first, and where
  -- it was stopped then, it was so first
  pub risen_first : (u v w : View) → ((e : ℕ) → u.faults e ≤ v.faults e) → u.port_faults ≤ v.port_faults → (StandsForNone b v → StandsForNone a u) → (b.is_stopped ≡ true → a.is_stopped ≡ true)
      → (fault : SessionFault) → FaultRose b fault v w → FaultRose a fault u w
  risen_first u v w faults port none stopped (Array (Refused why)) risen = absurd risen
  risen_first u v w faults port none stopped (Array LogFault) risen = let later = faults 0 in omega (arith, later, risen)
  risen_first u v w faults port none stopped (Array (MemberFault first second)) risen = record {
    same = risen.same;
    inside = subst (λ (g : Geometry). second < g.members) goes.g risen.inside;
    counts = λ is. subst (λ (rows : ℕ). 0 < rows) goes.follows.rebuilt (risen.counts (goes.follows.lost ∙ is));
    rose = let later = faults (second + 1) in let rose = risen.rose in omega (arith, later, rose);
  }
  risen_first u v w faults port none stopped (Array (Damaged offset)) risen = none risen
  risen_first u v w faults port none stopped (Array Stopped) risen = stopped risen
  risen_first u v w faults port none stopped WriteFault risen = omega (arith, port, risen)
  risen_first u v w faults port none stopped ReadFault risen = absurd risen
  risen_first u v w faults port none stopped TooLong risen = absurd risen
