-- The loop over lines, over a mounted array: how its run of calls begins, goes on and stops.
use Rattle.std.proofs.Common.{◌≡◌, ⊎_elim, ℕ, ◌+◌, ◌<◌, ◌≤◌, Bool, true, ◌||◌, List, [], ◌∷◌, ◌++◌, length, drop, Some, Result, Ok, Err, IfErr, IsTrue, false, refl, sym, ap, subst, ◌∙◌, arith}
use Rattle.std.specs.Io.KnownBytes.{IsAtEnd}
use Rattle.trap_bank.specs.Disks.{Contents, View}
use Rattle.trap_bank.specs.Calls.{MayLeave}
use Rattle.trap_bank.specs.Steps.{Steps, Always}
use Rattle.trap_bank.specs.Stream.{Stream}
use Rattle.trap_bank.proofs.Moves.{then_, weaken, nothing_done, read_is_left}
use Rattle.trap_model.specs.ArrayStep.{step}
use Rattle.trap_model.specs.declared.numbers.Geometry.{Geometry}
use Rattle.trap_model.specs.declared.history.State.{State}
use Rattle.trap_model.specs.declared.request.Request.{Request}
use Rattle.trap_script.specs.Lines.{lines, line_feeds, request_of, goes_on, HasNoFeed}
use Rattle.trap_script.specs.Walk.{state_after}
use Rattle.trap_script.proofs.WalkLemmas.{state_after-next}
use Rattle.std.proofs.lemmas.Bool.{cases_Bool}
use Rattle.trap_script.proofs.GivenLemmas.{below_end}
use Rattle.trap_array.specs.Areas.{MayTouch}
use Rattle.trap_array.specs.Beside.{StaysFrom}
use Rattle.trap_array.specs.Calls.{Mounted, StandsFor, IsReady, SameArray}
use Rattle.trap_array.specs.declared.fault.Denied.TheVariants.{Refused, LogFault, MemberFault, Damaged, Stopped}
use Rattle.trap_array.proofs.Beside.{stays_none, both_stay}
use Rattle.trap_session.specs.Store.{array_store, Answering, Served, StandsForNone, FaultRose}
use Rattle.trap_session.specs.Answers.{LeavesInLine, HasAnswered, StandsOn, is_stopping, AnswersLine}
use Rattle.trap_session.specs.Serving.{Serves, HasStopped, StopsAs, StopsBy, StandsAtEnd, Took}
use Rattle.trap_session.specs.Changing.{ChangesOnly}
use Rattle.trap_session.specs.Leaving.{StandsAfter, HasRecordsMore, HasServed}
use Rattle.trap_session.specs.declared.outcome.Next.{Next}
use Rattle.trap_session.specs.declared.outcome.Next.TheVariants.{More, Quit}
use Rattle.trap_session.specs.declared.outcome.Ended.{Ended}
use Rattle.trap_session.specs.declared.outcome.Ended.TheVariants as ended
use Rattle.trap_session.specs.declared.outcome.SessionFault.{SessionFault}
use Rattle.trap_session.specs.declared.outcome.SessionFault.TheVariants.{Array, ReadFault, WriteFault, TooLong}
use Rattle.trap_session.proofs.Walking.{Walked, StopsAtPort, walk_start}
use Rattle.trap_session.proofs.Replying.{holds_own, holds_on}
use Rattle.trap_session.proofs.Quits.{quit_stays}
use Rattle.trap_session.proofs.Touching.{changes_none, changed_then, line_changes}
use Rattle.trap_session.proofs.Indexing.{records_none, records_then, line_records}
use Rattle.trap_session.proofs.Arrays.{array_answers, array_torn, answering_first, served_first, served_some, risen_first, goes_then}
use Rattle.trap_session.proofs.Stopping.{part_line, more_line, more_state, quit_line, fault_line, part_last, done_last, fault_last}

-- a fault of a line stops the array where it does as one of the session
stops_alike : (fault : SessionFault) → is_stopping {T = Next} (Err fault) ≡ is_stopping {T = Ended} (Err fault)
stops_alike (Array (Refused why)) = refl
stops_alike (Array LogFault) = refl
stops_alike (Array (MemberFault first second)) = refl
stops_alike (Array (Damaged offset)) = refl
stops_alike (Array Stopped) = refl
stops_alike ReadFault = refl
stops_alike WriteFault = refl
stops_alike TooLong = refl

same_fault : (x y : SessionFault) → ◌≡◌ {A = Result Next SessionFault} (Err x) (Err y) → x ≡ y
same_fault x y is = cc is

-- The lines so far were answered, and the array's state turned so.
pub record WalkedTo (a : Mounted) (s : State) (input passed : List ℕ) (turn : State → State) (old now : Contents) : Type 0 where
  pub walked : Walked (array_store a) s input passed old now
  pub state_ : state_after (step a.g) s (lines a.g.block input) (line_feeds passed) ≡ turn s

-- the same, whatever state the array stood for on entry
abbrev pub Walks : Mounted → View → Stream → List ℕ → (State → State) → Contents → Contents → Type 0
Walks a v from passed turn old now = (s : State) → Always v (StandsFor a s) → (input : List ℕ) → from.left ≡ Some input
    → WalkedTo a s input passed turn old now

-- whatever state the array stood for on entry, it stands for the turned one
abbrev pub Turns : Mounted → Mounted → View → View → (State → State) → Type 0
Turns a b v w turn = (s : State) → Always v (StandsFor a s) → Always w (StandsFor b (turn s))

-- what stayed, and that the index only grew
pub record HasKept (a b : Mounted) (v w : View) : Type 0 where
  pub changes : ChangesOnly (MayTouch a) v w
  pub index : HasRecordsMore a.index b.index
  pub sizes : (e : ℕ) → w.sizes e ≡ v.sizes e
  pub others : StaysFrom (a.g.members + 1) v w

pub kept_none : (a : Mounted) (v : View) → HasKept a a v v
kept_none a v = record { changes = changes_none (MayTouch a) v; index = records_none a.index; sizes = λ e. refl; others = stays_none (a.g.members + 1) v }

module _ (a : Mounted) (v : View) (from : Stream) where
  pub run_begins : Steps v v (Serves a v from) (Walks a v from [] (λ s. s))
  run_begins = nothing_done v (Serves a v from) (Walks a v from [] (λ s. s))
      (λ x was s stands input known. record { walked = walk_start (array_store a) s input x (holds_own a s x.disks (stands x was)); state_ = refl })

  module _ (b : Mounted) (w : View) (passed : List ℕ) (turn : State → State) (goes : SameArray a b) (turns : Turns a b v w turn)
      (steps : Steps v w (Serves a v from) (Walks a v from passed turn)) where
    -- where it stands for no state now, it stood for none on entry
    none_first : StandsForNone b w → StandsForNone a v
    none_first none told s stands = none (subst IsTrue (sym steps.tells) told) (turn s) (turns s stands)

    told_now : IsTrue v.tells → IsTrue w.tells
    told_now told = subst IsTrue (sym steps.tells) told

    -- so far the disks hold a state
    pub held_so_far : StandsAtEnd a v w
    held_so_far told s stands = (turn s, holds_on a b (turn s) w.now.disks goes (turns s stands w.now (read_is_left w (told_now told))))

    -- and the array stands for a state
    stands_so_far : IsTrue v.tells → (s : State) → Always v (StandsFor a s) → StandsAfter a b s w from
    stands_so_far told s stands = record {
      state = turn s;
      stands = turns s stands;
      after = λ input known.
          let walks = (steps.now w.now (read_is_left w (told_now told))).by s stands input known in
          (line_feeds passed, walks.walked.answered.within, sym walks.state_);
    }

    -- what the session leaves where no other line was answered
    pub served_so_far : (result : Result Ended SessionFault) (to : Stream) → HasKept a b v w → b.is_stopped ≡ false → IsReady b w → is_stopping result ≡ false → Took from to
        → (result ≡ Ok ended.Input → IsAtEnd to.left) → HasServed a b result v w from to
    served_so_far result to kept running ready none took all = record {
      goes_on = goes;
      stopped = running ∙ sym none;
      ready = ready;
      stands = λ going other. stands_so_far;
      changes = kept.changes;
      index = kept.index;
      sizes = kept.sizes;
      others = kept.others;
      took = took;
      all = all;
    }

    -- it stops without another call
    pub run_ends : (result : Result Ended SessionFault) (to : Stream)
        → ((s : State) (input : List ℕ) → from.left ≡ Some input → (x y : Contents) → Walked (array_store a) s input passed x y → StopsAs (array_store a) result s input x y from to)
        → Steps v w (Serves a v from) (HasStopped a v result from to)
    run_ends result to stops = weaken v w (Serves a v from) (Walks a v from passed turn) (Serves a v from) (HasStopped a v result from to) steps
        (λ x y was part. part)
        (λ x y was left walks s stands input known. stops s input known x y (walks s stands input known).walked)

    module _ (c : Mounted) (u : View) (line : List ℕ) (none : HasNoFeed line) (next : Result Next SessionFault)
        (answers : AnswersLine b c next (request_of b.g.block line) w u) where
      asked_first : AnswersLine b c next (request_of a.g.block line) w u
      asked_first = subst (λ (g : Geometry). AnswersLine b c next (request_of g.block line) w u) goes.g answers

      answering_now : (s : State) → Always v (StandsFor a s) → (y z : Contents) → LeavesInLine b w (request_of a.g.block line) y z
          → Answering (array_store a) (turn s) (request_of a.g.block line) y z
      answering_now s stands y z answering = answering_first a b goes (turn s) (request_of a.g.block line) y z (answering (turn s) (turns s stands))

      served_now : (s : State) → Always v (StandsFor a s) → (y z : Contents) → HasAnswered b w next (request_of a.g.block line) y z
          → Served (array_store a) next (turn s) (request_of a.g.block line) y z
      served_now s stands y z served = served_first a b goes (turn s) (request_of a.g.block line) y z next (served (turn s) (turns s stands))

      pub goes_further : SameArray a c
      goes_further = goes_then {a = a} {b = b} {c = c} goes answers.goes_on

      pub kept_further : HasKept a b v w → HasKept a c v u
      kept_further kept = record {
        changes = changed_then a b v w u goes kept.changes (line_changes b c w u (request_of b.g.block line) next answers);
        index = records_then a.index b.index c.index kept.index (line_records b c w u (request_of b.g.block line) next answers);
        sizes = λ e. answers.sizes e ∙ kept.sizes e;
        others = both_stay a b v w u goes steps.tells kept.others answers.others;
      }

      pub risen : b.is_stopped ≡ false → (fault : SessionFault) → next ≡ Err fault → FaultRose a fault v u
      risen running fault is = risen_first a b goes v w u steps.faults steps.port_faults none_first (λ stopped. absurd (cc (running, stopped))) fault
          (subst (λ r. IfErr r (λ f. FaultRose b f w u)) is answers.cause)

      -- and after another line
      pub held_after : StandsAtEnd a v u
      held_after told s stands =
          let came = asked_first.steps.now u.now (read_is_left u (subst IsTrue (sym asked_first.steps.tells) (told_now told))) in
          served_some a next (turn s) (request_of a.g.block line) came.origin u.now (served_now s stands came.origin u.now came.by)

      -- the array after it
      module _ (ahead : (s : State) (input : List ℕ) → from.left ≡ Some input → (x y : Contents) → Walked (array_store a) s input passed x y
          → goes_on (request_of a.g.block line) ≡ true → (rest : List Request) × (drop (line_feeds passed) (lines a.g.block input) ≡ request_of a.g.block line ∷ rest)) where
        stands_after : StandsOn b c (request_of a.g.block line) w u → IsTrue v.tells → (s : State) → Always v (StandsFor a s) → StandsAfter a c s u from
        stands_after on told s stands = record {
          state = (step a.g).next (turn s) (request_of a.g.block line);
          stands = subst (λ (g : Geometry). Always u (StandsFor c ((step g).next (turn s) (request_of a.g.block line)))) goes.g (on (turn s) (turns s stands));
          after = λ input known.
              let came = steps.now w.now (read_is_left w (told_now told)) in
              let walks = came.by s stands input known in
              after_next input walks.walked.answered.within walks.state_
              (λ more. ahead s input known came.origin w.now walks.walked more);
        }
          where
            after_next : (input : List ℕ) → line_feeds passed ≤ length (lines a.g.block input)
                → state_after (step a.g) s (lines a.g.block input) (line_feeds passed) ≡ turn s
                → (goes_on (request_of a.g.block line) ≡ true → (rest : List Request) × (drop (line_feeds passed) (lines a.g.block input) ≡ request_of a.g.block line ∷ rest))
                → (j : ℕ) × (j ≤ length (lines a.g.block input)) × ((step a.g).next (turn s) (request_of a.g.block line) ≡ state_after (step a.g) s (lines a.g.block input) j)
            after_next input within same next = ⊎_elim
                (λ (more : goes_on (request_of a.g.block line) ≡ true).
                let at = next more in
                let below = below_end (lines a.g.block input) (line_feeds passed) (request_of a.g.block line) at.0 at.1 in (
                  line_feeds passed + 1,
                  omega (arith, below),
                  ap (λ (t : State). (step a.g).next t (request_of a.g.block line)) (sym same)
                      ∙ sym (state_after-next (step a.g) s (lines a.g.block input) (line_feeds passed) (request_of a.g.block line) at.0 at.1),
                ))
                (λ (quit : goes_on (request_of a.g.block line) ≡ false).
                (line_feeds passed, within, quit_stays a.g (turn s) (request_of a.g.block line) quit ∙ sym same))
                (cases_Bool (goes_on (request_of a.g.block line)))

        stands_unless : is_stopping next ≡ false → (next ≡ Err (Array Stopped) → ⊥) → IsTrue v.tells → (s : State) → Always v (StandsFor a s) → StandsAfter a c s u from
        stands_unless going other = stands_after (asked_first.stands going other)

        pub served_fault : (to : Stream) (fault : SessionFault) → HasKept a b v w → next ≡ Err fault → b.is_stopped ≡ false → Took from to → HasServed a c (Err fault) v u from to
        served_fault to fault kept is running took = let after = kept_further kept in record {
          goes_on = goes_further;
          stopped = answers.stopped ∙ ap (λ (was : Bool). was || is_stopping next) running ∙ ap is_stopping is ∙ stops_alike fault;
          ready = answers.ready;
          stands = λ going other. stands_unless (ap is_stopping is ∙ stops_alike fault ∙ going) (λ stopped. other (ap Err (same_fault fault (Array Stopped) (sym is ∙ stopped))));
          changes = after.changes;
          index = after.index;
          sizes = after.sizes;
          others = after.others;
          took = took;
          all = λ none. absurd (cc none);
        }

        pub served_ok : (to : Stream) (at_end : Ended) (way : Next) → HasKept a b v w → next ≡ Ok way → b.is_stopped ≡ false → Took from to
            → (◌≡◌ {A = Result Ended SessionFault} (Ok at_end) (Ok ended.Input) → IsAtEnd to.left) → HasServed a c (Ok at_end) v u from to
        served_ok to at_end way kept is running took all = let after = kept_further kept in record {
          goes_on = goes_further;
          stopped = answers.stopped ∙ ap (λ (was : Bool). was || is_stopping next) running ∙ ap is_stopping is;
          ready = answers.ready;
          stands = λ going other. stands_unless (ap is_stopping is) (λ stopped. cc (is, stopped));
          changes = after.changes;
          index = after.index;
          sizes = after.sizes;
          others = after.others;
          took = took;
          all = all;
        }

      -- after another line, whatever it does
      after_line : (After : Contents → Contents → Type 0)
          → ((s : State) (input : List ℕ) → from.left ≡ Some input → (x y z : Contents) → WalkedTo a s input passed turn x y
          → Answering (array_store a) (turn s) (request_of a.g.block line) y z → StopsAtPort (array_store a) s input x z)
          → ((x y z : Contents) → MayLeave v x → Walks a v from passed turn x y → HasAnswered b w next (request_of a.g.block line) y z → After x z)
          → Steps v u (Serves a v from) After
      after_line After part at_end = then_ v w u (Serves a v from) (Walks a v from passed turn) (LeavesInLine b w (request_of a.g.block line)) (HasAnswered b w next (request_of a.g.block line))
          (Serves a v from) After steps asked_first.steps
          (λ x y was some. some)
          (λ x y z was walks mid answering s stands input known. part s input known x y z (walks s stands input known) (answering_now s stands y z answering))
          (λ x y z was walks mid served. at_end x y z was walks served)

      stopped : (result : Result Ended SessionFault) (to : Stream)
          → ((s : State) (input : List ℕ) → from.left ≡ Some input → (x y z : Contents) → WalkedTo a s input passed turn x y
          → Served (array_store a) next (turn s) (request_of a.g.block line) y z → StopsAs (array_store a) result s input x z from to)
          → (x y z : Contents) → MayLeave v x → Walks a v from passed turn x y → HasAnswered b w next (request_of a.g.block line) y z → HasStopped a v result from to x z
      stopped result to stops x y z was walks served s stands input known = stops s input known x y z (walks s stands input known) (served_now s stands y z served)

      -- a line with a line feed
      module _ (here : (input : List ℕ) → from.left ≡ Some input → (rest : List ℕ) × (drop (length passed) input ≡ line ++ 10 ∷ rest)) where
        line_part : (s : State) (input : List ℕ) → from.left ≡ Some input → (x y z : Contents) → WalkedTo a s input passed turn x y
            → Answering (array_store a) (turn s) (request_of a.g.block line) y z → StopsAtPort (array_store a) s input x z
        line_part s input known x y z walks answering = let at = here input known in
            part_line (array_store a) (array_answers a) (array_torn a) x y z s input passed (turn s) walks.walked walks.state_ line none at.0 at.1 answering

        pub line_more : next ≡ Ok More → Steps v u (Serves a v from) (Walks a v from (passed ++ (line ++ 10 ∷ [])) (λ s. (step a.g).next (turn s) (request_of a.g.block line)))
        line_more is = after_line (Walks a v from (passed ++ (line ++ 10 ∷ [])) (λ s. (step a.g).next (turn s) (request_of a.g.block line))) line_part
            (λ x y z was walks served s stands input known.
            let at = here input known in
            let walk = walks s stands input known in
            let more = subst (λ r. Served (array_store a) r (turn s) (request_of a.g.block line) y z) is (served_now s stands y z served) in
            record {
              walked = more_line (array_store a) (array_answers a) (array_torn a) x y z s input passed (turn s) walk.walked walk.state_ line none at.0 at.1 more;
              state_ = more_state (array_store a) (array_answers a) (array_torn a) x y z s input passed (turn s) walk.walked walk.state_ line none at.0 at.1 more;
            })

        pub line_turns : next ≡ Ok More → Turns a c v u (λ s. (step a.g).next (turn s) (request_of a.g.block line))
        line_turns is s stands = subst (λ (g : Geometry). Always u (StandsFor c ((step g).next (turn s) (request_of a.g.block line)))) goes.g
            (asked_first.stands (ap is_stopping is) (λ stopped. cc (is, stopped)) (turn s) (turns s stands))

        pub line_quit : (to : Stream) (ended : Ended) → next ≡ Ok Quit → Steps v u (Serves a v from) (HasStopped a v (Ok ended) from to)
        line_quit to ended is = after_line (HasStopped a v (Ok ended) from to) line_part (stopped (Ok ended) to (λ s input known x y z walks served.
            let at = here input known in
            quit_line (array_store a) (array_answers a) (array_torn a) x y z s input passed (turn s) walks.walked walks.state_ line none at.0 at.1
            (subst (λ r. Served (array_store a) r (turn s) (request_of a.g.block line) y z) is served)))

        pub line_fault : (to : Stream) (fault : SessionFault) → next ≡ Err fault → Steps v u (Serves a v from) (HasStopped a v (Err fault) from to)
        line_fault to fault is = after_line (HasStopped a v (Err fault) from to) line_part (stopped (Err fault) to (λ s input known x y z walks served.
            let at = here input known in
            fault_line (array_store a) (array_answers a) (array_torn a) x y z s input passed (turn s) walks.walked walks.state_ line none at.0 at.1 from to fault
            (subst (λ r. Served (array_store a) r (turn s) (request_of a.g.block line) y z) is served)))

      -- the last line, without one
      module _ (here : (input : List ℕ) → from.left ≡ Some input → drop (length passed) input ≡ line) (some : 0 < length line) where
        last_part : (s : State) (input : List ℕ) → from.left ≡ Some input → (x y z : Contents) → WalkedTo a s input passed turn x y
            → Answering (array_store a) (turn s) (request_of a.g.block line) y z → StopsAtPort (array_store a) s input x z
        last_part s input known x y z walks answering =
            part_last (array_store a) (array_answers a) (array_torn a) x y z s input passed (turn s) walks.walked walks.state_ line none (here input known) some answering

        pub last_done : (to : Stream) (ended : Ended) (way : Next) → next ≡ Ok way → Steps v u (Serves a v from) (HasStopped a v (Ok ended) from to)
        last_done to ended way is = after_line (HasStopped a v (Ok ended) from to) last_part (stopped (Ok ended) to (λ s input known x y z walks served.
            done_last (array_store a) (array_answers a) (array_torn a) x y z s input passed (turn s) walks.walked walks.state_ line none (here input known) some way
            (subst (λ r. Served (array_store a) r (turn s) (request_of a.g.block line) y z) is served)))

        pub last_fault : (to : Stream) (fault : SessionFault) → next ≡ Err fault → Steps v u (Serves a v from) (HasStopped a v (Err fault) from to)
        last_fault to fault is = after_line (HasStopped a v (Err fault) from to) last_part (stopped (Err fault) to (λ s input known x y z walks served.
            fault_last (array_store a) (array_answers a) (array_torn a) x y z s input passed (turn s) walks.walked walks.state_ line none (here input known) some from to fault
            (subst (λ r. Served (array_store a) r (turn s) (request_of a.g.block line) y z) is served)))

-- why a session stops so, where a line had a fault
pub fault_stops : (a : Mounted) (v u : View) (from to : Stream) → a.is_stopped ≡ false → (fault : SessionFault) → FaultRose a fault v u → StopsBy a (Err fault) v u from to
fault_stops a v u from to running (Array (Refused why)) risen = risen
fault_stops a v u from to running (Array LogFault) risen = risen
fault_stops a v u from to running (Array (MemberFault first second)) risen = risen
fault_stops a v u from to running (Array (Damaged offset)) risen = risen
fault_stops a v u from to running (Array Stopped) risen = absurd (cc (running, risen))
fault_stops a v u from to running ReadFault risen = absurd risen
fault_stops a v u from to running WriteFault risen = risen
fault_stops a v u from to running TooLong risen = absurd risen
