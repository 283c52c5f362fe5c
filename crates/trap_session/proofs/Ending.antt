-- How a session goes on and ends, from the lines that it answered so far.
use Rattle.std.proofs.Common.{◌≡◌, ◌↔◌, ℕ, ◌<◌, ◌≤◌, Bool, ◌||◌, List, [], ◌∷◌, ◌++◌, length, drop, Some, true, false, Result, Ok, Err, IfErr, inl, refl, ap, subst, ◌∙◌, arith}
use Rattle.std.specs.Io.KnownBytes.{Consumes, IsAtEnd}
use Rattle.trap_bank.specs.Disks.{Contents, View}
use Rattle.trap_bank.specs.Steps.{Steps}
use Rattle.trap_bank.specs.Stream.{Stream}
use Rattle.trap_model.specs.ArrayStep.{step}
use Rattle.trap_model.specs.declared.history.State.{State}
use Rattle.trap_model.specs.declared.numbers.Geometry.{Geometry}
use Rattle.trap_model.specs.declared.request.Request.{Request}
use Rattle.trap_script.specs.Lines.{lines, line_feeds, request_of, goes_on, HasNoFeed}
use Rattle.trap_lines.specs.declared.found.ReadFault.{ReadFault}
use Rattle.trap_lines.specs.declared.found.ReadFault.TheVariants as read
use Rattle.trap_lines.specs.declared.reader.LineReader.{LineReader}
use Rattle.trap_lines.specs.Reader.{unread, to_come, taken, Passes, IsOpen, IsEnd, FindsNone}
use Rattle.trap_lines.proofs.Passing.{passes_nothing, passes_trans}
use Rattle.trap_array.specs.Calls.{Mounted, IsReady, SameArray}
use Rattle.trap_array.proofs.TurnSteps.{goes_still}
use Rattle.trap_session.specs.Answers.{is_stopping, AnswersLine}
use Rattle.trap_session.specs.Exchange.{IsSessionOver}
use Rattle.trap_session.specs.Leaving.{HasServed}
use Rattle.trap_session.specs.Serving.{Serves, HasStopped, StopsAs, StopsAfter, StopsBy, AreWholeLines, HadNoQuit, StandsAtEnd, Took, bytes_taken, ended_by}
use Rattle.trap_session.specs.Store.{array_store, NamesDamage}
use Rattle.trap_session.specs.declared.outcome.Ended.{Ended}
use Rattle.trap_session.specs.declared.outcome.Ended.TheVariants as ended
use Rattle.trap_session.specs.declared.outcome.Next.{Next}
use Rattle.trap_session.specs.declared.outcome.Next.TheVariants.{More, Quit}
use Rattle.trap_session.specs.declared.outcome.SessionFault.{SessionFault}
use Rattle.trap_session.specs.declared.outcome.SessionFault.TheVariants.{ReadFault as Unread, TooLong}
use Rattle.trap_session.proofs.Exchanging.{HasGone, gone_nowhere, gone_on, session_ends, session_fails, session_too_long, session_quits, session_line_fails, session_last, session_last_fails}
use Rattle.trap_session.proofs.Quits.{IsUnquit, unquit_start, unquit_on, last_goes_on, none_goes_on, ends_unquit, more_goes, input_goes}
use Rattle.trap_session.proofs.Running.{Walks, Turns, HasKept, kept_none, kept_further, run_begins, run_ends, goes_further, held_so_far, held_after, line_more, line_turns, line_quit, line_fault, last_done, last_fault, risen, fault_stops, served_so_far, served_fault, served_ok}
use Rattle.trap_session.proofs.Stopping.{line_at, last_line, feeds_taken, stops_reading, stops_end, consumed, one_more_line, took_some, took_quit, took_last_quit, none_left, ended_last}
use Rattle.trap_session.proofs.Walking.{Walked, next_line, next_last}

-- The lines so far: whole ones were passed over, none of them a `Q`. The array goes on, and whatever state it stood for on entry, it stands
-- for that one turned by them; where the input is known, each line was answered. Whatever exchange follows, it is one with what was.
pub record HasRun {B : Type 0} (view : B → View) (a b : Mounted) (first mid : B) (from at : Stream) (r : LineReader) : Type 0 where
  pub passed : List ℕ
  pub r0 : LineReader
  pub none : unread r0 ≡ []
  pub untaken : taken r0 ≡ 0
  pub passes : Passes passed r0 r from at
  pub whole : AreWholeLines passed
  pub still_open : IsOpen r at
  pub began : a.is_stopped ≡ false
  pub running : b.is_stopped ≡ false
  pub ready : IsReady b (view mid)
  pub goes : SameArray a b
  pub kept : HasKept a b (view first) (view mid)
  pub unquit : IsUnquit a.g.block passed
  pub turn : State → State
  pub turns : Turns a b (view first) (view mid) turn
  pub steps : Steps (view first) (view mid) (Serves a (view first) from) (Walks a (view first) from passed turn)
  pub gone : HasGone view a b first mid from passed

-- No line yet.
pub begins : {B : Type 0} (view : B → View) (a : Mounted) (first : B) (from : Stream) (r : LineReader) → unread r ≡ [] → taken r ≡ 0
    → a.is_stopped ≡ false → IsReady a (view first) → HasRun view a a first first from from r
begins view a first from r none untaken running ready = record {
  passed = [];
  r0 = r;
  none = none;
  untaken = untaken;
  passes = passes_nothing r from;
  whole = inl refl;
  still_open = λ some. absurd (omega (arith, some, untaken));
  began = running;
  running = running;
  ready = ready;
  goes = goes_still a;
  kept = kept_none a (view first);
  unquit = unquit_start a.g.block;
  turn = λ s. s;
  turns = λ s stands. stands;
  steps = run_begins a (view first) from;
  gone = gone_nowhere view a first from;
}

-- A session that ended so: all that is owed of it.
pub record HasEnded {B : Type 0} (view : B → View) (a c : Mounted) (result : Result Ended SessionFault) (first last : B) (from to : Stream) : Type 0 where
  pub stops : Steps (view first) (view last) (Serves a (view first) from) (HasStopped a (view first) result from to)
  pub no_quit : result ≡ Ok ended.Input → HadNoQuit a.g.block from
  pub exchange : IsSessionOver view a c result first last from to
  pub leaves : HasServed a c result (view first) (view last) from to
  pub held : StandsAtEnd a (view first) (view last)
  pub cause : StopsBy a result (view first) (view last) from to
  pub damaged : IfErr result (λ fault. NamesDamage c fault (view last))

module _ {B : Type 0} (view : B → View) (a b : Mounted) (first mid : B) (from at to : Stream) (r r' : LineReader) (run : HasRun view a b first mid from at r) where
  within : r'.end ≤ length r'.chunk.items
  within = omega (arith, r'.within, r'.chunk.ok.0)

  took : (bytes : List ℕ) → Passes bytes r r' at to → Took from to
  took bytes next = took_some run.r0 r' from to (run.passed ++ bytes) run.none run.untaken within (passes_trans run.passes next)

  front : (input : List ℕ) → from.left ≡ Some input → Consumes (Some input) (to_come r at) run.passed
  front input left = consumed run.r0 r from at run.none input left run.passed run.passes

  held : StandsAtEnd a (view first) (view mid)
  held = held_so_far a (view first) from b (view mid) run.passed run.turn run.goes run.turns run.steps

  leaves : (result : Result Ended SessionFault) → is_stopping result ≡ false → Took from to → (result ≡ Ok ended.Input → IsAtEnd to.left)
      → HasServed a b result (view first) (view mid) from to
  leaves result none took all = served_so_far a (view first) from b (view mid) run.passed run.turn run.goes run.turns run.steps result to run.kept run.running run.ready none took all

  stops : (result : Result Ended SessionFault)
      → ((s : State) (input : List ℕ) → from.left ≡ Some input → (x y : Contents) → Walked (array_store a) s input run.passed x y → StopsAs (array_store a) result s input x y from to)
      → Steps (view first) (view mid) (Serves a (view first) from) (HasStopped a (view first) result from to)
  stops result so = run_ends a (view first) from b (view mid) run.passed run.turn run.goes run.turns run.steps result to so

  -- No line was found: the source failed, or gave too much.
  module _ (fault : ReadFault) (none : FindsNone fault r r' at to) where
    feeds : (input : List ℕ) → from.left ≡ Some input → line_feeds (bytes_taken input from to) ≡ line_feeds run.passed
    feeds input left = feeds_taken input run.passed none.0 run.r0 r r' from at to run.none run.untaken left run.passes none.2 none.1 none.3.0 within

    reads : (s : State) (input : List ℕ) → from.left ≡ Some input → (x y : Contents) → Walked (array_store a) s input run.passed x y
        → StopsAfter (array_store a) s input (line_feeds (bytes_taken input from to)) x y
    reads s input left x y walked =
        stops_reading (array_store a) s input run.passed none.0 x y run.r0 r r' from at to walked run.none run.untaken left run.passes none.2 none.1 none.3.0 within

  pub source_failed : FindsNone read.Source r r' at to → HasEnded view a b (Err Unread) first mid from to
  source_failed none = record {
    stops = stops (Err Unread) (reads read.Source none);
    no_quit = λ is. absurd (cc is);
    exchange = session_fails view a b first mid from to run.passed run.gone (feeds read.Source none);
    leaves = leaves (Err Unread) refl (took none.0 none.2) (λ is. absurd (cc is));
    held = held;
    cause = let rose = none.3.1 in let later = run.passes.faults in omega (arith, rose, later);
    damaged = λ offset is. absurd (cc is);
  }

  pub too_much : FindsNone read.TooLong r r' at to → HasEnded view a b (Err TooLong) first mid from to
  too_much none = record {
    stops = stops (Err TooLong) (reads read.TooLong none);
    no_quit = λ is. absurd (cc is);
    exchange = session_too_long view a b first mid from to run.passed run.gone (feeds read.TooLong none);
    leaves = leaves (Err TooLong) refl (took none.0 none.2) (λ is. absurd (cc is));
    held = held;
    cause = (let both = passes_trans run.passes none.2 in let given = both.given in let long = none.3.1.0 in omega (arith, given, long, run.untaken), none.3.1.1);
    damaged = λ offset is. absurd (cc is);
  }

  -- No line was left.
  pub input_ended : Passes [] r r' at to → IsEnd r' to → HasEnded view a b (Ok ended.Input) first mid from to
  input_ended next end =
      let here = λ (input : List ℕ) (left : from.left ≡ Some input). last_line run.r0 r from at run.none input left run.passed run.passes r' to [] next end.0 in
      record {
        stops = stops (Ok ended.Input) (λ s input left x y walked. stops_end (array_store a) s input run.passed x y walked (here input left));
        no_quit = λ is input left. ends_unquit a.g.block input run.passed [] (to_come r at) (front input left) run.unquit (here input left) (none_goes_on a.g.block);
        exchange = session_ends view a b first mid from to run.passed run.gone here;
        leaves = leaves (Ok ended.Input) refl (took [] next) (λ is. none_left r' to end.0);
        held = held;
        cause = end.1;
        damaged = tt;
      }

  -- A line was found, and the array answered it.
  module _ (c : Mounted) (last : B) (line : List ℕ) (no_feed : HasNoFeed line) (next : Result Next SessionFault)
      (answers : AnswersLine b c next (request_of b.g.block line) (view mid) (view last))
      (exact : (next ≡ Ok Quit) ↔ (goes_on (request_of b.g.block line) ≡ false)) where
    quits : (next ≡ Ok Quit) ↔ (goes_on (request_of a.g.block line) ≡ false)
    quits = subst (λ (g : Geometry). (next ≡ Ok Quit) ↔ (goes_on (request_of g.block line) ≡ false)) run.goes.g exact

    held_then : StandsAtEnd a (view first) (view last)
    held_then = held_after a (view first) from b (view mid) run.passed run.turn run.goes run.turns run.steps c (view last) line no_feed next answers

    failed : (fault : SessionFault) → next ≡ Err fault
        → Steps (view first) (view last) (Serves a (view first) from) (HasStopped a (view first) (Err fault) from to)
        → HasServed a c (Err fault) (view first) (view last) from to → IsSessionOver view a c (Err fault) first last from to
        → HasEnded view a c (Err fault) first last from to
    failed fault is stops leaves exchange = record {
      stops = stops;
      no_quit = λ quit. absurd (cc quit);
      exchange = exchange;
      leaves = leaves;
      held = held_then;
      cause = fault_stops a (view first) (view last) from to run.began fault
          (risen a (view first) from b (view mid) run.passed run.turn run.goes run.turns run.steps c (view last) line no_feed next answers run.running fault is);
      damaged = λ offset same told. (request_of b.g.block line, answers.damaged offset (is ∙ ap Err same) told);
    }

    -- with a line feed
    module _ (passes : Passes (line ++ 10 ∷ []) r r' at to) where
      here : (input : List ℕ) → from.left ≡ Some input → (rest : List ℕ) × (drop (length run.passed) input ≡ line ++ 10 ∷ rest)
      here input left = line_at run.r0 r from at run.none input left run.passed run.passes r' to line passes

      ahead : (s : State) (input : List ℕ) → from.left ≡ Some input → (x y : Contents) → Walked (array_store a) s input run.passed x y
          → goes_on (request_of a.g.block line) ≡ true → (rest : List Request) × (drop (line_feeds run.passed) (lines a.g.block input) ≡ request_of a.g.block line ∷ rest)
      ahead s input left x y walked more = let rest = here input left in
          (lines a.g.block rest.0, next_line (array_store a) s input run.passed x y walked line rest.0 rest.1 no_feed more)

      pub line_failed : (fault : SessionFault) → next ≡ Err fault → HasEnded view a c (Err fault) first last from to
      line_failed fault is = failed fault is
          (line_fault a (view first) from b (view mid) run.passed run.turn run.goes run.turns run.steps c (view last) line no_feed next answers here to fault is)
          (served_fault a (view first) from b (view mid) run.passed run.turn run.goes run.turns run.steps c (view last) line no_feed next answers ahead to fault run.kept is run.running
          (took (line ++ 10 ∷ []) passes))
          (session_line_fails view a b first mid from to run.passed run.gone c last line no_feed next run.goes.g answers exact here fault is)

      pub line_quitted : next ≡ Ok Quit → HasEnded view a c (Ok ended.Quit) first last from to
      line_quitted is = record {
        stops = line_quit a (view first) from b (view mid) run.passed run.turn run.goes run.turns run.steps c (view last) line no_feed next answers here to ended.Quit is;
        no_quit = λ input. absurd (cc input);
        exchange = session_quits view a b first mid from to run.passed run.gone c last line no_feed next run.goes.g answers exact here is;
        leaves = served_ok a (view first) from b (view mid) run.passed run.turn run.goes run.turns run.steps c (view last) line no_feed next answers ahead to ended.Quit Quit run.kept is run.running
            (took (line ++ 10 ∷ []) passes) (λ input. absurd (cc input));
        held = held_then;
        cause = took_quit a.g.block run.r0 r r' from at to run.passed line run.none run.untaken within run.whole run.passes passes no_feed (quits.0 is);
        damaged = tt;
      }

      pub line_answered : next ≡ Ok More → to.ended ≡ false → HasRun view a c first last from to r'
      line_answered is more = record {
        passed = run.passed ++ (line ++ 10 ∷ []);
        r0 = run.r0;
        none = run.none;
        untaken = run.untaken;
        passes = passes_trans run.passes passes;
        whole = one_more_line run.passed line;
        still_open = λ some. more;
        began = run.began;
        running = answers.stopped ∙ ap (λ (was : Bool). was || is_stopping next) run.running ∙ ap is_stopping is;
        ready = answers.ready;
        goes = goes_further a (view first) from b (view mid) run.passed run.turn run.goes run.turns run.steps c (view last) line no_feed next answers;
        kept = kept_further a (view first) from b (view mid) run.passed run.turn run.goes run.turns run.steps c (view last) line no_feed next answers run.kept;
        unquit = unquit_on a.g.block run.passed line run.unquit no_feed (more_goes next (goes_on (request_of a.g.block line)) is quits);
        turn = λ s. (step a.g).next (run.turn s) (request_of a.g.block line);
        turns = line_turns a (view first) from b (view mid) run.passed run.turn run.goes run.turns run.steps c (view last) line no_feed next answers here is;
        steps = line_more a (view first) from b (view mid) run.passed run.turn run.goes run.turns run.steps c (view last) line no_feed next answers here is;
        gone = gone_on view a b first mid from to run.passed run.gone c last line no_feed next run.goes.g answers exact here is;
      }

    -- the last line, without one
    module _ (passes : Passes line r r' at to) (some : 0 < length line) (end : IsEnd r' to) where
      here_last : (input : List ℕ) → from.left ≡ Some input → drop (length run.passed) input ≡ line
      here_last input left = last_line run.r0 r from at run.none input left run.passed run.passes r' to line passes end.0

      ahead_last : (s : State) (input : List ℕ) → from.left ≡ Some input → (x y : Contents) → Walked (array_store a) s input run.passed x y
          → goes_on (request_of a.g.block line) ≡ true → (rest : List Request) × (drop (line_feeds run.passed) (lines a.g.block input) ≡ request_of a.g.block line ∷ rest)
      ahead_last s input left x y walked more = ([], next_last (array_store a) s input run.passed x y walked line (here_last input left) no_feed some more)

      pub last_failed : (fault : SessionFault) → next ≡ Err fault → HasEnded view a c (Err fault) first last from to
      last_failed fault is = failed fault is
          (last_fault a (view first) from b (view mid) run.passed run.turn run.goes run.turns run.steps c (view last) line no_feed next answers here_last some to fault is)
          (served_fault a (view first) from b (view mid) run.passed run.turn run.goes run.turns run.steps c (view last) line no_feed next answers ahead_last to fault run.kept is run.running
          (took line passes))
          (session_last_fails view a b first mid from to run.passed run.gone c last line no_feed next run.goes.g answers exact here_last some fault is)

      pub last_answered : (way : Next) → next ≡ Ok way → HasEnded view a c (Ok (ended_by way)) first last from to
      last_answered way is =
          let so = subst (λ (r : Result Next SessionFault). (r ≡ Ok Quit) ↔ (goes_on (request_of a.g.block line) ≡ false)) is quits in
          record {
            stops = last_done a (view first) from b (view mid) run.passed run.turn run.goes run.turns run.steps c (view last) line no_feed next answers here_last some to (ended_by way) way is;
            no_quit = λ input_ends input left. ends_unquit a.g.block input run.passed line (to_come r at) (front input left) run.unquit (here_last input left)
                (last_goes_on a.g.block line no_feed some (input_goes way (goes_on (request_of a.g.block line)) input_ends so));
            exchange = session_last view a b first mid from to run.passed run.gone c last line no_feed next run.goes.g answers exact here_last some way is;
            leaves = served_ok a (view first) from b (view mid) run.passed run.turn run.goes run.turns run.steps c (view last) line no_feed next answers ahead_last to
                (ended_by way) way run.kept is run.running (took line passes) (λ input. none_left r' to end.0);
            held = held_then;
            cause = ended_last a (view first) (view last) from to way (goes_on (request_of a.g.block line)) end.1 so
                (λ quit. took_last_quit a.g.block run.r0 r r' from at to run.passed line run.none run.untaken within run.whole run.passes passes end no_feed quit);
            damaged = tt;
          }
