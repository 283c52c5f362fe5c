-- How a session over lines goes on and ends, as an exchange.
use Rattle.std.proofs.Common.{◌≡◌, ◌↔◌, ℕ, ◌+◌, ◌<◌, Bool, List, [], ◌∷◌, ◌++◌, length, length-append, drop, Some, true, false, Result, Ok, Err, refl, sym, ap, subst, ◌∙◌, append_assoc, append-nil}
use Rattle.trap_bank.specs.Disks.{View}
use Rattle.trap_bank.specs.Stream.{Stream}
use Rattle.trap_model.specs.declared.numbers.Geometry.{Geometry}
use Rattle.trap_model.specs.declared.request.Request.{Request}
use Rattle.trap_model.specs.declared.request.Request.TheVariants as request
use Rattle.trap_script.specs.Lines.{lines, line_feeds, request_of, goes_on, HasNoFeed}
use Rattle.trap_script.proofs.InputLemmas.{lines-next, lines-quit, lines-last, lines-last_quit, line_feeds-line, drop-line}
use Rattle.trap_array.specs.Calls.{Mounted}
use Rattle.trap_session.specs.Answers.{AnswersLine}
use Rattle.trap_session.specs.Exchange.{Exchange, IsSessionOver, ReadsLines}
use Rattle.trap_session.specs.Exchange.Exchange.{answers, quits, fails, input_ends, source_fails, too_long}
use Rattle.trap_session.specs.Serving.{ended_by, bytes_taken}
use Rattle.trap_session.specs.Store.{FaultRose}
use Rattle.trap_session.specs.declared.outcome.Ended.{Ended}
use Rattle.trap_session.specs.declared.outcome.Ended.TheVariants as ended
use Rattle.trap_session.specs.declared.outcome.Next.{Next}
use Rattle.trap_session.specs.declared.outcome.Next.TheVariants.{More, Quit}
use Rattle.trap_session.specs.declared.outcome.SessionFault.{SessionFault}
use Rattle.trap_session.specs.declared.outcome.SessionFault.TheVariants.{Array, ReadFault, WriteFault, TooLong}

-- These bytes were whole lines, and each was answered: whatever exchange follows, it all is one.
pub record HasGone {B : Type 0} (view : B → View) (a b : Mounted) (first mid : B) (from : Stream) (passed : List ℕ) : Type 0 where
  pub asked : List Request
  pub whole : (rest : List Request) (result : Result Ended SessionFault) (c : Mounted) (last : B)
      → Exchange view b mid rest result c last → Exchange view a first (asked ++ rest) result c last
  pub known : (input : List ℕ) → from.left ≡ Some input → lines a.g.block input ≡ asked ++ lines a.g.block (drop (length passed) input)
  pub fed : length asked ≡ line_feeds passed

pub gone_nowhere : {B : Type 0} (view : B → View) (a : Mounted) (first : B) (from : Stream) → HasGone view a a first first from []
gone_nowhere view a first from = record { asked = []; whole = λ rest result c last exchange. exchange; known = λ input left. refl; fed = refl }

-- every request that ends a session is `Q`
is_quit : (asked : Request) → goes_on asked ≡ false → asked ≡ request.Quit
is_quit (request.Write time block bytes) quit = absurd (cc quit)
is_quit (request.Read block) quit = absurd (cc quit)
is_quit (request.At seq block) quit = absurd (cc quit)
is_quit (request.By time block) quit = absurd (cc quit)
is_quit request.Info quit = absurd (cc quit)
is_quit (request.Keep seq) quit = absurd (cc quit)
is_quit request.Quit quit = refl
is_quit request.Bad quit = absurd (cc quit)

one_more : (l : List Request) (x : Request) → length (l ++ x ∷ []) ≡ length l + 1
one_more l x = length-append l (x ∷ [])

-- after any other answer it goes on
goes_else : (result : Result Next SessionFault) (goes : Bool) → (result ≡ Ok Quit) ↔ (goes ≡ false) → (result ≡ Ok Quit → ⊥) → goes ≡ true
goes_else result true exact other = refl
goes_else result false exact other = absurd (other (exact.1 refl))

-- the source fails in no line
reads_else : (a : Mounted) (v u : View) (fault : SessionFault) → FaultRose a fault v u → (from to : Stream) (asked : List Request) → ReadsLines (Err fault) from to asked
reads_else a v u (Array denied) rose from to asked = tt
reads_else a v u ReadFault rose from to asked = absurd rose
reads_else a v u WriteFault rose from to asked = tt
reads_else a v u TooLong rose from to asked = absurd rose

module _ {B : Type 0} (view : B → View) (a b : Mounted) (first mid : B) (from to : Stream) (passed : List ℕ) (gone : HasGone view a b first mid from passed) where
  -- the source ended
  pub session_ends : ((input : List ℕ) → from.left ≡ Some input → drop (length passed) input ≡ []) → IsSessionOver view a b (Ok ended.Input) first mid from to
  session_ends here = record {
    asked = gone.asked ++ [];
    exchange = gone.whole [] (Ok ended.Input) b mid (input_ends b mid);
    lines = λ input left. gone.known input left ∙ ap (λ (l : List ℕ). gone.asked ++ lines a.g.block l) (here input left);
    read = tt;
  }

  -- the lines so far are a front
  front : (input : List ℕ) → from.left ≡ Some input → (rest : List Request) × (lines a.g.block input ≡ (gone.asked ++ []) ++ rest)
  front input left = (
    lines a.g.block (drop (length passed) input),
    gone.known input left ∙ ap (λ (l : List Request). l ++ lines a.g.block (drop (length passed) input)) (sym (append-nil gone.asked)),
  )

  -- or failed, or gave too much
  module _ (feeds : (input : List ℕ) → from.left ≡ Some input → line_feeds (bytes_taken input from to) ≡ line_feeds passed) where
    read_all : (input : List ℕ) → from.left ≡ Some input → length (gone.asked ++ []) ≡ line_feeds (bytes_taken input from to)
    read_all input left = ap (λ (l : List Request). length l) (append-nil gone.asked) ∙ gone.fed ∙ sym (feeds input left)

    pub session_fails : IsSessionOver view a b (Err ReadFault) first mid from to
    session_fails = record { asked = gone.asked ++ []; exchange = gone.whole [] (Err ReadFault) b mid (source_fails b mid); lines = front; read = read_all }

    pub session_too_long : IsSessionOver view a b (Err TooLong) first mid from to
    session_too_long = record { asked = gone.asked ++ []; exchange = gone.whole [] (Err TooLong) b mid (too_long b mid); lines = front; read = read_all }

  -- another line
  module _ (c : Mounted) (last : B) (line : List ℕ) (none : HasNoFeed line) (result : Result Next SessionFault) (same : b.g ≡ a.g)
      (line_answers : AnswersLine b c result (request_of b.g.block line) (view mid) (view last))
      (exact : (result ≡ Ok Quit) ↔ (goes_on (request_of b.g.block line) ≡ false)) where
    abbrev next : Request
    next = request_of a.g.block line

    one : AnswersLine b c result (request_of a.g.block line) (view mid) (view last)
    one = subst (λ (g : Geometry). AnswersLine b c result (request_of g.block line) (view mid) (view last)) same line_answers

    exact_first : (result ≡ Ok Quit) ↔ (goes_on (request_of a.g.block line) ≡ false)
    exact_first = subst (λ (g : Geometry). (result ≡ Ok Quit) ↔ (goes_on (request_of g.block line) ≡ false)) same exact

    one_is : (way : Result Next SessionFault) → result ≡ way → AnswersLine b c way (request_of a.g.block line) (view mid) (view last)
    one_is way is = subst (λ (r : Result Next SessionFault). AnswersLine b c r (request_of a.g.block line) (view mid) (view last)) is one

    one_quit : result ≡ Ok Quit → AnswersLine b c (Ok Quit) request.Quit (view mid) (view last)
    one_quit is = subst (λ (r : Request). AnswersLine b c (Ok Quit) r (view mid) (view last)) (is_quit (request_of a.g.block line) (exact_first.0 is)) (one_is (Ok Quit) is)

    goes_more : result ≡ Ok More → goes_on (request_of a.g.block line) ≡ true
    goes_more is = goes_else result (goes_on (request_of a.g.block line)) exact_first (λ quit. cc (is, quit))

    goes_fault : (fault : SessionFault) → result ≡ Err fault → goes_on (request_of a.g.block line) ≡ true
    goes_fault fault is = goes_else result (goes_on (request_of a.g.block line)) exact_first (λ quit. cc (is, quit))

    read_else : (fault : SessionFault) → result ≡ Err fault → (asked : List Request) → ReadsLines (Err fault) from to asked
    read_else fault is asked = reads_else b (view mid) (view last) fault (one_is (Err fault) is).cause from to asked

    -- it failed
    failed : (fault : SessionFault) → result ≡ Err fault → Exchange view a first (gone.asked ++ request_of a.g.block line ∷ []) (Err fault) c last
    failed fault is = gone.whole (request_of a.g.block line ∷ []) (Err fault) c last (fails b c mid last (request_of a.g.block line) fault (one_is (Err fault) is))

    -- it was `Q`
    quitted : result ≡ Ok Quit → Exchange view a first (gone.asked ++ []) (Ok ended.Quit) c last
    quitted is = gone.whole [] (Ok ended.Quit) c last (quits b c mid last (one_quit is))

    -- with a line feed
    module _ (here : (input : List ℕ) → from.left ≡ Some input → (rest : List ℕ) × (drop (length passed) input ≡ line ++ 10 ∷ rest)) where
      known_next : (input : List ℕ) → from.left ≡ Some input → goes_on (request_of a.g.block line) ≡ true → (rest : List ℕ) × (drop (length passed) input ≡ line ++ 10 ∷ rest)
          → (rest : List ℕ) × (lines a.g.block input ≡ (gone.asked ++ request_of a.g.block line ∷ []) ++ lines a.g.block rest) × (drop (length (passed ++ (line ++ 10 ∷ []))) input ≡ rest)
      known_next input left more at = (
        at.0,
        gone.known input left ∙ ap (λ (l : List ℕ). gone.asked ++ lines a.g.block l) at.1
            ∙ ap (λ (l : List Request). gone.asked ++ l) (lines-next a.g.block line at.0 none more)
            ∙ sym (append_assoc gone.asked (request_of a.g.block line ∷ []) (lines a.g.block at.0)),
        drop-line input passed line at.0 at.1,
      )

      pub gone_on : result ≡ Ok More → HasGone view a c first last from (passed ++ (line ++ 10 ∷ []))
      gone_on is = record {
        asked = gone.asked ++ request_of a.g.block line ∷ [];
        whole = λ rest way d end exchange. subst (λ (all : List Request). Exchange view a first all way d end)
            (sym (append_assoc gone.asked (request_of a.g.block line ∷ []) rest))
            (gone.whole (request_of a.g.block line ∷ rest) way d end (answers b c d mid last end (request_of a.g.block line) rest way (one_is (Ok More) is) exchange));
        known = λ input left.
            let at = known_next input left (goes_more is) (here input left) in
            at.1 ∙ ap (λ (l : List ℕ). (gone.asked ++ request_of a.g.block line ∷ []) ++ lines a.g.block l) (sym at.2);
        fed = one_more gone.asked (request_of a.g.block line) ∙ ap (λ (n : ℕ). n + 1) gone.fed ∙ sym (line_feeds-line passed line none);
      }

      pub session_quits : result ≡ Ok Quit → IsSessionOver view a c (Ok ended.Quit) first last from to
      session_quits is = record {
        asked = gone.asked ++ [];
        exchange = quitted is;
        lines = λ input left. let at = here input left in
            gone.known input left ∙ ap (λ (l : List ℕ). gone.asked ++ lines a.g.block l) at.1
            ∙ ap (λ (l : List Request). gone.asked ++ l) (lines-quit a.g.block line at.0 none (exact_first.0 is));
        read = tt;
      }

      pub session_line_fails : (fault : SessionFault) → result ≡ Err fault → IsSessionOver view a c (Err fault) first last from to
      session_line_fails fault is = record {
        asked = gone.asked ++ request_of a.g.block line ∷ [];
        exchange = failed fault is;
        lines = λ input left. let at = known_next input left (goes_fault fault is) (here input left) in (lines a.g.block at.0, at.1);
        read = read_else fault is (gone.asked ++ request_of a.g.block line ∷ []);
      }

    -- the last line, without one
    module _ (here : (input : List ℕ) → from.left ≡ Some input → drop (length passed) input ≡ line) (some : 0 < length line) where
      known_last : (input : List ℕ) → from.left ≡ Some input → goes_on (request_of a.g.block line) ≡ true → lines a.g.block input ≡ gone.asked ++ request_of a.g.block line ∷ []
      known_last input left more = gone.known input left ∙ ap (λ (l : List ℕ). gone.asked ++ lines a.g.block l) (here input left)
          ∙ ap (λ (l : List Request). gone.asked ++ l) (lines-last a.g.block line none some more)

      pub session_last : (way : Next) → result ≡ Ok way → IsSessionOver view a c (Ok (ended_by way)) first last from to
      session_last More is = record {
        asked = gone.asked ++ request_of a.g.block line ∷ [];
        exchange = gone.whole (request_of a.g.block line ∷ []) (Ok ended.Input) c last
            (answers b c c mid last last (request_of a.g.block line) [] (Ok ended.Input) (one_is (Ok More) is) (input_ends c last));
        lines = λ input left. known_last input left (goes_more is);
        read = tt;
      }
      session_last Quit is = record {
        asked = gone.asked ++ [];
        exchange = quitted is;
        lines = λ input left. gone.known input left ∙ ap (λ (l : List ℕ). gone.asked ++ lines a.g.block l) (here input left)
            ∙ ap (λ (l : List Request). gone.asked ++ l) (lines-last_quit a.g.block line none some (exact_first.0 is));
        read = tt;
      }

      pub session_last_fails : (fault : SessionFault) → result ≡ Err fault → IsSessionOver view a c (Err fault) first last from to
      session_last_fails fault is = record {
        asked = gone.asked ++ request_of a.g.block line ∷ [];
        exchange = failed fault is;
        lines = λ input left. ([], known_last input left (goes_fault fault is) ∙ sym (append-nil (gone.asked ++ request_of a.g.block line ∷ [])));
        read = read_else fault is (gone.asked ++ request_of a.g.block line ∷ []);
      }
