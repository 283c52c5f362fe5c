-- How a walk over lines goes on and stops, over any store whose machine replies to every request but `Q`.
use Rattle.std.proofs.Common.{◌≡◌, ◌⊎◌, inl, inr, ℕ, ◌+◌, ◌-◌, ◌<◌, ◌≤◌, ◌↔◌, Bool, List, [], ◌∷◌, ◌++◌, length, take, drop, Option, Some, None, true, false, Result, Ok, Err, refl, sym, ap, subst, ◌∙◌, append_assoc, length-append, length-take, length-drop, arith}
use Rattle.std.specs.Io.KnownBytes.{Consumes, IsAtEnd, prepend_known}
use Rattle.std.proofs.KnownBytes.{prepend_known-nil, Consumes-trans}
use Rattle.std.proofs.Math.Seq.{take-append_seam}
use Rattle.trap_bank.specs.Disks.{Contents, Disks, View}
use Rattle.trap_bank.specs.Stream.{Stream}
use Rattle.trap_model.specs.declared.request.Request.{Request}
use Rattle.trap_script.specs.Lines.{lines, line_feeds, request_of, goes_on, HasNoFeed}
use Rattle.trap_script.specs.Walk.{state_after}
use Rattle.trap_script.proofs.WalkLemmas.{state_after-next}
use Rattle.trap_script.proofs.InputLemmas.{lines-quit, lines-last_quit, line_feeds-front, line_feeds-line, passed_from, next_passed}
use Rattle.trap_script.proofs.GivenLemmas.{AnswersByLines}
use Rattle.trap_lines.specs.declared.reader.LineReader.{LineReader}
use Rattle.trap_lines.specs.Reader.{unread, to_come, taken, Passes, IsEnd}
use Rattle.trap_lines.proofs.Passing.{passes_trans}
use Rattle.trap_session.specs.declared.outcome.Next.{Next}
use Rattle.trap_session.specs.declared.outcome.Next.TheVariants.{More, Quit}
use Rattle.trap_session.specs.declared.outcome.SessionFault.{SessionFault}
use Rattle.trap_session.specs.declared.outcome.SessionFault.TheVariants.{Array, ReadFault, WriteFault, TooLong}
use Rattle.trap_session.specs.Store.{Store, Served, Answering}
use Rattle.trap_array.specs.Calls.{Mounted}
use Rattle.trap_session.specs.Serving.{StopsAs, StopsBy, StopsDone, StopsAfter, AreWholeLines, Took, TookQuit, ended_by, bytes_taken}
use Rattle.trap_session.proofs.Arrays.{torn_by}
use Rattle.trap_session.proofs.Walking.{Walked, StopsAtPort, next_line, next_last, walk_on, stops_done, stops_last, stops_torn, stops_at_port, stops_part, last_here}

-- What the reader passed over is a front of the input.
module _ (r0 r : LineReader) (s0 s : Stream) (none0 : unread r0 ≡ []) (input : List ℕ) (left : s0.left ≡ Some input)
    (passed : List ℕ) (before : Passes passed r0 r s0 s) where
  known_start : to_come r0 s0 ≡ Some input
  known_start = ap (λ l. prepend_known l s0.left) none0 ∙ prepend_known-nil s0.left ∙ left

  pub consumed : Consumes (Some input) (to_come r s) passed
  consumed = subst (λ o. Consumes o (to_come r s) passed) known_start before.bytes

  line_here : (r' : LineReader) (s' : Stream) (line : List ℕ) → Passes (line ++ 10 ∷ []) r r' s s'
      → drop (length passed) input ≡ line ++ 10 ∷ drop (length (line ++ 10 ∷ [])) (drop (length passed) input)
  line_here r' s' line next =
      next_passed input passed (line ++ 10 ∷ []) (to_come r s) (to_come r' s') consumed next.bytes
      ∙ append_assoc line (10 ∷ []) (drop (length (line ++ 10 ∷ [])) (drop (length passed) input))

  -- and after it some more
  pub line_at : (r' : LineReader) (s' : Stream) (line : List ℕ) → Passes (line ++ 10 ∷ []) r r' s s'
      → (rest : List ℕ) × (drop (length passed) input ≡ line ++ 10 ∷ rest)
  line_at r' s' line next = (drop (length (line ++ 10 ∷ [])) (drop (length passed) input), line_here r' s' line next)

  pub last_line : (r' : LineReader) (s' : Stream) (line : List ℕ) → Passes line r r' s s' → IsAtEnd (to_come r' s')
      → drop (length passed) input ≡ line
  last_line r' s' line next end = last_here input passed line (to_come r s) (to_come r' s') consumed next.bytes end

all_passed : (r : LineReader) → unread r ≡ [] → r.end ≤ length r.chunk.items → taken r ≡ r.used
all_passed r none inside =
    omega (arith, inside, ap (λ (l : List ℕ). length l) none, length-take (r.end - r.at) (drop r.at r.chunk.items), length-drop r.at r.chunk.items)

-- No line was found: as many lines were taken whole as were passed over.
pub feeds_taken : (input passed front : List ℕ) (r0 r r' : LineReader) (s0 s s' : Stream)
    → unread r0 ≡ [] → taken r0 ≡ 0 → s0.left ≡ Some input
    → Passes passed r0 r s0 s → Passes front r r' s s' → HasNoFeed front → unread r' ≡ [] → r'.end ≤ length r'.chunk.items
    → line_feeds (bytes_taken input s0 s') ≡ line_feeds passed
feeds_taken input passed front r0 r r' s0 s s' none0 untaken left before next none none' inside =
    let both = passes_trans before next in
    let given = both.given in
    let used = both.used in
    let all = all_passed r' none' inside in
    let count : s'.given - s0.given ≡ length (passed ++ front) = omega (arith, given, used, all, untaken) in
    let whole = passed_from input (passed ++ front) (to_come r' s') (consumed r0 r' s0 s' none0 input left (passed ++ front) both) in
    let bytes : bytes_taken input s0 s' ≡ passed ++ front =
    ap (λ n. take n input) count ∙ ap (take (length (passed ++ front))) whole.1
    ∙ take-append_seam (passed ++ front) (drop (length (passed ++ front)) input) in
    ap line_feeds bytes ∙ line_feeds-front passed front none

-- those lines were answered
pub stops_reading : {S : Type 0} (store : Store S) (st : S) (input passed front : List ℕ) (old now : Contents)
    (r0 r r' : LineReader) (s0 s s' : Stream) → Walked store st input passed old now
    → unread r0 ≡ [] → taken r0 ≡ 0 → s0.left ≡ Some input
    → Passes passed r0 r s0 s → Passes front r r' s s' → HasNoFeed front → unread r' ≡ [] → r'.end ≤ length r'.chunk.items
    → StopsAfter store st input (line_feeds (bytes_taken input s0 s')) old now
stops_reading store st input passed front old now r0 r r' s0 s s' walked none0 untaken left before next none none' inside =
    let feeds = feeds_taken input passed front r0 r r' s0 s s' none0 untaken left before next none none' inside in
    subst (λ j. StopsAfter store st input j old now) (sym feeds) walked.answered

-- The answer to one line.
module _ {S : Type 0} (store : Store S) (by_lines : AnswersByLines store.machine)
    (torn_next : (disks : Disks) (t : S) (asked : Request) → store.torn disks t asked → store.holds disks t ⊎ store.holds disks (store.machine.next t asked))
    (x y z : Contents) (st : S) (input passed : List ℕ) (state : S)
    (walked : Walked store st input passed x y)
    (same : state_after store.machine st (lines store.block input) (line_feeds passed) ≡ state)
    (line : List ℕ) (none : HasNoFeed line) where
  -- while it is answered
  part_of : (more : (goes_on (request_of store.block line) ≡ true) → (rest : List Request) × (drop (line_feeds passed) (lines store.block input) ≡ request_of store.block line ∷ rest))
      → Answering store state (request_of store.block line) y z → StopsAtPort store st input x z
  part_of next answering = stops_part store st input passed x y walked torn_next (request_of store.block line) z by_lines next
      (subst (λ (t : S). Answering store t (request_of store.block line) y z) (sym same) answering)

  served_now : (result : Result Next SessionFault) → Served store result state (request_of store.block line) y z
      → Served store result (state_after store.machine st (lines store.block input) (line_feeds passed)) (request_of store.block line) y z
  served_now result served = subst (λ (t : S). Served store result t (request_of store.block line) y z) (sym same) served

  -- after it, where a disk or the port failed
  fault_of : (from to : Stream) (rest : List Request) (fault : SessionFault)
      → ((goes_on (request_of store.block line) ≡ true) → drop (line_feeds passed) (lines store.block input) ≡ request_of store.block line ∷ rest)
      → Served store (Err fault) state (request_of store.block line) y z → StopsAs store (Err fault) st input x z from to
  fault_of from to rest (Array denied) next served =
      torn_by store denied st (state_after store.machine st (lines store.block input) (line_feeds passed)) (request_of store.block line) input x y z from to
      (λ struck. stops_torn store st input passed x y walked (request_of store.block line) rest z (next struck.more) struck)
      (served_now (Err (Array denied)) served)
  fault_of from to rest ReadFault next served = absurd served
  fault_of from to rest WriteFault next served =
      let cut = served_now (Err WriteFault) served in
      stops_at_port store st input passed x y walked (request_of store.block line) rest z by_lines (next cut.more) cut
  fault_of from to rest TooLong next served = absurd served

  -- a line with a line feed
  module _ (rest : List ℕ) (here : drop (length passed) input ≡ line ++ 10 ∷ rest) where
    pub part_line : Answering store state (request_of store.block line) y z → StopsAtPort store st input x z
    part_line answering = part_of (λ more. (lines store.block rest, next_line store st input passed x y walked line rest here none more)) answering

    pub more_line : Served store (Ok More) state (request_of store.block line) y z → Walked store st input (passed ++ (line ++ 10 ∷ [])) x z
    more_line served = walk_on store st input passed x y walked line rest z here none (served_now (Ok More) served)

    pub more_state : Served store (Ok More) state (request_of store.block line) y z
        → state_after store.machine st (lines store.block input) (line_feeds (passed ++ (line ++ 10 ∷ []))) ≡ store.machine.next state (request_of store.block line)
    more_state served =
        let next = next_line store st input passed x y walked line rest here none served.more in
        ap (state_after store.machine st (lines store.block input)) (line_feeds-line passed line none)
        ∙ state_after-next store.machine st (lines store.block input) (line_feeds passed) (request_of store.block line) (lines store.block rest) next
        ∙ ap (λ (t : S). store.machine.next t (request_of store.block line)) same

    pub quit_line : Served store (Ok Quit) state (request_of store.block line) y z → StopsDone store st input x z
    quit_line served =
        let left = served_now (Ok Quit) served in
        stops_done store st input passed x y walked z
        (walked.ahead ∙ ap (lines store.block) here ∙ lines-quit store.block line rest none left.0) left.1.said left.1.holds

    pub fault_line : (from to : Stream) (fault : SessionFault) → Served store (Err fault) state (request_of store.block line) y z → StopsAs store (Err fault) st input x z from to
    fault_line from to fault served = fault_of from to (lines store.block rest) fault (λ more. next_line store st input passed x y walked line rest here none more) served

  -- a last line without one
  module _ (here : drop (length passed) input ≡ line) (some : 0 < length line) where
    pub part_last : Answering store state (request_of store.block line) y z → StopsAtPort store st input x z
    part_last answering = part_of (λ more. ([], next_last store st input passed x y walked line here none some more)) answering

    pub done_last : (next : Next) → Served store (Ok next) state (request_of store.block line) y z → StopsDone store st input x z
    done_last More served = stops_last store st input passed x y walked line z here none some (served_now (Ok More) served)
    done_last Quit served =
        let left = served_now (Ok Quit) served in
        stops_done store st input passed x y walked z
        (walked.ahead ∙ ap (lines store.block) here ∙ lines-last_quit store.block line none some left.0) left.1.said left.1.holds

    pub fault_last : (from to : Stream) (fault : SessionFault) → Served store (Err fault) state (request_of store.block line) y z → StopsAs store (Err fault) st input x z from to
    fault_last from to fault served = fault_of from to [] fault (λ more. next_last store st input passed x y walked line here none some more) served

-- nothing is left to answer
pub stops_end : {S : Type 0} (store : Store S) (st : S) (input passed : List ℕ) (old now : Contents) → Walked store st input passed old now
    → drop (length passed) input ≡ [] → StopsDone store st input old now
stops_end store st input passed old now walked here =
    stops_done store st input passed old now walked now (walked.ahead ∙ ap (lines store.block) here) refl walked.answered.holds

-- one more line is whole
pub one_more_line : (passed line : List ℕ) → AreWholeLines (passed ++ (line ++ 10 ∷ []))
one_more_line passed line = inr (passed ++ line, sym (append_assoc passed line (10 ∷ [])))

-- a reader that had taken nothing took these bytes and those that are pending
module _ (r0 r' : LineReader) (s0 s' : Stream) (passed : List ℕ) (none0 : unread r0 ≡ []) (untaken : taken r0 ≡ 0)
    (inside : r'.end ≤ length r'.chunk.items) (passes : Passes passed r0 r' s0 s') where
  taken_bytes : Consumes s0.left s'.left (passed ++ unread r')
  taken_bytes =
      let start : Consumes s0.left (to_come r' s') passed =
      subst (λ o. Consumes o (to_come r' s') passed) (ap (λ l. prepend_known l s0.left) none0 ∙ prepend_known-nil s0.left) passes.bytes in
      Consumes-trans s0.left (to_come r' s') s'.left passed (unread r') start (consumes_pending s'.left (unread r'))
    where
      consumes_pending : (left : Option (List ℕ)) (bytes : List ℕ) → Consumes (prepend_known bytes left) left bytes
      consumes_pending None bytes = tt
      consumes_pending (Some rest) bytes = refl

  bytes_long : length (passed ++ unread r') ≡ taken r'
  bytes_long =
      let used = passes.used in
      omega (
        arith,
        used,
        untaken,
        inside,
        length-append passed (unread r'),
        length-take (r'.end - r'.at) (drop r'.at r'.chunk.items),
        length-drop r'.at r'.chunk.items,
      )

  bytes_given : s'.given ≡ s0.given + length (passed ++ unread r')
  bytes_given = let given = passes.given in let long = bytes_long in omega (arith, given, long, untaken)

  pub took_some : Took s0 s'
  took_some = record {
    bytes = passed ++ unread r';
    taken = taken_bytes;
    given = bytes_given;
    most = let long = bytes_long in let most = r'.at_most in omega (arith, long, most);
  }

-- a `Q` was taken
pub took_quit : (size : ℕ) (r0 r r' : LineReader) (s0 s s' : Stream) (passed line : List ℕ) → unread r0 ≡ [] → taken r0 ≡ 0
    → r'.end ≤ length r'.chunk.items → AreWholeLines passed
    → Passes passed r0 r s0 s → Passes (line ++ 10 ∷ []) r r' s s' → HasNoFeed line → goes_on (request_of size line) ≡ false
    → TookQuit size s0 s'
took_quit size r0 r r' s0 s s' passed line none0 untaken inside whole before next none quit = record {
  bytes = (passed ++ (line ++ 10 ∷ [])) ++ unread r';
  taken = taken_bytes r0 r' s0 s' (passed ++ (line ++ 10 ∷ [])) none0 untaken inside (passes_trans before next);
  given = bytes_given r0 r' s0 s' (passed ++ (line ++ 10 ∷ [])) none0 untaken inside (passes_trans before next);
  has_quit = inl (record {
    before = passed;
    line = line;
    rest = unread r';
    parts = append_assoc passed (line ++ 10 ∷ []) (unread r') ∙ ap (λ l. passed ++ l) (append_assoc line (10 ∷ []) (unread r'));
    whole = whole;
    no_feed = none;
    quit = quit;
  });
}

-- and one without a line feed, at the input's end
pub took_last_quit : (size : ℕ) (r0 r r' : LineReader) (s0 s s' : Stream) (passed line : List ℕ) → unread r0 ≡ [] → taken r0 ≡ 0
    → r'.end ≤ length r'.chunk.items → AreWholeLines passed
    → Passes passed r0 r s0 s → Passes line r r' s s' → IsEnd r' s' → HasNoFeed line → goes_on (request_of size line) ≡ false
    → TookQuit size s0 s'
took_last_quit size r0 r r' s0 s s' passed line none0 untaken inside whole before next end none quit = record {
  bytes = (passed ++ line) ++ unread r';
  taken = taken_bytes r0 r' s0 s' (passed ++ line) none0 untaken inside (passes_trans before next);
  given = bytes_given r0 r' s0 s' (passed ++ line) none0 untaken inside (passes_trans before next);
  has_quit = inr (record {
    before = passed;
    line = line;
    rest = unread r';
    parts = append_assoc passed line (unread r');
    whole = whole;
    no_feed = none;
    quit = quit;
    none_left = end.0;
    ended = end.1;
  });
}

-- nothing is left where nothing is to come
pub none_left : (r : LineReader) (s : Stream) → IsAtEnd (to_come r s) → IsAtEnd s.left
none_left r s end = behind s.left (unread r) end
  where
    behind : (left : Option (List ℕ)) (bytes : List ℕ) → IsAtEnd (prepend_known bytes left) → IsAtEnd left
    behind None bytes end = tt
    behind (Some rest) [] end = end
    behind (Some rest) (byte ∷ bytes) end = absurd (cc end)

-- why a session ended with its last line
pub ended_last : (a : Mounted) (old new : View) (from to : Stream) (next : Next) (on : Bool) → to.ended ≡ true
    → (◌≡◌ {A = Result Next SessionFault} (Ok next) (Ok Quit)) ↔ (on ≡ false) → (on ≡ false → TookQuit a.g.block from to) → StopsBy a (Ok (ended_by next)) old new from to
ended_last a old new from to More on end exact took = end
ended_last a old new from to Quit on end exact took = took (exact.0 refl)
