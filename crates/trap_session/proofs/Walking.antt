-- The walk of a session over its lines, over any store.
use Rattle.std.proofs.Common.{◌≡◌, ◌⊎◌, inl, inr, ℕ, zero, suc, ◌+◌, ◌<◌, List, [], ◌∷◌, ◌++◌, length, drop, Option, Some, None, true, refl, sym, ap, subst, ◌∙◌, append_assoc, append-nil, length-drop, add-one, arith}
use Rattle.std.specs.Io.KnownBytes.{Consumes, IsAtEnd}
use Rattle.std.proofs.Math.Seq.{drop-append_seam}
use Rattle.trap_bank.specs.Disks.{Contents, Disks}
use Rattle.trap_model.specs.Given.{given}
use Rattle.trap_model.specs.declared.request.Request.{Request}
use Rattle.trap_script.specs.Lines.{lines, line_feeds, request_of, goes_on, HasNoFeed}
use Rattle.trap_script.specs.Replies.{reply_text}
use Rattle.trap_script.specs.Walk.{state_after, reply_texts, first_texts, all_texts, AnsweredPart}
use Rattle.trap_script.proofs.WalkLemmas.{state_after-next, first_texts-next, state_after-all, first_texts-all, texts_after}
use Rattle.trap_script.proofs.InputLemmas.{lines-next, lines-last, lines_go_on, line_feeds-line, drop-line}
use Rattle.trap_script.proofs.GivenLemmas.{AnswersByLines, given_or_next}
use Rattle.trap_script.proofs.Answering.{answered_part}
use Rattle.trap_session.specs.Store.{Store, Replied, CutShort, Struck, Answering}
use Rattle.trap_session.specs.Serving.{StopsDone, StopsAfter, StopsTorn}

-- a part of the replies was said
abbrev pub StopsAtPort : {S : Type 0} → Store S → S → List ℕ → Contents → Contents → Type 0
StopsAtPort store s input old now = AnsweredPart store.machine (store.holds now.disks) s (lines store.block input) old.said now.said

-- The bytes so far are whole lines, and each was answered.
pub record Walked {S : Type 0} (store : Store S) (s : S) (input passed : List ℕ) (old now : Contents) : Type 0 where
  pub ahead : drop (line_feeds passed) (lines store.block input) ≡ lines store.block (drop (length passed) input)
  pub answered : StopsAfter store s input (line_feeds passed) old now

pub walk_start : {S : Type 0} (store : Store S) (s : S) (input : List ℕ) (old : Contents) → store.holds old.disks s → Walked store s input [] old old
walk_start store s input old holds = record {
  ahead = refl;
  answered = record { within = omega arith; said = sym (append-nil old.said); holds = holds };
}

module _ {S : Type 0} (store : Store S) (s : S) (input passed : List ℕ) (old mid : Contents) (walked : Walked store s input passed old mid) where
  -- the state that the lines so far lead to
  abbrev pub now_at : S
  now_at = state_after store.machine s (lines store.block input) (line_feeds passed)

  -- the request of the next line
  pub next_line : (line rest : List ℕ) → drop (length passed) input ≡ line ++ 10 ∷ rest → HasNoFeed line
      → goes_on (request_of store.block line) ≡ true
      → drop (line_feeds passed) (lines store.block input) ≡ request_of store.block line ∷ lines store.block rest
  next_line line rest here none more = walked.ahead ∙ ap (lines store.block) here ∙ lines-next store.block line rest none more

  -- and of the last one
  pub next_last : (line : List ℕ) → drop (length passed) input ≡ line → HasNoFeed line → 0 < length line
      → goes_on (request_of store.block line) ≡ true
      → drop (line_feeds passed) (lines store.block input) ≡ request_of store.block line ∷ []
  next_last line here none some more = walked.ahead ∙ ap (lines store.block) here ∙ lines-last store.block line none some more

  -- one more line is answered
  pub walk_on : (line rest : List ℕ) (new : Contents) → drop (length passed) input ≡ line ++ 10 ∷ rest → HasNoFeed line
      → Replied store now_at (request_of store.block line) mid new → Walked store s input (passed ++ (line ++ 10 ∷ [])) old new
  walk_on line rest new here none step =
      let requests = lines store.block input in
      let next = next_line line rest here none step.more in
      let feeds : line_feeds passed + 1 ≡ line_feeds (passed ++ (line ++ 10 ∷ [])) = sym (line_feeds-line passed line none) in
      let after : StopsAfter store s input (line_feeds passed + 1) old new = record {
        within = omega (arith, length-drop (line_feeds passed) requests, ap length next);
        said = step.said ∙ ap (λ l. l ++ reply_text (store.machine.reply now_at (request_of store.block line))) walked.answered.said
            ∙ append_assoc old.said (first_texts store.machine s requests (line_feeds passed)) (reply_text (store.machine.reply now_at (request_of store.block line)))
            ∙ ap (λ l. old.said ++ l) (sym (first_texts-next store.machine s requests (line_feeds passed) (request_of store.block line) (lines store.block rest) next));
        holds = subst (store.holds new.disks) (sym (state_after-next store.machine s requests (line_feeds passed) (request_of store.block line) (lines store.block rest) next)) step.holds;
      } in
      record {
        ahead = ap (λ n. drop n requests) (sym feeds ∙ add-one (line_feeds passed))
            ∙ drop-next (line_feeds passed) requests (request_of store.block line) (lines store.block rest) next
            ∙ ap (lines store.block) (sym (drop-line input passed line rest here));
        answered = subst (λ j. StopsAfter store s input j old new) feeds after;
      }
    where
      drop-next : (j : ℕ) (all : List Request) (x : Request) (rest : List Request) → drop j all ≡ x ∷ rest → drop (suc j) all ≡ rest
      drop-next zero [] x rest at = absurd (cc at)
      drop-next zero (y ∷ all) x rest at = cc
      drop-next (suc j) [] x rest at = absurd (cc at)
      drop-next (suc j) (y ∷ all) x rest at = drop-next j all x rest at

  -- no request is left
  pub stops_done : (new : Contents) → drop (line_feeds passed) (lines store.block input) ≡ [] → new.said ≡ mid.said → store.holds new.disks now_at
      → StopsDone store s input old new
  stops_done new none said holds =
      let requests = lines store.block input in
      record {
        said = said ∙ walked.answered.said ∙ ap (λ l. old.said ++ l) (first_texts-all store.machine s requests (line_feeds passed) none);
        holds = subst (store.holds new.disks) (state_after-all store.machine s requests (line_feeds passed) none) holds;
      }

  -- the last request is answered
  pub stops_last : (line : List ℕ) (new : Contents) → drop (length passed) input ≡ line → HasNoFeed line → 0 < length line
      → Replied store now_at (request_of store.block line) mid new → StopsDone store s input old new
  stops_last line new here none some step =
      let requests = lines store.block input in
      let x = request_of store.block line in
      let next = next_last line here none some step.more in
      let gone : drop (line_feeds passed + 1) requests ≡ [] =
      ap (λ n. drop n requests) (add-one (line_feeds passed)) ∙ drop-last (line_feeds passed) requests x next in
      record {
        said = step.said ∙ ap (λ l. l ++ reply_text (store.machine.reply now_at x)) walked.answered.said
            ∙ append_assoc old.said (first_texts store.machine s requests (line_feeds passed)) (reply_text (store.machine.reply now_at x))
            ∙ ap (λ l. old.said ++ l) (sym (first_texts-next store.machine s requests (line_feeds passed) x [] next)
            ∙ first_texts-all store.machine s requests (line_feeds passed + 1) gone);
        holds = subst (store.holds new.disks)
            (sym (state_after-next store.machine s requests (line_feeds passed) x [] next) ∙ state_after-all store.machine s requests (line_feeds passed + 1) gone)
            step.holds;
      }
    where
      drop-last : (j : ℕ) (all : List Request) (x : Request) → drop j all ≡ x ∷ [] → drop (suc j) all ≡ []
      drop-last zero [] x at = absurd (cc at)
      drop-last zero (y ∷ all) x at = cc
      drop-last (suc j) [] x at = absurd (cc at)
      drop-last (suc j) (y ∷ all) x at = drop-last j all x at

  -- a disk failed in the next request
  pub stops_torn : (x : Request) (rest : List Request) (new : Contents) → drop (line_feeds passed) (lines store.block input) ≡ x ∷ rest
      → Struck store now_at x mid new → StopsTorn store s input old new
  stops_torn x rest new next step = record {
    j = line_feeds passed;
    asked = x;
    rest = rest;
    next = next;
    said = step.said ∙ walked.answered.said;
    torn = step.torn;
  }

  -- the port failed in the next reply
  pub stops_at_port : (x : Request) (rest : List Request) (new : Contents) → AnswersByLines store.machine
      → drop (line_feeds passed) (lines store.block input) ≡ x ∷ rest → CutShort store now_at x mid new → StopsAtPort store s input old new
  stops_at_port x rest new by_lines next step =
      let requests = lines store.block input in
      let m = store.machine in
      let j = line_feeds passed in
      let text = reply_text (m.reply now_at x) in
      let front = first_texts m s requests j in
      let more = all_texts m (m.next now_at x) rest in
      let behind : all_texts m s requests ≡ front ++ (text ++ more) =
      texts_after m s requests j ∙ ap (λ (all : List Request). front ++ all_texts m now_at all) next in
      let next_state = state_after-next m s requests j x rest next in
      let holds : store.holds new.disks (state_after m s requests (j + 1)) = subst (store.holds new.disks) (sym next_state) step.holds in
      record {
        part = front ++ step.part.part;
        rest = step.part.rest ++ more;
        said = step.part.said ∙ ap (λ l. l ++ step.part.part) walked.answered.said ∙ append_assoc old.said front step.part.part;
        front = behind ∙ ap (λ l. front ++ (l ++ more)) (sym step.part.whole)
            ∙ ap (λ l. front ++ l) (append_assoc step.part.part step.part.rest more)
            ∙ sym (append_assoc front step.part.part (step.part.rest ++ more));
        holds = either_way j front step.part.part holds
            (given_or_next m by_lines s requests j x rest step.part.part step.part.rest (lines_go_on store.block input) next (sym step.part.whole));
      }
    where
      either_way : (j : ℕ) (front part : List ℕ)
          → store.holds new.disks (state_after store.machine s (lines store.block input) (j + 1))
          → (given (reply_texts store.machine s (lines store.block input)) (front ++ part) ≡ j)
          ⊎ (given (reply_texts store.machine s (lines store.block input)) (front ++ part) ≡ j + 1)
          → store.holds new.disks (state_after store.machine s (lines store.block input) (given (reply_texts store.machine s (lines store.block input)) (front ++ part)))
          ⊎ store.holds new.disks (state_after store.machine s (lines store.block input) (given (reply_texts store.machine s (lines store.block input)) (front ++ part) + 1))
      either_way j front part holds (inl is) = inr (subst (λ k. store.holds new.disks (state_after store.machine s (lines store.block input) (k + 1))) (sym is) holds)
      either_way j front part holds (inr is) = inl (subst (λ k. store.holds new.disks (state_after store.machine s (lines store.block input) k)) (sym is) holds)

  -- while the next line is answered, a part of the replies is said
  pub stops_part : (torn_next : (disks : Disks) (t : S) (y : Request) → store.torn disks t y → store.holds disks t ⊎ store.holds disks (store.machine.next t y)) (x : Request) (new : Contents)
      → AnswersByLines store.machine → ((more : goes_on x ≡ true) → (rest : List Request) × (drop (line_feeds passed) (lines store.block input) ≡ x ∷ rest))
      → Answering store now_at x mid new → StopsAtPort store s input old new
  stops_part torn_next x new by_lines next answering = elim answering as (λ _. StopsAtPort store s input old new) [
    | inl waits ↦ answered_part store.machine (store.holds new.disks) s (lines store.block input) (line_feeds passed) old.said new.said by_lines
        (lines_go_on store.block input) walked.answered.within (waits.said ∙ walked.answered.said) (inl waits.holds)
    | inr (inl struck) ↦ let at = next struck.more in
        answered_part store.machine (store.holds new.disks) s (lines store.block input) (line_feeds passed) old.said new.said by_lines
        (lines_go_on store.block input) walked.answered.within (struck.said ∙ walked.answered.said) (torn_either at.0 at.1 (torn_next new.disks now_at x struck.torn))
    | inr (inr cut) ↦ let at = next cut.more in stops_at_port x at.0 new by_lines at.1 cut
  ]
    where
      torn_either : (rest : List Request) → drop (line_feeds passed) (lines store.block input) ≡ x ∷ rest
          → store.holds new.disks now_at ⊎ store.holds new.disks (store.machine.next now_at x)
          → store.holds new.disks now_at ⊎ store.holds new.disks (state_after store.machine s (lines store.block input) (line_feeds passed + 1))
      torn_either rest at (inl holds) = inl holds
      torn_either rest at (inr holds) = inr (subst (store.holds new.disks) (sym (state_after-next store.machine s (lines store.block input) (line_feeds passed) x rest at)) holds)

-- what is left is the last line
pub last_here : (input passed line : List ℕ) (left left' : Option (List ℕ)) → Consumes (Some input) left passed → Consumes left left' line
    → IsAtEnd left' → drop (length passed) input ≡ line
last_here input passed line None left' gave next end = absurd gave
last_here input passed line (Some rest) None gave next end = absurd next
last_here input passed line (Some rest) (Some none) gave next end =
    ap (drop (length passed)) gave ∙ drop-append_seam passed rest ∙ next ∙ ap (λ l. line ++ l) end ∙ append-nil line
