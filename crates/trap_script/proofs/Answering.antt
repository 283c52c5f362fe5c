-- Answering one request more, over any machine and any store.
use Rattle.std.proofs.Common.{arith, ◌≡◌, ◌⊎◌, inl, inr, ℕ, ◌+◌, ◌≤◌, length, drop, List, [], ◌∷◌, ◌++◌, append_assoc, sym, ◌∙◌, ap, subst, true}
use Rattle.std.proofs.lemmas.List.{append-nil}
use Rattle.std.specs.List.{All}
use Rattle.trap_model.specs.Given.{given}
use Rattle.trap_model.specs.Machine.{Machine}
use Rattle.trap_model.specs.declared.request.Request.{Request}
use Rattle.trap_script.specs.Lines.{goes_on}
use Rattle.trap_script.specs.Replies.{reply_text}
use Rattle.trap_script.specs.Walk.{state_after, reply_texts, first_texts, all_texts, Answered, AnsweredAll, AnsweredPart}
use Rattle.trap_script.proofs.WalkLemmas.{state_after-next, first_texts-next, state_after-all, first_texts-all, texts_after}
use Rattle.trap_script.proofs.GivenLemmas.{AnswersByLines, below_end, given_replies, given_or_next}

-- before the first request
pub answered_none : {S : Type 0} (m : Machine S) (Holds : S → Type 0) (s : S) (all : List Request) (before : List ℕ)
    → Holds s → Answered m Holds s all 0 before before
answered_none m Holds s all before holds = record { within = omega arith; said = sym (append-nil before); holds = holds }

-- the next reply was said, and the store holds the next state
pub answered_next : {S : Type 0} (m : Machine S) (Holds Holds' : S → Type 0) (s : S) (all : List Request) (j : ℕ)
    (x : Request) (rest : List Request) (before mid now : List ℕ) → Answered m Holds s all j before mid → drop j all ≡ x ∷ rest
    → now ≡ mid ++ reply_text (m.reply (state_after m s all j) x) → Holds' (m.next (state_after m s all j) x)
    → Answered m Holds' s all (j + 1) before now
answered_next m Holds Holds' s all j x rest before mid now so_far at said holds = record {
  within = omega (arith, below_end all j x rest at);
  said = said
      ∙ ap (λ bytes. bytes ++ reply_text (m.reply (state_after m s all j) x)) so_far.said
      ∙ append_assoc before (first_texts m s all j) (reply_text (m.reply (state_after m s all j) x))
      ∙ ap (λ bytes. before ++ bytes) (sym (first_texts-next m s all j x rest at));
  holds = subst Holds' (sym (state_after-next m s all j x rest at)) holds;
}

-- there is no request more
pub answered_all : {S : Type 0} (m : Machine S) (Holds : S → Type 0) (s : S) (all : List Request) (j : ℕ)
    (before now : List ℕ) → Answered m Holds s all j before now → drop j all ≡ []
    → AnsweredAll m Holds s all before now
answered_all m Holds s all j before now so_far none = record {
  said = so_far.said ∙ ap (λ bytes. before ++ bytes) (first_texts-all m s all j none);
  holds = subst Holds (state_after-all m s all j none) so_far.holds;
}

-- the first replies are given, and the store holds the state after their requests or after one more
pub answered_part : {S : Type 0} (m : Machine S) (Holds : S → Type 0) (s : S) (all : List Request) (j : ℕ)
    (before now : List ℕ) → AnswersByLines m → All (λ request. goes_on request ≡ true) all → j ≤ length all
    → now ≡ before ++ first_texts m s all j
    → Holds (state_after m s all j) ⊎ Holds (state_after m s all (j + 1))
    → AnsweredPart m Holds s all before now
answered_part m Holds s all j before now lines more within said holds = record {
  part = first_texts m s all j;
  rest = all_texts m (state_after m s all j) (drop j all);
  said = said;
  front = texts_after m s all j;
  holds = subst (λ c. Holds (state_after m s all c) ⊎ Holds (state_after m s all (c + 1)))
      (sym (given_replies m lines s all j more within)) holds;
}

-- a part of the next reply was said, and the store holds the state after its request
pub answered_in_reply : {S : Type 0} (m : Machine S) (Holds : S → Type 0) (s : S) (all : List Request) (j : ℕ)
    (x : Request) (rest : List Request) (front behind before now : List ℕ) → AnswersByLines m
    → All (λ request. goes_on request ≡ true) all → drop j all ≡ x ∷ rest
    → reply_text (m.reply (state_after m s all j) x) ≡ front ++ behind
    → now ≡ before ++ (first_texts m s all j ++ front)
    → Holds (m.next (state_after m s all j) x)
    → AnsweredPart m Holds s all before now
answered_in_reply m Holds s all j x rest front behind before now lines more at is said holds =
    let next : Holds (state_after m s all (j + 1)) = subst Holds (sym (state_after-next m s all j x rest at)) holds in
    record {
      part = first_texts m s all j ++ front;
      rest = behind ++ all_texts m (state_after m s all (j + 1)) (drop (j + 1) all);
      said = said;
      front = texts_after m s all (j + 1)
          ∙ ap (λ bytes. bytes ++ all_texts m (state_after m s all (j + 1)) (drop (j + 1) all))
          (first_texts-next m s all j x rest at
          ∙ ap (λ bytes. first_texts m s all j ++ bytes) is
          ∙ sym (append_assoc (first_texts m s all j) front behind))
          ∙ append_assoc (first_texts m s all j ++ front) behind (all_texts m (state_after m s all (j + 1)) (drop (j + 1) all));
      holds = elim (given_or_next m lines s all j x rest front behind more at is)
          as (λ _. Holds (state_after m s all (given (reply_texts m s all) (first_texts m s all j ++ front)))
          ⊎ Holds (state_after m s all (given (reply_texts m s all) (first_texts m s all j ++ front) + 1))) [
            | inl same ↦ inr (subst (λ c. Holds (state_after m s all (c + 1))) (sym same) next)
            | inr one ↦ inl (subst (λ c. Holds (state_after m s all c)) (sym one) next)
          ];
    }
