-- What a machine goes through and says over a list of requests.
use Rattle.std.specs.Prelude.{◌≡◌, ◌⊎◌, ℕ, ◌+◌, ◌≤◌, List, [], ◌∷◌, ◌++◌, length, map, take}
use Rattle.std.specs.Prelude.{flat_map}
use Rattle.trap_model.specs.Given.{given}
use Rattle.trap_model.specs.Machine.{Machine}
use Rattle.trap_model.specs.declared.request.Request.{Request}
use Rattle.trap_model.specs.declared.request.Reply.{Reply}
use Rattle.trap_script.specs.Replies.{reply_text}

-- the states, from the first one on: one more than there are requests
abbrev pub states : {S : Type 0} → Machine S → S → List Request → List S
states m s [] = s ∷ []
states m s (request ∷ requests) = s ∷ states m (m.next s request) requests

-- the state after all requests
abbrev pub last_state : {S : Type 0} → Machine S → S → List Request → S
last_state m s [] = s
last_state m s (request ∷ requests) = last_state m (m.next s request) requests

-- the state after the first j requests
abbrev pub state_after : {S : Type 0} → Machine S → S → List Request → ℕ → S
state_after m s requests j = last_state m s (take j requests)

-- the replies, one for each request
abbrev pub replies : {S : Type 0} → Machine S → S → List Request → List Reply
replies m s [] = []
replies m s (request ∷ requests) = m.reply s request ∷ replies m (m.next s request) requests

-- their texts
abbrev pub reply_texts : {S : Type 0} → Machine S → S → List Request → List (List ℕ)
reply_texts m s requests = map reply_text (replies m s requests)

-- the texts of the first j replies, one after the other
abbrev pub first_texts : {S : Type 0} → Machine S → S → List Request → ℕ → List ℕ
first_texts m s requests j = flat_map (λ text. text) (take j (reply_texts m s requests))

-- the texts of all replies, one after the other
abbrev pub all_texts : {S : Type 0} → Machine S → S → List Request → List ℕ
all_texts m s requests = flat_map (λ text. text) (reply_texts m s requests)

-- the first j of these texts, one after the other, begin the bytes
abbrev pub AreSaid : ℕ → List (List ℕ) → List ℕ → Type 0
AreSaid j texts bytes = (rest : List ℕ) × (bytes ≡ flat_map (λ text. text) (take j texts) ++ rest)

-- Below, a store holds states, and bytes are said on a port: the list of all that was said before,
-- and of all that is said now.

-- the first j replies were said, and the store holds the state after their requests
pub record Answered {S : Type 0} (m : Machine S) (Holds : S → Type 0) (s : S)
    (requests : List Request) (j : ℕ) (before now : List ℕ) : Type 0 where
  pub within : j ≤ length requests
  pub said : now ≡ before ++ first_texts m s requests j
  pub holds : Holds (state_after m s requests j)

-- every reply was said, and the store holds the last state
pub record AnsweredAll {S : Type 0} (m : Machine S) (Holds : S → Type 0) (s : S)
    (requests : List Request) (before now : List ℕ) : Type 0 where
  pub said : now ≡ before ++ all_texts m s requests
  pub holds : Holds (last_state m s requests)

-- a front of the replies was said, and the store holds the state after the requests whose replies
-- were given, or after one more
pub record AnsweredPart {S : Type 0} (m : Machine S) (Holds : S → Type 0) (s : S)
    (requests : List Request) (before now : List ℕ) : Type 0 where
  pub part : List ℕ
  pub rest : List ℕ
  pub said : now ≡ before ++ part
  pub front : all_texts m s requests ≡ part ++ rest
  pub holds : Holds (state_after m s requests (given (reply_texts m s requests) part))
      ⊎ Holds (state_after m s requests (given (reply_texts m s requests) part + 1))
