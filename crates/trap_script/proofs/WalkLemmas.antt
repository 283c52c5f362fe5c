-- The states of a machine and the texts of its replies, over any machine.
use Rattle.std.proofs.Common.{arith, add-one, ◌≡◌, ℕ, zero, suc, ◌+◌, ◌≤◌, length, take, drop, Some, slice_get, List, [], ◌∷◌, ◌++◌, append_assoc, sym, ◌∙◌, ap, refl}
use Rattle.std.proofs.lemmas.List.{append-nil}
use Rattle.trap_model.specs.Machine.{Machine}
use Rattle.trap_model.specs.declared.request.Request.{Request}
use Rattle.trap_script.specs.Replies.{reply_text}
use Rattle.trap_script.specs.Walk.{states, last_state, state_after, replies, first_texts, all_texts}

next_state : {S : Type 0} (m : Machine S) (s : S) (all : List Request) (j : ℕ) (x : Request) (rest : List Request)
    → drop j all ≡ x ∷ rest → last_state m s (take (suc j) all) ≡ m.next (last_state m s (take j all)) x
next_state m s [] zero x rest at = absurd (cc)
next_state m s [] (suc j) x rest at = absurd (cc)
next_state m s (y ∷ all) zero x rest at = let e : y ≡ x = cc in ap (m.next s) e
next_state m s (y ∷ all) (suc j) x rest at = next_state m (m.next s y) all j x rest at

-- the state after one more request
pub state_after-next : {S : Type 0} (m : Machine S) (s : S) (all : List Request) (j : ℕ) (x : Request) (rest : List Request)
    → drop j all ≡ x ∷ rest → state_after m s all (j + 1) ≡ m.next (state_after m s all j) x
state_after-next m s all j x rest at = rw add-one (next_state m s all j x rest at)

next_text : {S : Type 0} (m : Machine S) (s : S) (all : List Request) (j : ℕ) (x : Request) (rest : List Request)
    → drop j all ≡ x ∷ rest
    → first_texts m s all (suc j) ≡ first_texts m s all j ++ reply_text (m.reply (state_after m s all j) x)
next_text m s [] zero x rest at = absurd (cc)
next_text m s [] (suc j) x rest at = absurd (cc)
next_text m s (y ∷ all) zero x rest at =
    let e : y ≡ x = cc in
    append-nil (reply_text (m.reply s y)) ∙ ap (λ z. reply_text (m.reply s z)) e
next_text m s (y ∷ all) (suc j) x rest at =
    ap (λ text. reply_text (m.reply s y) ++ text) (next_text m (m.next s y) all j x rest at)
    ∙ sym (append_assoc (reply_text (m.reply s y)) (first_texts m (m.next s y) all j) (reply_text (m.reply (state_after m (m.next s y) all j) x)))

-- the texts of one more reply
pub first_texts-next : {S : Type 0} (m : Machine S) (s : S) (all : List Request) (j : ℕ) (x : Request) (rest : List Request)
    → drop j all ≡ x ∷ rest
    → first_texts m s all (j + 1) ≡ first_texts m s all j ++ reply_text (m.reply (state_after m s all j) x)
first_texts-next m s all j x rest at = rw add-one (next_text m s all j x rest at)

-- there are as many replies as requests, and one more state
pub length-replies : {S : Type 0} (m : Machine S) (s : S) (all : List Request) → length (replies m s all) ≡ length all
length-replies m s [] = refl
length-replies m s (y ∷ all) = ap suc (length-replies m (m.next s y) all)

pub length-states : {S : Type 0} (m : Machine S) (s : S) (all : List Request) → length (states m s all) ≡ length all + 1
length-states m s [] = omega arith
length-states m s (y ∷ all) = omega (arith, length-states m (m.next s y) all)

-- state number j of the list is the one after the first j requests
pub slice_get-states : {S : Type 0} (m : Machine S) (s : S) (all : List Request) (j : ℕ) → j ≤ length all
    → slice_get (states m s all) j ≡ Some (state_after m s all j)
slice_get-states m s [] zero short = refl
slice_get-states m s [] (suc j) short = absurd (omega arith)
slice_get-states m s (y ∷ all) zero short = refl
slice_get-states m s (y ∷ all) (suc j) short = slice_get-states m (m.next s y) all j (omega arith)

-- after the last request
pub state_after-all : {S : Type 0} (m : Machine S) (s : S) (all : List Request) (j : ℕ) → drop j all ≡ []
    → state_after m s all j ≡ last_state m s all
state_after-all m s [] zero none = refl
state_after-all m s [] (suc j) none = refl
state_after-all m s (y ∷ all) zero none = absurd (cc)
state_after-all m s (y ∷ all) (suc j) none = state_after-all m (m.next s y) all j none

pub first_texts-all : {S : Type 0} (m : Machine S) (s : S) (all : List Request) (j : ℕ) → drop j all ≡ []
    → first_texts m s all j ≡ all_texts m s all
first_texts-all m s [] zero none = refl
first_texts-all m s [] (suc j) none = refl
first_texts-all m s (y ∷ all) zero none = absurd (cc)
first_texts-all m s (y ∷ all) (suc j) none =
    ap (λ text. reply_text (m.reply s y) ++ text) (first_texts-all m (m.next s y) all j none)

-- what is said after the first j replies
pub texts_after : {S : Type 0} (m : Machine S) (s : S) (all : List Request) (j : ℕ)
    → all_texts m s all ≡ first_texts m s all j ++ all_texts m (state_after m s all j) (drop j all)
texts_after m s [] zero = refl
texts_after m s [] (suc j) = refl
texts_after m s (y ∷ all) zero = refl
texts_after m s (y ∷ all) (suc j) =
    ap (λ text. reply_text (m.reply s y) ++ text) (texts_after m (m.next s y) all j)
    ∙ sym (append_assoc (reply_text (m.reply s y)) (first_texts m (m.next s y) all j) (all_texts m (state_after m (m.next s y) all j) (drop j all)))
