-- How many replies are given, once a part of them is said.
use Rattle.std.proofs.Common.{arith, ◌≡◌, ◌≢◌, ◌⊎◌, inl, inr, ℕ, zero, suc, ◌+◌, ◌<◌, ◌≤◌, length, take, drop, List, [], ◌∷◌, ◌++◌, append_assoc, length-append, sym, ◌∙◌, ap, refl, Bool, true, false, cond}
use Rattle.std.proofs.lemmas.Bool.{false_from_ne_true}
use Rattle.std.proofs.lemmas.Bool.Decides.{Decides-eqb}
use Rattle.std.proofs.lemmas.List.{append-nil, length-map}
use Rattle.std.proofs.lemmas.List.Elements.{All-nil, All-cons, All-head, All-tail}
use Rattle.std.proofs.lemmas.Slice.Eq.{starts_is}
use Rattle.std.proofs.Math.Seq.{drop-append_seam}
use Rattle.std.specs.Prelude.{nat_eq, flat_map, codes}
use Rattle.std.specs.List.{starts_with, All}
use Rattle.trap_model.specs.Given.{given}
use Rattle.trap_model.specs.Machine.{Machine}
use Rattle.trap_model.specs.declared.request.Request.{Request}
use Rattle.trap_model.specs.declared.request.Reply.{Reply}
use Rattle.trap_script.specs.Lines.{goes_on}
use Rattle.trap_model.specs.declared.request.Reply.TheVariants.{Kept, Is, At, Span, No, Silent}
use Rattle.trap_script.specs.Replies.{reply_words, reply_text}
use Rattle.trap_script.proofs.WalkLemmas.{length-replies, first_texts-next}
use Rattle.trap_script.specs.Walk.{state_after, replies, reply_texts, first_texts, AreSaid}

-- a list begins with its front
begins : (text rest : List ℕ) → starts_with nat_eq (text ++ rest) text ≡ true
begins text rest = (starts_is Decides-eqb (text ++ rest) text (starts_with nat_eq (text ++ rest) text) refl).1 rest refl

-- a shorter list doesn't
too_short : (bytes text : List ℕ) → length bytes < length text → starts_with nat_eq bytes text ≡ false
too_short bytes text short = false_from_ne_true (starts_with nat_eq bytes text) (λ whole.
    let is = (starts_is Decides-eqb bytes text (starts_with nat_eq bytes text) refl).0 whole in
    omega (arith, short, ap length is, length-append text (drop (length text) bytes)))

-- a text that is said whole counts, and then those after it
pub given-said : (text : List ℕ) (texts : List (List ℕ)) (bytes : List ℕ)
    → given (text ∷ texts) (text ++ bytes) ≡ suc (given texts bytes)
given-said text texts bytes =
    ap (λ b. cond b (suc (given texts (drop (length text) (text ++ bytes)))) 0) (begins text bytes)
    ∙ ap (λ rest. suc (given texts rest)) (drop-append_seam text bytes)

-- a text that isn't said whole doesn't count
pub given-short : (text : List ℕ) (texts : List (List ℕ)) (bytes : List ℕ) → length bytes < length text
    → given (text ∷ texts) bytes ≡ 0
given-short text texts bytes short =
    ap (λ b. cond b (suc (given texts (drop (length text) bytes))) 0) (too_short bytes text short)

-- texts one after the other
abbrev pub joined : List (List ℕ) → List ℕ
joined texts = flat_map (λ text. text) texts

-- of texts that are said up to the middle of one, those before it are given
pub given-part : (texts : List (List ℕ)) (j : ℕ) (text : List ℕ) (rest : List (List ℕ)) (front : List ℕ)
    → drop j texts ≡ text ∷ rest → length front < length text
    → given texts (joined (take j texts) ++ front) ≡ j
given-part [] zero text rest front at short = absurd (cc at)
given-part [] (suc j) text rest front at short = absurd (cc at)
given-part (first ∷ texts) zero text rest front at short =
    let is : first ≡ text = cc in
    given-short first texts front (omega (arith, short, ap length is))
given-part (first ∷ texts) (suc j) text rest front at short =
    ap (given (first ∷ texts)) (append_assoc first (joined (take j texts)) front)
    ∙ given-said first texts (joined (take j texts) ++ front)
    ∙ ap suc (given-part texts j text rest front at short)

-- of texts none of which is empty, as many are given as are said whole
pub given-whole : (texts : List (List ℕ)) (j : ℕ) → All (λ text. 0 < length text) texts → j ≤ length texts
    → given texts (joined (take j texts)) ≡ j
given-whole [] zero some short = refl
given-whole [] (suc j) some short = absurd (omega (arith, short))
given-whole (first ∷ texts) zero some short =
    given-short first texts [] (All-head (λ text. 0 < length text) first texts some)
given-whole (first ∷ texts) (suc j) some short =
    given-said first texts (joined (take j texts))
    ∙ ap suc (given-whole texts j (All-tail (λ text. 0 < length text) first texts some) (omega (arith, short)))

-- A machine that answers every request but `Q` with a line.
pub record AnswersByLines {S : Type 0} (m : Machine S) : Type 0 where
  pub speaks : (s : S) (request : Request) → goes_on request ≡ true → m.reply s request ≢ Silent

-- the text of a reply is empty only where there is no reply
pub reply_text-some : (reply : Reply) → reply ≢ Silent → 0 < length (reply_text reply)
reply_text-some (Kept seq) speaks = omega (arith, length-append (reply_words (Kept seq)) (codes "\n"))
reply_text-some (Is bytes) speaks = omega (arith, length-append (reply_words (Is bytes)) (codes "\n"))
reply_text-some (At bytes) speaks = omega (arith, length-append (reply_words (At bytes)) (codes "\n"))
reply_text-some (Span first last base_time last_time) speaks =
    omega (arith, length-append (reply_words (Span first last base_time last_time)) (codes "\n"))
reply_text-some (No refusal) speaks = omega (arith, length-append (reply_words (No refusal)) (codes "\n"))
reply_text-some Silent speaks = absurd (speaks refl)

-- so none of its texts is empty
pub texts_some : {S : Type 0} (m : Machine S) → AnswersByLines m → (s : S) (all : List Request)
    → All (λ request. goes_on request ≡ true) all → All (λ text. 0 < length text) (reply_texts m s all)
texts_some m lines s [] more = All-nil (λ text. 0 < length text)
texts_some m lines s (x ∷ all) more =
    All-cons (λ text. 0 < length text) (reply_text (m.reply s x)) (reply_texts m (m.next s x) all)
    (reply_text-some (m.reply s x) (lines.speaks s x (All-head (λ request. goes_on request ≡ true) x all more)))
    (texts_some m lines (m.next s x) all (All-tail (λ request. goes_on request ≡ true) x all more))

-- the text of the next reply
reply_texts-at : {S : Type 0} (m : Machine S) (s : S) (all : List Request) (j : ℕ) (x : Request) (rest : List Request)
    → drop j all ≡ x ∷ rest
    → drop j (reply_texts m s all) ≡ reply_text (m.reply (state_after m s all j) x) ∷ reply_texts m (m.next (state_after m s all j) x) rest
reply_texts-at m s [] zero x rest at = absurd (cc at)
reply_texts-at m s [] (suc j) x rest at = absurd (cc at)
reply_texts-at m s (y ∷ all) zero x rest at =
    let here : y ≡ x = cc in
    let behind : all ≡ rest = cc in
    ap (λ z. reply_text (m.reply s z) ∷ reply_texts m (m.next s z) all) here
    ∙ ap (λ others. reply_text (m.reply s x) ∷ reply_texts m (m.next s x) others) behind
reply_texts-at m s (y ∷ all) (suc j) x rest at = reply_texts-at m (m.next s y) all j x rest at

-- where the first j replies are said, and not the whole of the next one, j are given
pub given_in_reply : {S : Type 0} (m : Machine S) (s : S) (all : List Request) (j : ℕ) (x : Request) (rest : List Request) (front : List ℕ)
    → drop j all ≡ x ∷ rest → length front < length (reply_text (m.reply (state_after m s all j) x))
    → given (reply_texts m s all) (first_texts m s all j ++ front) ≡ j
given_in_reply m s all j x rest front at short =
    given-part (reply_texts m s all) j (reply_text (m.reply (state_after m s all j) x))
    (reply_texts m (m.next (state_after m s all j) x) rest) front (reply_texts-at m s all j x rest at) short

-- where the first j replies are said, and nothing more, j are given
pub given_replies : {S : Type 0} (m : Machine S) → AnswersByLines m → (s : S) (all : List Request) (j : ℕ)
    → All (λ request. goes_on request ≡ true) all → j ≤ length all
    → given (reply_texts m s all) (first_texts m s all j) ≡ j
given_replies m lines s all j more short =
    given-whole (reply_texts m s all) j (texts_some m lines s all more)
    (omega (arith, short, length-map (replies m s all) reply_text, length-replies m s all))

-- a request that is there lies before the end
pub below_end : (all : List Request) (j : ℕ) (x : Request) (rest : List Request) → drop j all ≡ x ∷ rest → j < length all
below_end [] zero x rest at = absurd (cc at)
below_end [] (suc j) x rest at = absurd (cc at)
below_end (y ∷ all) zero x rest at = omega arith
below_end (y ∷ all) (suc j) x rest at = omega (arith, below_end all j x rest at)

-- a part of a reply is the whole of it, or shorter
part_or_whole : (text front behind : List ℕ) → text ≡ front ++ behind → (length front < length text) ⊎ (front ≡ text)
part_or_whole text front [] is = inr (sym (is ∙ append-nil front))
part_or_whole text front (byte ∷ behind) is = inl (omega (arith, ap length is, length-append front (byte ∷ behind)))

-- where the first j replies are said, and a part of the next one, j are given, or that one too
pub given_or_next : {S : Type 0} (m : Machine S) → AnswersByLines m → (s : S) (all : List Request) (j : ℕ) (x : Request) (rest : List Request)
    → (front behind : List ℕ) → All (λ request. goes_on request ≡ true) all → drop j all ≡ x ∷ rest
    → reply_text (m.reply (state_after m s all j) x) ≡ front ++ behind
    → (given (reply_texts m s all) (first_texts m s all j ++ front) ≡ j)
    ⊎ (given (reply_texts m s all) (first_texts m s all j ++ front) ≡ j + 1)
given_or_next m lines s all j x rest front behind more at is =
    elim (part_or_whole (reply_text (m.reply (state_after m s all j) x)) front behind is)
    as (λ _. (given (reply_texts m s all) (first_texts m s all j ++ front) ≡ j)
    ⊎ (given (reply_texts m s all) (first_texts m s all j ++ front) ≡ j + 1)) [
      | inl short ↦ inl (given_in_reply m s all j x rest front at short)
      | inr whole ↦ inr (
          ap (λ bytes. given (reply_texts m s all) (first_texts m s all j ++ bytes)) whole
          ∙ ap (given (reply_texts m s all)) (sym (first_texts-next m s all j x rest at))
          ∙ given_replies m lines s all (j + 1) more (omega (arith, below_end all j x rest at)))
    ]

-- the texts that are given begin the bytes
pub given_said : (texts : List (List ℕ)) (bytes : List ℕ) → AreSaid (given texts bytes) texts bytes
given_said [] bytes = (bytes, refl)
given_said (text ∷ texts) bytes =
    first_said (starts_with nat_eq bytes text) text texts bytes
    (starts_is Decides-eqb bytes text (starts_with nat_eq bytes text) refl).0 (given_said texts (drop (length text) bytes))
  where
    first_said : (b : Bool) (text : List ℕ) (texts : List (List ℕ)) (bytes : List ℕ)
        → (b ≡ true → bytes ≡ text ++ drop (length text) bytes)
        → AreSaid (given texts (drop (length text) bytes)) texts (drop (length text) bytes)
        → AreSaid (cond b (suc (given texts (drop (length text) bytes))) 0) (text ∷ texts) bytes
    first_said true text texts bytes begin behind = (
      behind.0,
      begin refl ∙ ap (λ l. text ++ l) behind.1
          ∙ sym (append_assoc text (joined (take (given texts (drop (length text) bytes)) texts)) behind.0),
    )
    first_said false text texts bytes begin behind = (bytes, refl)

-- there are so many
pub given_within : (texts : List (List ℕ)) (bytes : List ℕ) → given texts bytes ≤ length texts
given_within [] bytes = omega arith
given_within (text ∷ texts) bytes =
    one_more (starts_with nat_eq bytes text) (given texts (drop (length text) bytes)) (length texts)
    (given_within texts (drop (length text) bytes))
  where
    one_more : (b : Bool) (k n : ℕ) → k ≤ n → cond b (suc k) 0 ≤ suc n
    one_more true k n within = omega (arith, within)
    one_more false k n within = omega arith

-- and no greater number of them begins the bytes
pub given_greatest : (texts : List (List ℕ)) (j : ℕ) (bytes : List ℕ) → j ≤ length texts → AreSaid j texts bytes → j ≤ given texts bytes
given_greatest texts zero bytes within said = omega arith
given_greatest [] (suc j) bytes within said = absurd (omega (arith, within))
given_greatest (text ∷ texts) (suc j) bytes within said =
    let more = joined (take j texts) ++ said.0 in
    let whole : bytes ≡ text ++ more = said.1 ∙ append_assoc text (joined (take j texts)) said.0 in
    let count : given (text ∷ texts) bytes ≡ suc (given texts more) = ap (given (text ∷ texts)) whole ∙ given-said text texts more in
    let others : j ≤ given texts more = given_greatest texts j more (omega (arith, within)) (said.0, refl) in
    omega (arith, count, others)
