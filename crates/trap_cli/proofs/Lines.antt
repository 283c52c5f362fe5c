-- A front of a fault line after some replies adds no reply to those that are given.
use Rattle.std.proofs.Common.{◌≡◌, ◌≢◌, ◌⊎◌, inl, inr, ⊎_elim, ℕ, zero, suc, ◌+◌, ◌<◌, ◌≤◌, List, [], ◌∷◌, ◌++◌, length, take, drop, get_or, Option, Some, None, true, false, cond, refl, sym, ap, ◌∙◌, append_assoc, length-append, arith}
use Rattle.std.specs.Prelude.{nat_eq}
use Rattle.std.specs.List.{starts_with, All}
use Rattle.std.proofs.lemmas.Bool.{false_from_ne_true}
use Rattle.std.proofs.lemmas.Bool.Decides.{Decides-eqb}
use Rattle.std.proofs.lemmas.List.{length-map}
use Rattle.std.proofs.lemmas.List.Elements.{All-nil, All-cons, All-head, All-tail}
use Rattle.std.proofs.lemmas.Slice.Eq.{starts_is}
use Rattle.trap_model.specs.Given.{given}
use Rattle.trap_model.specs.Machine.{Machine}
use Rattle.trap_model.specs.Image.{block_of}
use Rattle.trap_model.specs.State.{last, last_time, image, image_at, image_by}
use Rattle.trap_model.specs.ArrayStep.{step, or_refused, refusal}
use Rattle.trap_model.specs.declared.numbers.Geometry.{Geometry}
use Rattle.trap_model.specs.declared.history.State.{State}
use Rattle.trap_model.specs.declared.request.Request.{Request}
use Rattle.trap_model.specs.declared.request.Request.TheVariants as request
use Rattle.trap_model.specs.declared.request.Reply.{Reply}
use Rattle.trap_model.specs.declared.request.Reply.TheVariants.{Kept, Is, At, Span, No, Silent}
use Rattle.trap_model.specs.declared.request.Refusal.{Refusal}
use Rattle.trap_model.specs.declared.request.Refusal.TheVariants.{NoLine, NoBlock, TimeBack, Worn, Full, NotKept, Ahead}
use Rattle.trap_array.specs.declared.fault.Denied.TheVariants as denied
use Rattle.trap_session.specs.declared.outcome.SessionFault.TheVariants as serving
use Rattle.trap_script.specs.Lines.{goes_on}
use Rattle.trap_script.specs.Replies.{reply_text}
use Rattle.trap_script.specs.Walk.{replies, reply_texts, first_texts}
use Rattle.trap_script.proofs.WalkLemmas.{length-replies}
use Rattle.trap_script.proofs.GivenLemmas.{AnswersByLines, given-said, joined, reply_text-some}
use Rattle.trap_cli.specs.declared.outcome.Ended.{Ended}
use Rattle.trap_cli.specs.declared.outcome.Ended.TheVariants.{Done, Stopped, Port, Replica}
use Rattle.trap_remote.specs.declared.outcome.ReplicaEnd.TheVariants as remote
use Rattle.trap_cli.specs.Ended.{last_line, created_line}
use Rattle.trap_cli.specs.Left.{IsFaultFront}

-- the array answers every request but `Q` with a line
unless_speaks : (why : Option Refusal) (reply : Reply) → reply ≢ Silent → or_refused why reply No ≢ Silent
unless_speaks None reply speaks = speaks
unless_speaks (Some why) reply speaks = λ silent. cc silent

array_speaks : (g : Geometry) (s : State) (request : Request) → goes_on request ≡ true → (step g).reply s request ≢ Silent
array_speaks g s (request.Write time block bytes) more = unless_speaks (refusal g s (request.Write time block bytes)) (Kept (last s + 1)) (λ silent. cc silent)
array_speaks g s (request.Read block) more = unless_speaks (refusal g s (request.Read block)) (Is (block_of (image s) block)) (λ silent. cc silent)
array_speaks g s (request.At seq block) more = unless_speaks (refusal g s (request.At seq block)) (At (block_of (image_at s seq) block)) (λ silent. cc silent)
array_speaks g s (request.By time block) more = unless_speaks (refusal g s (request.By time block)) (At (block_of (image_by s time) block)) (λ silent. cc silent)
array_speaks g s request.Info more = unless_speaks None (Span s.first (last s) s.base_time (last_time s)) (λ silent. cc silent)
array_speaks g s (request.Keep seq) more = unless_speaks (refusal g s (request.Keep seq)) (Kept seq) (λ silent. cc silent)
array_speaks g s request.Quit more = absurd (cc more)
array_speaks g s request.Bad more = λ silent. cc silent

pub array_answers : (g : Geometry) → AnswersByLines (step g)
array_answers g = record { speaks = array_speaks g }

-- a text that is there, and doesn't begin with `f`
record IsReplyLike (text : List ℕ) : Type 0 where
  some : 0 < length text
  head : get_or text 0 0 ≢ 102

first_byte : (reply : Reply) → reply ≢ Silent → get_or (reply_text reply) 0 0 ≢ 102
first_byte (Kept seq) speaks = λ is. omega (arith, is)
first_byte (Is bytes) speaks = λ is. omega (arith, is)
first_byte (At bytes) speaks = λ is. omega (arith, is)
first_byte (Span first last base_time last_time) speaks = λ is. omega (arith, is)
first_byte (No NoLine) speaks = λ is. omega (arith, is)
first_byte (No NoBlock) speaks = λ is. omega (arith, is)
first_byte (No (TimeBack last)) speaks = λ is. omega (arith, is)
first_byte (No Worn) speaks = λ is. omega (arith, is)
first_byte (No Full) speaks = λ is. omega (arith, is)
first_byte (No (NotKept bound)) speaks = λ is. omega (arith, is)
first_byte (No (Ahead last)) speaks = λ is. omega (arith, is)
first_byte Silent speaks = absurd (speaks refl)

texts_like : {S : Type 0} (m : Machine S) → AnswersByLines m → (s : S) (all : List Request)
    → All (λ request. goes_on request ≡ true) all → All IsReplyLike (reply_texts m s all)
texts_like m lines s [] more = All-nil IsReplyLike
texts_like m lines s (x ∷ all) more =
    let speaks = lines.speaks s x (All-head (λ request. goes_on request ≡ true) x all more) in
    All-cons IsReplyLike (reply_text (m.reply s x)) (reply_texts m (m.next s x) all)
    (record { some = reply_text-some (m.reply s x) speaks; head = first_byte (m.reply s x) speaks })
    (texts_like m lines (m.next s x) all (All-tail (λ request. goes_on request ≡ true) x all more))

-- a fault line is empty, or begins with `f`
line_head : (ended : Ended) → (last_line ended ≡ []) ⊎ (get_or (last_line ended) 0 0 ≡ 102)
line_head Done = inl refl
line_head (Stopped (serving.Array (denied.Refused why))) = inr refl
line_head (Stopped (serving.Array denied.LogFault)) = inr refl
line_head (Stopped (serving.Array (denied.MemberFault first second))) = inr refl
line_head (Stopped (serving.Array (denied.Damaged offset))) = inr refl
line_head (Stopped (serving.Array denied.Stopped)) = inr refl
line_head (Stopped serving.ReadFault) = inr refl
line_head (Stopped serving.WriteFault) = inl refl
line_head (Stopped serving.TooLong) = inr refl
line_head Port = inl refl
line_head (Replica remote.Done) = inl refl
line_head (Replica remote.Port) = inl refl
line_head (Replica end) = inr refl
line_head ended = inr refl

-- so does a front of it
front_of : (front rest line : List ℕ) → (line ≡ []) ⊎ (get_or line 0 0 ≡ 102) → front ++ rest ≡ line → (front ≡ []) ⊎ (get_or front 0 0 ≡ 102)
front_of [] rest line head is = inl refl
front_of (byte ∷ front) rest line (inl none) is = absurd (cc)
front_of (byte ∷ front) rest line (inr f) is = inr (ap (λ (l : List ℕ). get_or l 0 0) is ∙ f)

pub front_head : (front : List ℕ) → IsFaultFront front → (front ≡ []) ⊎ (get_or front 0 0 ≡ 102)
front_head front fault = front_of front fault.1 (last_line fault.0) (line_head fault.0) fault.2

-- so it doesn't begin with what `create` says
pub not_created : (id : ℕ) (front rest : List ℕ) → IsFaultFront front → front ≡ created_line id ++ rest → ⊥
not_created id front rest fault is = ⊎_elim
    (λ (none : front ≡ []). cc)
    (λ (f : get_or front 0 0 ≡ 102). let c = ap (λ (l : List ℕ). get_or l 0 0) is in omega (arith, f, c))
    (front_head front fault)

head_of : (text rest : List ℕ) → 0 < length text → get_or (text ++ rest) 0 0 ≡ get_or text 0 0
head_of [] rest some = absurd (omega (arith, some))
head_of (byte ∷ text) rest some = refl

-- and begins with no reply
no_reply : (front text : List ℕ) → IsReplyLike text → (front ≡ []) ⊎ (get_or front 0 0 ≡ 102) → starts_with nat_eq front text ≡ false
no_reply front text like head = false_from_ne_true (starts_with nat_eq front text) (λ whole.
    let is = (starts_is Decides-eqb front text (starts_with nat_eq front text) refl).0 whole in
    ⊎_elim (λ (none : front ≡ []). let some = like.some in omega (arith, some, ap length is, ap length none, length-append text (drop (length text) front)))
    (λ (f : get_or front 0 0 ≡ 102). like.head (sym (head_of text (drop (length text) front) like.some) ∙ sym (ap (λ (l : List ℕ). get_or l 0 0) is) ∙ f)) head)

given_none : (texts : List (List ℕ)) (front : List ℕ) → All IsReplyLike texts → (front ≡ []) ⊎ (get_or front 0 0 ≡ 102) → given texts front ≡ 0
given_none [] front like head = refl
given_none (text ∷ texts) front like head =
    ap (λ b. cond b (suc (given texts (drop (length text) front))) 0) (no_reply front text (All-head IsReplyLike text texts like) head)

given_stop : (texts : List (List ℕ)) (j : ℕ) (front : List ℕ) → All IsReplyLike texts → (front ≡ []) ⊎ (get_or front 0 0 ≡ 102) → j ≤ length texts
    → given texts (joined (take j texts) ++ front) ≡ j
given_stop texts zero front like head short = given_none texts front like head
given_stop [] (suc j) front like head short = absurd (omega (arith, short))
given_stop (first ∷ texts) (suc j) front like head short =
    ap (given (first ∷ texts)) (append_assoc first (joined (take j texts)) front)
    ∙ given-said first texts (joined (take j texts) ++ front)
    ∙ ap suc (given_stop texts j front (All-tail IsReplyLike first texts like) head (omega (arith, short)))

-- where the first j replies are said, and then a front of a fault line, j are given
pub given_fault : {S : Type 0} (m : Machine S) → AnswersByLines m → (s : S) (all : List Request) (j : ℕ) (front : List ℕ)
    → All (λ request. goes_on request ≡ true) all → j ≤ length all → IsFaultFront front
    → given (reply_texts m s all) (first_texts m s all j ++ front) ≡ j
given_fault m lines s all j front more short fault =
    given_stop (reply_texts m s all) j front (texts_like m lines s all more) (front_head front fault)
    (omega (arith, short, length-map (replies m s all) reply_text, length-replies m s all))
