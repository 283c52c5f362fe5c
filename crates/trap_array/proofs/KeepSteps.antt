-- A write from its refusals to its commit.
use Rattle.std.proofs.Common.{◌≡◌, ◌≢◌, ◌⊎◌, ℕ, ◌+◌, ◌-◌, ◌<◌, ◌≤◌, ◌^◌, List, length, Option, Some, None, Bool, true, false, if◌then◌else◌, ◌==◌, nat_lt, Result, Err, IsTrue, inl, inr, ⊎_elim, refl, sym, ap, subst, ◌∙◌, arith}
use Rattle.std.proofs.lemmas.Bool.{ltb-true, ltb-false, eqb-true, eqb-false, cases_lt}
use Rattle.trap_bank.specs.Disks.{Contents, View}
use Rattle.trap_bank.specs.Steps.{Moves, OnlyReads}
use Rattle.trap_bank.proofs.Moves.{moves_weaken, read_is_left}
use Rattle.trap_block.specs.Xor.{xor}
use Rattle.trap_format.specs.HeadValue.{IsHead}
use Rattle.trap_format.specs.declared.head.Head.{Head}
use Rattle.trap_model.specs.ArrayStep.{added, step}
use Rattle.trap_model.specs.Image.{volume}
use Rattle.trap_model.specs.Limits.{greatest_record}
use Rattle.trap_model.specs.Records.{record_of, next_record}
use Rattle.trap_model.specs.State.{last, image}
use Rattle.trap_model.specs.declared.history.State.{State}
use Rattle.trap_model.specs.declared.numbers.Geometry.{Geometry}
use Rattle.trap_model.specs.declared.request.Refusal.{Refusal}
use Rattle.trap_model.specs.declared.request.Refusal.TheVariants.{TimeBack, Worn, Full}
use Rattle.trap_model.specs.declared.request.Reply.{Reply}
use Rattle.trap_model.specs.declared.request.Reply.TheVariants.{Kept}
use Rattle.trap_model.specs.declared.request.Request.TheVariants.{Write}
use Rattle.trap_model.proofs.Adding.{not_refused}
use Rattle.trap_raid.specs.Plan.{IsPlan}
use Rattle.trap_raid.specs.Reads.{FailedMember}
use Rattle.trap_raid.proofs.FitLemmas.{others_count}
use Rattle.trap_array.specs.Beside.{StaysFrom}
use Rattle.trap_array.specs.Calls.{Mounted, StandsFor, SameArray, AtAnyMoment, running}
use Rattle.trap_array.specs.Log.{IndexedLog}
use Rattle.trap_array.specs.NextHead.{entry_for, IsPlanned}
use Rattle.trap_array.specs.Ready.{CanCommit, CanWrite, KnowsCell}
use Rattle.trap_array.specs.Turning.{IsFaultOf, MovesLog, IsFull, early_refusal}
use Rattle.trap_array.specs.declared.fault.Denied.{Denied}
use Rattle.trap_array.specs.declared.fault.Denied.TheVariants.{Refused, MemberFault}
use Rattle.trap_array.proofs.Beside.{stays_same}
use Rattle.trap_array.proofs.CommitSteps.{known_same}
use Rattle.trap_array.proofs.NextHeads.{head_committed}
use Rattle.trap_array.proofs.Sizes.{sizes_still}
use Rattle.trap_array.proofs.Turns.{same_keeps, same_may}
use Rattle.trap_bank.proofs.Moves.{unmoved}
use Rattle.trap_array.proofs.TurnSteps.{goes_still, turns_failed, turns_after, turns_same, turns_refused, back_refused, worn_refused, full_refused, goes_on, planned_from}

-- what a write of these is to do to a state, and what is replied
abbrev pub next_of : Geometry → ℕ → ℕ → List ℕ → State → State
next_of g time block bytes s = (step g).next s (Write time block bytes)

abbrev pub reply_of : Geometry → ℕ → ℕ → List ℕ → State → Reply
reply_of g time block bytes s = (step g).reply s (Write time block bytes)

-- ---- faults before the commit
pub kept_may : (a : Mounted) (v w : View) (next : State → State) → Moves v w (AtAnyMoment a v (λ s. s)) (AtAnyMoment a v (λ s. s)) → Moves v w (AtAnyMoment a v next) (AtAnyMoment a v next)
kept_may a v w next moves =
    moves_weaken v w (AtAnyMoment a v (λ s. s)) (AtAnyMoment a v (λ s. s)) (AtAnyMoment a v next) (AtAnyMoment a v next) moves
    (λ x y was step s always. ⊎_elim inl inl (step s always))
    (λ x y was left step s always. ⊎_elim inl inl (step s always))

pub member_fault : (a : Mounted) (v w : View) (m : ℕ) → FailedMember a.g a.head.lost v w m → IsFaultOf a v w (MemberFault m m)
member_fault a v w m failed = record {
  same = refl;
  inside = failed.inside;
  counts = others_count a.head.lost a.head.rebuilt 0 m failed.apart;
  rose = failed.rose;
}

pub plan_failed : (a : IndexedLog) (v w : View) (next : State → State) (replies : State → Reply) (m : ℕ) → FailedMember a.g a.head.lost v w m → OnlyReads v w
    → MovesLog a a next replies (Err (MemberFault m m)) v w
plan_failed a v w next replies m failed reads =
    turns_failed a a next replies (MemberFault m m) v w (member_fault (running a) v w m failed) (goes_still (running a)) reads.sizes
    (stays_same (a.g.members + 1) v w reads.same) (same_may (running a) v w next reads.moves)

pub room_failed : (a b : IndexedLog) (v w : View) (next : State → State) (replies : State → Reply) (e : Denied) → IsFaultOf (running a) v w e
    → SameArray (running a) (running b) → ((d : ℕ) → w.sizes d ≡ v.sizes d) → StaysFrom (a.g.members + 1) v w
    → Moves v w (AtAnyMoment (running a) v (λ s. s)) (AtAnyMoment (running a) v (λ s. s)) → MovesLog a b next replies (Err e) v w
room_failed a b v w next replies e fault on sizes others moves = turns_failed a b next replies e v w fault on sizes others (kept_may (running a) v w next moves)

-- ---- refusals by time and number
picked : (b : Bool) (x y : Refusal) (other : Option Refusal) → (if b then Some x else other) ≡ Some y → ((b ≡ true) × (y ≡ x)) ⊎ ((b ≡ false) × (other ≡ Some y))
picked true x y other is = inl (refl, cc)
picked false x y other is = inr (refl, is)

pub early_none : (h : Head) (time : ℕ) → early_refusal h time ≡ None → (h.last_time ≤ time) × (h.last ≢ 2 ^ 40)
early_none h time none =
    let first = not_refused (nat_lt time h.last_time) (TimeBack h.last_time) _ none in
    let second = not_refused (h.last == 2 ^ 40) Worn None first.1 in
    (ltb-false time h.last_time first.0, eqb-false h.last (2 ^ 40) second.0)

pub early_turns : (a : IndexedLog) (v : View) (time block : ℕ) (bytes : List ℕ) (why : Refusal) → CanWrite a v → block < volume a.g → early_refusal a.head time ≡ Some why
    → MovesLog a a (next_of a.g time block bytes) (reply_of a.g time block bytes) (Err (Refused why)) v v
early_turns a v time block bytes why can inside is =
    ⊎_elim
    (λ back. subst P (sym back.1) (turns_refused a next replies (TimeBack a.head.last_time) v v (λ e. cc) (unmoved v) (λ told. refl) (λ d. refl) can.in_step can.cell
    (λ s told stands. back_refused a.g s time block bytes v.now.disks a refl stands inside (ltb-true time a.head.last_time back.0))))
    (λ later. ⊎_elim
    (λ worn. subst P (sym worn.1) (turns_refused a next replies Worn v v (λ e. cc) (unmoved v) (λ told. refl) (λ d. refl) can.in_step can.cell
    (λ s told stands. worn_refused a.g s time block bytes v.now.disks a refl stands inside (ltb-false time a.head.last_time later.0) (eqb-true a.head.last (2 ^ 40) worn.0))))
    (λ none. absurd (nothing why none.1))
    (picked (a.head.last == 2 ^ 40) Worn why None later.1))
    (picked (nat_lt time a.head.last_time) (TimeBack a.head.last_time) why _ is)
  where
    next : State → State
    next = next_of a.g time block bytes

    replies : State → Reply
    replies = reply_of a.g time block bytes

    P : Refusal → Type 0
    P r = MovesLog a a (next_of a.g time block bytes) (reply_of a.g time block bytes) (Err (Refused r)) v v

    nothing : (r : Refusal) → None ≡ Some r → ⊥
    nothing r e = cc

-- ---- with a plan and a record
-- what a test for room has found
pub room_left : (g : Geometry) (h : Head) (size : ℕ) → IsHead g h → (IsFull g h size → ⊥) → (h.last < h.first + g.entries) × (h.end_off - h.first_off + size ≤ g.ring)
room_left g h size is not_full = (
  ⊎_elim (λ less. less) (λ many. absurd (not_full (inl (omega (arith, many, is.numbers.retained))))) (cases_lt h.last (h.first + g.entries)),
  ⊎_elim (λ big. absurd (not_full (inr big))) (λ small. small) (cases_lt g.ring (h.end_off - h.first_off + size)),
)

module _ (a : IndexedLog) (v w : View) (time block size : ℕ) (bytes delta parity spelled : List ℕ)
    (is_head : IsHead a.g a.head) (can : CanWrite a v) (reads : OnlyReads v w)
    (free : a.head.last < a.head.drained + a.g.slots) (later : a.head.last_time ≤ time) (not_worn : a.head.last < 2 ^ 40) (fits : time < 2 ^ 64)
    (inside : block < volume a.g) (whole : length bytes ≡ a.g.block)
    (long : length spelled ≡ size) (short : size ≤ greatest_record a.g.block) (code : (30 ≤ size) × (size ≤ a.g.block + 33))
    (plan : IsTrue v.tells → (s : State) → StandsFor (running a) s v.now.disks → IsPlan a.g (image s) block bytes delta parity)
    (record_is : (old fresh : List ℕ) → delta ≡ xor old fresh → spelled ≡ record_of (a.head.last + 1) old (entry_for time block fresh)) where
  planned_at : (s : State) → IsTrue v.tells → StandsFor (running a) s v.now.disks → IsPlanned a.g s (entry_for time block bytes) parity spelled
  planned_at s told stands = planned_from a s v.now.disks time block bytes delta parity spelled stands (plan told s stands) record_is

  size_is : (s : State) → IsTrue v.tells → StandsFor (running a) s v.now.disks → size ≡ length (next_record s (entry_for time block bytes))
  size_is s told stands = sym long ∙ ap (λ (xs : List ℕ). length xs) (planned_at s told stands).spelled_is

  cell_known : KnowsCell a.cell a.head w
  cell_known = known_same a v w reads.moves can.cell

  pub full_turns : IsFull a.g a.head size → MovesLog a a (next_of a.g time block bytes) (reply_of a.g time block bytes) (Err (Refused Full)) v w
  full_turns full =
      turns_refused a (next_of a.g time block bytes) (reply_of a.g time block bytes) Full v w (λ e. cc) reads.moves reads.same reads.sizes can.in_step cell_known
      (λ s told stands. full_refused a.g s time block bytes v.now.disks a refl stands inside later not_worn size (size_is s told stands) full)

  pub can_commit : length parity ≡ a.g.block → (IsFull a.g a.head size → ⊥) → CanCommit a w (entry_for time block bytes) parity spelled
  can_commit parity_size not_full =
      let left = room_left a.g a.head size is_head not_full in
      record {
        in_step = can.in_step;
        same = can.same;
        sizes = sizes_still a.g a.head.lost a.head.rebuilt v w reads.sizes can.sizes;
        cell = cell_known;
        next = head_committed a.g a.head is_head time (length spelled) later fits not_worn free left.0 (omega (arith, long, left.1)) (omega (arith, long, short));
        later = later;
        is_entry = record { block = inside; size = whole };
        parity_size = parity_size;
        code = (omega (arith, long, code.0), omega (arith, long, code.1));
        planned = λ s told always.
            let before = subst (λ t. IsTrue t) reads.moves.tells told in
            planned_at s before (subst (λ (now : Contents). StandsFor (running a) s now.disks) (reads.same before) (always w.now (read_is_left w told)));
      }

  pub kept_turns : (IsFull a.g a.head size → ⊥) → (b : IndexedLog) (result : Result ℕ Denied) (x : View)
      → MovesLog a b (λ s. added s (entry_for time block bytes)) (λ s. Kept (last s + 1)) result w x → MovesLog a b (next_of a.g time block bytes) (reply_of a.g time block bytes) result v x
  kept_turns not_full b result x turns =
      let next : State → State = λ (s : State). added s (entry_for time block bytes) in
      let replies : State → Reply = λ (s : State). Kept (last s + 1) in
      turns_same a b next replies (next_of a.g time block bytes) (reply_of a.g time block bytes) result v x
      (λ s told stands. goes_on a.g s time block bytes v.now.disks a refl stands inside later not_worn size (size_is s told stands) not_full)
      (turns_after a b next replies a result v w x (goes_still (running a)) (same_keeps (running a) v w reads.moves) reads.sizes (stays_same (a.g.members + 1) v w reads.same) turns)
