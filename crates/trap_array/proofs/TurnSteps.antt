-- The steps of a write, one after the other.
use Rattle.std.proofs.Common.{◌≡◌, ◌≢◌, ◌⊎◌, ℕ, ◌+◌, ◌<◌, ◌≤◌, ◌^◌, List, length, Option, Some, None, Result, Ok, Err, IfErr, IsTrue, false, inl, inr, ⊎_elim, sym, ap, subst, ◌∙◌, arith}
use Rattle.std.proofs.lemmas.Bool.{cases_lt}
use Rattle.trap_bank.specs.Disks.{Disks, View}
use Rattle.trap_bank.specs.Steps.{Moves, Same, Always}
use Rattle.trap_bank.proofs.Rising.{rose_since}
use Rattle.trap_bank.proofs.Moves.{moves_weaken, read_is_left}
use Rattle.trap_block.specs.Xor.{xor}
use Rattle.trap_map.specs.Layout.{block_place}
use Rattle.trap_map.specs.Table.{row_parity}
use Rattle.trap_model.specs.ArrayStep.{added, step, refusal, or_refused, accepted, after}
use Rattle.trap_model.specs.Image.{volume, block_of}
use Rattle.trap_model.specs.Records.{record_of, next_record}
use Rattle.trap_model.specs.Size.{entry_size}
use Rattle.trap_model.specs.State.{last, last_time, image, kept}
use Rattle.trap_model.specs.declared.history.Entry.{Entry}
use Rattle.trap_model.specs.declared.history.State.{State}
use Rattle.trap_model.specs.declared.numbers.Geometry.{Geometry}
use Rattle.trap_model.specs.declared.request.Refusal.{Refusal}
use Rattle.trap_model.specs.declared.request.Refusal.TheVariants.{NoBlock, TimeBack, Worn, Full}
use Rattle.trap_model.specs.declared.request.Reply.{Reply}
use Rattle.trap_model.specs.declared.request.Reply.TheVariants.{Kept, No}
use Rattle.trap_model.specs.declared.request.Request.{Request}
use Rattle.trap_model.specs.declared.request.Request.TheVariants.{Write}
use Rattle.trap_model.proofs.Further.{image-added}
use Rattle.trap_model.proofs.Records.{length-record_of}
use Rattle.trap_model.proofs.Refusals.{is_block, write_back, write_worn, write_many, write_big, write_goes}
use Rattle.trap_raid.specs.Members.{Counts}
use Rattle.trap_raid.specs.Plan.{IsPlan}
use Rattle.trap_array.specs.Beside.{StaysFrom}
use Rattle.trap_array.specs.Calls.{Mounted, StandsFor, HoldsLike, SameArray, AtAnyMoment, StandsAfterCall, MemberFails, WriteReplies, is_fault, running}
use Rattle.trap_array.specs.Log.{IndexedLog, AreInStep}
use Rattle.trap_array.specs.NextHead.{entry_for, IsPlanned}
use Rattle.trap_array.specs.Ready.{KnowsCell}
use Rattle.trap_log.specs.Draining.{IsDrainFault}
use Rattle.trap_log.specs.declared.fault.DrainFault.{DrainFault}
use Rattle.trap_log.specs.declared.fault.DrainFault.TheVariants as drain
use Rattle.trap_array.specs.Ending.{denied_by}
use Rattle.trap_array.specs.Turning.{IsFaultOf, Denies, MovesLog, IsFull}
use Rattle.trap_array.specs.declared.fault.Denied.{Denied}
use Rattle.trap_array.specs.declared.fault.Denied.TheVariants.{Refused, LogFault, MemberFault, Damaged, Stopped}
pub use Rattle.trap_log.proofs.GoingOn.{goes_still, goes_then, goes_same, goes_later, log_still, log_same, log_later, log_of, array_of}
use Rattle.trap_array.proofs.Beside.{stays_same, both_stay}
use Rattle.trap_array.proofs.Turns.{holds_still, turned_may, always_turned, keep_then_may, keep_then_has}

-- ---- faults
-- that of a drain, as a call of the array answers it
pub denied_fault : (a : Mounted) (v w : View) (e : DrainFault) → IsDrainFault a v w e → IsFaultOf a v w (denied_by e)
denied_fault a v w drain.LogFault fault = fault
denied_fault a v w (drain.MemberFault member) fault = fault

fault_denies : (a : Mounted) (v w : View) (e : Denied) → IsFaultOf a v w e → Denies a v w e
fault_denies a v w (Refused why) fault = absurd fault
fault_denies a v w LogFault fault = fault
fault_denies a v w (MemberFault first second) fault = fault
fault_denies a v w (Damaged offset) fault = fault
fault_denies a v w Stopped fault = fault

fault_not_done : (a : Mounted) (v w : View) (e : Denied) → IsFaultOf a v w e → is_fault {T = ℕ} (Err e) ≡ false → ⊥
fault_not_done a v w (Refused why) fault done = fault
fault_not_done a v w LogFault fault done = cc
fault_not_done a v w (MemberFault first second) fault done = cc
fault_not_done a v w (Damaged offset) fault done = fault
fault_not_done a v w Stopped fault done = fault

fault_replies : (a : Mounted) (v w : View) (e : Denied) → IsFaultOf a v w e → (reply : Reply) → WriteReplies (Err e) reply
fault_replies a v w (Refused why) fault reply = absurd fault
fault_replies a v w LogFault fault reply = tt
fault_replies a v w (MemberFault first second) fault reply = tt
fault_replies a v w (Damaged offset) fault reply = tt
fault_replies a v w Stopped fault reply = tt

member_since : (a b : Mounted) (u v w : View) (first second : ℕ) → SameArray a b → ((e : ℕ) → u.faults e ≤ v.faults e) → MemberFails b first second v w → MemberFails a first second u w
member_since a b u v w first second on le fails = record {
  same = fails.same;
  inside = subst (λ (g : Geometry). second < g.members) on.g fails.inside;
  counts = subst (λ (n : ℕ). Counts a.head.lost n 0 second) on.follows.rebuilt (subst (λ (lost : Option ℕ). Counts lost b.head.rebuilt 0 second) on.follows.lost fails.counts);
  rose = rose_since (u.faults (second + 1)) (v.faults (second + 1)) (w.faults (second + 1)) (le (second + 1)) fails.rose;
}

denies_since : (a b : Mounted) (u v w : View) → SameArray a b → ((e : ℕ) → u.faults e ≤ v.faults e) → (e : Denied) → Denies b v w e → Denies a u w e
denies_since a b u v w on le (Refused why) denies = denies
denies_since a b u v w on le LogFault denies = rose_since (u.faults 0) (v.faults 0) (w.faults 0) (le 0) denies
denies_since a b u v w on le (MemberFault first second) denies = member_since a b u v w first second on le denies
denies_since a b u v w on le (Damaged offset) denies = denies
denies_since a b u v w on le Stopped denies = denies

pub fault_since : (a b : Mounted) (u v w : View) → SameArray a b → ((e : ℕ) → u.faults e ≤ v.faults e) → (e : Denied) → IsFaultOf b v w e → IsFaultOf a u w e
fault_since a b u v w on le (Refused why) fault = fault
fault_since a b u v w on le LogFault fault = rose_since (u.faults 0) (v.faults 0) (w.faults 0) (le 0) fault
fault_since a b u v w on le (MemberFault first second) fault = member_since a b u v w first second on le fault
fault_since a b u v w on le (Damaged offset) fault = fault
fault_since a b u v w on le Stopped fault = fault

if_err_since : (result : Result ℕ Denied) (P Q : Denied → Type 0) → ((e : Denied) → P e → Q e) → IfErr result P → IfErr result Q
if_err_since (Ok value) P Q more holds = tt
if_err_since (Err e) P Q more holds = more e holds

-- ---- whole turns
module _ (a b : IndexedLog) (next : State → State) (replies : State → Reply) where
  pub turns_failed : (e : Denied) (v w : View) → IsFaultOf (running a) v w e → SameArray (running a) (running b) → ((d : ℕ) → w.sizes d ≡ v.sizes d) → StaysFrom (a.g.members + 1) v w
      → Moves v w (AtAnyMoment (running a) v next) (AtAnyMoment (running a) v next) → MovesLog a b next replies (Err e) v w
  turns_failed e v w fault on sizes others any = record {
    reply = λ told s always. fault_replies (running a) v w e fault (replies s);
    turned = λ done. absurd (fault_not_done (running a) v w e fault done);
    in_step = λ done. absurd (fault_not_done (running a) v w e fault done);
    cell = λ done. absurd (fault_not_done (running a) v w e fault done);
    same_array = on;
    sizes = sizes;
    others = others;
    cause = fault_denies (running a) v w e fault;
    any_moment = any;
  }

  pub turns_done : (seq : ℕ) (v w : View) → (IsTrue v.tells → (s : State) → Always v (StandsFor (running a) s) → replies s ≡ Kept seq)
      → Moves v w (AtAnyMoment (running a) v next) (StandsAfterCall (running a) (running b) v next) → AreInStep b.head b.stage b.index → KnowsCell b.cell b.head w
      → SameArray (running a) (running b) → ((d : ℕ) → w.sizes d ≡ v.sizes d)
      → StaysFrom (a.g.members + 1) v w → MovesLog a b next replies (Ok seq) v w
  turns_done seq v w kept moves in_step cell on sizes others = record {
    reply = kept;
    turned = λ done. moves;
    in_step = λ done. in_step;
    cell = λ done. cell;
    same_array = on;
    sizes = sizes;
    others = others;
    cause = tt;
    any_moment = turned_may (running a) (running b) on v w next moves;
  }

  -- after a call that keeps the state
  pub turns_after : (m : IndexedLog) (result : Result ℕ Denied) (u v w : View) → SameArray (running a) (running m)
      → Moves u v (AtAnyMoment (running a) u (λ s. s)) (StandsAfterCall (running a) (running m) u (λ s. s)) → ((d : ℕ) → v.sizes d ≡ u.sizes d)
      → StaysFrom (a.g.members + 1) u v → MovesLog m b next replies result v w → MovesLog a b next replies result u w
  turns_after m result u v w on first sizes others turns = record {
    reply = λ told s always. turns.reply (subst (λ t. IsTrue t) (sym first.tells) told) s (always_turned (running a) (running m) u v (λ s. s) (AtAnyMoment (running a) u (λ s. s)) first s always);
    turned = λ done. keep_then_has (running a) (running m) on u v w next first (running b) (turns.turned done);
    in_step = turns.in_step;
    cell = turns.cell;
    same_array = goes_then (running a) (running m) (running b) on turns.same_array;
    sizes = λ d. turns.sizes d ∙ sizes d;
    others = both_stay (running a) (running m) u v w on first.tells others turns.others;
    cause = if_err_since result (Denies (running m) v w) (Denies (running a) u w) (denies_since (running a) (running m) u v w on first.faults) turns.cause;
    any_moment = keep_then_may (running a) (running m) on u v w next first turns.any_moment;
  }

  -- where the next state and the reply are known
  pub turns_same : (next_too : State → State) (replies_too : State → Reply) (result : Result ℕ Denied) (v w : View)
      → ((s : State) → IsTrue v.tells → StandsFor (running a) s v.now.disks → (next s ≡ next_too s) × (replies s ≡ replies_too s))
      → MovesLog a b next replies result v w → MovesLog a b next_too replies_too result v w
  turns_same next_too replies_too result v w same turns = record {
    reply = λ told s always. subst (λ (r : Reply). WriteReplies result r) (same s told (always v.now (read_is_left v told))).1 (turns.reply told s always);
    turned = λ done. moves_weaken v w (AtAnyMoment (running a) v next) (StandsAfterCall (running a) (running b) v next) (AtAnyMoment (running a) v next_too)
        (StandsAfterCall (running a) (running b) v next_too) (turns.turned done)
        (λ x y was step s always. may_too s y.disks was.told (always v.now (read_is_left v was.told)) (step s always))
        (λ x y was left step s always. subst (λ (t : State). StandsFor (running b) t y.disks) (same s was.told (always v.now (read_is_left v was.told))).0 (step s always));
    in_step = turns.in_step;
    cell = turns.cell;
    same_array = turns.same_array;
    sizes = turns.sizes;
    others = turns.others;
    cause = turns.cause;
    any_moment = moves_weaken v w (AtAnyMoment (running a) v next) (AtAnyMoment (running a) v next) (AtAnyMoment (running a) v next_too) (AtAnyMoment (running a) v next_too) turns.any_moment
        (λ x y was step s always. may_too s y.disks was.told (always v.now (read_is_left v was.told)) (step s always))
        (λ x y was left step s always. may_too s y.disks was.told (always v.now (read_is_left v was.told)) (step s always));
  }
    where
      may_too : (s : State) (y : Disks) → IsTrue v.tells → StandsFor (running a) s v.now.disks → HoldsLike a.g a.head s y ⊎ HoldsLike a.g a.head (next s) y
          → HoldsLike a.g a.head s y ⊎ HoldsLike a.g a.head (next_too s) y
      may_too s y told stands either = ⊎_elim inl (λ new. inr (subst (λ (t : State). HoldsLike a.g a.head t y) (same s told stands).0 new)) either

-- a refusal after calls that change nothing
pub turns_refused : (a : IndexedLog) (next : State → State) (replies : State → Reply) (why : Refusal) (v w : View) → why ≢ NoBlock → Moves v w Same Same
    → (IsTrue v.tells → w.now ≡ v.now) → ((d : ℕ) → w.sizes d ≡ v.sizes d) → AreInStep a.head a.stage a.index → KnowsCell a.cell a.head w
    → ((s : State) → IsTrue v.tells → StandsFor (running a) s v.now.disks → (next s ≡ s) × (replies s ≡ No why)) → MovesLog a a next replies (Err (Refused why)) v w
turns_refused a next replies why v w other moves same sizes in_step cell refused = record {
  reply = λ told s always. (refused s told (always v.now (read_is_left v told))).1;
  turned = λ done. turned;
  in_step = λ done. in_step;
  cell = λ done. cell;
  same_array = goes_still (running a);
  sizes = sizes;
  others = stays_same (a.g.members + 1) v w same;
  cause = other;
  any_moment = turned_may (running a) (running a) (goes_still (running a)) v w next turned;
}
  where
    turned : Moves v w (AtAnyMoment (running a) v next) (StandsAfterCall (running a) (running a) v next)
    turned = moves_weaken v w Same Same (AtAnyMoment (running a) v next) (StandsAfterCall (running a) (running a) v next) moves
        (λ x y was same s always. inl (holds_still (running a) s y.disks (subst (λ (d : Disks). StandsFor (running a) s d) (sym same) (always x was))))
        (λ x y was left same s always.
        let P : Disks → Type 0 = λ (d : Disks). StandsFor (running a) s d in
        let Q : State → Type 0 = λ (t : State). StandsFor (running a) t y.disks in
        subst Q (sym (refused s was.told (always v.now (read_is_left v was.told))).0) (subst P (sym same) (always x was)))

-- ---- what the model's step says
module _ (g : Geometry) (s : State) (time block : ℕ) (bytes : List ℕ) where
  abbrev asked : Request
  asked = Write time block bytes

  abbrev entry : Entry
  entry = entry_for time block bytes

  step_refused : (why : Refusal) → refusal g s asked ≡ Some why → ((step g).next s asked ≡ s) × ((step g).reply s asked ≡ No why)
  step_refused why is = (ap (λ (o : Option Refusal). or_refused o (after g s asked) (λ _. s)) is, ap (λ (o : Option Refusal). or_refused o (accepted s asked) No) is)

  step_goes : refusal g s asked ≡ None → (added s entry ≡ (step g).next s asked) × (Kept (last s + 1) ≡ (step g).reply s asked)
  step_goes is = (sym (ap (λ (o : Option Refusal). or_refused o (after g s asked) (λ _. s)) is), sym (ap (λ (o : Option Refusal). or_refused o (accepted s asked) No) is))

  module _ (x : Disks) (a : IndexedLog) (same : a.g ≡ g) (stands : StandsFor (running a) s x) (inside : block < volume g) where
    pub back_refused : time < a.head.last_time → ((step g).next s asked ≡ s) × ((step g).reply s asked ≡ No (TimeBack a.head.last_time))
    back_refused before =
        let time_is = stands.by.fits.head.last_time in
        step_refused (TimeBack a.head.last_time)
        (is_block g block _ inside ∙ write_back g s entry (omega (arith, before, time_is)) ∙ ap (λ (t : ℕ). Some (TimeBack t)) (sym time_is))

    pub worn_refused : a.head.last_time ≤ time → a.head.last ≡ 2 ^ 40 → ((step g).next s asked ≡ s) × ((step g).reply s asked ≡ No Worn)
    worn_refused later worn =
        step_refused Worn (is_block g block _ inside ∙ write_worn g s entry (omega (arith, later, stands.by.fits.head.last_time)) (sym stands.by.fits.head.last ∙ worn))

    module _ (later : a.head.last_time ≤ time) (not_worn : a.head.last < 2 ^ 40) (size : ℕ) (is_size : size ≡ length (next_record s entry)) where
      long : size ≡ entry_size (block_of (image s) block) entry
      long = is_size ∙ length-record_of (last s + 1) (block_of (image s) block) entry

      pub full_refused : IsFull g a.head size → ((step g).next s asked ≡ s) × ((step g).reply s asked ≡ No Full)
      full_refused full =
          let h = stands.by.fits.head in
          let passed : last_time s ≤ time = omega (arith, later, h.last_time) in
          let number : last s ≢ 2 ^ 40 = λ worn. omega (arith, worn, not_worn, h.last) in
          step_refused Full
          (is_block g block _ inside
          ∙ ⊎_elim
          (λ many. write_many g s entry passed number (omega (arith, many, h.last, h.first)))
          (λ big. write_big g s entry passed number (omega (arith, big, long, h.window)))
          full)

      pub goes_on : (IsFull g a.head size → ⊥) → (added s entry ≡ (step g).next s asked) × (Kept (last s + 1) ≡ (step g).reply s asked)
      goes_on not_full =
          let h = stands.by.fits.head in
          step_goes
          (is_block g block _ inside
          ∙ write_goes g s entry (omega (arith, later, h.last_time)) (λ worn. omega (arith, worn, not_worn, h.last))
          (λ many. not_full (inl (omega (arith, many, h.last, h.first))))
          (⊎_elim (λ big. absurd (not_full (inr (omega (arith, big, long, h.window))))) (λ small. small)
          (cases_lt g.ring (kept s + entry_size (block_of (image s) block) entry))))

-- ---- what was planned
-- the plan and the record are those of the entry
pub planned_from : (a : IndexedLog) (s : State) (x : Disks) (time block : ℕ) (bytes delta parity spelled : List ℕ) → StandsFor (running a) s x → IsPlan a.g (image s) block bytes delta parity
    → ((old fresh : List ℕ) → delta ≡ xor old fresh → spelled ≡ record_of (a.head.last + 1) old (entry_for time block fresh))
    → IsPlanned a.g s (entry_for time block bytes) parity spelled
planned_from a s x time block bytes delta parity spelled stands plan record_is = record {
  parity_is = plan.row_parity_after ∙ ap (λ (i : List (List ℕ)). row_parity a.g i (block_place a.g block).row) (sym (image-added s (entry_for time block bytes)));
  spelled_is = record_is (block_of (image s) block) bytes plan.write_parity
      ∙ ap (λ (q : ℕ). record_of (q + 1) (block_of (image s) block) (entry_for time block bytes)) stands.by.fits.head.last;
}
