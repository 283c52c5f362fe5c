-- Going back over a block's entries, one parity at a time.
use Rattle.std.proofs.Common.{◌≡◌, ℕ, ◌+◌, ◌-◌, ◌^◌, ◌<◌, ◌≤◌, List, length, take, refl, ap, sym, ◌∙◌, subst, arith}
use Rattle.std.proofs.lemmas.List.{take_all}
use Rattle.trap_block.specs.Xor.{xor}
use Rattle.trap_model.specs.declared.history.State.{State}
use Rattle.trap_model.specs.declared.log_record.LogRec.{LogRec}
use Rattle.trap_model.specs.Image.{block_of, image_after}
use Rattle.trap_model.specs.State.{image, image_at}
use Rattle.trap_index.specs.Indexed.{Indexed, last_seq, newest, recs_above, of_block, item_at}
use Rattle.trap_index.specs.Keeping.{IsIndexed}
use Rattle.trap_index.proofs.Chains.{of_block_more, of_block_parts, of_block_few}
use Rattle.trap_index.proofs.Walking.{Walked, IsAbove, walk_at, walk_falls, walk_ends}
use Rattle.trap_past.specs.Asking.{nth_newest, Undoes, UndoesAtMost}
use Rattle.trap_past.specs.Past.{Past, Retained, IsOf, IsIndexOf, GivesPresent, GivesParity}
use Rattle.trap_past.specs.Undo.{parity_at}
use Rattle.trap_past.proofs.Counts.{linked, undoes_none, undoes_more, undoes_at_most}
use Rattle.trap_past.proofs.Standing.{writes_to, stays, taken_back, as_long}

-- the source can stand for the states that it stands for
abbrev pub IsLawful : Past → Type 0
IsLawful v = (s : State) → v.stands s → IsOf v.has s

-- Some of the block's parities were taken back: those of its entries after the first `before` ones. `number` is that
-- of the next older one, or 0.
pub record Traced (i : Indexed) (old new : Past) (block seq number : ℕ) (into : List ℕ) : Type 0 where
  pub turns : ℕ
  pub before : ℕ
  pub within : before ≤ length i.recs
  pub reaches : seq - i.first ≤ before
  pub next : number ≡ newest block (take before i.recs)
  pub passed : turns + writes_to i block before ≡ length (of_block block i.recs)
  pub order : number ≡ nth_newest i block turns
  pub calls : Undoes i turns block old new
  pub faults : old.faults ≤ new.faults
  pub told : (s : State) → old.stands s → into ≡ block_of (image_after s.base (take before s.entries)) block

-- all of the entries
all_taken : (s : State) (count : ℕ) → count ≡ length s.entries → image_after s.base (take count s.entries) ≡ image s
all_taken s count is = ap (image_after s.base) (take_all count s.entries (omega arith))

pub trace_begins : (i : Indexed) (old new : Past) (block seq number : ℕ) (into : List ℕ) → IsIndexOf i old.has → IsLawful old → seq ≤ old.has.last → number ≡ newest block i.recs
    → GivesPresent block old new → old.faults ≤ new.faults → ((s : State) → old.stands s → into ≡ block_of (image s) block) → Traced i old new block seq number into
trace_begins i old new block seq number into index lawful high is call faults told =
    let all : take (length i.recs) i.recs ≡ i.recs = take_all (length i.recs) i.recs (omega arith) in
    let one = index.last in
    record {
      turns = 0;
      before = length i.recs;
      within = omega arith;
      reaches = omega arith;
      next = is ∙ ap (newest block) (sym all);
      passed = (let counts : writes_to i block (length i.recs) ≡ length (of_block block i.recs) = ap (λ (l : List LogRec). length (of_block block l)) all in omega arith);
      order = is;
      calls = undoes_none i block old new call;
      faults = faults;
      told = λ s stands.
          let long = as_long i old.has s (lawful s stands) index in
          told s stands ∙ sym (ap (λ (im : List (List ℕ)). block_of im block) (all_taken s (length i.recs) long));
    }

module _ (i : Indexed) (old new : Past) (block seq number : ℕ) (into : List ℕ) (is : IsIndexed i) (was : Traced i old new block seq number into) where
  -- as the index walks
  walked : Walked i block seq was.turns number
  walked = record { before = was.before; within = was.within; reaches = was.reaches; next = was.next; passed = was.passed }

  above_is : seq < number → IsAbove i block number was.before
  above_is above = walk_at i block seq was.turns number is
      (record { before = was.before; within = was.within; reaches = was.reaches; next = was.next; passed = was.passed }) above

  -- the next older one is retained, and more older ones have smaller numbers
  pub trace_retained : seq < number → (i.first < number) × (number ≤ last_seq i)
  trace_retained above =
      let at = above_is above in
      let low = at.low in
      let high = at.high in
      let within = was.within in
      (low, omega arith)

  pub trace_falls : (older : ℕ) → seq < number → older ≡ (item_at i number).prev → older < number
  trace_falls older above prev = walk_falls i block seq was.turns number is walked older above prev

  -- it is one that the source has, and more calls can be counted
  pub trace_retained_in : IsIndexOf i old.has → seq < number → (new.has.first < number) × (number ≤ new.has.last)
  trace_retained_in index above =
      let at = trace_retained above in
      let one = index.first in
      let two = index.last in
      let low = at.0 in
      let high = at.1 in
      let same = was.calls.remains.has in
      let first : new.has.first ≡ old.has.first = ap (λ (v : Retained). v.first) same in
      let last : new.has.last ≡ old.has.last = ap (λ (v : Retained). v.last) same in
      (omega arith, omega arith)

  pub trace_counts : old.parities ≤ 2 ^ 62 → new.parities < 2 ^ 63
  trace_counts few =
      let count = was.calls.parities in
      let passed = was.passed in
      let some = of_block_few block i.recs in
      let most = is.last_most in
      omega arith

  -- no more are taken than the path has turns
  pub trace_few : i.first ≤ seq → seq < number → was.turns + 1 ≤ length (of_block block (recs_above i seq))
  trace_few low above =
      let at = above_is above in
      let counted = at.counted in
      let passed = was.passed in
      let parts = of_block_parts block i.recs (seq - i.first) in
      let fewer = of_block_more block i.recs (seq - i.first) (number - (i.first + 1)) (omega arith) in
      omega arith

  pub trace_faulty : (next : Past) → IsIndexOf i old.has → old.has.first ≤ seq → seq < number → GivesParity number new next → UndoesAtMost i (length (of_block block (recs_above i seq))) block old next
  trace_faulty next index low above call =
      let one = index.first in
      undoes_at_most i (was.turns + 1) (length (of_block block (recs_above i seq))) block old next (undoes_more i was.turns block number old new next was.order was.calls call)
      (trace_few (omega arith) above)

  pub trace_goes_on : (next : Past) (older : ℕ) (parity after : List ℕ) → IsIndexOf i old.has → IsLawful old → block < old.has.volume → seq < number
      → older ≡ (item_at i number).prev → GivesParity number new next → new.faults ≤ next.faults → ((s : State) → new.stands s → parity ≡ parity_at s number) → after ≡ xor into parity
      → Traced i old next block seq older after
  trace_goes_on next older parity after index lawful inside above prev call faults gives xored =
      let at = above_is above in
      let low = at.low in
      let high = at.high in
      let counted = at.counted in
      let passed = was.passed in
      let within = was.within in
      let before = was.before in
      let were = was.faults in
      record {
        turns = was.turns + 1;
        before = number - (i.first + 1);
        within = omega arith;
        reaches = omega arith;
        next = prev ∙ ap (λ (b : ℕ). newest b (take (number - (i.first + 1)) i.recs)) at.writes;
        passed = omega arith;
        order = prev ∙ ap (λ (n : ℕ). (item_at i n).prev) was.order ∙ linked i block was.turns (was.turns + 1) refl;
        calls = undoes_more i was.turns block number old new next was.order was.calls call;
        faults = omega arith;
        told = λ s stands.
            let of = lawful s stands in
            let gap : number - i.first + (before - (number - i.first)) ≡ before = omega arith in
            let still = stays i old.has s of index block (number - i.first) (before - (number - i.first)) (omega arith) (ap (writes_to i block) gap ∙ at.upto) in
            let here : into ≡ block_of (image_after s.base (take (number - i.first) s.entries)) block =
            was.told s stands ∙ sym (ap (λ (n : ℕ). block_of (image_after s.base (take n s.entries)) block) gap) ∙ still in
            let given : parity ≡ parity_at s number = gives s ((was.calls.remains.stands s).0 stands) in
            xored
            ∙ ap (λ (b : List ℕ). xor b parity) here
            ∙ ap (xor (block_of (image_after s.base (take (number - i.first) s.entries)) block)) given
            ∙ taken_back i old.has s of index block number inside low (omega arith) at.writes;
      }

  -- at the end the path's parities were taken, and the block is the one of the instant
  trace_all : i.first ≤ seq → number ≤ seq → was.turns ≡ length (of_block block (recs_above i seq))
  trace_all low met = walk_ends i block seq was.turns number is walked low met

  pub trace_turns : IsIndexOf i old.has → old.has.first ≤ seq → number ≤ seq → Undoes i (length (of_block block (recs_above i seq))) block old new
  trace_turns index low met =
      let one = index.first in
      subst (λ (n : ℕ). Undoes i n block old new) (trace_all (omega arith) met) was.calls

  pub trace_at_most : IsIndexOf i old.has → old.has.first ≤ seq → number ≤ seq → UndoesAtMost i (length (of_block block (recs_above i seq))) block old new
  trace_at_most index low met =
      let one = index.first in
      let all = trace_all (omega arith) met in
      undoes_at_most i was.turns (length (of_block block (recs_above i seq))) block old new was.calls (omega arith)

  pub trace_ends : IsIndexOf i old.has → IsLawful old → old.has.first ≤ seq → number ≤ seq → (s : State) → old.stands s → into ≡ block_of (image_at s seq) block
  trace_ends index lawful low met s stands =
      let of = lawful s stands in
      let one = index.first in
      let three = of.first in
      let within = was.within in
      let reaches = was.reaches in
      let before = was.before in
      let turns = trace_all (omega arith) met in
      let passed = was.passed in
      let parts = of_block_parts block i.recs (seq - i.first) in
      let gap : seq - i.first + (before - (seq - i.first)) ≡ before = omega arith in
      let same : writes_to i block before ≡ writes_to i block (seq - i.first) = omega arith in
      let at : seq - i.first ≡ seq - s.first = omega arith in
      was.told s stands
      ∙ sym (ap (λ (n : ℕ). block_of (image_after s.base (take n s.entries)) block) gap)
      ∙ stays i old.has s of index block (seq - i.first) (before - (seq - i.first)) (omega arith) (ap (writes_to i block) gap ∙ same)
      ∙ ap (λ (n : ℕ). block_of (image_after s.base (take n s.entries)) block) at
