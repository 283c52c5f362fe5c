-- Going down the chain of a block's records.
use Rattle.std.proofs.Common.{◌≡◌, ℕ, ◌+◌, ◌-◌, ◌<◌, ◌≤◌, List, [], ◌∷◌, length, get_or, take, ap, sym, ◌∙◌, subst, ⊎_elim, arith, length-append}
use Rattle.std.proofs.lemmas.List.{take-take, take_all, get_or-take, length-take-le}
use Rattle.trap_model.specs.declared.log_record.LogRec.{LogRec}
use Rattle.trap_index.specs.Indexed.{Indexed, last_seq, of_block, newest, no_rec, rec_at, recs_above, item_at}
use Rattle.trap_index.specs.Keeping.{AreNumbered, IsIndexed}
use Rattle.trap_index.proofs.Numbered.{numbered-take}
use Rattle.trap_index.proofs.Chains.{IsNewest, HasNone, newest_cases, newest_most, of_block_more, of_block_parts, of_block_few}

-- so many of the block's records were passed, and `number` is that of the next older one, or 0
pub record Walked (i : Indexed) (block seq turns number : ℕ) : Type 0 where
  pub before : ℕ
  pub within : before ≤ length i.recs
  pub reaches : seq - i.first ≤ before
  pub next : number ≡ newest block (take before i.recs)
  pub passed : turns + length (of_block block (take before i.recs)) ≡ length (of_block block i.recs)

pub walk_begins : (i : Indexed) (block seq number : ℕ) → seq ≤ last_seq i → number ≡ newest block i.recs → Walked i block seq 0 number
walk_begins i block seq number high is =
    let all : take (length i.recs) i.recs ≡ i.recs = take_all (length i.recs) i.recs (omega arith) in
    record {
      before = length i.recs;
      within = omega arith;
      reaches = omega arith;
      next = is ∙ ap (newest block) (sym all);
      passed = (let counts : length (of_block block (take (length i.recs) i.recs)) ≡ length (of_block block i.recs) = ap (λ (l : List LogRec). length (of_block block l)) all in omega arith);
    }

-- where the next older one stands, if it is above the instant
pub record IsAbove (i : Indexed) (block number before : ℕ) : Type 0 where
  pub low : i.first < number
  pub high : number ≤ i.first + before
  pub writes : (rec_at i number).block ≡ block
  pub counted : length (of_block block (take before i.recs)) ≡ length (of_block block (take (number - (i.first + 1)) i.recs)) + 1
  pub upto : length (of_block block (take before i.recs)) ≡ length (of_block block (take (number - i.first) i.recs))

newest_above : (i : Indexed) (block number before : ℕ) → before ≤ length i.recs → IsNewest i.first block (take before i.recs) number → IsAbove i block number before
newest_above i block number before within is =
    let long : length (take before i.recs) ≡ before = length-take-le before i.recs within in
    let low = is.low in
    let high = is.high in
    let m = number - (i.first + 1) in
    let here : get_or (take before i.recs) m no_rec ≡ get_or i.recs m no_rec = get_or-take before i.recs m no_rec (omega arith) in
    let front : take m (take before i.recs) ≡ take m i.recs = take-take m before i.recs (omega arith) in
    let fronts : take (number - i.first) (take before i.recs) ≡ take (number - i.first) i.recs = take-take (number - i.first) before i.recs (omega arith) in
    let split = ap (λ (l : List LogRec). length l) is.others in
    let sum = length-append (of_block block (take m (take before i.recs))) (get_or (take before i.recs) m no_rec ∷ []) in
    let counts : length (of_block block (take m (take before i.recs))) ≡ length (of_block block (take m i.recs)) = ap (λ (l : List LogRec). length (of_block block l)) front in
    record {
      low = low;
      high = omega arith;
      writes = sym (ap (λ (r : LogRec). r.block) here) ∙ is.writes;
      counted = omega arith;
      upto = ap (λ (l : List LogRec). length l) is.upto ∙ ap (λ (l : List LogRec). length (of_block block l)) fronts;
    }

module _ (i : Indexed) (block seq turns number : ℕ) (is : IsIndexed i) (was : Walked i block seq turns number) where
  numbered : AreNumbered i.first (take was.before i.recs)
  numbered = numbered-take i.first i.recs was.before is.numbers

  -- the next one, where it is above the instant
  pub walk_at : seq < number → IsAbove i block number was.before
  walk_at above = ⊎_elim
      (λ (none : HasNone 0 block (take was.before i.recs)). let nothing = none.number in let next = was.next in absurd (omega arith))
      (λ (found : IsNewest i.first block (take was.before i.recs) (newest block (take was.before i.recs))).
      newest_above i block number was.before was.within (subst (IsNewest i.first block (take was.before i.recs)) (sym was.next) found))
      (newest_cases i.first block (take was.before i.recs) numbered)

  -- it is retained
  pub walk_retained : seq < number → (i.first < number) × (number ≤ last_seq i)
  walk_retained above =
      let at = walk_at above in
      let low = at.low in
      let high = at.high in
      let within = was.within in
      (low, omega arith)

  -- and one older one is passed
  pub walk_goes_on : (older : ℕ) → seq < number → older ≡ (item_at i number).prev → Walked i block seq (turns + 1) older
  walk_goes_on older above prev =
      let at = walk_at above in
      let low = at.low in
      let high = at.high in
      let within = was.within in
      let counted = at.counted in
      let passed = was.passed in
      record {
        before = number - (i.first + 1);
        within = omega arith;
        reaches = omega arith;
        next = prev ∙ ap (λ (b : ℕ). newest b (take (number - (i.first + 1)) i.recs)) at.writes;
        passed = omega arith;
      }

  -- whose number is smaller
  pub walk_falls : (older : ℕ) → seq < number → older ≡ (item_at i number).prev → older < number
  walk_falls older above prev =
      let at = walk_at above in
      let low = at.low in
      let high = at.high in
      let within = was.within in
      let m = number - (i.first + 1) in
      let front = numbered-take i.first i.recs m is.numbers in
      let long : length (take m i.recs) ≡ m = length-take-le m i.recs (omega arith) in
      let most = newest_most i.first (rec_at i number).block (take m i.recs) front in
      omega arith

  -- no more are passed than there are records
  pub walk_short : turns ≤ length i.recs
  walk_short =
      let passed = was.passed in
      let most = of_block_few block i.recs in
      omega arith

  -- at the end those above the instant are passed
  pub walk_ends : i.first ≤ seq → number ≤ seq → turns ≡ length (of_block block (recs_above i seq))
  walk_ends low met =
      let parts = of_block_parts block i.recs (seq - i.first) in
      let passed = was.passed in
      let fewer = of_block_more block i.recs (seq - i.first) was.before was.reaches in
      ⊎_elim
      (λ (none : HasNone 0 block (take was.before i.recs)).
      let nothing : length (of_block block (take was.before i.recs)) ≡ 0 = ap (λ (l : List LogRec). length l) none.none in
      omega arith)
      (λ (found : IsNewest i.first block (take was.before i.recs) (newest block (take was.before i.recs))).
      let at = newest_above i block number was.before was.within (subst (IsNewest i.first block (take was.before i.recs)) (sym was.next) found) in
      let upto = at.upto in
      let at_low = at.low in
      let more = of_block_more block i.recs (number - i.first) (seq - i.first) (omega arith) in
      omega arith)
      (newest_cases i.first block (take was.before i.recs) numbered)
