-- Halving: items before `low` aren't later than a time, and those from `high` on are.
use Rattle.std.proofs.Common.{◌≡◌, ℕ, suc, ◌+◌, ◌-◌, ◌*◌, ◌/◌, ◌^◌, ◌<◌, ◌≤◌, List, length, get_or, ap, ◌∙◌, arith}
use Rattle.std.proofs.Math.Nat.{pow-succ'}
use Rattle.std.proofs.lemmas.Nat.{pow_pos}
use Rattle.trap_index.specs.declared.item.Item.{Item}
use Rattle.trap_index.specs.Keeping.{no_item}
use Rattle.trap_index.specs.Counting.{AreInOrder, IsCountBy}

-- with so many halvings to go
pub record Halves (items : List Item) (t low high left : ℕ) : Type 0 where
  pub order : low ≤ high
  pub within : high ≤ length items
  pub by : (k : ℕ) → k < low → (get_or items k no_item).time ≤ t
  pub later : (k : ℕ) → high ≤ k → k < length items → t < (get_or items k no_item).time
  pub gap : high + 1 ≤ low + 2 ^ left

pub halves_begin : (items : List Item) (t : ℕ) → length items ≤ 2 ^ 20 → Halves items t 0 (length items) 21
halves_begin items t few = record {
  order = omega arith;
  within = omega arith;
  by = λ k below. absurd (omega arith);
  later = λ k above inside. absurd (omega arith);
  gap = omega arith;
}

halved : (left less : ℕ) → left ≡ suc less → 2 ^ left ≡ 2 * 2 ^ less
halved left less is = ap (λ (n : ℕ). 2 ^ n) is ∙ pow-succ' 2 less

module _ (items : List Item) (t low high left less middle : ℕ) (was : Halves items t low high left) (one : left ≡ suc less) (apart : low < high) (is : middle ≡ low + (high - low) / 2) where
  -- the middle one isn't later, nor is any before it
  pub halves_up : AreInOrder items → (get_or items middle no_item).time ≤ t → Halves items t (middle + 1) high less
  halves_up order here =
      let twice = halved left less one in
      let gap = was.gap in
      let within = was.within in
      record {
        order = omega arith;
        within = within;
        by = λ k below. let ordered = order k middle (omega arith) (omega arith) in omega arith;
        later = was.later;
        gap = omega arith;
      }

  -- the middle one is later, and so is any after it
  pub halves_down : AreInOrder items → t < (get_or items middle no_item).time → Halves items t low middle less
  halves_down order here =
      let twice = halved left less one in
      let gap = was.gap in
      let within = was.within in
      record {
        order = omega arith;
        within = omega arith;
        by = was.by;
        later = λ k above inside. let ordered = order middle k (omega arith) inside in omega arith;
        gap = omega arith;
      }

-- nothing is left between
pub halves_same : (items : List Item) (t low high left less : ℕ) → Halves items t low high left → left ≡ suc less → high ≤ low → Halves items t low high less
halves_same items t low high left less was one met =
    let some = pow_pos less in
    record {
      order = was.order;
      within = was.within;
      by = was.by;
      later = was.later;
      gap = omega arith;
    }

pub halves_end : (items : List Item) (t low high left : ℕ) → Halves items t low high left → left ≡ 0 → IsCountBy items t low
halves_end items t low high left was none =
    let last : 2 ^ left ≡ 1 = ap (λ (n : ℕ). 2 ^ n) none in
    let gap = was.gap in
    let order = was.order in
    let within = was.within in
    record {
      within = omega arith;
      by = was.by;
      later = λ k above inside. was.later k (omega arith) inside;
    }
