-- The times of an index's items.
use Rattle.std.proofs.Common.{◌≡◌, ℕ, ◌+◌, ◌-◌, ◌<◌, List, length, get_or, ap, arith}
use Rattle.trap_index.specs.declared.item.Item.{Item}
use Rattle.trap_index.specs.Indexed.{Indexed, no_rec, IsLastBy}
use Rattle.trap_index.specs.Keeping.{KeepsItems, no_item}
use Rattle.trap_index.specs.Counting.{AreInOrder, IsCountBy}
use Rattle.trap_index.proofs.Numbered.{times_in_order}

module _ (i : Indexed) (items : List Item) (capacity : ℕ) (heads : List ℕ) (end_off last : ℕ) (kept : KeepsItems i items capacity heads end_off last) (long : length i.recs ≡ length items) where
  -- an item has its record's time
  time_kept : (k : ℕ) → k < length i.recs → (get_or items k no_item).time ≡ (get_or i.recs k no_rec).time
  time_kept k inside = ap (λ (x : Item). x.time) (kept.item k inside)

  pub items_in_order : AreInOrder items
  items_in_order j k order inside =
      let first = time_kept j (omega arith) in
      let second = time_kept k (omega arith) in
      let ordered = times_in_order i.base_time i.recs j k kept.indexed.times order (omega arith) in
      omega arith

  -- a count of items is the last number by the time
  pub last_by : (t count : ℕ) → IsCountBy items t count → IsLastBy i t (i.first + count)
  last_by t count is =
      let within = is.within in
      record {
        low = omega arith;
        high = omega arith;
        by = λ q low high.
            let here = time_kept (q - (i.first + 1)) (omega arith) in
            let early = is.by (q - (i.first + 1)) (omega arith) in
            omega arith;
        later = λ q low high.
            let here = time_kept (q - (i.first + 1)) (omega arith) in
            let late = is.later (q - (i.first + 1)) (omega arith) (omega arith) in
            omega arith;
      }
