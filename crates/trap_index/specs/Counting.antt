-- Items in the order of their times, and how many of them aren't later than a time.
use Rattle.std.specs.Prelude.{ℕ, ◌<◌, ◌≤◌, List, length, get_or}
use Rattle.trap_index.specs.declared.item.Item.{Item}
use Rattle.trap_index.specs.Keeping.{no_item}

-- no item has an earlier time than one before it
abbrev pub AreInOrder : List Item → Type 0
AreInOrder items =
    (j k : ℕ) → j ≤ k → k < length items
    → (get_or items j no_item).time ≤ (get_or items k no_item).time

-- the first that many items have times of at most t, and the others later ones
pub record IsCountBy (items : List Item) (t count : ℕ) : Type 0 where
  pub within : count ≤ length items
  pub by : (k : ℕ) → k < count → (get_or items k no_item).time ≤ t
  pub later : (k : ℕ) → count ≤ k → k < length items → t < (get_or items k no_item).time
