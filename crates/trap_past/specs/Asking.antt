-- A block's later entries, and what a look back asks of a source.
use Rattle.std.specs.Prelude.{◌≡◌, ◌⊎◌, ℕ, zero, suc, ◌+◌, ◌<◌, ◌≤◌}
use Rattle.trap_index.specs.Indexed.{Indexed, last_seq, newest, item_at}
use Rattle.trap_past.specs.Past.{Past, Remains}

-- a block's newest retained entry, then the one before it along the block's links, and so on, by
-- their numbers
abbrev pub nth_newest : Indexed → ℕ → ℕ → ℕ
nth_newest i block zero = newest block i.recs
nth_newest i block (suc k) = (item_at i (nth_newest i block k)).prev

-- a retained entry of the block, later than the instant
pub record IsLater (i : Indexed) (block seq q : ℕ) : Type 0 where
  pub above : seq < q
  pub low : i.first < q
  pub high : q ≤ last_seq i
  pub own : (item_at i q).block ≡ block

-- the entry that was asked for last, where as many of the block's were as that, the newest first:
-- none means the one before them
abbrev pub last_looked : Indexed → ℕ → ℕ → ℕ → ℕ
last_looked i block zero before = before
last_looked i block (suc k) before = nth_newest i block k

-- the present was asked for once, of this block, then the parities of its `turns` newest entries,
-- the newest first, and no snapshot was
pub record Undoes (i : Indexed) (turns block : ℕ) (old new : Past) : Type 0 where
  pub remains : Remains old new
  pub presents : new.presents ≡ old.presents + 1
  pub asked : new.asked ≡ block
  pub parities : new.parities ≡ old.parities + turns
  pub looked : new.looked ≡ last_looked i block turns old.looked
  pub snapshots : new.snapshots ≡ old.snapshots

-- the present was asked for at most once, and then of this block, and after it the parities of at
-- most `turns` of its newest entries, the newest first, and no snapshot was
pub record UndoesAtMost (i : Indexed) (turns block : ℕ) (old new : Past) : Type 0 where
  pub remains : Remains old new
  pub present : (new.presents ≡ old.presents)
      ⊎ ((new.presents ≡ old.presents + 1) × (new.asked ≡ block))
  -- how many parities were asked for
  pub taken : ℕ
  pub few : taken ≤ turns
  -- none of them before the present
  pub present_first : new.presents ≡ old.presents → taken ≡ 0
  pub parities : new.parities ≡ old.parities + taken
  pub looked : new.looked ≡ last_looked i block taken old.looked
  pub snapshots : new.snapshots ≡ old.snapshots
