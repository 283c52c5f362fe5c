-- An index of the records of a state, and what it tells of the state.
use Rattle.std.specs.Prelude.{◌≡◌, ◌⊎◌, ℕ, ◌+◌, ◌-◌, ◌<◌, ◌≤◌, List, [], ◌∷◌, length}
use Rattle.trap_model.specs.declared.history.Entry.{Entry}
use Rattle.trap_model.specs.declared.history.State.{State}
use Rattle.trap_model.specs.declared.log_record.LogRec.{LogRec}
use Rattle.trap_model.specs.Image.{block_of, written}
use Rattle.trap_model.specs.Records.{rec_of, entry_at, change_code, snapshot_code}
use Rattle.trap_model.specs.Size.{size_over}
use Rattle.trap_model.specs.State.{up_to, image_at}
use Rattle.trap_index.specs.declared.item.Item.{Item}
use Rattle.trap_index.specs.Indexed.{Indexed}

-- the headers of the records of these entries, the first of them over this image and with the
-- number after q
abbrev pub headers_from : List (List ℕ) → ℕ → List Entry → List LogRec
headers_from image q [] = []
headers_from image q (entry ∷ later) =
    rec_of (q + 1) (block_of image entry.block) entry ∷ headers_from (written image entry) (q + 1)
    later

-- the headers of all retained records
abbrev pub headers : State → List LogRec
headers s = headers_from s.base s.first s.entries

-- the index tells of the state's records
pub record Describes (i : Indexed) (s : State) : Type 0 where
  pub first : i.first ≡ s.first
  pub base_time : i.base_time ≡ s.base_time
  pub recs : i.recs ≡ headers s

-- of the retained entries up to a number, the last that writes the block has number n, or none does
-- and n is 0
pub record IsLastOf (s : State) (block upto n : ℕ) : Type 0 where
  pub high : n ≤ upto
  pub writes : (n ≡ 0) ⊎ ((s.first < n) × ((entry_at s n).block ≡ block))
  pub later : (k : ℕ) → s.first < k → n < k → k ≤ upto → (entry_at s k).block ≡ block → ⊥

-- the block that entry number q writes, as it was before
abbrev pub block_before : State → ℕ → List ℕ
block_before s q = block_of (image_at s (q - 1)) (entry_at s q).block

-- the item is that of entry number q, where the first retained record begins at this offset
pub record IsItemOf (s : State) (first_off q : ℕ) (item : Item) : Type 0 where
  pub time : item.time ≡ (entry_at s q).time
  pub block : item.block ≡ (entry_at s q).block
  pub snap : item.snap ≡ (entry_at s q).snap
  pub plen : item.plen ≡ length (change_code (block_before s q) (entry_at s q))
  pub slen : item.slen ≡ length (snapshot_code (entry_at s q))
  pub off : item.off ≡ first_off + size_over s.base (up_to s (q - 1))
  pub prev : IsLastOf s (entry_at s q).block (q - 1) item.prev
