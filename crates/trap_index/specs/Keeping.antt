-- What is so of every index, and how its items are kept.
use Rattle.std.specs.Prelude.{◌≡◌, ℕ, ◌+◌, ◌*◌, ◌^◌, ◌<◌, ◌≤◌, List, [], ◌∷◌, length, get_or, take}
use Rattle.std.specs.Prelude.{false, nat_le, if◌then◌else◌}
use Rattle.trap_model.specs.declared.log_record.LogRec.{LogRec}
use Rattle.trap_model.specs.Image.{volume}
use Rattle.trap_index.specs.declared.item.Item.{Item}
use Rattle.trap_index.specs.Indexed.{Indexed, last_seq, last_record_time, recs_len, newest, no_rec}
use Rattle.trap_index.specs.Indexed.{item_after}

-- the records have the numbers that follow this one
abbrev pub AreNumbered : ℕ → List LogRec → Type 0
AreNumbered before [] = Unit {0}
AreNumbered before (rec ∷ later) = (rec.seq ≡ before + 1) × AreNumbered (before + 1) later

-- times never fall, beginning with the one before the records
abbrev pub TimesNeverFall : ℕ → List LogRec → Type 0
TimesNeverFall before [] = Unit {0}
TimesNeverFall before (rec ∷ later) = (before ≤ rec.time) × TimesNeverFall rec.time later

-- what an index can tell
pub record IsIndexed (i : Indexed) : Type 0 where
  pub few : length i.recs ≤ i.g.entries
  pub last_most : last_seq i ≤ 2 ^ 40
  pub numbers : AreNumbered i.first i.recs
  pub times : TimesNeverFall i.base_time i.recs

-- the header that an item was made of, of an entry with this number
abbrev pub rec_of_item : ℕ → Item → LogRec
rec_of_item q item = record {
  snap = item.snap;
  seq = q;
  time = item.time;
  block = item.block;
  plen = item.plen;
  slen = item.slen;
}

-- the headers of items that have the numbers that follow this one
abbrev pub recs_of : ℕ → List Item → List LogRec
recs_of before [] = []
recs_of before (item ∷ later) = rec_of_item (before + 1) item ∷ recs_of (before + 1) later

-- what stands for an item where there is none
abbrev pub no_item : Item
no_item = record { time = 0; block = 0; off = 0; plen = 0; slen = 0; snap = false; prev = 0 }

-- a link as it is read: one that names no retained entry is 0, so that dropping touches no link
abbrev pub link : ℕ → ℕ → ℕ
link first number = if nat_le number first then 0 else number

-- an item as it is told, with its link as it is read
abbrev pub told : ℕ → Item → Item
told first item = record item { prev = link first item.prev }

-- the items are told as those of the records, a number is kept for each block, and the rest goes
-- with the last record; no record has more than 8232 bytes
pub record KeepsItems (i : Indexed) (items : List Item) (capacity : ℕ) (heads : List ℕ)
    (end_off last : ℕ) : Type 0 where
  pub indexed : IsIndexed i
  pub room : capacity ≡ i.g.entries
  pub item : (k : ℕ) → k < length i.recs
      → told i.first (get_or items k no_item)
      ≡ item_after i.first_off (take k i.recs) (get_or i.recs k no_rec)
  pub blocks : length heads ≡ volume i.g
  pub head : (block : ℕ) → block < volume i.g → link i.first (get_or heads block 0)
      ≡ newest block i.recs
  pub end : end_off ≡ i.first_off + recs_len i.recs
  pub end_most : end_off ≤ 2 ^ 54 + 8232 * last_seq i
  pub time : last ≡ last_record_time i
