-- What an index tells of the retained records: it is computed from their headers.
use Rattle.std.specs.Prelude.{ℕ, ◌+◌, ◌-◌, ◌<◌, ◌≤◌, List, [], ◌∷◌, ◌++◌, length, get_or, take}
use Rattle.std.specs.Prelude.{drop, filter, ◌==◌, false}
use Rattle.trap_model.specs.declared.known.Known.TheVariants.{Present}
use Rattle.trap_model.specs.declared.known.Path.{Path}
use Rattle.trap_model.specs.declared.known.Way.TheVariants.{Back}
use Rattle.trap_model.specs.declared.log_record.LogRec.{LogRec}
use Rattle.trap_model.specs.declared.numbers.Geometry.{Geometry}
use Rattle.trap_model.specs.Limits.{record_header_len}
use Rattle.trap_index.specs.declared.item.Item.{Item}

-- the numbers of an array, how many entries were dropped and the time of the last of them, the
-- offset after them in the ring, and the headers of the retained records, the oldest first
pub record Indexed : Type 0 where
  pub g : Geometry
  pub first : ℕ
  pub base_time : ℕ
  pub first_off : ℕ
  pub recs : List LogRec

-- no record is retained
abbrev pub nothing_indexed : Geometry → ℕ → ℕ → ℕ → Indexed
nothing_indexed g first base_time first_off =
    record { g = g; first = first; base_time = base_time; first_off = first_off; recs = [] }

-- with one record more
abbrev pub with_record : Indexed → LogRec → Indexed
with_record i rec = record i { recs = i.recs ++ rec ∷ [] }

-- the number of the last record, or of the last dropped entry where there is none
abbrev pub last_seq : Indexed → ℕ
last_seq i = i.first + length i.recs

-- the time of the last of the records, or the time before them where there is none
abbrev pub time_of_last : ℕ → List LogRec → ℕ
time_of_last before [] = before
time_of_last before (rec ∷ later) = time_of_last rec.time later

abbrev pub last_record_time : Indexed → ℕ
last_record_time i = time_of_last i.base_time i.recs

-- a record's bytes: those of its header, and its codes
abbrev pub rec_len : LogRec → ℕ
rec_len rec = record_header_len + rec.plen + rec.slen

-- the records' bytes together
abbrev pub recs_len : List LogRec → ℕ
recs_len [] = 0
recs_len (rec ∷ later) = rec_len rec + recs_len later

-- those of a block
abbrev pub of_block : ℕ → List LogRec → List LogRec
of_block block recs = filter (λ rec. rec.block == block) recs

-- the number of the last of the records, or the number before them where there is none
abbrev pub seq_after : ℕ → List LogRec → ℕ
seq_after before [] = before
seq_after before (rec ∷ later) = seq_after rec.seq later

-- the number of a block's last record among these, or 0 where it has none
abbrev pub newest : ℕ → List LogRec → ℕ
newest block recs = seq_after 0 (of_block block recs)

-- what stands for a record where there is none
abbrev pub no_rec : LogRec
no_rec = record { snap = false; seq = 0; time = 0; block = 0; plen = 0; slen = 0 }

-- record number q, for first < q ≤ last
abbrev pub rec_at : Indexed → ℕ → LogRec
rec_at i q = get_or i.recs (q - (i.first + 1)) no_rec

-- the records up to number q, and those above it
abbrev pub recs_up_to : Indexed → ℕ → List LogRec
recs_up_to i q = take (q - i.first) i.recs

abbrev pub recs_above : Indexed → ℕ → List LogRec
recs_above i q = drop (q - i.first) i.recs

-- with the entries up to number q dropped, for first ≤ q ≤ last
abbrev pub dropped_to : Indexed → ℕ → Indexed
dropped_to i q = record {
  g = i.g;
  first = q;
  base_time = time_of_last i.base_time (recs_up_to i q);
  first_off = i.first_off + recs_len (recs_up_to i q);
  recs = recs_above i q;
}

-- what a record's header tells, where the first record begins at an offset and these lie between
abbrev pub item_after : ℕ → List LogRec → LogRec → Item
item_after first_off before rec = record {
  time = rec.time;
  block = rec.block;
  off = first_off + recs_len before;
  plen = rec.plen;
  slen = rec.slen;
  snap = rec.snap;
  prev = newest rec.block before;
}

-- the item of record number q, for first < q ≤ last
abbrev pub item_at : Indexed → ℕ → Item
item_at i q = item_after i.first_off (take (q - (i.first + 1)) i.recs) (rec_at i q)

-- the number is the last one whose time is at most t, or `first` where there is none: times never
-- fall
pub record IsLastBy (i : Indexed) (t q : ℕ) : Type 0 where
  pub low : i.first ≤ q
  pub high : q ≤ last_seq i
  pub by : (k : ℕ) → i.first < k → k ≤ q → (rec_at i k).time ≤ t
  pub later : (k : ℕ) → q < k → k ≤ last_seq i → t < (rec_at i k).time

-- From the present back to the instant after record number q: over each of the block's records
-- above q.
abbrev pub path_to : Indexed → ℕ → ℕ → Path
path_to i block q = record {
  from = Present;
  turns = length (of_block block (recs_above i q));
  way = Back;
}
