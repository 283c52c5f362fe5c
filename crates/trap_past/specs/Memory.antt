-- A past in memory: entries over a base, each with its record's header.
use Rattle.std.specs.Prelude.{◌≡◌, ◌↔◌, ◌≤◌, ℕ, List, [], ◌∷◌, ◌++◌, All, map, Result, IsErr}
use Rattle.std.specs.Prelude.{MatchResult}
use Rattle.trap_bank.specs.declared.disks.Failed.{Failed}
use Rattle.trap_bank.specs.Faults.{Rose}
use Rattle.trap_bank.specs.Counts.{one_more}
use Rattle.trap_model.specs.declared.history.Entry.{Entry}
use Rattle.trap_model.specs.declared.history.State.{State}
use Rattle.trap_model.specs.declared.log_record.LogRec.{LogRec}
use Rattle.trap_model.specs.declared.numbers.Geometry.{Geometry}
use Rattle.trap_model.specs.Image.{volume, zero_image, IsImage}
use Rattle.trap_model.specs.State.{IsEntry}
use Rattle.trap_index.specs.Indexed.{Indexed, last_seq, item_at}
use Rattle.trap_past.specs.declared.memory.Kept.{Kept}
use Rattle.trap_past.specs.Past.{Past}

pub record PastInMemory : Type 0 where
  -- the numbers of the array, how many entries were dropped, and the time and the offset after the
  -- last of them
  pub g : Geometry
  pub first : ℕ
  pub base_time : ℕ
  pub first_off : ℕ
  -- the image before the first entry
  pub base : List (List ℕ)
  -- the entries, the oldest first
  pub entries : List Kept
  -- how often each of the methods was called
  pub presents : ℕ
  pub parities : ℕ
  pub snapshots : ℕ
  -- the block whose present contents were asked for last
  pub asked : ℕ
  -- the number of the entry that was asked for last
  pub looked : ℕ
  -- how many calls there were, up to the greatest number of 64 bits, and the number of the one that
  -- is to fail
  pub calls : ℕ
  pub failing : ℕ
  -- how many of them have failed
  pub faults : ℕ

-- the entry of a header and its contents
abbrev pub kept_entry : Kept → Entry
kept_entry kept = record {
  time = kept.rec.time;
  block = kept.rec.block;
  bytes = kept.contents;
  snap = kept.rec.snap;
}

abbrev pub kept_rec : Kept → LogRec
kept_rec kept = kept.rec

-- the state that it stands for, and the index of its entries
abbrev pub past_state : PastInMemory → State
past_state m = record {
  first = m.first;
  base_time = m.base_time;
  base = m.base;
  entries = map kept_entry m.entries;
}

abbrev pub index_of : PastInMemory → Indexed
index_of m = record {
  g = m.g;
  first = m.first;
  base_time = m.base_time;
  first_off = m.first_off;
  recs = map kept_rec m.entries;
}

-- it stands for its state alone
abbrev pub past_of : PastInMemory → Past
past_of m = record {
  has = record {
    volume = volume m.g;
    size = m.g.block;
    first = m.first;
    last = last_seq (index_of m);
    item = item_at (index_of m);
  };
  stands = λ s. s ≡ past_state m;
  presents = m.presents;
  parities = m.parities;
  snapshots = m.snapshots;
  asked = m.asked;
  looked = m.looked;
  faults = m.faults;
}

-- what calls may do: it stands for the same state, and no count of faults falls
pub record Stays (old new : PastInMemory) : Type 0 where
  pub state : past_state new ≡ past_state old
  pub faults : old.faults ≤ new.faults

-- what it says of a fault: a call has failed
abbrev pub CallFailed : PastInMemory → PastInMemory → Failed → Type 0
CallFailed old new fault = Rose old.faults new.faults

-- right after it: the last call was the chosen one
abbrev pub WasChosen : PastInMemory → Failed → Type 0
WasChosen m fault = m.calls ≡ m.failing

-- the base is an image, and each entry writes a block
pub record IsPastInMemory (m : PastInMemory) : Type 0 where
  pub image : IsImage m.g m.base
  pub written : All (IsEntry m.g) (map kept_entry m.entries)

-- zero blocks and no entry
abbrev pub zero_past : Geometry → ℕ → ℕ → ℕ → PastInMemory
zero_past g first base_time first_off = record {
  g = g;
  first = first;
  base_time = base_time;
  first_off = first_off;
  base = zero_image g;
  entries = [];
  presents = 0;
  parities = 0;
  snapshots = 0;
  asked = 0;
  looked = 0;
  calls = 0;
  failing = 0;
  faults = 0;
}

-- with one entry more
abbrev pub with_entry : PastInMemory → LogRec → List ℕ → PastInMemory
with_entry m rec contents =
    record m { entries = m.entries ++ (record { rec = rec; contents = contents }) ∷ [] }

-- The call fails exactly where its number was chosen, and exactly then the count of faults rises.
-- What is kept stays.
pub record PastFailsAsChosen {T E : Type 0} (result : Result T E) (old new : PastInMemory)
    : Type 0 where
  pub calls : new.calls ≡ one_more old.calls
  pub failing : new.failing ≡ old.failing
  pub fails : IsErr result ↔ (one_more old.calls ≡ old.failing)
  pub faults : MatchResult result (λ value. new.faults ≡ old.faults)
      (λ error. new.faults ≡ one_more old.faults)
  pub index : index_of new ≡ index_of old
