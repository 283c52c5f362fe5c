-- The head that a commit puts, and the one that a drain puts.
use Rattle.std.specs.Prelude.{◌≡◌, ℕ, ◌+◌, ◌-◌, List, false}
use Rattle.trap_format.specs.declared.head.Head.{Head}
use Rattle.trap_map.specs.Layout.{block_place}
use Rattle.trap_map.specs.Table.{row_parity}
use Rattle.trap_model.specs.ArrayStep.{added}
use Rattle.trap_model.specs.Limits.{record_header_len}
use Rattle.trap_model.specs.Records.{next_record}
use Rattle.trap_model.specs.State.{image}
use Rattle.trap_model.specs.declared.history.Entry.{Entry}
use Rattle.trap_model.specs.declared.history.State.{State}
use Rattle.trap_model.specs.declared.log_record.LogRec.{LogRec}
use Rattle.trap_model.specs.declared.numbers.Geometry.{Geometry}

-- with a further entry of that time, whose record has that many bytes
abbrev pub committed : Head → ℕ → ℕ → Head
committed h time size = record h { last = h.last + 1; end_off = h.end_off + size; last_time = time }

-- with the entries up to a number on the members
abbrev pub drained_to : Head → ℕ → Head
drained_to h upto = record h { drained = upto }

-- the entry of a write, which isn't marked
abbrev pub entry_for : ℕ → ℕ → List ℕ → Entry
entry_for time block bytes = record { time = time; block = block; bytes = bytes; snap = false }

-- the header of its record, where that has that many bytes
abbrev pub next_rec : Head → ℕ → ℕ → ℕ → LogRec
next_rec h time block size =
    record {
      snap = false;
      seq = h.last + 1;
      time = time;
      block = block;
      plen = size - record_header_len;
      slen = 0;
    }

-- over this state, these are the parity of the entry's row after it, and its record
pub record IsPlanned (g : Geometry) (s : State) (entry : Entry)
    (parity spelled : List ℕ) : Type 0 where
  pub parity_is : parity ≡ row_parity g (image (added s entry)) (block_place g entry.block).row
  pub spelled_is : spelled ≡ next_record s entry
