-- How the lines of a mounted array's entries are said, piece after piece.
use Rattle.std.specs.Prelude.{◌≡◌, ℕ, ◌+◌, List, [], ◌∷◌, ◌++◌, take, flat_map, Result, Ok}
use Rattle.std.specs.Prelude.{Err}
use Rattle.trap_bank.specs.Disks.{Contents}
use Rattle.trap_bank.specs.Calls.{SaysPart}
use Rattle.trap_bank.specs.Steps.{SpokePart}
use Rattle.trap_index.specs.Indexed.{Indexed, rec_len}
use Rattle.trap_index.specs.declared.item.Item.{Item}
use Rattle.trap_model.specs.Limits.{record_header_len}
use Rattle.trap_model.specs.declared.log_record.LogRec.{LogRec}
use Rattle.trap_array.specs.Calls.{Mounted}
use Rattle.trap_cli.specs.History.{line_of}

-- the line of the entry with this item
abbrev pub item_line : ℕ → Item → List ℕ
item_line q item =
    line_of q item.time item.block (record_header_len + item.plen + item.slen) item.snap

-- the line of the record with this header and number
abbrev pub record_line : ℕ → LogRec → List ℕ
record_line q r = line_of q r.time r.block (rec_len r) r.snap

-- the lines of these records, the first of them with the number after q
abbrev pub record_lines : ℕ → List LogRec → List (List ℕ)
record_lines q [] = []
record_lines q (r ∷ later) = record_line (q + 1) r ∷ record_lines (q + 1) later

-- the lines of an index's records, one after the other
abbrev pub index_text : Indexed → List ℕ
index_text i = flat_map (λ line. line) (record_lines i.first i.recs)

-- some front of the piece's first bytes was said, and the rest of them is the piece's first `at`
pub record SpokeFront (piece : List ℕ) (len at : ℕ) (old new : Contents) : Type 0 where
  pub part : List ℕ
  pub disks : new.disks ≡ old.disks
  pub said : new.said ≡ old.said ++ part
  pub whole : part ++ take at piece ≡ take len piece

-- there is room for a line after `at`, or the port failed
abbrev pub Flushed : {E : Type 0} → List ℕ → ℕ → Result ℕ E → Contents → Contents → Type 0
Flushed piece len (Ok at) old new = SpokeFront piece len at old new
Flushed piece len (Err e) old new = SpokePart (take len piece) old new

-- the disks are the same, and some first part of the lines of the array's records was said
pub record Lists (a : Mounted) (old new : Contents) : Type 0 where
  pub disks : new.disks ≡ old.disks
  pub says : SaysPart (index_text a.index) old new

-- the disks are the same, and these lines were all said
pub record ListsWhole (a : Mounted) (old new : Contents) : Type 0 where
  pub disks : new.disks ≡ old.disks
  pub says : new.said ≡ old.said ++ index_text a.index

-- the whole text, or a first part where the port failed
abbrev pub HasListed : {T E : Type 0} → Mounted → Result T E → Contents → Contents → Type 0
HasListed a (Ok value) old new = ListsWhole a old new
HasListed a (Err e) old new = Lists a old new
