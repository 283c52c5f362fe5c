-- What `history` says: one line for each retained entry.
use Rattle.std.specs.Prelude.{ℕ, ◌+◌, List, [], ◌∷◌, ◌++◌, length, flat_map, codes, decimal, Bool}
use Rattle.std.specs.Prelude.{true, false}
use Rattle.trap_model.specs.declared.history.Entry.{Entry}
use Rattle.trap_model.specs.declared.history.State.{State}
use Rattle.trap_model.specs.Image.{block_of, written}
use Rattle.trap_model.specs.Records.{record_of}

-- a number and a space
abbrev pub word : ℕ → List ℕ
word n = decimal n ++ codes " "

-- the end of a line: whether the entry is marked
abbrev pub mark : Bool → List ℕ
mark true = codes "s\n"
mark false = codes "-\n"

-- the line of an entry: its number, its time, its block, how many bytes its record has, its mark
abbrev pub line_of : ℕ → ℕ → ℕ → ℕ → Bool → List ℕ
line_of q time block size snap = word q ++ word time ++ word block ++ word size ++ mark snap

-- the line of entry number q, over its block's contents before
abbrev pub entry_line : ℕ → List ℕ → Entry → List ℕ
entry_line q old entry =
    line_of q entry.time entry.block (length (record_of q old entry)) entry.snap

-- the lines of these entries, the first of them over this image and with the number after q
abbrev pub lines_from : List (List ℕ) → ℕ → List Entry → List (List ℕ)
lines_from image q [] = []
lines_from image q (entry ∷ later) =
    entry_line (q + 1) (block_of image entry.block) entry
    ∷ lines_from (written image entry) (q + 1) later

-- the lines of all retained entries
abbrev pub history_lines : State → List (List ℕ)
history_lines s = lines_from s.base s.first s.entries

-- and these one after the other
abbrev pub history_text : State → List ℕ
history_text s = flat_map (λ line. line) (history_lines s)
