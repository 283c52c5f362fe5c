-- The frames of retained entries, as a mounted array knows them.
use Rattle.std.specs.Prelude.{◌≡◌, ℕ, zero, suc, ◌+◌, List, [], ◌++◌}
use Rattle.trap_bank.specs.Disks.{View}
use Rattle.trap_index.specs.Indexed.{item_at}
use Rattle.trap_index.specs.declared.item.Item.{Item}
use Rattle.trap_model.specs.declared.frame.Frame.{Frame}
use Rattle.trap_model.specs.Frame.{frame_header}
use Rattle.trap_array.specs.Calls.{Mounted}
use Rattle.trap_array.specs.Coded.{IsEntryCode}

-- the header of the frame of the entry with this item
abbrev pub frame_of_item : ℕ → ℕ → Item → Frame
frame_of_item id q item =
    record { id = id; seq = q; time = item.time; block = item.block; length = item.plen }

-- the bytes are the frame of the entry with this number
pub record IsEntryFrame (a : Mounted) (v : View) (q : ℕ) (bytes : List ℕ) : Type 0 where
  pub code : List ℕ
  pub is : IsEntryCode a v q code
  pub spelled : bytes ≡ frame_header (frame_of_item a.g.id q (item_at a.index q)) ++ code

-- the text is the frames of that many entries after number p, one after the other
abbrev pub AreEntryFrames : Mounted → View → ℕ → ℕ → List ℕ → Type 0
AreEntryFrames a v p zero text = text ≡ []
AreEntryFrames a v p (suc k) text = (front last : List ℕ) × AreEntryFrames a v p k front
    × IsEntryFrame a v (p + k + 1) last × (text ≡ front ++ last)
