-- In how many calls of the port the frames are said.
use Rattle.std.specs.Prelude.{◌≡◌, ◌⊎◌, ℕ, zero, suc, ◌+◌, ◌-◌, ◌*◌, ◌<◌, ◌≤◌, List, length}
use Rattle.std.specs.Prelude.{Result, Ok, Err, OnOk}
use Rattle.trap_bank.specs.Disks.{View}
use Rattle.trap_index.specs.Indexed.{item_at, last_seq}
use Rattle.trap_model.specs.Frame.{frame_len}
use Rattle.trap_port.specs.Outgoing.{Waiting}
use Rattle.trap_array.specs.Calls.{Mounted}
use Rattle.trap_array.specs.Sources.{CallsAtMost}
use Rattle.trap_send.specs.EntryFrames.{frame_of_item}

-- how long the frame of the entry with this number is
abbrev pub frame_size : Mounted → ℕ → ℕ
frame_size a q = frame_len (frame_of_item a.g.id q (item_at a.index q))

-- how many bytes the frames of that many entries after number p have
abbrev pub frames_size : Mounted → ℕ → ℕ → ℕ
frames_size a p zero = 0
frames_size a p (suc k) = frames_size a p k + frame_size a (p + k + 1)

-- a frame of this length waits after what waited; or there was no room for it, so that what waited
-- was said in one call, and the frame waits alone
pub record PutsInRoom (size len : ℕ) (waited left : Waiting) (old new : View) : Type 0 where
  pub most : len ≤ size + 41
  pub within : length left.bytes ≤ waited.room
  pub puts : (CallsAtMost 2 old new × (length left.bytes ≡ length waited.bytes + len))
      ⊎ (CallsAtMost 3 old new × (waited.room < length waited.bytes + len)
      × (length left.bytes ≡ len))

-- Of the frames of that many entries these bytes wait in the room, and the others were said: in no
-- more calls than they fill a room but for a frame, and in no fewer than rooms that they take. Two
-- calls at most read a record.
pub record WaitsInPieces (a : Mounted) (p count room : ℕ) (waits : List ℕ) (old new : View)
    : Type 0 where
  pub says : ℕ
  pub least : says * (room + 1 - (a.g.block + 41)) + length waits ≤ frames_size a p count
  pub most : frames_size a p count ≤ says * room + length waits
  pub within : length waits ≤ room
  pub calls : CallsAtMost (2 * count + says) old new

-- The frames were to be said in a room of this size. Two calls at most read a record, and one says
-- what waits at the end. There are no more others than the frames fill a room but for a frame.
pub record SendsInPieces {T E : Type 0} (a : Mounted) (p room : ℕ) (result : Result T E)
    (old new : View) : Type 0 where
  pub says : ℕ
  pub least : says * (room + 1 - (a.g.block + 41)) ≤ frames_size a p (last_seq a.index - p)
  -- and no fewer than rooms that the frames take
  pub most : OnOk result (frames_size a p (last_seq a.index - p) ≤ (says + 1) * room)
  pub calls : CallsAtMost (2 * (last_seq a.index - p) + says + 1) old new

-- all frames wait or were said so, or not all after a fault
abbrev pub GathersInPieces : {T E : Type 0} → Mounted → ℕ → ℕ → List ℕ → Result T E → View → View
    → Type 0
GathersInPieces a p room waits (Ok value) old new =
    WaitsInPieces a p (last_seq a.index - p) room waits old new
GathersInPieces {T} {E} a p room waits (Err e) old new =
    SendsInPieces {T = T} {E = E} a p room (Err e) old new
