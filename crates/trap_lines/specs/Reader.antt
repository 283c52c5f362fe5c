-- What a reader of lines has before it, and what one call passes over.
use Rattle.std.specs.Prelude.{◌≡◌, ℕ, ◌+◌, ◌-◌, ◌^◌, ◌<◌, ◌≤◌, List, [], ◌∷◌, ◌++◌, length, take}
use Rattle.std.specs.Prelude.{drop, Option, None, Bool, true, false}
use Rattle.std.specs.Io.KnownBytes.{Consumes, IsAtEnd, prepend_known}
use Rattle.trap_bank.specs.Faults.{Rose}
use Rattle.trap_bank.specs.Stream.{Stream}
use Rattle.trap_script.specs.Lines.{HasNoFeed}
use Rattle.trap_lines.specs.declared.reader.LineReader.{LineReader}
use Rattle.trap_lines.specs.declared.found.Found.{Found}
use Rattle.trap_lines.specs.declared.found.Found.TheVariants.{Line, Last, End}
use Rattle.trap_lines.specs.declared.found.ReadFault.{ReadFault}
use Rattle.trap_lines.specs.declared.found.ReadFault.TheVariants.{Source, TooLong}

-- the bytes that were taken and not passed over yet
abbrev pub unread : LineReader → List ℕ
unread r = take (r.end - r.at) (drop r.at r.chunk.items)

-- all that is still to come, where the source tells it
abbrev pub to_come : LineReader → Stream → Option (List ℕ)
to_come r s = prepend_known (unread r) s.left

-- how many bytes were taken through the reader
abbrev pub taken : LineReader → ℕ
taken r = r.used + (r.end - r.at)

-- how many bytes of a line the reader keeps
abbrev pub room : LineReader → ℕ
room r = length r.line.items

-- from one moment to another these bytes were passed over
pub record Passes (passed : List ℕ) (r r' : LineReader) (s s' : Stream) : Type 0 where
  pub bytes : Consumes (to_come r s) (to_come r' s') passed
  pub used : r'.used ≡ r.used + length passed
  pub given : s'.given + taken r ≡ s.given + taken r'
  pub faults : s.faults ≤ s'.faults
  pub same_room : room r' ≡ room r
  -- a source that doesn't tell its bytes hasn't begun to
  pub untold : s.left ≡ None → s'.left ≡ None

-- the reader went over that many of the bytes that were taken
pub record Advances (count : ℕ) (r r' : LineReader) : Type 0 where
  pub chunk : r'.chunk ≡ r.chunk
  pub at : r'.at ≡ r.at + count
  pub end : r'.end ≡ r.end
  pub used : r'.used ≡ r.used + count
  pub same_room : room r' ≡ room r

-- where something was taken, the last answer wasn't the end
abbrev pub IsOpen : LineReader → Stream → Type 0
IsOpen r s = 0 < taken r → s.ended ≡ false

-- nothing is left, and the source has said so
abbrev pub IsEnd : LineReader → Stream → Type 0
IsEnd r s = IsAtEnd (to_come r s) × (s.ended ≡ true)

-- a byte is there, or the end
abbrev pub Refills : Bool → LineReader → Stream → Type 0
Refills true r' s' = (r'.at < r'.end) × (s'.ended ≡ false)
Refills false r' s' = IsEnd r' s'

-- the line stands at the front of the buffer, unless it is too long for it
abbrev pub IsLineHeld : LineReader → List ℕ → Type 0
IsLineHeld r line = length line ≤ room r → take (length line) r.line.items ≡ line

-- a line of that many bytes, and the reader that has it
pub record IsLine (line : List ℕ) (len : ℕ) (r : LineReader) : Type 0 where
  pub no_feed : HasNoFeed line
  pub long : length line ≡ len
  pub held : IsLineHeld r line

-- what was found: a line with its line feed, a last line without one, or the end
abbrev pub Finds : Found → LineReader → LineReader → Stream → Stream → Type 0
Finds (Line len) r r' s s' =
    (line : List ℕ) × IsLine line len r' × Passes (line ++ 10 ∷ []) r r' s s' × (s'.ended ≡ false)
Finds (Last len) r r' s s' =
    (line : List ℕ) × IsLine line len r' × Passes line r r' s s' × (0 < len) × IsEnd r' s'
Finds End r r' s s' = Passes [] r r' s s' × IsEnd r' s'

-- why nothing more is there
abbrev pub IsCause : ReadFault → LineReader → Stream → Stream → Type 0
IsCause Source r' s s' = Rose s.faults s'.faults
IsCause TooLong r' s s' = (taken r' ≡ 2 ^ 40) × (s'.ended ≡ false)

-- all that was taken is passed over, and nothing more is there
abbrev pub StopsAt : ReadFault → LineReader → Stream → Stream → Type 0
StopsAt fault r' s s' = (unread r' ≡ []) × IsCause fault r' s s'

-- no line was found, and what was passed over has no line feed
abbrev pub FindsNone : ReadFault → LineReader → LineReader → Stream → Stream → Type 0
FindsNone fault r r' s s' = (front : List ℕ) × HasNoFeed front × Passes front r r' s s'
    × StopsAt fault r' s s'
