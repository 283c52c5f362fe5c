-- What a request does to the state of an array, and what is replied.
use Rattle.std.specs.Prelude.{◌≡◌, ℕ, ◌+◌, ◌^◌, List, [], ◌∷◌, ◌++◌, length, Bool, false, ◌||◌}
use Rattle.std.specs.Prelude.{◌==◌, nat_lt, nat_le, if◌then◌else◌, Option, Some, None}
use Rattle.trap_model.specs.Machine.{Machine}
use Rattle.trap_model.specs.Image.{volume, block_of}
use Rattle.trap_model.specs.State.{last, last_time, time_at, image, image_at, image_by, above, kept}
use Rattle.trap_model.specs.Size.{entry_size}
use Rattle.trap_model.specs.declared.numbers.Geometry.{Geometry}
use Rattle.trap_model.specs.declared.history.Entry.{Entry}
use Rattle.trap_model.specs.declared.history.State.{State}
use Rattle.trap_model.specs.declared.request.Request.{Request}
use Rattle.trap_model.specs.declared.request.Request.TheVariants.{Write, Read, At, By, Info, Keep}
use Rattle.trap_model.specs.declared.request.Request.TheVariants.{Quit, Bad}
use Rattle.trap_model.specs.declared.request.Reply.{Reply}
use Rattle.trap_model.specs.declared.request.Reply.TheVariants.{Kept, Is, At as Then, Span, No}
use Rattle.trap_model.specs.declared.request.Reply.TheVariants.{Silent}
use Rattle.trap_model.specs.declared.request.Refusal.{Refusal}
use Rattle.trap_model.specs.declared.request.Refusal.TheVariants.{NoLine, NoBlock, TimeBack, Worn}
use Rattle.trap_model.specs.declared.request.Refusal.TheVariants.{Full, NotKept, Ahead}

-- whether the next entry of a block is marked: none is
abbrev pub due : Geometry → State → ℕ → Bool
due g s block = false

-- the entry that a write makes
abbrev pub entry_of : Geometry → State → ℕ → ℕ → List ℕ → Entry
entry_of g s time block bytes = record {
  time = time;
  block = block;
  bytes = bytes;
  snap = due g s block;
}

-- whether there is no room for a further entry: they are as many as may be, or its record doesn't
-- fit into the ring
abbrev pub full : Geometry → State → Entry → Bool
full g s entry =
    (length s.entries == g.entries) || nat_lt g.ring
    (kept s + entry_size (block_of (image s) entry.block) entry)

-- why a write to a block of the array is refused, where it is
abbrev pub write_refusal : Geometry → State → Entry → Option Refusal
write_refusal g s entry =
    if nat_lt entry.time (last_time s) then Some (TimeBack (last_time s))
    else if last s == 2 ^ 40 then Some Worn
    else if full g s entry then Some Full
    else None

-- why a number is refused, where it is: it is below what is retained, or above the last one
abbrev pub number_refusal : State → ℕ → Option Refusal
number_refusal s seq =
    if nat_lt seq s.first then Some (NotKept s.first)
    else if nat_lt (last s) seq then Some (Ahead (last s))
    else None

-- why a time is refused, where it is
abbrev pub time_refusal : State → ℕ → Option Refusal
time_refusal s time = if nat_lt time s.base_time then Some (NotKept s.base_time) else None

-- a block that isn't there is refused before all else
abbrev pub block_first : Geometry → ℕ → Option Refusal → Option Refusal
block_first g block other = if nat_le (volume g) block then Some NoBlock else other

-- why a request is refused, where it is
abbrev pub refusal : Geometry → State → Request → Option Refusal
refusal g s Bad = Some NoLine
refusal g s (Write time block bytes) =
    block_first g block (write_refusal g s (entry_of g s time block bytes))
refusal g s (Read block) = block_first g block None
refusal g s (At seq block) = block_first g block (number_refusal s seq)
refusal g s (By time block) = block_first g block (time_refusal s time)
refusal g s (Keep seq) = number_refusal s seq
refusal g s Info = None
refusal g s Quit = None

-- the reply to a request that isn't refused
abbrev pub accepted : State → Request → Reply
accepted s (Write time block bytes) = Kept (last s + 1)
accepted s (Read block) = Is (block_of (image s) block)
accepted s (At seq block) = Then (block_of (image_at s seq) block)
accepted s (By time block) = Then (block_of (image_by s time) block)
accepted s Info = Span s.first (last s) s.base_time (last_time s)
accepted s (Keep seq) = Kept seq
accepted s Quit = Silent
accepted s Bad = Silent

-- with a further entry
abbrev pub added : State → Entry → State
added s entry = record s { entries = s.entries ++ entry ∷ [] }

-- without the entries up to number seq: the image after them is the base
abbrev pub kept_from : State → ℕ → State
kept_from s seq = record {
  first = seq;
  base_time = time_at s seq;
  base = image_at s seq;
  entries = above s seq;
}

-- the state after a request that isn't refused
abbrev pub after : Geometry → State → Request → State
after g s (Write time block bytes) = added s (entry_of g s time block bytes)
after g s (Keep seq) = kept_from s seq
after g s (Read block) = s
after g s (At seq block) = s
after g s (By time block) = s
after g s Info = s
after g s Quit = s
after g s Bad = s

-- the first value where there is no refusal, and a value of the refusal where there is one
abbrev pub or_refused : {A : Type 0} → Option Refusal → A → (Refusal → A) → A
or_refused None value other = value
or_refused (Some why) value other = other why

-- the reply to a request, and the state after it: a refused request changes nothing
abbrev pub step : Geometry → Machine State
step g = record {
  reply = λ s request. or_refused (refusal g s request) (accepted s request) No;
  next = λ s request. or_refused (refusal g s request) (after g s request) (λ _. s);
}

-- the contents in a request, where it has any, are a block of the array's size
abbrev pub IsSized : Geometry → Request → Type 0
IsSized g (Write time block bytes) = length bytes ≡ g.block
IsSized g (Read block) = Unit {0}
IsSized g (At seq block) = Unit {0}
IsSized g (By time block) = Unit {0}
IsSized g Info = Unit {0}
IsSized g (Keep seq) = Unit {0}
IsSized g Quit = Unit {0}
IsSized g Bad = Unit {0}
