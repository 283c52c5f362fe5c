-- The frames of a stream: a header, and the code of a parity after it.
use Rattle.std.specs.Prelude.{◌≡◌, ◌⊎◌, ℕ, ◌+◌, ◌^◌, ◌<◌, ◌≤◌, List, [], ◌∷◌, ◌++◌, length, drop}
use Rattle.std.specs.Prelude.{codes, slice_range}
use Rattle.std.specs.Int.{w16, w32, w64, to_be_bytes}
use Rattle.trap_model.specs.ZeroRun.{ZeroRun, IsCode}
use Rattle.trap_model.specs.declared.frame.Frame.{Frame}

-- the bytes that a frame begins with
abbrev pub frame_magic : List ℕ
frame_magic = codes "TPF1"

-- the magic bytes and the five numbers: 34 bytes
abbrev pub frame_header : Frame → List ℕ
frame_header f = frame_magic ++ to_be_bytes w64 f.id ++ to_be_bytes w64 f.seq
    ++ to_be_bytes w64 f.time
    ++ to_be_bytes w32 f.block ++ to_be_bytes w16 f.length

-- each field is in its range, over blocks of that size
pub record IsFrameInRange (size : ℕ) (f : Frame) : Type 0 where
  pub id : f.id < 2 ^ 64
  pub first : 1 ≤ f.seq
  pub last : f.seq ≤ 2 ^ 40
  pub time : f.time < 2 ^ 64
  pub block : f.block < 2 ^ 32
  pub least : 4 ≤ f.length
  pub most : f.length ≤ size + 7

-- how long the frame of a header is
abbrev pub frame_len : Frame → ℕ
frame_len f = 34 + f.length

-- the bytes of the code after the header
abbrev pub code_in : Frame → List ℕ → List ℕ
code_in f bytes = slice_range bytes 34 (frame_len f)

-- the bytes are the frame of this parity
pub record SpellsFrame (size : ℕ) (f : Frame) (parity bytes : List ℕ) : Type 0 where
  pub ranges : IsFrameInRange size f
  pub code : List ℕ
  pub code_len : length code ≡ f.length
  pub sized : length parity ≡ size
  pub coded : ZeroRun parity code
  pub spelled : bytes ≡ frame_header f ++ code

-- a header that keeps the ranges begins the bytes
pub record BeginsFrame (size : ℕ) (f : Frame) (bytes : List ℕ) : Type 0 where
  pub ranges : IsFrameInRange size f
  pub spelled : bytes ≡ frame_header f ++ drop 34 bytes

-- a header begins the bytes, and fewer bytes are there than it names
pub record BreaksOff (size : ℕ) (f : Frame) (bytes : List ℕ) : Type 0 where
  pub begins : BeginsFrame size f bytes
  pub few : length bytes < frame_len f

-- a header begins the bytes, and what it names is there and no code
pub record HasBadCode (size : ℕ) (f : Frame) (bytes : List ℕ) : Type 0 where
  pub begins : BeginsFrame size f bytes
  pub there : frame_len f ≤ length bytes
  pub refused : ¬ IsCode size (code_in f bytes)

-- the bytes are fewer than a header, whatever they are, or a header begins them that names more
-- than is there
abbrev pub IsPart : ℕ → List ℕ → Type 0
IsPart size bytes = (length bytes < 34) ⊎ ((f : Frame) × BreaksOff size f bytes)

-- the bytes are cut off in a frame
pub record IsCut (size : ℕ) (bytes : List ℕ) : Type 0 where
  pub some : 0 < length bytes
  pub part : IsPart size bytes

-- enough bytes for a header, and none that keeps the ranges begins them
pub record IsNoHeader (size : ℕ) (bytes : List ℕ) : Type 0 where
  pub long : 34 ≤ length bytes
  pub none : (f : Frame) → ¬ BeginsFrame size f bytes

-- the bytes begin with no frame
abbrev pub IsBadFrame : ℕ → List ℕ → Type 0
IsBadFrame size bytes = IsNoHeader size bytes ⊎ ((f : Frame) × HasBadCode size f bytes)

-- a frame of a stream, with its parity
pub record Sent : Type 0 where
  pub frame : Frame
  pub parity : List ℕ

-- the stream is these frames, one after the other, and then the rest
abbrev pub BeginsWithFrames : ℕ → List Sent → List ℕ → List ℕ → Type 0
BeginsWithFrames size [] rest stream = stream ≡ rest
BeginsWithFrames size (sent ∷ frames) rest stream = (bytes : List ℕ) × (more : List ℕ)
    × SpellsFrame size sent.frame sent.parity bytes × (stream ≡ bytes ++ more)
    × BeginsWithFrames size frames rest more

-- what ends a stream: its end, a frame that is cut off, or bytes that are no frame, at this offset
pub data Ending : Type 0 where
  AtEnd : Ending
  CutAt : ℕ → Ending
  BadAt : ℕ → Ending

-- the same end of a stream, after this many more bytes
abbrev pub further : ℕ → Ending → Ending
further more AtEnd = AtEnd
further more (CutAt offset) = CutAt (more + offset)
further more (BadAt offset) = BadAt (more + offset)

-- the bytes after the frames, from this offset on, end the stream so
abbrev pub EndsStream : ℕ → ℕ → List ℕ → Ending → Type 0
EndsStream size at rest AtEnd = rest ≡ []
EndsStream size at rest (CutAt offset) = (offset ≡ at) × IsCut size rest
EndsStream size at rest (BadAt offset) = (offset ≡ at) × IsBadFrame size rest

-- these are the frames of a stream, and what ends it
pub record AreFrames (size : ℕ) (stream : List ℕ) (frames : List Sent) (ending : Ending)
    : Type 0 where
  pub rest : List ℕ
  pub at : ℕ
  pub begins : BeginsWithFrames size frames rest stream
  pub offset : length stream ≡ at + length rest
  pub ends : EndsStream size at rest ending
