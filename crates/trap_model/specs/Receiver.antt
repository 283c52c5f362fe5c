-- A receiver of frames: what it has applied and what it holds, and what becomes of each frame that
-- comes.
use Rattle.std.specs.Prelude.{◌≡◌, ℕ, ◌+◌, ◌<◌, ◌≤◌, List, [], ◌∷◌, ◌++◌, map, set, Bool, false}
use Rattle.std.specs.Prelude.{◌||◌, ◌==◌, nat_lt, nat_le, if◌then◌else◌}
use Rattle.trap_block.specs.Xor.{xor}
use Rattle.trap_model.specs.Image.{block_of}
use Rattle.trap_model.specs.declared.arrival.Arrival.{Arrival}
use Rattle.trap_model.specs.declared.arrival.Taken.{Taken}
use Rattle.trap_model.specs.declared.arrival.Taken.TheVariants.{Applied, Held, Repeat, Beyond}

-- how many numbers from the next one on a receiver takes
abbrev pub window : ℕ
window = 64

-- the number of the last frame applied, its time, the image after it, and the frames that are held,
-- in the order of their numbers
pub record Receiver : Type 0 where
  pub number : ℕ
  pub time : ℕ
  pub image : List (List ℕ)
  pub held : List Arrival

-- a receiver that holds nothing
abbrev pub starting : ℕ → ℕ → List (List ℕ) → Receiver
starting number time image = record { number = number; time = time; image = image; held = [] }

-- the held frames with one more, in the order of their numbers
abbrev pub hold : Arrival → List Arrival → List Arrival
hold f [] = f ∷ []
hold f (g ∷ held) = if nat_lt f.seq g.seq then f ∷ g ∷ held else g ∷ hold f held

-- whether a frame of this number is held
abbrev pub is_held : ℕ → List Arrival → Bool
is_held seq [] = false
is_held seq (g ∷ held) = (g.seq == seq) || is_held seq held

-- the image with the frame's parity xored into its block
abbrev pub xored : List (List ℕ) → Arrival → List (List ℕ)
xored image f = set image f.block (xor (block_of image f.block) f.parity)

-- the receiver after it applied this frame and holds these
abbrev pub applied : Receiver → Arrival → List Arrival → Receiver
applied r f held = record {
  number = r.number + 1;
  time = f.time;
  image = xored r.image f;
  held = held;
}

-- the receiver after it applied of the held frames those that follow
abbrev pub settled : Receiver → List Arrival → Receiver
settled r [] = record r { held = [] }
settled r (f ∷ held) =
    if f.seq == r.number + 1 then settled (applied r f held) held else record r { held = f ∷ held }

-- whether the frame was applied or is held
abbrev pub is_known : Receiver → Arrival → Bool
is_known r f = nat_le f.seq r.number || is_held f.seq r.held

-- whether the frame lies beyond the window
abbrev pub is_beyond : Receiver → Arrival → Bool
is_beyond r f = nat_lt (r.number + window) f.seq

-- the receiver after it held this frame too, and applied those that follow
abbrev pub with_frame : Receiver → Arrival → Receiver
with_frame r f = settled r (hold f r.held)

-- the receiver after a frame
abbrev pub after_frame : Receiver → Arrival → Receiver
after_frame r f = if is_known r f || is_beyond r f then r else with_frame r f

-- what becomes of a frame
abbrev pub answer : Receiver → Arrival → Taken
answer r f =
    if is_known r f then Repeat else (if is_beyond r f then Beyond
    else (if f.seq == r.number + 1 then Applied (with_frame r f).number else Held))

-- the receiver after these frames, each in turn
abbrev pub receive : Receiver → List Arrival → Receiver
receive r [] = r
receive r (f ∷ frames) = receive (after_frame r f) frames

-- what becomes of each of these frames
abbrev pub answers : Receiver → List Arrival → List Taken
answers r [] = []
answers r (f ∷ frames) = answer r f ∷ answers (after_frame r f) frames

-- a frame of which only the number matters
abbrev pub bare : ℕ → Arrival
bare seq = record { seq = seq; time = 0; block = 0; parity = [] }

-- the last number that is applied where these numbers come after n was
abbrev pub gapless : ℕ → List ℕ → ℕ
gapless n numbers = (receive (starting n 0 []) (map bare numbers)).number

-- the number came when it lay within the window
pub record CameWithin (n : ℕ) (numbers : List ℕ) (q : ℕ) : Type 0 where
  pub before : List ℕ
  pub later : List ℕ
  pub parts : numbers ≡ before ++ q ∷ later
  pub within : q ≤ gapless n before + window

-- m is the greatest number up to which each number above n came within the window
pub record IsGapless (n : ℕ) (numbers : List ℕ) (m : ℕ) : Type 0 where
  pub least : n ≤ m
  pub each : (q : ℕ) → n < q → q ≤ m → CameWithin n numbers q
  pub no_more : ¬ CameWithin n numbers (m + 1)
