-- The frames that a replica holds until those before them have come.
use Rattle.std.specs.Prelude.{◌≡◌, ℕ, ◌+◌, ◌^◌, ◌<◌, ◌≤◌, ◌==◌, List, [], ◌∷◌, All, length, Bool}
use Rattle.std.specs.Prelude.{false}
use Rattle.trap_format.specs.declared.shape.Shape.{Shape}
use Rattle.trap_model.specs.Receiver.{window, hold}
use Rattle.trap_model.specs.declared.arrival.Arrival.{Arrival}

-- held frames in the order of their numbers, over blocks of a size
pub record HeldFrames : Type 0 where
  pub size : ℕ
  pub frames : List Arrival

-- with one frame more
abbrev pub holding : HeldFrames → Arrival → HeldFrames
holding h f = record { size = h.size; frames = hold f h.frames }

-- the numbers rise, and the first is above this one
abbrev pub Ascends : ℕ → List Arrival → Type 0
Ascends low [] = Unit {0}
Ascends low (f ∷ frames) = (low < f.seq) × Ascends f.seq frames

-- whether the first held frame is the next after this number
abbrev pub has_next : ℕ → List Arrival → Bool
has_next number [] = false
has_next number (f ∷ frames) = f.seq == number + 1

-- the frame fits a replica of this shape that has applied up to this number
pub record Suits (s : Shape) (number : ℕ) (f : Arrival) : Type 0 where
  pub near : f.seq ≤ number + window
  pub last : f.seq ≤ 2 ^ 40
  pub inside : f.block < s.volume
  pub sized : length f.parity ≡ s.block

-- so does each of these, in order, and the first is above `low`
pub record SuitAll (s : Shape) (low number : ℕ) (h : HeldFrames) : Type 0 where
  pub size : h.size ≡ s.block
  pub order : Ascends low h.frames
  pub each : All (Suits s number) h.frames
