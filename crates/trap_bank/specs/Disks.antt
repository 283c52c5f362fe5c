-- Disks and the reply port, as a read gives them or as a crash leaves them.
use Rattle.std.specs.Prelude.{◌≡◌, ◌⊎◌, ℕ, ◌+◌, ◌<◌, ◌≤◌, List, [], length, take, drop, slice_index}
use Rattle.std.specs.Prelude.{Option, Some, None, Bool}

-- the bytes of a disk; none where it is absent
abbrev pub bytes_of : Option (List ℕ) → List ℕ
bytes_of None = []
bytes_of (Some bytes) = bytes

-- how many bytes a disk has, or that it is absent
abbrev pub size_of : Option (List ℕ) → Option ℕ
size_of None = None
size_of (Some bytes) = Some (length bytes)

-- the bytes of each disk that is there, by its number
abbrev pub Disks : Type 0
Disks = ℕ → Option (List ℕ)

-- the byte of a disk at a position
abbrev pub byte : Disks → ℕ → ℕ → ℕ
byte disks d i = slice_index (bytes_of (disks d)) i

-- n bytes of a disk from a position on
abbrev pub region : Disks → ℕ → ℕ → ℕ → List ℕ
region disks d at n = take n (drop at (bytes_of (disks d)))

-- some of the positions of the disks: a disk's number and a byte offset on it
abbrev pub Area : Type 1
Area = ℕ → ℕ → Type 0

-- n positions of one disk, from an offset on
pub record Within (d at n e i : ℕ) : Type 0 where
  pub disk : e ≡ d
  pub from : at ≤ i
  pub to : i < at + n

-- the positions of two areas
abbrev pub Either : Area → Area → Area
Either a b e i = a e i ⊎ b e i

-- the disks have the same sizes, and the same bytes outside the area
pub record Differs (area : Area) (old new : Disks) : Type 0 where
  pub sizes : (e : ℕ) → size_of (new e) ≡ size_of (old e)
  pub bytes : (e i : ℕ) → (area e i → ⊥) → byte new e i ≡ byte old e i

-- the contents of all disks, and the bytes said on the reply port
pub record Contents : Type 0 where
  pub disks : Disks
  pub said : List ℕ

-- a step of the disks, in which nothing is said
pub record Quiet (step : Disks → Disks → Type 0) (old new : Contents) : Type 0 where
  pub disks : step old.disks new.disks
  pub said : new.said ≡ old.said

-- nothing was said, and the disks differ at most in the area
abbrev pub Torn : Area → Contents → Contents → Type 0
Torn area = Quiet (Differs area)

-- What contracts see of a bank.
pub record View : Type 1 where
  -- whether it tells its contents; where it doesn't, only sizes and counts mean anything
  pub tells : Bool
  -- the size of each disk in bytes, or that it is absent
  pub sizes : ℕ → Option ℕ
  -- what a read gives, and what was said
  pub now : Contents
  -- the positions that a crash may fill with any bytes
  pub unsynced : Area
  -- how often each disk has failed, and how often the port has
  pub faults : ℕ → ℕ
  pub port_faults : ℕ
  -- it rises with the calls
  pub moment : ℕ
  -- whether each call but `size` raises the moment by exactly one, up to the end of 64 bits
  pub by_one : Bool
  -- what a crash at some moment since the one given may have left
  pub left : ℕ → Contents → Type 0
