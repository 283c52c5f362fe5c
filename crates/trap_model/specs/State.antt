-- The state of an array: a base image, and the entries written over it since.
use Rattle.std.specs.Prelude.{◌≡◌, ℕ, ◌+◌, ◌-◌, ◌^◌, ◌<◌, ◌≤◌, List, [], ◌∷◌, length, take, drop}
use Rattle.std.specs.Prelude.{filter, All, nat_le}
use Rattle.trap_model.specs.declared.numbers.Geometry.{Geometry}
use Rattle.trap_model.specs.declared.history.Entry.{Entry}
use Rattle.trap_model.specs.declared.history.State.{State}
use Rattle.trap_model.specs.Image.{volume, IsImage, zero_image, image_after}
use Rattle.trap_model.specs.Size.{size_over}

-- nothing written, nothing dropped
abbrev pub fresh : Geometry → State
fresh g = record { first = 0; base_time = 0; base = zero_image g; entries = [] }

-- the number of the last entry, or of the last dropped one where there is none
abbrev pub last : State → ℕ
last s = s.first + length s.entries

-- the entries up to number q
abbrev pub up_to : State → ℕ → List Entry
up_to s q = take (q - s.first) s.entries

-- the entries above number q
abbrev pub above : State → ℕ → List Entry
above s q = drop (q - s.first) s.entries

-- the time of the last of the entries, or the time before them where there is none
abbrev pub time_after : ℕ → List Entry → ℕ
time_after before [] = before
time_after before (entry ∷ later) = time_after entry.time later

-- the time of entry number q, or the base time where q is the number of the last dropped one
abbrev pub time_at : State → ℕ → ℕ
time_at s q = time_after s.base_time (up_to s q)

abbrev pub last_time : State → ℕ
last_time s = time_after s.base_time s.entries

-- the present image
abbrev pub image : State → List (List ℕ)
image s = image_after s.base s.entries

-- the image after entry number q, for first ≤ q ≤ last
abbrev pub image_at : State → ℕ → List (List ℕ)
image_at s q = image_after s.base (up_to s q)

-- the image after all entries with a time of at most t, for base_time ≤ t
abbrev pub image_by : State → ℕ → List (List ℕ)
image_by s t = image_after s.base (filter (λ entry. nat_le entry.time t) s.entries)

-- how many bytes the retained entries take in the ring
abbrev pub kept : State → ℕ
kept s = size_over s.base s.entries

-- the entry's block is one of the array's, and its bytes are as many as a block has
pub record IsEntry (g : Geometry) (entry : Entry) : Type 0 where
  pub block : entry.block < volume g
  pub size : length entry.bytes ≡ g.block

-- times never fall, beginning with the one before the entries
abbrev pub NeverFall : ℕ → List Entry → Type 0
NeverFall before [] = Unit {0}
NeverFall before (entry ∷ later) = (before ≤ entry.time) × NeverFall entry.time later

-- what an array can stand for
pub record IsValid (g : Geometry) (s : State) : Type 0 where
  pub base : IsImage g s.base
  pub entries : All (IsEntry g) s.entries
  pub times : NeverFall s.base_time s.entries
  pub last_most : last s ≤ 2 ^ 40
  pub few : length s.entries ≤ g.entries
  pub fits : kept s ≤ g.ring

-- an array of some numbers can stand for it
abbrev pub IsSound : State → Type 0
IsSound s = (g : Geometry) × IsValid g s
