-- The head: the numbers whose put commits, and how they are spelled.
use Rattle.std.specs.Prelude.{◌≡◌, ℕ, ◌+◌, ◌*◌, ◌^◌, ◌<◌, ◌≤◌, List, ◌∷◌, ◌++◌, Option, Some, None}
use Rattle.std.specs.Prelude.{slice_index, slice_range}
use Rattle.std.specs.Int.{w32, w64, to_be_bytes}
use Rattle.trap_model.specs.Limits.{greatest_record}
use Rattle.trap_model.specs.declared.numbers.Geometry.{Geometry}
use Rattle.trap_format.specs.declared.head.Head.{Head}

-- 0 for none, and else the member's number plus 1
abbrev pub lost_byte : Option ℕ → ℕ
lost_byte None = 0
lost_byte (Some member) = member + 1

-- how many bytes the head's value has
abbrev pub head_value_len : ℕ
head_value_len = 62

-- the bytes of the head's value
abbrev pub head_value : Head → List ℕ
head_value h =
    h.version ∷ lost_byte h.lost ∷ to_be_bytes w32 h.rebuilt ++ to_be_bytes w64 h.first
    ++ to_be_bytes w64 h.base_time
    ++ to_be_bytes w64 h.first_off ++ to_be_bytes w64 h.last ++ to_be_bytes w64 h.end_off
    ++ to_be_bytes w64 h.drained
    ++ to_be_bytes w64 h.last_time

-- the lost member, and how many of its rows are rebuilt
pub record IsLostInRange (g : Geometry) (h : Head) : Type 0 where
  pub member : lost_byte h.lost ≤ g.members
  pub rebuilt : h.rebuilt < g.rows
  pub none_rebuilt : h.lost ≡ None → h.rebuilt ≡ 0

-- the numbers of what is dropped, drained and committed
pub record KeepsNumbers (g : Geometry) (h : Head) : Type 0 where
  pub dropped : h.first ≤ h.drained
  pub drained : h.drained ≤ h.last
  pub last_most : h.last ≤ 2 ^ 40
  pub pending : h.last ≤ h.drained + g.slots
  pub retained : h.last ≤ h.first + g.entries

-- the ring's part from the first record to the end of the last
pub record KeepsOffsets (g : Geometry) (h : Head) : Type 0 where
  pub order : h.first_off ≤ h.end_off
  pub window : h.end_off ≤ h.first_off + g.ring
  pub end_most : h.end_off ≤ h.last * greatest_record g.block

-- an empty history has no records and no span of time
pub record IsEmpty (h : Head) : Type 0 where
  pub offsets : h.first_off ≡ h.end_off
  pub times : h.base_time ≡ h.last_time

-- the numbers of a head of such an array
pub record IsHead (g : Geometry) (h : Head) : Type 0 where
  pub version : h.version ≡ 1
  pub lost : IsLostInRange g h
  pub numbers : KeepsNumbers g h
  pub offsets : KeepsOffsets g h
  pub times : h.base_time ≤ h.last_time
  pub time_fits : h.last_time < 2 ^ 64
  pub empty : h.first ≡ h.last → IsEmpty h

-- the bytes are the value of this head, which is one of such an array
pub record IsHeadValue (g : Geometry) (h : Head) (bytes : List ℕ) : Type 0 where
  pub head : IsHead g h
  pub spelled : bytes ≡ head_value h

-- the numbers at their places of a head's value
pub record HeadStandsIn (bytes : List ℕ) (h : Head) : Type 0 where
  pub version : h.version ≡ slice_index bytes 0
  pub lost : lost_byte h.lost ≡ slice_index bytes 1
  pub rebuilt : to_be_bytes w32 h.rebuilt ≡ slice_range bytes 2 6
  pub first : to_be_bytes w64 h.first ≡ slice_range bytes 6 14
  pub base_time : to_be_bytes w64 h.base_time ≡ slice_range bytes 14 22
  pub first_off : to_be_bytes w64 h.first_off ≡ slice_range bytes 22 30
  pub last : to_be_bytes w64 h.last ≡ slice_range bytes 30 38
  pub end_off : to_be_bytes w64 h.end_off ≡ slice_range bytes 38 46
  pub drained : to_be_bytes w64 h.drained ≡ slice_range bytes 46 54
  pub last_time : to_be_bytes w64 h.last_time ≡ slice_range bytes 54 62

-- each number fits its field
pub record HeadFits (h : Head) : Type 0 where
  pub rebuilt : h.rebuilt < 2 ^ 32
  pub first : h.first < 2 ^ 64
  pub base_time : h.base_time < 2 ^ 64
  pub first_off : h.first_off < 2 ^ 64
  pub last : h.last < 2 ^ 64
  pub end_off : h.end_off < 2 ^ 64
  pub drained : h.drained < 2 ^ 64
  pub last_time : h.last_time < 2 ^ 64
