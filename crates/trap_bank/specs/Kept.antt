-- One disk in memory.
use Rattle.std.specs.Prelude.{◌≡◌, ◌⊎◌, ℕ, ◌+◌, ◌<◌, ◌≤◌, List, [], ◌∷◌, ◌++◌, length, take, drop}
use Rattle.std.specs.Prelude.{replicate, slice_index, All}
use Rattle.trap_bank.specs.declared.disk.Range.{Range}

-- the bytes as a read gives them, as the last sync left them, and where was written since
pub record Kept : Type 0 where
  pub bytes : List ℕ
  pub stable : List ℕ
  pub ranges : List Range

-- the position lies in one of the ranges
abbrev pub InRanges : List Range → ℕ → Type 0
InRanges [] i = ⊥
InRanges (range ∷ ranges) i = ((range.at ≤ i) × (i < range.at + range.len)) ⊎ InRanges ranges i

-- outside of the ranges both have the same bytes
abbrev pub AgreeOutside : List Range → List ℕ → List ℕ → Type 0
AgreeOutside ranges one other = (i : ℕ) → (InRanges ranges i → ⊥)
    → slice_index one i ≡ slice_index other i

-- the ranges lie on the disk, and all else is stable
pub record IsStableBut (bytes stable : List ℕ) (ranges : List Range) : Type 0 where
  pub same : length stable ≡ length bytes
  pub inside : All (λ range. range.at + range.len ≤ length bytes) ranges
  pub agree : AgreeOutside ranges stable bytes

-- these bytes stand from the offset on, and all else is as before
abbrev pub overlaid : List ℕ → ℕ → List ℕ → List ℕ
overlaid old at bytes = take at old ++ (bytes ++ drop (at + length bytes) old)

-- that many zero bytes, all stable
abbrev pub zero_disk : ℕ → Kept
zero_disk len = record { bytes = replicate len 0; stable = replicate len 0; ranges = [] }

-- the bytes are laid over, and their range is not yet stable
abbrev pub written_disk : Kept → ℕ → List ℕ → Kept
written_disk disk at bytes = record {
  bytes = overlaid disk.bytes at bytes;
  stable = disk.stable;
  ranges = disk.ranges ++ record { at = at; len = length bytes } ∷ [];
}

-- all is stable
abbrev pub settled_disk : Kept → Kept
settled_disk disk = record { bytes = disk.bytes; stable = disk.bytes; ranges = [] }
