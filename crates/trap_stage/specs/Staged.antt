-- Pending writes, which stand for the members' places that they cover.
use Rattle.std.specs.Prelude.{◌≡◌, ℕ, ◌<◌, List, [], ◌∷◌, length, slice_set, Option, Some, None}
use Rattle.std.specs.Prelude.{MatchOption, unwrap_or, ◌==◌, if◌then◌else◌}
use Rattle.std.specs.Option.{option_or}
use Rattle.trap_model.specs.Image.{volume}
use Rattle.trap_model.specs.declared.numbers.Geometry.{Geometry}
use Rattle.trap_map.specs.Layout.{parity_member, block_place}
use Rattle.trap_map.specs.Table.{row_parity, table}

-- what a staging slot holds of a write: its block, the block's new bytes, and the parity of its row
-- after it
pub record Staged : Type 0 where
  pub block : ℕ
  pub bytes : List ℕ
  pub parity : List ℕ

-- it is of a block of the array, and holds as many bytes as a block has, twice
pub record IsStaged (g : Geometry) (staged : Staged) : Type 0 where
  pub block : staged.block < volume g
  pub bytes : length staged.bytes ≡ g.block
  pub parity : length staged.parity ≡ g.block

-- what it holds for a place: the bytes at its block's, the parity at that of its row's parity,
-- nothing elsewhere
abbrev pub staged_at : Geometry → Staged → ℕ → ℕ → Option (List ℕ)
staged_at g staged row member =
    let place = block_place g staged.block in
    if row == place.row
    then (if member == place.member then Some staged.bytes
    else (if member == parity_member g row then Some staged.parity else None))
    else None

-- the newest pending bytes of a place, where the newest write stands first
abbrev pub newest_at : Geometry → List Staged → ℕ → ℕ → Option (List ℕ)
newest_at g [] row member = None
newest_at g (staged ∷ older) row member =
    option_or (staged_at g staged row member) (newest_at g older row member)

-- the places with the pending bytes laid over them
abbrev pub laid_over : Geometry → List Staged → (ℕ → ℕ → List ℕ) → ℕ → ℕ → List ℕ
laid_over g writes place row member = unwrap_or (newest_at g writes row member) (place row member)

-- the image after these writes, the newest first
abbrev pub image_after_writes : List (List ℕ) → List Staged → List (List ℕ)
image_after_writes before [] = before
image_after_writes before (staged ∷ older) =
    slice_set (image_after_writes before older) staged.block staged.bytes

-- each write is of a block of the array, and its parity is that of the table right after it
abbrev pub AreWrites : Geometry → List (List ℕ) → List Staged → Type 0
AreWrites g before [] = Unit {0}
AreWrites g before (staged ∷ older) =
    (staged.block < volume g) × (length staged.bytes ≡ g.block)
    × (staged.parity
    ≡ row_parity g (image_after_writes before (staged ∷ older)) (block_place g staged.block).row)
    × AreWrites g before older

-- The places stand for the table of an image: pending bytes are the table's, and where none are
-- pending, so are the bytes of each trusted place.
abbrev pub StandWhere : Geometry → (ℕ → ℕ → Type 0) → List Staged → (ℕ → ℕ → List ℕ) → List (List ℕ)
    → Type 0
StandWhere g IsTrusted writes place image =
    (row member : ℕ) → row < g.rows → member < g.members
    → MatchOption (newest_at g writes row member)
    (IsTrusted row member → place row member ≡ table g image row member)
    (λ bytes. bytes ≡ table g image row member)
