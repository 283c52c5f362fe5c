-- The members' disks: which of them count, and what their places hold.
use Rattle.std.specs.Prelude.{◌≡◌, ◌≢◌, ◌⊎◌, ℕ, ◌+◌, ◌<◌, List, Option, Some, None}
use Rattle.trap_model.specs.declared.numbers.Geometry.{Geometry}
use Rattle.trap_bank.specs.Disks.{Disks, View, Within, region, size_of}
use Rattle.trap_bank.specs.Calls.{Fits}
use Rattle.trap_bank.specs.Faults.{Rose}
use Rattle.trap_format.specs.MemberDisk.{row_at, member_size, member_header}
use Rattle.trap_map.specs.declared.places.Place.{Place}
use Rattle.trap_map.specs.Layout.{parity_member, block_place}
use Rattle.trap_map.specs.Table.{table}
use Rattle.trap_stage.specs.Staged.{Staged, newest_at, laid_over, StandWhere}

-- the bytes at a place; member m is disk m + 1
abbrev pub member_place : Geometry → Disks → ℕ → ℕ → List ℕ
member_place g disks row member = region disks (member + 1) (row_at g row) g.block

-- the count of faults of the member's disk rose
abbrev pub HasFailed : View → View → ℕ → Type 0
HasFailed old new member = Rose (old.faults (member + 1)) (new.faults (member + 1))

-- a place of the array
pub record IsPlace (g : Geometry) (place : Place) : Type 0 where
  pub member : place.member < g.members
  pub row : place.row < g.rows

-- the member's disk is there and reaches to the end of the row
abbrev pub RowFits : Geometry → View → ℕ → ℕ → Type 0
RowFits g v row member = Fits v (member + 1) (row_at g row + g.block)

-- so does the disk of a place, unless bytes are pending for it
abbrev pub BareFits : Geometry → List Staged → View → ℕ → ℕ → Type 0
BareFits g writes v row member = newest_at g writes row member ≡ None → RowFits g v row member

-- so do the disks that stand for a place, unless bytes are pending for it: its member's own, or
-- where that one is lost, those of all others, each unless bytes are pending for its own place of
-- the row
pub record PlaceFits (g : Geometry) (lost : Option ℕ) (writes : List Staged) (v : View)
    (row member : ℕ) : Type 0 where
  pub own : lost ≢ Some member → BareFits g writes v row member
  pub others : lost ≡ Some member → newest_at g writes row member ≡ None
      → (m : ℕ) → m < g.members → m ≢ member → BareFits g writes v row m

-- so do those for a block's place and for the parity of its row
pub record BlockFits (g : Geometry) (lost : Option ℕ) (writes : List Staged) (v : View) (block : ℕ)
    : Type 0 where
  pub place : PlaceFits g lost writes v (block_place g block).row (block_place g block).member
  pub parity :
      PlaceFits g lost writes v (block_place g block).row
      (parity_member g (block_place g block).row)

-- a row of a member counts: all of them do, but of the lost member those alone that are rebuilt
abbrev pub Counts : Option ℕ → ℕ → ℕ → ℕ → Type 0
Counts lost rebuilt row member = lost ≡ Some member → row < rebuilt

-- the disks of which some row counts are there and have all rows
abbrev pub MembersFit : Geometry → Option ℕ → ℕ → View → Type 0
MembersFit g lost rebuilt v =
    (member : ℕ) → member < g.members → Counts lost rebuilt 0 member
    → Fits v (member + 1) (row_at g g.rows)

-- the disks of the places that count and that these writes cover reach to the end of their rows
abbrev pub DrainFits : Geometry → Option ℕ → ℕ → List Staged → View → Type 0
DrainFits g lost rebuilt writes v =
    (row m : ℕ) (bytes : List ℕ) → row < g.rows → m < g.members → Counts lost rebuilt row m
    → newest_at g writes row m ≡ Some bytes → RowFits g v row m

-- places that are the table's, pending bytes laid over them, but perhaps for those of the lost
-- member
abbrev pub HoldImage : Geometry → Option ℕ → List Staged → (ℕ → ℕ → List ℕ) → List (List ℕ) → Type 0
HoldImage g lost writes place image =
    StandWhere g (λ row member. lost ≢ Some member) writes place image

-- the member's disk has its exact length and header
pub record IsMember (g : Geometry) (disks : Disks) (member : ℕ) : Type 0 where
  pub size : size_of (disks (member + 1)) ≡ Some (member_size g)
  pub header : region disks (member + 1) 0 16 ≡ member_header g.id member

-- a member is out where it is recorded lost or its disk is absent
abbrev pub IsOut : Option ℕ → Disks → ℕ → Type 0
IsOut lost disks member = (lost ≡ Some member) ⊎ (disks (member + 1) ≡ None)

-- a place is trusted where its member's disk has its exact length and header, and the row counts
pub record IsTrusted (g : Geometry) (lost : Option ℕ) (rebuilt : ℕ) (disks : Disks) (row member : ℕ)
    : Type 0 where
  pub made : IsMember g disks member
  pub counts : Counts lost rebuilt row member

-- At most one member is out. The disk of each other one has its exact length and header, and each
-- trusted place reads as the image's table, the newest pending bytes laid over it.
pub record MembersHold (g : Geometry) (lost : Option ℕ) (rebuilt : ℕ) (writes : List Staged)
    (image : List (List ℕ)) (disks : Disks) : Type 0 where
  pub one_out : (m k : ℕ) → m < g.members → k < g.members → IsOut lost disks m → IsOut lost disks k
      → m ≡ k
  pub made : (m : ℕ) → m < g.members → (IsOut lost disks m → ⊥) → IsMember g disks m
  pub places : (row m : ℕ) → row < g.rows → m < g.members → IsTrusted g lost rebuilt disks row m
      → laid_over g writes (member_place g disks) row m ≡ table g image row m

-- the positions of the headers of those members of which some row counts
pub record InHeaders (g : Geometry) (lost : Option ℕ) (rebuilt : ℕ) (e i : ℕ) : Type 0 where
  pub member : ℕ
  pub inside : member < g.members
  pub counts : Counts lost rebuilt 0 member
  pub within : Within (member + 1) 0 16 e i

-- the positions of the places that count and for which nothing is pending
pub record InPlaces (g : Geometry) (lost : Option ℕ) (rebuilt : ℕ) (writes : List Staged) (e i : ℕ)
    : Type 0 where
  pub row : ℕ
  pub member : ℕ
  pub in_rows : row < g.rows
  pub inside : member < g.members
  pub counts : Counts lost rebuilt row member
  pub bare : newest_at g writes row member ≡ None
  pub within : Within (member + 1) (row_at g row) g.block e i

-- the positions of the places that these writes cover
pub record Covered (g : Geometry) (writes : List Staged) (e i : ℕ) : Type 0 where
  pub row : ℕ
  pub member : ℕ
  pub in_rows : row < g.rows
  pub inside : member < g.members
  pub bytes : List ℕ
  pub newest : newest_at g writes row member ≡ Some bytes
  pub within : Within (member + 1) (row_at g row) g.block e i
