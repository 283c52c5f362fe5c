-- What a step of a rebuild does to the disk of the lost member.
use Rattle.std.specs.Prelude.{◌≡◌, ℕ, zero, suc, ◌+◌, ◌-◌, ◌<◌, ◌≤◌, min, List, Some, None}
use Rattle.std.specs.Prelude.{nat_lt, if◌then◌else◌}
use Rattle.trap_model.specs.Image.{IsImage}
use Rattle.trap_model.specs.declared.numbers.Geometry.{Geometry}
use Rattle.trap_bank.specs.Disks.{Disks, View, Differs}
use Rattle.trap_bank.specs.Calls.{Fits}
use Rattle.trap_bank.specs.Steps.{Moves, Always}
use Rattle.trap_format.specs.MemberDisk.{row_at}
use Rattle.trap_map.specs.Table.{table}
use Rattle.trap_stage.specs.Staged.{Staged}
use Rattle.trap_raid.specs.Condition.{Condition}
use Rattle.trap_raid.specs.Members.{member_place, HoldImage, MembersHold, HasFailed, IsMember}
use Rattle.trap_raid.specs.Draining.{place_area}
use Rattle.trap_raid.specs.Standing.{standing_at, reads_of}
use Rattle.trap_rebuild.specs.declared.fault.RebuildFault.{RebuildFault}
use Rattle.trap_rebuild.specs.declared.fault.RebuildFault.TheVariants.{MemberFailed}
use Rattle.trap_rebuild.specs.declared.stepping.Progress.{Progress}
use Rattle.trap_rebuild.specs.declared.stepping.Progress.TheVariants.{More, Whole}

-- each member's disk, also the lost one's, is there and has all rows
abbrev pub AllFit : Geometry → View → Type 0
AllFit g v = (member : ℕ) → member < g.members → Fits v (member + 1) (row_at g g.rows)

-- the mark after so many further rows, or at the last one
abbrev pub next_mark : Condition → ℕ → ℕ
next_mark c rows = min (c.rebuilt + rows) c.g.rows

-- the positions of the lost member's rows from its mark up to a later one
pub record InNextRows (c : Condition) (upto e i : ℕ) : Type 0 where
  pub member : ℕ
  pub lost : c.lost ≡ Some member
  pub row : ℕ
  pub from : c.rebuilt ≤ row
  pub to : row < upto
  pub within : place_area c.g row member e i

-- each of these rows holds what stood at its place: pending bytes, else the exclusive-or of what
-- stood at the other members' places
abbrev pub AreRebuilt : Condition → List Staged → (ℕ → ℕ → List ℕ) → ℕ → Disks → Type 0
AreRebuilt c writes place upto disks =
    (member row : ℕ) → c.lost ≡ Some member → c.rebuilt ≤ row → row < upto
    → member_place c.g disks row member ≡ standing_at c.g c.lost writes place row member

-- each of these rows holds what the image's table has there
abbrev pub AreOfTable : Condition → List (List ℕ) → ℕ → Disks → Type 0
AreOfTable c image upto disks =
    (member row : ℕ) → c.lost ≡ Some member → c.rebuilt ≤ row → row < upto
    → member_place c.g disks row member ≡ table c.g image row member

-- no byte changed but in these rows, and each of them is rebuilt
pub record Rebuilds (c : Condition) (writes : List Staged) (place : ℕ → ℕ → List ℕ) (upto : ℕ)
    (old new : Disks) : Type 0 where
  pub differs : Differs (InNextRows c upto) old new
  pub rows : AreRebuilt c writes place upto new

-- These rows hold the image's table. If the members held the image up to the mark, they hold it up
-- to the later one; and with no row left, and the lost member's disk its own, they hold it with no
-- member lost.
pub record RebuildsImage (c : Condition) (writes : List Staged) (upto : ℕ) (image : List (List ℕ))
    (old new : View) : Type 0 where
  pub table : Always new (AreOfTable c image upto)
  pub holds : Always old (MembersHold c.g c.lost c.rebuilt writes image)
      → Always new (MembersHold c.g c.lost upto writes image)
  pub whole : upto ≡ c.g.rows
      → ((member : ℕ) → c.lost ≡ Some member → Always old (λ disks. IsMember c.g disks member))
      → Always old (MembersHold c.g c.lost c.rebuilt writes image)
      → Always new (MembersHold c.g None 0 writes image)

-- These rows are rebuilt, whatever a crash leaves, and so is any image for which the places stood.
pub record RebuildsRows (c : Condition) (writes : List Staged) (upto : ℕ) (old new : View)
    : Type 0 where
  pub moves : Moves old new (Differs (InNextRows c upto))
      (Rebuilds c writes (member_place c.g old.now.disks) upto)
  pub image : (image : List (List ℕ)) → IsImage c.g image
      → HoldImage c.g c.lost writes (member_place c.g old.now.disks) image
      → RebuildsImage c writes upto image old new

-- how far a step of so many rows comes: with rows left, to a later mark
abbrev pub progress_of : Condition → ℕ → Progress
progress_of c rows =
    if nat_lt (c.rebuilt + rows) c.g.rows then More (c.rebuilt + rows) else Whole

-- for so many rows of the member from its mark on: the reads of each one's place, and its write
abbrev pub row_calls : Condition → List Staged → ℕ → ℕ → ℕ
row_calls c writes member zero = 0
row_calls c writes member (suc n) =
    row_calls c writes member n + (reads_of c.g c.lost writes (c.rebuilt + n) member + 1)

-- and then one sync
abbrev pub step_calls : Condition → List Staged → ℕ → ℕ → ℕ
step_calls c writes member rows = row_calls c writes member (next_mark c rows - c.rebuilt) + 1

-- a member of the array failed: the lost one, or another
pub record StepFails (g : Geometry) (old new : View) (why : RebuildFault) : Type 0 where
  pub member : ℕ
  pub is : why ≡ MemberFailed member
  pub inside : member < g.members
  pub failed : HasFailed old new member
