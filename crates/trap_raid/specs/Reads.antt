-- What a call does that only reads members.
use Rattle.std.specs.Prelude.{◌≡◌, ◌≢◌, ◌⊎◌, ℕ, ◌+◌, ◌<◌, List, Option, Some, None}
use Rattle.trap_model.specs.declared.numbers.Geometry.{Geometry}
use Rattle.trap_bank.specs.Disks.{View}
use Rattle.trap_bank.specs.Called.{CalledTimes}
use Rattle.trap_bank.specs.Faults.{Rose}
pub use Rattle.trap_bank.specs.Steps.{OnlyReads}
use Rattle.trap_map.specs.Layout.{parity_member, block_place}
use Rattle.trap_stage.specs.Staged.{Staged, newest_at}
use Rattle.trap_raid.specs.Standing.{reads_of, reads_until}

-- the member is one of the array and not the lost one, and the count of its disk rose
pub record FailedMember (g : Geometry) (lost : Option ℕ) (old new : View) (member : ℕ)
    : Type 0 where
  pub inside : member < g.members
  pub apart : lost ≢ Some member
  pub rose : Rose (old.faults (member + 1)) (new.faults (member + 1))

-- A place of member m is read for the place of this member in its row, and nothing is pending for
-- either: it is the place itself, or where the member is lost, that of another one. The lost
-- member's is never read.
pub record IsReadFor (g : Geometry) (lost : Option ℕ) (writes : List Staged)
    (row member m : ℕ) : Type 0 where
  pub inside : m < g.members
  pub own : newest_at g writes row member ≡ None
  pub bare : newest_at g writes row m ≡ None
  pub apart : lost ≢ Some m
  pub itself : lost ≢ Some member → m ≡ member

-- a place of the member is read for a block's place, or for the parity of its row
abbrev pub IsReadForBlock : Geometry → Option ℕ → List Staged → ℕ → ℕ → Type 0
IsReadForBlock g lost writes block m =
    let place = block_place g block in
    IsReadFor g lost writes place.row place.member m
    ⊎ IsReadFor g lost writes place.row (parity_member g place.row) m

-- The calls of a plan in which the member failed: those for the block's place up to it, or all of
-- those and then the ones for the parity of its row up to it.
abbrev pub StopsPlanAt : Geometry → Option ℕ → List Staged → ℕ → View → View → ℕ → Type 0
StopsPlanAt g lost writes block old new failed =
    let place = block_place g block in
    let parity = parity_member g place.row in
    (IsReadFor g lost writes place.row place.member failed
    × CalledTimes (reads_until g lost writes place.row place.member failed) old new)
    ⊎ (IsReadFor g lost writes place.row parity failed
    × CalledTimes (reads_of g lost writes place.row place.member
    + reads_until g lost writes place.row parity failed) old new)
