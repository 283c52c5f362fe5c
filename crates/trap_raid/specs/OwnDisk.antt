-- The disk of one member: made anew, or found to be the member's own.
use Rattle.std.specs.Prelude.{◌≡◌, ◌≢◌, ℕ, ◌+◌, ◌*◌, List, ◌++◌, replicate, Some, IsTrue, Result}
use Rattle.trap_bank.specs.Called.{CalledTimes, TakesCalls}
use Rattle.trap_bank.specs.Disks.{Disks, View}
use Rattle.trap_bank.specs.Steps.{Always}
use Rattle.trap_format.specs.MemberDisk.{member_size, member_header}
use Rattle.trap_model.specs.declared.numbers.Geometry.{Geometry}
use Rattle.trap_raid.specs.Members.{IsMember}

-- every disk but this one is the same
abbrev pub OnlyDisk : ℕ → Disks → Disks → Type 0
OnlyDisk d old new = (e : ℕ) → e ≢ d → new e ≡ old e

-- the bytes of a new member's disk: its header, and a zero block at each place
abbrev pub new_member : Geometry → ℕ → List ℕ
new_member g m = member_header g.id m ++ replicate (g.rows * g.block) 0

-- a member's disk is new
pub record HasMember (g : Geometry) (m : ℕ) (old new : Disks) : Type 0 where
  pub others : OnlyDisk (m + 1) old new
  pub disk : new (m + 1) ≡ Some (new_member g m)

-- every crash leaves of the disk what a read gives
abbrev pub IsStable : View → ℕ → Type 0
IsStable v d = Always v (λ disks. disks d ≡ v.now.disks d)

-- the disk is the member's own, and every crash leaves of it what a read gives
pub record ReadsMember (g : Geometry) (m : ℕ) (old new : View) : Type 0 where
  pub size : old.sizes (m + 1) ≡ Some (member_size g)
  pub own : IsTrue old.tells → IsMember g old.now.disks m
  pub stable : IsStable new (m + 1)

-- a disk of the member's size is synced and read once, and of another size it isn't called
pub record LooksOnce {T E : Type 0} (g : Geometry) (m : ℕ) (result : Result T E) (old new : View)
    : Type 0 where
  pub sized : old.sizes (m + 1) ≡ Some (member_size g) → TakesCalls 2 result old new
  pub other : old.sizes (m + 1) ≢ Some (member_size g) → CalledTimes 0 old new
