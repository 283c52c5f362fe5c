-- The disk of the lost member, kept or made anew.
use Rattle.std.specs.Prelude.{◌≡◌, ◌⊎◌, ℕ, ◌+◌, Some, IsTrue}
use Rattle.trap_model.specs.declared.numbers.Geometry.{Geometry}
use Rattle.trap_bank.specs.Disks.{View}
use Rattle.trap_bank.specs.Steps.{Always, OnlyReads}
use Rattle.trap_format.specs.MemberDisk.{member_size}
use Rattle.trap_raid.specs.Condition.{Condition}
use Rattle.trap_raid.specs.Members.{IsMember, HasFailed}
use Rattle.trap_rebuild.specs.declared.fault.RebuildFault.{RebuildFault}
use Rattle.trap_rebuild.specs.declared.fault.RebuildFault.TheVariants.{NotLost, MemberFailed}

-- these numbers, of the array with this name
abbrev pub named : Geometry → ℕ → Geometry
named g id = record g { id = id }

-- the member's disk has its exact size, and whatever a crash leaves it is the member's own
pub record HasOwnDisk (g : Geometry) (member : ℕ) (v : View) : Type 0 where
  pub size : v.sizes (member + 1) ≡ Some (member_size g)
  pub own : Always v (λ disks. IsMember g disks member)

-- The mark stays, and nothing is written. Or no row counts any longer: that only where the disk
-- wasn't the member's own.
abbrev pub KeepsMark : Geometry → ℕ → Condition → Condition → View → View → Type 0
KeepsMark g member before after old new =
    ((after ≡ before) × OnlyReads old new)
    ⊎ ((after ≡ record before { rebuilt = 0 })
    × (IsTrue old.tells → IsMember g old.now.disks member → ⊥))

-- it names the member that was asked for, and where that one failed, the count of its disk rose
abbrev pub ReplaceFails : ℕ → View → View → RebuildFault → Type 0
ReplaceFails member old new (NotLost other) = other ≡ member
ReplaceFails member old new (MemberFailed failed) = (failed ≡ member) × HasFailed old new failed
