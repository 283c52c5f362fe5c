-- What is known of the disks where an array was mounted.
use Rattle.std.specs.Prelude.{ℕ, ◌<◌, IsTrue}
use Rattle.trap_bank.specs.Disks.{Disks, View}
use Rattle.trap_model.specs.declared.numbers.Geometry.{Geometry}
use Rattle.trap_model.specs.declared.history.State.{State}
use Rattle.trap_format.specs.declared.head.Head.{Head}
use Rattle.trap_raid.specs.Members.{IsMember, IsOut}
use Rattle.trap_array.specs.Holding.{Holds}
use Rattle.trap_array.specs.Mounting.{HasMembers}

-- every step of mounting an array of these numbers passes: nothing on the disks is refused
pub record MountPasses (g : Geometry) (disks : Disks) : Type 0 where
  pub h : Head
  pub members : HasMembers g h disks
  pub own : (m : ℕ) → m < g.members → (IsOut h.lost disks m → ⊥) → IsMember g disks m

-- where the bank tells, the disks are those of an array
abbrev pub IsMountable : View → Type 0
IsMountable old = IsTrue old.tells → (g : Geometry) × MountPasses g old.now.disks

-- where the bank tells, the disks held no state on entry
abbrev pub HeldNone : View → Type 0
HeldNone old = IsTrue old.tells → (g : Geometry) (s : State) → Holds g s old.now.disks → ⊥
