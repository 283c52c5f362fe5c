-- A member whose disk is removed.
use Rattle.std.specs.Prelude.{◌≡◌, ◌≢◌, ℕ, ◌+◌, ◌<◌, None}
use Rattle.trap_bank.specs.Disks.{Disks}
use Rattle.trap_format.specs.declared.head.Head.{Head}
use Rattle.trap_model.specs.declared.history.State.{State}
use Rattle.trap_model.specs.declared.numbers.Geometry.{Geometry}
use Rattle.trap_raid.specs.Members.{IsOut}
use Rattle.trap_array.specs.Holding.{HoldsBy}

-- the disks hold the state, and no member is out but perhaps this one: by the head, or since its
-- disk is absent
pub record HoldsBut (g : Geometry) (s : State) (m : ℕ) (disks : Disks) : Type 0 where
  pub head : Head
  pub by : HoldsBy g head s disks
  pub others : (k : ℕ) → k < g.members → IsOut head.lost disks k → k ≡ m

-- the member's disk is absent, and all others are as they were
pub record IsRemoved (m : ℕ) (old new : Disks) : Type 0 where
  pub others : (e : ℕ) → e ≢ m + 1 → new e ≡ old e
  pub absent : new (m + 1) ≡ None
