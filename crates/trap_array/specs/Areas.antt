-- Which bytes a write may touch.
use Rattle.std.specs.Prelude.{◌≡◌, ◌⊎◌, ℕ, ◌+◌, ◌-◌, ◌*◌, ◌<◌, Option}
use Rattle.trap_bank.specs.Disks.{Area, Within}
use Rattle.trap_format.specs.LogDisk.{slots_at, slot_len}
use Rattle.trap_format.specs.MemberDisk.{row_at}
pub use Rattle.trap_log.specs.Areas.{Touches, InCommit, InDrain}
use Rattle.trap_log.specs.Room.{ring_len}
use Rattle.trap_map.specs.Layout.{parity_member, block_place}
use Rattle.trap_model.specs.declared.numbers.Geometry.{Geometry}
use Rattle.trap_raid.specs.Draining.{InCounted}
use Rattle.trap_raid.specs.Members.{Counts}
use Rattle.trap_ring.specs.Ring.{InRing}
use Rattle.trap_array.specs.Calls.{Mounted}
use Rattle.trap_array.specs.Holding.{log_ring, InCell}

-- a block's place, or that of its row's parity, where it counts
pub record InBlock (g : Geometry) (lost : Option ℕ) (rebuilt block e i : ℕ) : Type 0 where
  pub member : ℕ
  pub inside : member < g.members
  pub counts : Counts lost rebuilt (block_place g block).row member
  pub either : (member ≡ (block_place g block).member)
      ⊎ (member ≡ parity_member g (block_place g block).row)
  pub within : Within (member + 1) (row_at g (block_place g block).row) g.block e i

-- what a write of the block may touch
abbrev pub InWrite : Mounted → ℕ → Area
InWrite a block e i = InCommit a e i
    ⊎ (InDrain a e i ⊎ InBlock a.g a.head.lost a.head.rebuilt block e i)

-- any place of the array's members that counts
pub record InAnyCounted (g : Geometry) (lost : Option ℕ) (rebuilt e i : ℕ) : Type 0 where
  pub row : ℕ
  pub member : ℕ
  pub in_rows : row < g.rows
  pub inside : member < g.members
  pub place : InCounted g lost rebuilt row member e i

-- What any run of calls of an array may touch: the head's cell, the slots, the ring beside the
-- window that is retained now, and the members' places that count.
abbrev pub MayTouch : Mounted → Area
MayTouch a e i = InCell e i
    ⊎ (Within 0 slots_at (a.g.slots * slot_len a.g) e i
    ⊎ (InRing (log_ring a.g) a.head.end_off (a.head.first_off + ring_len a.g - a.head.end_off) e i
    ⊎ InAnyCounted a.g a.head.lost a.head.rebuilt e i))
