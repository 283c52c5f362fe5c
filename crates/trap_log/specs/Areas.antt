-- Which bytes a commit and a drain may touch.
use Rattle.std.specs.Prelude.{◌⊎◌, ◌+◌, ◌-◌, IsTrue}
use Rattle.trap_bank.specs.Disks.{View, Area, Differs, Torn}
use Rattle.trap_bank.specs.Steps.{Moves}
use Rattle.trap_mount.specs.Holding.{log_ring, InCell}
use Rattle.trap_raid.specs.Draining.{InDrained}
use Rattle.trap_ring.specs.Ring.{InRing}
use Rattle.trap_stage.specs.Slots.{slot_area}
use Rattle.trap_log.specs.Calls.{Mounted}
use Rattle.trap_log.specs.Room.{ring_len}

-- no byte changed but in the area, and a crash at any moment leaves no other byte changed
pub record Touches (area : Area) (old new : View) : Type 0 where
  pub contents : IsTrue old.tells → Torn area old.now new.now
  pub any_moment : Moves old new (Differs area) (Differs area)

-- of the log's disk: the ring after the window, the slot of the next number, and the head's cell
abbrev pub InCommit : Mounted → Area
InCommit a e i = InRing (log_ring a.g) a.head.end_off
    (a.head.first_off + ring_len a.g - a.head.end_off) e i
    ⊎ (slot_area a.g (a.head.last + 1) e i ⊎ InCell e i)

-- the members' places that count and for which a write is pending, and the head's cell
abbrev pub InDrain : Mounted → Area
InDrain a e i = InDrained a.g a.head.lost a.head.rebuilt a.pending e i ⊎ InCell e i
