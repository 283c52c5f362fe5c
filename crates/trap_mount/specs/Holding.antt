-- When disks hold a state of an array, and which of their bytes don't matter for it.
use Rattle.std.specs.Prelude.{◌≡◌, ◌⊎◌, ℕ, ◌+◌, ◌^◌, ◌<◌, Some}
use Rattle.trap_bank.specs.Disks.{Disks, Area, Within, region, size_of}
use Rattle.trap_cell.specs.Slots.{Place, place_of, cell_area, cell_value}
use Rattle.trap_format.specs.LogDisk.{cell_at, ring_at, ring_len, log_size, IsLogHeader}
use Rattle.trap_format.specs.HeadValue.{IsHead, head_value, head_value_len}
use Rattle.trap_format.specs.declared.head.Head.{Head}
use Rattle.trap_model.specs.Records.{records}
use Rattle.trap_model.specs.State.{IsValid, last, last_time, image, kept}
use Rattle.trap_model.specs.declared.numbers.Geometry.{Geometry}
use Rattle.trap_model.specs.declared.history.State.{State}
use Rattle.trap_raid.specs.Members.{MembersHold, InHeaders, InPlaces}
use Rattle.trap_ring.specs.Ring.{RingPlace, RingHas, InRing}
use Rattle.trap_stage.specs.Pending.{pending}
use Rattle.trap_stage.specs.Slots.{SlotsHold, InSlots}

-- where the head's cell stands on disk 0
abbrev pub head_place : Place
head_place = place_of 0 cell_at head_value_len

-- where the ring stands on disk 0
abbrev pub log_ring : Geometry → RingPlace
log_ring g = record { disk = 0; at = ring_at g; len = ring_len g }

-- the head's numbers are those of the state, and its offsets are as far apart as the retained
-- records are long
pub record IsHeadOf (g : Geometry) (s : State) (h : Head) : Type 0 where
  pub head : IsHead g h
  pub first : h.first ≡ s.first
  pub base_time : h.base_time ≡ s.base_time
  pub last : h.last ≡ last s
  pub last_time : h.last_time ≡ last_time s
  pub window : h.end_off ≡ h.first_off + kept s

-- disk 0 has the size of these numbers' log and begins with their header
pub record HasLog (g : Geometry) (disks : Disks) : Type 0 where
  pub size : size_of (disks 0) ≡ Some (log_size g)
  pub header : IsLogHeader g (region disks 0 0 64)
  pub id : g.id < 2 ^ 64

-- Everything but the head's cell is as this head says of this state: the log's size and header, the
-- records of the retained entries, the pending writes, the members.
pub record MatchesHead (g : Geometry) (h : Head) (s : State) (disks : Disks) : Type 0 where
  pub valid : IsValid g s
  pub head : IsHeadOf g s h
  pub log : HasLog g disks
  pub ring : RingHas (log_ring g) h.first_off (records s) disks
  pub slots : SlotsHold g s h.drained disks
  pub members : MembersHold g h.lost h.rebuilt (pending g s h.drained) (image s) disks

-- the disks hold the state, and this is the head
pub record HoldsBy (g : Geometry) (h : Head) (s : State) (disks : Disks) : Type 0 where
  pub value : cell_value head_place disks ≡ Some (head_value h)
  pub fits : MatchesHead g h s disks

-- the disks hold the state
pub record Holds (g : Geometry) (s : State) (disks : Disks) : Type 0 where
  pub head : Head
  pub by : HoldsBy g head s disks

-- the positions beside the head's cell that matter
abbrev pub Matters : Geometry → Head → State → Area
Matters g h s e i = Within 0 0 64 e i ⊎ (InRing (log_ring g) h.first_off (kept s) e i
    ⊎ (InSlots g h.drained (last s) e i ⊎ (InHeaders g h.lost h.rebuilt e i
    ⊎ InPlaces g h.lost h.rebuilt (pending g s h.drained) e i)))

-- the positions of the head's cell
abbrev pub InCell : Area
InCell = cell_area head_place

-- the positions that don't matter
pub record Outside (g : Geometry) (h : Head) (s : State) (e i : ℕ) : Type 0 where
  pub cell : InCell e i → ⊥
  pub rest : Matters g h s e i → ⊥
