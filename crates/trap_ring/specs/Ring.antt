-- A ring of bytes on a disk: the byte with absolute offset x stands at byte x mod its length.
use Rattle.std.specs.Prelude.{◌≡◌, ℕ, ◌+◌, ◌%◌, ◌<◌, ◌≤◌, List, length, slice_index, if◌then◌else◌}
use Rattle.std.specs.Prelude.{nat_le}
use Rattle.trap_bank.specs.Disks.{Disks, Area, Within, Differs, byte}

-- where a ring stands, and how many bytes it has
pub record RingPlace : Type 0 where
  pub disk : ℕ
  pub at : ℕ
  pub len : ℕ

-- where on its disk the byte with an absolute offset stands
abbrev pub ring_pos : RingPlace → ℕ → ℕ
ring_pos r offset = r.at + offset % r.len

-- the byte with an absolute offset
abbrev pub ring_byte : RingPlace → ℕ → Disks → ℕ
ring_byte r offset disks = byte disks r.disk (ring_pos r offset)

-- all positions of the ring
abbrev pub whole_ring : RingPlace → Area
whole_ring r = Within r.disk r.at r.len

-- where `len` bytes from an absolute offset on stand: from `start` on, and all but the first
-- `count` of them at the ring's beginning, since these reach its end
pub record GoesRoundEnd (r : RingPlace) (offset len start count : ℕ) : Type 0 where
  pub some : 1 ≤ r.len
  pub place : start ≡ ring_pos r offset
  pub part : count ≤ len
  pub fits : offset % r.len + count ≤ r.len
  pub round : count < len → offset % r.len + count ≡ r.len

-- how many calls `len` bytes from an absolute offset on take: two where they go over the ring's end
abbrev pub ring_calls : RingPlace → ℕ → ℕ → ℕ
ring_calls r offset len = if nat_le (offset % r.len + len) r.len then 1 else 2

-- the positions of n absolute offsets from one on
pub record InRing (r : RingPlace) (from n e i : ℕ) : Type 0 where
  pub disk : e ≡ r.disk
  pub offset : ℕ
  pub low : from ≤ offset
  pub high : offset < from + n
  pub place : i ≡ ring_pos r offset

-- these bytes stand in the ring from an absolute offset on
abbrev pub RingHas : RingPlace → ℕ → List ℕ → Disks → Type 0
RingHas r from bytes disks =
    (k : ℕ) → k < length bytes → ring_byte r (from + k) disks ≡ slice_index bytes k

-- the bytes with the offsets from one up to another are as they were
abbrev pub SameWindow : RingPlace → ℕ → ℕ → Disks → Disks → Type 0
SameWindow r from to old new = (x : ℕ) → from ≤ x → x < to → ring_byte r x new ≡ ring_byte r x old

-- that window is as it was, and so is all outside the ring
pub record KeepsWindow (r : RingPlace) (from to : ℕ) (old new : Disks) : Type 0 where
  pub outside : Differs (whole_ring r) old new
  pub window : SameWindow r from to old new

-- the window is as it was, and these bytes follow it
pub record Appends (r : RingPlace) (from to : ℕ) (bytes : List ℕ) (old new : Disks) : Type 0 where
  pub window : SameWindow r from to old new
  pub there : RingHas r to bytes new
