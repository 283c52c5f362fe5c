-- How often a read and a write of a mounted array call its bank.
use Rattle.std.specs.Prelude.{◌≡◌, ℕ, ◌+◌, List, [], Bool, nat_lt, Result, IsErrOf, OnOk}
use Rattle.std.specs.Prelude.{if◌then◌else◌}
use Rattle.trap_bank.specs.Called.{CalledTimes, CalledAtMost, TakesCalls}
use Rattle.trap_bank.specs.Disks.{View}
use Rattle.trap_cell.specs.Slots.{Slots, turned}
use Rattle.trap_cell.specs.Steps.{put_calls}
use Rattle.trap_map.specs.Layout.{parity_member, block_place}
use Rattle.trap_model.specs.Limits.{greatest_record}
use Rattle.trap_raid.specs.Draining.{place_calls, drain_calls}
use Rattle.trap_raid.specs.Standing.{reads_until, plan_reads}
use Rattle.trap_ring.specs.Ring.{ring_calls}
use Rattle.trap_stage.specs.Staged.{Staged}
use Rattle.trap_array.specs.Calls.{Mounted}
use Rattle.trap_array.specs.Holding.{log_ring}
use Rattle.trap_array.specs.Owed.{pending_writes}
use Rattle.trap_array.specs.Sources.{CallsAtMost, present_of, present_reads}
use Rattle.trap_array.specs.declared.fault.Denied.{Denied}
use Rattle.trap_array.specs.declared.fault.Denied.TheVariants.{MemberFault}

-- how many places are read for a block's present contents where this member failed
abbrev pub present_until : Mounted → ℕ → ℕ → ℕ
present_until a block member = let place = block_place a.g block in
    reads_until a.g a.head.lost a.pending place.row place.member member

-- where a member failed, exactly the reads up to its own were made: so none of a lost member's
-- place
abbrev pub FailsAtRead : {T : Type 0} → Mounted → ℕ → Result T Denied → View → View → Type 0
FailsAtRead a block result old new = (first second : ℕ)
    → IsErrOf result (MemberFault first second)
    → CalledTimes (present_until a block second) old new

-- How often a read of a block called the bank: where it went well, exactly as often as places are
-- read for the block's; where a member failed, exactly up to that read; and whatever it answered,
-- at most once, or where a member is lost, at most once for each other one.
pub record CallsInRead {T : Type 0} (a : Mounted) (block : ℕ) (result : Result T Denied)
    (old new : View) : Type 0 where
  pub exact : TakesCalls (present_of a block) result old new
  pub most : CallsAtMost (present_reads a.g a.head.lost) old new
  pub failed : FailsAtRead a block result old new

-- whether a staging slot is free
abbrev pub is_slot_free : Mounted → Bool
is_slot_free a = nat_lt (pending_writes a.head) a.g.slots

-- the calls that make a slot free: none where one is; otherwise those that put the pending writes
-- onto the members, and then the head that says so
abbrev pub room_calls : Mounted → ℕ
room_calls a = if is_slot_free a then 0
    else drain_calls a.g a.head.lost a.head.rebuilt a.pending + put_calls a.cell

-- the calls that put a block and the parity of its row onto the members
abbrev pub block_calls : Mounted → ℕ → ℕ
block_calls a block = let place = block_place a.g block in
    place_calls a.head.lost a.head.rebuilt place.row place.member
    + place_calls a.head.lost a.head.rebuilt place.row (parity_member a.g place.row)

-- The calls of a commit over these pending writes and this cell, whose record has that many bytes:
-- the writes of its record, one of its slot, the sync of both, and the put of the head that commits
-- it. Then those of its drain, and of the put of the head that says so.
abbrev pub commit_drain_calls : Mounted → List Staged → Slots → ℕ → ℕ → ℕ
commit_drain_calls a pending cell block size =
    ring_calls (log_ring a.g) a.head.end_off size + (1 + (1 + put_calls cell))
    + (block_calls a block + drain_calls a.g a.head.lost a.head.rebuilt pending
    + put_calls (turned cell))

-- the same after the reads of its plan
abbrev pub planned_calls : Mounted → List Staged → Slots → ℕ → ℕ → ℕ
planned_calls a pending cell block size =
    plan_reads a.g a.head.lost pending block + commit_drain_calls a pending cell block size

-- The calls of a write that is kept: where no slot is free, a drain before all of these.
abbrev pub kept_calls : Mounted → ℕ → ℕ → ℕ
kept_calls a block size = room_calls a + planned_calls a
    (if is_slot_free a then a.pending else [])
    (if is_slot_free a then a.cell else turned a.cell) block size

-- What is kept called the bank exactly as often as its record's length says, by which the window
-- grew; and whatever was answered, it was called no more often than for the greatest record.
pub record CallsFor {T : Type 0} (calls : ℕ → ℕ) (a b : Mounted) (result : Result T Denied)
    (old new : View) : Type 0 where
  pub kept : (size : ℕ) → b.head.end_off ≡ a.head.end_off + size
      → OnOk result (CalledTimes (calls size) old new)
  pub most : CalledAtMost (calls (greatest_record a.g.block)) old new

-- how often a write called the bank
abbrev pub CallsInWrite : {T : Type 0} → Mounted → Mounted → ℕ → Result T Denied → View → View
    → Type 0
CallsInWrite a b block result old new = CallsFor (kept_calls a block) a b result old new

-- how often its commit and its drain did
abbrev pub CallsInCommit : {T : Type 0} → Mounted → Mounted → ℕ → Result T Denied → View → View
    → Type 0
CallsInCommit a b block result old new =
    CallsFor (commit_drain_calls a a.pending a.cell block) a b result old new
