-- How a write moves the head, and what it adds to the index.
use Rattle.std.specs.Prelude.{◌≡◌, ◌⊎◌, ℕ, ◌+◌, ◌<◌, ◌≤◌, Result, Ok, Err}
use Rattle.trap_format.specs.declared.head.Head.{Head}
use Rattle.trap_index.specs.Indexed.{Indexed, with_record}
use Rattle.trap_model.specs.Limits.{greatest_record}
use Rattle.trap_model.specs.declared.log_record.LogRec.{LogRec}
use Rattle.trap_model.specs.declared.numbers.Geometry.{Geometry}
use Rattle.trap_mount.specs.Mounted.{Mounted}
use Rattle.trap_array.specs.NextHead.{committed, drained_to, next_rec}
use Rattle.trap_array.specs.Room.{ring_limit}
pub use Rattle.trap_log.specs.Growing.{Grows, IsLaterHead}
use Rattle.trap_array.specs.declared.fault.Denied.{Denied}
use Rattle.trap_array.specs.declared.fault.Denied.TheVariants.{Refused, LogFault, MemberFault}
use Rattle.trap_array.specs.declared.fault.Denied.TheVariants.{Damaged, Stopped}

-- There was room for one entry more, with the next number. Its record stands right after the
-- others.
pub record HasOneMore (g : Geometry) (h t : Head) (time seq : ℕ) : Type 0 where
  pub number : seq ≡ h.last + 1
  -- the record's length
  pub size : ℕ
  pub least : 30 ≤ size
  pub most : size ≤ greatest_record g.block
  pub few : h.last < h.first + g.entries
  pub room : h.end_off + size ≤ h.first_off + ring_limit g
  pub head : t ≡ drained_to (committed h time size) t.drained

-- the head after a fault of a write: nothing was added, and at most how much is drained changed; or
-- the write was committed, and so its record added
abbrev pub HeadAfterFault : Geometry → Head → Head → ℕ → Type 0
HeadAfterFault g h t time = (t ≡ drained_to h t.drained) ⊎ HasOneMore g h t time (h.last + 1)

-- the head after a write: a refusal changes at most how much is drained
abbrev pub HeadAfter : Geometry → Head → Head → ℕ → Result ℕ Denied → Type 0
HeadAfter g h t time (Ok seq) = HasOneMore g h t time seq
HeadAfter g h t time (Err (Refused why)) = t ≡ drained_to h t.drained
HeadAfter g h t time (Err LogFault) = HeadAfterFault g h t time
HeadAfter g h t time (Err (MemberFault first second)) = HeadAfterFault g h t time
HeadAfter g h t time (Err (Damaged offset)) = t ≡ h
HeadAfter g h t time (Err Stopped) = t ≡ h

-- the index has one record more
pub record HasRecordMore (i j : Indexed) : Type 0 where
  pub rec : LogRec
  pub added : j ≡ with_record i rec

-- The index has one record more: the next one, of this time and block. It is as long as the head's
-- window grew.
pub record HasRecordOf (a b : Mounted) (seq time block : ℕ) : Type 0 where
  pub number : seq ≡ a.head.last + 1
  -- the record's length
  pub size : ℕ
  pub least : 30 ≤ size
  pub added : b.index ≡ with_record a.index (next_rec a.head time block size)
  pub long : b.head.end_off ≡ a.head.end_off + size

-- head and index after a fault go together: nothing was added, or the record of the write that
-- failed
abbrev pub IndexAfterFault : Mounted → Mounted → ℕ → ℕ → Type 0
IndexAfterFault a b time block =
    ((b.head ≡ drained_to a.head b.head.drained) × (b.index ≡ a.index))
    ⊎ (HasOneMore a.g a.head b.head time (a.head.last + 1)
    × HasRecordOf a b (a.head.last + 1) time block)

-- the index after a write: a refusal leaves it, and so may a fault
abbrev pub IndexAfter : Mounted → Mounted → ℕ → ℕ → Result ℕ Denied → Type 0
IndexAfter a b time block (Ok seq) = HasRecordOf a b seq time block
IndexAfter a b time block (Err (Refused why)) = b.index ≡ a.index
IndexAfter a b time block (Err LogFault) = IndexAfterFault a b time block
IndexAfter a b time block (Err (MemberFault first second)) = IndexAfterFault a b time block
IndexAfter a b time block (Err (Damaged offset)) = b.index ≡ a.index
IndexAfter a b time block (Err Stopped) = b.index ≡ a.index
