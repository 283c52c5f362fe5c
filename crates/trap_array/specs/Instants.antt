-- What a read of an earlier instant needs below its contract: whether a number or a time is
-- refused, and how it fails.
use Rattle.std.specs.Prelude.{◌≡◌, ◌≢◌, ℕ, ◌<◌, ◌≤◌, List, Option, Some, None, IsTrue, nat_lt}
use Rattle.std.specs.Prelude.{if◌then◌else◌}
use Rattle.trap_bank.specs.Disks.{Disks, View}
use Rattle.trap_index.specs.Indexed.{Indexed, IsLastBy, last_seq, item_at}
use Rattle.trap_index.specs.Keeping.{rec_of_item}
use Rattle.trap_model.specs.LogRecord.{LogRecord}
use Rattle.trap_model.specs.declared.numbers.Geometry.{Geometry}
use Rattle.trap_model.specs.declared.request.Refusal.{Refusal}
use Rattle.trap_model.specs.declared.request.Refusal.TheVariants.{NoBlock, NotKept, Ahead}
use Rattle.trap_raid.specs.Reads.{FailedMember}
use Rattle.trap_ring.specs.Ring.{ring_pos, RingHas}
use Rattle.trap_array.specs.Calls.{Mounted, HasSizes}
use Rattle.trap_array.specs.Ending.{EndsBy}
use Rattle.trap_array.specs.Holding.{log_ring}
use Rattle.trap_array.specs.Log.{IndexedLog, AreInStep}
use Rattle.trap_array.specs.declared.fault.Denied.{Denied}

-- why a number is refused, by the index of what is retained
abbrev pub number_refused : Indexed → ℕ → Option Refusal
number_refused i seq =
    if nat_lt seq i.first then Some (NotKept i.first)
    else if nat_lt (last_seq i) seq then Some (Ahead (last_seq i))
    else None

-- why a time is refused, likewise
abbrev pub time_refused : Indexed → ℕ → Option Refusal
time_refused i time = if nat_lt time i.base_time then Some (NotKept i.base_time) else None

-- the disks have their sizes, and what the array knows goes with its head
pub record CanLookBack (log : IndexedLog) (v : View) : Type 0 where
  pub in_step : AreInStep log.head log.stage log.index
  pub same : log.index.g ≡ log.g
  pub sizes : HasSizes log.g log.head.lost log.head.rebuilt v

-- the record of the entry with this number is retained
pub record HasEntry (i : Indexed) (seq : ℕ) : Type 0 where
  pub low : i.first < seq
  pub high : seq ≤ last_seq i

-- an instant that is retained
pub record HasInstant (i : Indexed) (seq : ℕ) : Type 0 where
  pub low : i.first ≤ seq
  pub high : seq ≤ last_seq i

-- Of a retained entry, whose record should begin at this byte of disk 0, no record with the known
-- header is there.
pub record IsBadRecord (g : Geometry) (i : Indexed) (seq : ℕ) (disks : Disks) (offset : ℕ)
    : Type 0 where
  pub entry : HasEntry i seq
  pub place : offset ≡ ring_pos (log_ring g) (item_at i seq).off
  pub none : (parity snapshot bytes : List ℕ)
      → LogRecord g.block (rec_of_item seq (item_at i seq)) parity snapshot bytes
      → RingHas (log_ring g) (item_at i seq).off bytes disks → ⊥

-- so it is with one of the block's entries after number q: those whose records are read for the
-- block as it was then
pub record HasBadRecord (g : Geometry) (i : Indexed) (block q : ℕ) (disks : Disks) (offset : ℕ)
    : Type 0 where
  pub seq : ℕ
  pub above : q < seq
  pub own : (item_at i seq).block ≡ block
  pub bad : IsBadRecord g i seq disks offset

-- or after the last one up to a time
pub record HasBadRecordBy (g : Geometry) (i : Indexed) (block time : ℕ) (disks : Disks)
    (offset : ℕ) : Type 0 where
  pub q : ℕ
  pub last : IsLastBy i time q
  pub later : HasBadRecord g i block q disks offset

-- what is read again isn't the record that was there, where the bank tells
abbrev pub IsDamaged : Mounted → ℕ → View → ℕ → Type 0
IsDamaged a seq old offset = IsTrue old.tells
    → IsBadRecord a.g a.index seq old.now.disks offset

-- so it is with one of the block's entries after number q, or after those up to a time
abbrev pub IsDamagedAfter : Mounted → ℕ → ℕ → View → ℕ → Type 0
IsDamagedAfter a block q old offset = IsTrue old.tells
    → HasBadRecord a.g a.index block q old.now.disks offset

abbrev pub IsDamagedBy : Mounted → ℕ → ℕ → View → ℕ → Type 0
IsDamagedBy a block time old offset = IsTrue old.tells
    → HasBadRecordBy a.g a.index block time old.now.disks offset

-- the log's disk failed, and its count of faults rose, or the entry's record isn't the one that was
-- there
abbrev pub FailsRecord : Mounted → ℕ → View → View → Denied → Type 0
FailsRecord a seq old new denied =
    EndsBy (λ why. ⊥) (λ m k. ⊥) (λ at. IsDamaged a seq old at) old new denied

-- A member failed that isn't the lost one, and the count of its disk rose. Both numbers are its
-- own.
pub record FailsRead (a : Mounted) (first second : ℕ) (old new : View) : Type 0 where
  pub same : first ≡ second
  pub member : FailedMember a.g a.head.lost old new second

-- a disk failed, and its count of faults rose, or a record is damaged
abbrev pub FailsByDisk : Mounted → View → View → Denied → Type 0
FailsByDisk a old new denied = EndsBy (λ why. ⊥) (λ m k. FailsRead a m k old new)
    (λ at. Unit {0}) old new denied

-- the same, and the record is that of one of the block's entries after number q
abbrev pub FailsLooking : Mounted → ℕ → ℕ → View → View → Denied → Type 0
FailsLooking a block q old new denied = EndsBy (λ why. ⊥) (λ m k. FailsRead a m k old new)
    (λ at. IsDamagedAfter a block q old at) old new denied

-- an instant of a block that is there is refused, or a disk failed, and its count of faults rose,
-- or a record is damaged as that says
abbrev pub DeniesInstant : Mounted → (ℕ → Type 0) → View → View → Denied → Type 0
DeniesInstant a damages old new denied = EndsBy (λ why. why ≢ NoBlock)
    (λ m k. FailsRead a m k old new) damages old new denied
