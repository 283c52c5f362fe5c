-- The log as a source of the past: what it has, and what its calls do to the bank.
use Rattle.std.specs.Prelude.{◌≡◌, ℕ, ◌+◌, ◌-◌, ◌*◌, ◌<◌, ◌≤◌, List, Option, Some, None, Bool}
use Rattle.std.specs.Prelude.{false, IsTrue, Result, nat_le}
use Rattle.trap_bank.specs.Steps.{OnlyReads}
use Rattle.trap_bank.specs.Called.{TakesCalls}
use Rattle.trap_bank.specs.Disks.{View}
use Rattle.trap_format.specs.LogDisk.{log_size}
use Rattle.trap_format.specs.MemberDisk.{member_size}
use Rattle.trap_index.specs.Indexed.{last_seq, item_at, path_to}
use Rattle.trap_map.specs.Layout.{block_place}
use Rattle.trap_model.specs.declared.history.State.{State}
use Rattle.trap_model.specs.declared.numbers.Geometry.{Geometry}
use Rattle.trap_model.specs.Image.{volume}
use Rattle.trap_model.specs.Records.{entry_at}
use Rattle.trap_past.specs.Past.{Past}
use Rattle.trap_past.specs.Undo.{parity_at}
use Rattle.trap_raid.specs.Members.{Counts}
use Rattle.trap_raid.specs.Standing.{reads_of}
use Rattle.trap_record.specs.declared.parts.Part.{Part}
use Rattle.trap_record.specs.declared.parts.Part.TheVariants.{Parity, Snapshot}
use Rattle.trap_array.specs.Calls.{Mounted, StandsFor, running}
use Rattle.trap_array.specs.Instants.{IsBadRecord, FailsByDisk}
use Rattle.trap_array.specs.Log.{IndexedLog, AreInStep}
use Rattle.trap_array.specs.declared.fault.Denied.{Denied}
use Rattle.trap_array.specs.declared.fault.Denied.TheVariants.{MemberFault, Damaged}

-- the block that this part of an entry's record stands for
abbrev pub part_block : Part → State → ℕ → List ℕ
part_block Parity s q = parity_at s q
part_block Snapshot s q = (entry_at s q).bytes

-- a disk is there and has at least that many bytes, by its size
abbrev pub is_long : Option ℕ → ℕ → Bool
is_long None end = false
is_long (Some size) end = nat_le end size

-- what the source keeps in mind: the disks are long enough, and what the log knows goes with its
-- head
pub record IsFor (log : IndexedLog) (v : View) : Type 0 where
  pub in_step : AreInStep log.head log.stage log.index
  pub same : log.index.g ≡ log.g
  pub log_disk : IsTrue (is_long (v.sizes 0) (log_size log.g))
  pub members : (m : ℕ) → m < log.g.members → Counts log.head.lost log.head.rebuilt 0 m
      → IsTrue (is_long (v.sizes (m + 1)) (member_size log.g))

-- how often the source's methods were called, and how often one failed
pub record CallCounts : Type 0 where
  pub presents : ℕ
  pub parities : ℕ
  pub snapshots : ℕ
  pub faults : ℕ
  -- the block whose present contents were asked for last
  pub asked : ℕ
  -- the number of the entry whose record was asked for last
  pub looked : ℕ

-- the log as a source: where the bank tells, it stands for the states of what a read gives
abbrev pub past_of_log : IndexedLog → View → CallCounts → Past
past_of_log log v n = record {
  has = record {
    volume = volume log.g;
    size = log.g.block;
    first = log.index.first;
    last = last_seq log.index;
    item = item_at log.index;
  };
  stands = λ s. IsTrue v.tells × StandsFor (running log) s v.now.disks;
  presents = n.presents;
  parities = n.parities;
  snapshots = n.snapshots;
  faults = n.faults;
  asked = n.asked;
  looked = n.looked;
}

-- the bank was called at most so often, where each call raises its moment by one
pub record CallsAtMost (calls : ℕ) (old new : View) : Type 0 where
  pub by_one : new.by_one ≡ old.by_one
  pub moment : IsTrue old.tells → IsTrue old.by_one → new.moment ≤ old.moment + calls

-- a present block takes one read, or where a member is lost, at most one of each other member
abbrev pub present_reads : Geometry → Option ℕ → ℕ
present_reads g None = 1
present_reads g (Some member) = g.members - 1

-- how many places are read for a block's present contents
abbrev pub present_of : Mounted → ℕ → ℕ
present_of a block = let place = block_place a.g block in
    reads_of a.g a.head.lost a.pending place.row place.member

-- How often a read of a block's present contents called the bank: where it went well, exactly as
-- often as places are read for the block's, so never for a lost member's; and whatever it answers,
-- at most once, or where a member is lost, at most once for each other one.
pub record ReadsPresent {T E : Type 0} (a : Mounted) (block : ℕ) (result : Result T E)
    (old new : View) : Type 0 where
  pub exact : TakesCalls (present_of a block) result old new
  pub most : CallsAtMost (present_reads a.g a.head.lost) old new

-- a look back takes that many a block after entry number q: its present contents, and the record of
-- each of its later entries
abbrev pub reads_back : Mounted → ℕ → ℕ → ℕ
reads_back a block q = present_of a block + 2 * (path_to a.index block q).turns

-- how many reads that many records take at most: one that goes round the ring's end takes two
abbrev pub record_reads : CallCounts → ℕ
record_reads n = 2 * n.parities + 2 * n.snapshots

-- between these counts of the source's calls the bank was called at most so often, beside the reads
-- of the records
abbrev pub CallsBeside : ℕ → CallCounts → CallCounts → View → View → Type 0
CallsBeside calls was now old new = IsTrue old.tells → IsTrue old.by_one
    → new.moment + record_reads was ≤ old.moment + calls + record_reads now

-- Between these counts of the source's calls nothing was done but reads: those of records, and
-- where the present was asked for once, those of the places of the block that was asked for.
pub record OnlyLooked (log : IndexedLog) (was now : CallCounts) (old new : View) : Type 0 where
  pub reads : OnlyReads old new
  pub presents : was.presents ≤ now.presents
  pub by_one : new.by_one ≡ old.by_one
  pub none : now.presents ≡ was.presents
      → (now.asked ≡ was.asked) × CallsBeside 0 was now old new
  pub one : now.presents ≡ was.presents + 1
      → CallsBeside (present_of (running log) now.asked) was now old new

-- Why a call of the source failed, between these counts of its calls. A member failed only where
-- the present was asked for, and a record is damaged only where the log stands for no state.
pub record LookFailed (log : IndexedLog) (was now : CallCounts) (old new : View)
    (fault : Denied) : Type 0 where
  pub fails : FailsByDisk (running log) old new fault
  pub asked : (first second : ℕ) → fault ≡ MemberFault first second → was.presents < now.presents
  pub damaged : (offset : ℕ) → fault ≡ Damaged offset → IsTrue old.tells → (s : State)
      → StandsFor (running log) s old.now.disks → ⊥

-- Right after a call of the source that failed: a record that is damaged is that of the entry that
-- was asked for last.
abbrev pub LooksDamaged : IndexedLog → ℕ → View → Denied → Type 0
LooksDamaged log looked v fault = (offset : ℕ) → fault ≡ Damaged offset → IsTrue v.tells
    → IsBadRecord log.g log.index looked v.now.disks offset
