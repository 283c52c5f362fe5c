-- The code of what an entry changed, as it is read again from the entry's record.
use Rattle.std.specs.Prelude.{◌≡◌, ◌↔◌, ℕ, ◌+◌, ◌≤◌, List, length, take, drop, slice_range, IsTrue}
use Rattle.std.specs.Prelude.{true, false, Result, Err, IfErr, IsErrOf}
use Rattle.trap_bank.specs.Disks.{View}
use Rattle.trap_bank.specs.Steps.{Always}
use Rattle.trap_index.specs.Indexed.{item_at}
use Rattle.trap_model.specs.Limits.{record_header_len}
use Rattle.trap_model.specs.ZeroRun.{ZeroRun}
use Rattle.trap_model.specs.declared.history.State.{State}
use Rattle.trap_past.specs.Undo.{parity_at}
use Rattle.trap_ring.specs.Ring.{RingHas}
use Rattle.trap_array.specs.Calls.{Mounted, StandsFor}
use Rattle.trap_array.specs.Holding.{log_ring}
use Rattle.trap_array.specs.Instants.{FailsRecord}
use Rattle.trap_array.specs.Untouched.{Untouched}
use Rattle.trap_array.specs.declared.fault.Denied.{Denied}
use Rattle.trap_array.specs.declared.fault.Denied.TheVariants.{Damaged, Stopped}

-- The bytes are the code of a block, as long as the index says, and stand in the ring after the
-- header of the entry's record: where the array stands for a state, they are of what entry number q
-- changed.
pub record IsEntryCode (a : Mounted) (v : View) (q : ℕ) (bytes : List ℕ) : Type 0 where
  pub parity : List ℕ
  pub sized : length parity ≡ a.g.block
  pub code : ZeroRun parity bytes
  pub long : length bytes ≡ (item_at a.index q).plen
  pub there : IsTrue v.tells → RingHas (log_ring a.g)
      ((item_at a.index q).off + record_header_len) bytes v.now.disks
  pub is : IsTrue v.tells → (s : State) → StandsFor a s v.now.disks → parity ≡ parity_at s q

-- the first bytes, as many as the length says, are that code, and those after them are as they were
pub record WritesCode (a : Mounted) (v : View) (q len : ℕ) (old new : List ℕ) : Type 0 where
  pub most : len ≤ a.g.block + 7
  pub code : IsEntryCode a v q (take len new)
  pub rest : drop len new ≡ drop len old

-- Why there is none. A stopped array answers so, exactly, and makes no call of the bank. Otherwise
-- disk 0 failed, and its count of faults rose, or the entry's record isn't the one that was there:
-- so never where the array stands for a state.
pub record DeniesCode {T : Type 0} (a : Mounted) (q : ℕ) (result : Result T Denied)
    (old new : View) : Type 0 where
  pub stopped : (result ≡ Err Stopped) ↔ (a.is_stopped ≡ true)
  pub untouched : a.is_stopped ≡ true → Untouched old new
  pub cause : a.is_stopped ≡ false → IfErr result (FailsRecord a q old new)
  pub damaged : (offset : ℕ) → IsErrOf result (Damaged offset) → IsTrue old.tells → (s : State)
      → Always old (StandsFor a s) → ⊥

-- after the bytes of a record's header there is a code of that length, which spells this block
pub record HasFirstCode (size plen : ℕ) (block bytes : List ℕ) : Type 0 where
  pub sized : length block ≡ size
  pub most : plen ≤ size + 7
  pub code : ZeroRun block (slice_range bytes record_header_len (record_header_len + plen))
