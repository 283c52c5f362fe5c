-- How often a line calls the bank.
use Rattle.std.specs.Prelude.{◌≡◌, ℕ, ◌+◌, ◌<◌, None, Result, OnOk}
use Rattle.trap_bank.specs.Called.{CalledTimes, CalledAtMost}
use Rattle.trap_bank.specs.Disks.{View}
use Rattle.trap_index.specs.Indexed.{IsLastBy}
use Rattle.trap_model.specs.Limits.{greatest_record}
use Rattle.trap_model.specs.declared.request.Request.{Request}
use Rattle.trap_model.specs.declared.request.Request.TheVariants.{Write, Read, At, By}
use Rattle.trap_model.specs.declared.request.Request.TheVariants.{Quit as Q}
use Rattle.trap_array.specs.Calling.{kept_calls}
use Rattle.trap_array.specs.Calls.{Mounted}
use Rattle.trap_array.specs.Sources.{CallsAtMost, present_of, reads_back}
use Rattle.trap_session.specs.Deciding.{decided_reply}
use Rattle.trap_session.specs.declared.outcome.Next.{Next}
use Rattle.trap_session.specs.declared.outcome.SessionFault.{SessionFault}

-- A write that is kept, by whose record the window grew: exactly as often as one of that length
-- needs, and once for the reply. Any other: no more than for the greatest record.
pub record CallsToWrite (a b : Mounted) (block : ℕ) (result : Result Next SessionFault)
    (old new : View) : Type 0 where
  pub kept : (size : ℕ) → 0 < size → b.head.end_off ≡ a.head.end_off + size
      → OnOk result (CalledTimes (kept_calls a block size + 1) old new)
  pub most : CalledAtMost (kept_calls a block (greatest_record a.g.block) + 1) old new

-- A read of the present: as often as places are read for the block, and once for the reply. That is
-- exact unless the read is refused, or something fails.
pub record CallsToRead (a : Mounted) (block : ℕ) (result : Result Next SessionFault)
    (old new : View) : Type 0 where
  pub exact : decided_reply a (Read block) ≡ None
      → OnOk result (CalledTimes (present_of a block + 1) old new)
  pub most : CalledAtMost (present_of a block + 1) old new

-- How often a line calls the bank: as what it asks for needs, and once for the reply. A `Q` makes
-- no call.
abbrev pub CallsInLine : Mounted → Mounted → Request → Result Next SessionFault → View → View
    → Type 0
CallsInLine a b (Write time block bytes) result old new = CallsToWrite a b block result old new
CallsInLine a b (Read block) result old new = CallsToRead a block result old new
CallsInLine a b (At seq block) result old new = CallsAtMost (reads_back a block seq + 1) old new
CallsInLine a b (By time block) result old new =
    (seq : ℕ) → IsLastBy a.index time seq → CallsAtMost (reads_back a block seq + 1) old new
CallsInLine a b Q result old new = CalledTimes 0 old new
CallsInLine a b other result old new = CalledTimes 1 old new
