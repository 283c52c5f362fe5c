-- What an array knows after a line, by its reply or its fault.
use Rattle.std.specs.Prelude.{◌≡◌, ◌⊎◌, ℕ, [], Err}
use Rattle.trap_model.specs.declared.request.Reply.{Reply}
use Rattle.trap_model.specs.declared.request.Reply.TheVariants.{Kept, No}
use Rattle.trap_model.specs.declared.request.Request.{Request}
use Rattle.trap_model.specs.declared.request.Request.TheVariants.{Write}
use Rattle.trap_array.specs.Calls.{Mounted}
use Rattle.trap_array.specs.Growing.{HasOneMore, HasRecordOf, HeadAfter, IndexAfter}
use Rattle.trap_array.specs.NextHead.{drained_to}
use Rattle.trap_array.specs.Owed.{owed, pending_writes}
use Rattle.trap_array.specs.declared.fault.Denied.{Denied}

-- all that it knows is as it was, but perhaps that it is stopped now
abbrev pub KnowsSame : Mounted → Mounted → Type 0
KnowsSame a b = b ≡ record a { is_stopped = b.is_stopped }

-- A write that is kept has the next number, and its record follows the others. One that is refused
-- leaves the index, and of the head all but how much is drained; it leaves the pending writes, or
-- none is pending now.
abbrev pub AfterWrite : Mounted → Mounted → ℕ → ℕ → Reply → Type 0
AfterWrite a b time block (Kept seq) =
    HasOneMore a.g a.head b.head time seq × HasRecordOf a b seq time block
AfterWrite a b time block (No why) =
    (b.head ≡ drained_to a.head b.head.drained) × (b.index ≡ a.index)
    × ((b.pending ≡ a.pending) ⊎ (b.pending ≡ []))
AfterWrite a b time block other = ⊥

-- what it knows after a reply: as many writes are pending after a write as are owed then
abbrev pub AfterReply : Mounted → Mounted → Request → Reply → Type 0
AfterReply a b (Write time block bytes) reply = AfterWrite a b time block reply
    × (pending_writes b.head ≡ owed a.g (Write time block bytes) reply (pending_writes a.head))
AfterReply a b other reply = KnowsSame a b

-- what it knows after a fault of its own
abbrev pub AfterFault : Mounted → Mounted → Request → Denied → Type 0
AfterFault a b (Write time block bytes) denied =
    HeadAfter a.g a.head b.head time (Err denied) × IndexAfter a b time block (Err denied)
AfterFault a b other denied = KnowsSame a b
