-- How many writes are pending after a request.
use Rattle.std.specs.Prelude.{ℕ, Option, Some, None, Result, Ok, Err}
pub use Rattle.trap_log.specs.Draining.{pending_writes, left_pending}
use Rattle.trap_model.specs.declared.numbers.Geometry.{Geometry}
use Rattle.trap_model.specs.declared.request.Refusal.TheVariants.{Full}
use Rattle.trap_model.specs.declared.request.Reply.{Reply}
use Rattle.trap_model.specs.declared.request.Reply.TheVariants.{Kept, No}
use Rattle.trap_model.specs.declared.request.Request.{Request}
use Rattle.trap_model.specs.declared.request.Request.TheVariants.{Write}
use Rattle.trap_array.specs.declared.fault.Denied.{Denied}
use Rattle.trap_array.specs.declared.fault.Denied.TheVariants.{Refused}

-- How many writes are pending after a request with this reply, where that many were before. A write
-- makes a slot free before it finds that there is no room for its record. One that is kept is
-- drained before it is answered.
abbrev pub owed : Geometry → Request → Reply → ℕ → ℕ
owed g (Write time block bytes) (Kept seq) before = 0
owed g (Write time block bytes) (No Full) before = left_pending g before
owed g request reply before = before

-- the reply that an answer to a write is: a fault is none, nor is it that the array is stopped
abbrev pub reply_of_write : Result ℕ Denied → Option Reply
reply_of_write (Ok seq) = Some (Kept seq)
reply_of_write (Err (Refused why)) = Some (No why)
reply_of_write (Err other) = None
