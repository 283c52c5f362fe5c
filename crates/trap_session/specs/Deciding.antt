-- Which replies there may be, whatever the disks hold: what the array's own numbers decide of them.
use Rattle.std.specs.Prelude.{◌≡◌, ◌⊎◌, ℕ, ◌+◌, nat_le, List, length, Option, Some, None}
use Rattle.std.specs.Prelude.{if◌then◌else◌}
use Rattle.trap_model.specs.Image.{volume}
use Rattle.trap_model.specs.Limits.{greatest_record}
use Rattle.trap_model.specs.declared.request.Refusal.{Refusal}
use Rattle.trap_model.specs.declared.request.Refusal.TheVariants.{NoLine, NoBlock, Full}
use Rattle.trap_model.specs.declared.request.Reply.{Reply}
use Rattle.trap_model.specs.declared.request.Reply.TheVariants.{Kept, Is, At as Was, Span, No}
use Rattle.trap_model.specs.declared.request.Request.{Request}
use Rattle.trap_model.specs.declared.request.Request.TheVariants.{Write, Read, At, By, Info, Bad}
use Rattle.trap_script.specs.Replies.{reply_text}
use Rattle.trap_array.specs.Calls.{Mounted}
use Rattle.trap_array.specs.Instants.{number_refused, time_refused}
use Rattle.trap_array.specs.Turning.{IsFull, early_refusal}
use Rattle.trap_session.specs.After.{AfterReply}

-- the reply of a refusal, where there is one
abbrev pub refusal_reply : Option Refusal → Option Reply
refusal_reply None = None
refusal_reply (Some why) = Some (No why)

-- A request of a block that isn't there is refused first. A stopped array replies to no other
-- request of a block, and else the request may be refused for this reason.
abbrev pub decided_of_block : Mounted → ℕ → Option Refusal → Option Reply
decided_of_block a block why =
    if nat_le (volume a.g) block then Some (No NoBlock)
    else if a.is_stopped then None
    else refusal_reply why

-- the reply to a request, where the array's own numbers decide it
abbrev pub decided_reply : Mounted → Request → Option Reply
decided_reply a (Write time block bytes) = decided_of_block a block (early_refusal a.head time)
decided_reply a (Read block) = decided_of_block a block None
decided_reply a (At seq block) = decided_of_block a block (number_refused a.index seq)
decided_reply a (By time block) = decided_of_block a block (time_refused a.index time)
decided_reply a Info = Some (Span a.head.first a.head.last a.head.base_time a.head.last_time)
decided_reply a Bad = Some (No NoLine)
decided_reply a other = None

-- A write may be kept, by the next number, or find no room. A read may give the bytes of a block.
abbrev pub MayReply : Mounted → Request → Reply → Type 0
MayReply a (Write time block bytes) reply = (reply ≡ Kept (a.head.last + 1))
    ⊎ ((reply ≡ No Full) × IsFull a.g a.head (greatest_record a.g.block))
MayReply a (Read block) reply = (bytes : List ℕ) × (length bytes ≡ a.g.block) × (reply ≡ Is bytes)
MayReply a (At seq block) reply =
    (bytes : List ℕ) × (length bytes ≡ a.g.block) × (reply ≡ Was bytes)
MayReply a (By time block) reply =
    (bytes : List ℕ) × (length bytes ≡ a.g.block) × (reply ≡ Was bytes)
MayReply a other reply = ⊥

-- this reply to the request, which is decided or may be given, was said so, and what the array
-- knows now is what follows from it
pub record RepliesTo (a b : Mounted) (asked : Request) (Said : List ℕ → Type 0) : Type 0 where
  pub reply : Reply
  pub possible : (decided_reply a asked ≡ Some reply) ⊎ MayReply a asked reply
  pub after : AfterReply a b asked reply
  pub said : Said (reply_text reply)
