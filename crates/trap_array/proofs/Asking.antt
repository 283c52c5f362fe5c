-- An instant that is asked for: what the model replies to it.
use Rattle.std.proofs.Common.{◌≡◌, ℕ, ◌<◌, List, Option, Some, None, Result, Ok, Err, OnOk, IfErr, if◌then◌else◌, nat_lt, sym, ap, subst, ◌∙◌}
use Rattle.trap_bank.specs.Disks.{Disks, View}
use Rattle.trap_index.specs.Describes.{Describes}
use Rattle.trap_index.specs.Indexed.{Indexed}
use Rattle.trap_index.proofs.Describing.{last_told, image_told}
use Rattle.trap_model.specs.ArrayStep.{step, accepted, or_refused, number_refusal, time_refusal}
use Rattle.trap_model.specs.Image.{volume, block_of}
use Rattle.trap_model.specs.State.{image_at, last}
use Rattle.trap_model.specs.declared.history.State.{State}
use Rattle.trap_model.specs.declared.numbers.Geometry.{Geometry}
use Rattle.trap_model.specs.declared.request.Refusal.{Refusal}
use Rattle.trap_model.specs.declared.request.Refusal.TheVariants.{NotKept, Ahead, Full}
use Rattle.trap_model.specs.declared.request.Reply.{Reply}
use Rattle.trap_model.specs.declared.request.Reply.TheVariants.{At as Then, No}
use Rattle.trap_model.specs.declared.request.Request.TheVariants.{At, By}
use Rattle.trap_model.proofs.Refusals.{is_block}
use Rattle.trap_array.specs.Asked.{HasBadRecordAfter, IsAfter, instant_refused, request_at}
use Rattle.trap_array.specs.Calls.{Mounted, AtReplies}
use Rattle.trap_array.specs.Instants.{FailsLooking, HasBadRecord, HasBadRecordBy, number_refused, time_refused}
use Rattle.trap_array.proofs.Denials.{number_not_full, time_not_full}
use Rattle.trap_array.proofs.LookingBack.{one_last_by}
use Rattle.trap_array.specs.declared.fault.Denied.{Denied}
use Rattle.trap_array.specs.declared.fault.Denied.TheVariants.{Refused, LogFault, MemberFault, Damaged, Stopped}
use Rattle.trap_array.specs.declared.instant.Instant.{Instant}
use Rattle.trap_array.specs.declared.instant.Instant.TheVariants.{Number, Time}

-- ---- the model refuses an instant for the same reason
module _ (i : Indexed) (s : State) (describes : Describes i s) where
  number_alike : (seq : ℕ) → number_refusal s seq ≡ number_refused i seq
  number_alike seq =
      ap (λ (n : ℕ). if nat_lt seq n then Some (NotKept n) else if nat_lt (last s) seq then Some (Ahead (last s)) else None) (sym describes.first)
      ∙ ap (λ (n : ℕ). if nat_lt seq i.first then Some (NotKept i.first) else if nat_lt n seq then Some (Ahead n) else None) (sym (last_told i s describes))

  time_alike : (time : ℕ) → time_refusal s time ≡ time_refused i time
  time_alike time = ap (λ (n : ℕ). if nat_lt time n then Some (NotKept n) else None) (sym describes.base_time)

  module _ (g : Geometry) (block : ℕ) (inside : block < volume g) where
    -- and replies that
    pub instant_denied : (instant : Instant) (why : Refusal) → instant_refused i instant ≡ Some why → (step g).reply s (request_at instant block) ≡ No why
    instant_denied (Number seq) why is =
        ap (λ (o : Option Refusal). or_refused o (accepted s (At seq block)) No) (is_block g block (number_refusal s seq) inside ∙ number_alike seq ∙ is)
    instant_denied (Time time) why is =
        ap (λ (o : Option Refusal). or_refused o (accepted s (By time block)) No) (is_block g block (time_refusal s time) inside ∙ time_alike time ∙ is)

    -- or the block as it was then
    pub instant_told : (instant : Instant) (q : ℕ) → instant_refused i instant ≡ None → IsAfter i instant q
        → (step g).reply s (request_at instant block) ≡ Then (block_of (image_at s q) block)
    instant_told (Number seq) q none after =
        ap (λ (o : Option Refusal). or_refused o (accepted s (At seq block)) No) (is_block g block (number_refusal s seq) inside ∙ number_alike seq ∙ none)
        ∙ ap (λ (n : ℕ). Then (block_of (image_at s n) block)) (sym after)
    instant_told (Time time) q none after =
        ap (λ (o : Option Refusal). or_refused o (accepted s (By time block)) No) (is_block g block (time_refusal s time) inside ∙ time_alike time ∙ none)
        ∙ ap (λ (image : List (List ℕ)). Then (block_of image block)) (image_told i s time q describes after)

-- ---- it comes after one entry
pub one_after : (i : Indexed) (instant : Instant) (p q : ℕ) → IsAfter i instant p → IsAfter i instant q → p ≡ q
one_after i (Number seq) p q one other = one ∙ sym other
one_after i (Time time) p q one other = one_last_by i time p q one other

-- what is refused isn't for want of room
pub instant_not_full : (i : Indexed) (instant : Instant) → instant_refused i instant ≡ Some Full → ⊥
instant_not_full i (Number seq) = number_not_full i seq
instant_not_full i (Time time) = time_not_full i time

-- a record that isn't right after a number, or after those up to a time
pub bad_number : (g : Geometry) (i : Indexed) (block seq : ℕ) (disks : Disks) (offset : ℕ) → HasBadRecordAfter g i block (Number seq) disks offset → HasBadRecord g i block seq disks offset
bad_number g i block seq disks offset bad = subst (λ (q : ℕ). HasBadRecord g i block q disks offset) bad.after bad.later

pub bad_time : (g : Geometry) (i : Indexed) (block time : ℕ) (disks : Disks) (offset : ℕ) → HasBadRecordAfter g i block (Time time) disks offset → HasBadRecordBy g i block time disks offset
bad_time g i block time disks offset bad = record { q = bad.q; last = bad.after; later = bad.later }

-- a look back that went well gives the reply
pub told_replies : (a : Mounted) (block q : ℕ) (v w : View) (result : Result (Unit {0}) Denied) (into was : List ℕ) (reply : Reply) → reply ≡ Then was → OnOk result (into ≡ was)
    → IfErr result (FailsLooking a block q v w) → AtReplies result into reply
told_replies a block q v w (Ok value) into was reply is same fails = is ∙ ap (λ (b : List ℕ). Then b) (sym same)
told_replies a block q v w (Err (Refused why)) into was reply is same fails = absurd fails
told_replies a block q v w (Err LogFault) into was reply is same fails = tt
told_replies a block q v w (Err (MemberFault first second)) into was reply is same fails = tt
told_replies a block q v w (Err (Damaged offset)) into was reply is same fails = tt
told_replies a block q v w (Err Stopped) into was reply is same fails = absurd fails
