-- How lines add records to an array's index.
use Rattle.std.proofs.Common.{◌≡◌, ⊎_elim, ℕ, ◌+◌, List, [], ◌∷◌, ◌++◌, Result, Ok, Err, sym, ap, ◌∙◌, append_assoc, append-nil}
use Rattle.trap_bank.specs.Disks.{View}
use Rattle.trap_index.specs.Indexed.{Indexed}
use Rattle.trap_model.specs.declared.log_record.LogRec.{LogRec}
use Rattle.trap_model.specs.declared.request.Reply.{Reply}
use Rattle.trap_model.specs.declared.request.Reply.TheVariants.{Kept, No}
use Rattle.trap_model.specs.declared.request.Request.{Request}
use Rattle.trap_model.specs.declared.request.Request.TheVariants.{Write}
use Rattle.trap_array.specs.Calls.{Mounted}
use Rattle.trap_array.specs.Growing.{HasRecordOf, IndexAfter, IndexAfterFault}
use Rattle.trap_array.specs.NextHead.{next_rec}
use Rattle.trap_array.specs.declared.fault.Denied.{Denied}
use Rattle.trap_array.specs.declared.fault.Denied.TheVariants.{Refused, LogFault, MemberFault, Damaged, Stopped}
use Rattle.trap_session.specs.After.{KnowsSame, AfterReply, AfterFault}
use Rattle.trap_session.specs.Answers.{AnswersLine}
use Rattle.trap_session.specs.Leaving.{HasRecordsMore}
use Rattle.trap_session.specs.declared.outcome.Next.{Next}
use Rattle.trap_session.specs.declared.outcome.Next.TheVariants.{More, Quit}
use Rattle.trap_session.specs.declared.outcome.SessionFault.{SessionFault}
use Rattle.trap_session.specs.declared.outcome.SessionFault.TheVariants.{Array, ReadFault, WriteFault, TooLong}

-- no record
pub records_none : (i : Indexed) → HasRecordsMore i i
records_none i = record { more = []; added = ap (λ (recs : List LogRec). record i { recs = recs }) (sym (append-nil i.recs)) }

records_left : (i j : Indexed) → j ≡ i → HasRecordsMore i j
records_left i j is = record { more = []; added = is ∙ ap (λ (recs : List LogRec). record i { recs = recs }) (sym (append-nil i.recs)) }

-- the record of a write is one more
record_of : (a b : Mounted) (seq time block : ℕ) → HasRecordOf a b seq time block → HasRecordsMore a.index b.index
record_of a b seq time block one = record { more = next_rec a.head time block one.size ∷ []; added = one.added }

record_perhaps : (a b : Mounted) (time block : ℕ) → IndexAfterFault a b time block → HasRecordsMore a.index b.index
record_perhaps a b time block after = ⊎_elim (λ same. records_left a.index b.index same.1) (λ one. record_of a b (a.head.last + 1) time block one.1) after

-- an array that knows the same has the same index
records_same : (a b : Mounted) → KnowsSame a b → HasRecordsMore a.index b.index
records_same a b same = records_left a.index b.index (ap (λ (m : Mounted). m.index) same)

-- after a fault of a write
failed_records : (a b : Mounted) (time block : ℕ) (denied : Denied) → IndexAfter a b time block (Err denied) → HasRecordsMore a.index b.index
failed_records a b time block (Refused why) after = records_left a.index b.index after
failed_records a b time block LogFault after = record_perhaps a b time block after
failed_records a b time block (MemberFault first second) after = record_perhaps a b time block after
failed_records a b time block (Damaged offset) after = records_left a.index b.index after
failed_records a b time block Stopped after = records_left a.index b.index after

fault_records : (a b : Mounted) (asked : Request) (denied : Denied) → AfterFault a b asked denied → HasRecordsMore a.index b.index
fault_records a b (Write time block bytes) denied after = failed_records a b time block denied after.1
fault_records a b other denied after = records_same a b after

-- and after a reply
reply_records : (a b : Mounted) (asked : Request) (reply : Reply) → AfterReply a b asked reply → HasRecordsMore a.index b.index
reply_records a b (Write time block bytes) (Kept seq) after = record_of a b seq time block after.0.1
reply_records a b (Write time block bytes) (No why) after = records_left a.index b.index after.0.1
reply_records a b (Write time block bytes) other after = absurd after.0
reply_records a b other reply after = records_same a b after

-- What a line adds to the index follows from its reply, or from its fault.
pub line_records : (a b : Mounted) (v w : View) (asked : Request) (result : Result Next SessionFault) → AnswersLine a b result asked v w → HasRecordsMore a.index b.index
line_records a b v w asked (Ok More) line = reply_records a b asked line.replies.reply line.replies.after
line_records a b v w asked (Ok Quit) line = records_left a.index b.index (ap (λ (m : Mounted). m.index) line.replies)
line_records a b v w asked (Err (Array denied)) line = fault_records a b asked denied line.replies
line_records a b v w asked (Err ReadFault) line = absurd line.replies
line_records a b v w asked (Err WriteFault) line = reply_records a b asked line.replies.reply line.replies.after
line_records a b v w asked (Err TooLong) line = absurd line.replies

-- of lines after lines
pub records_then : (i j k : Indexed) → HasRecordsMore i j → HasRecordsMore j k → HasRecordsMore i k
records_then i j k first second = record {
  more = first.more ++ second.more;
  added = second.added ∙ ap (λ (x : Indexed). record x { recs = x.recs ++ second.more }) first.added
      ∙ ap (λ (recs : List LogRec). record i { recs = recs }) (append_assoc i.recs first.more second.more);
}
