-- The index after a write.
use Rattle.std.proofs.Common.{◌≡◌, ℕ, ◌+◌, ◌<◌, ◌≤◌, Result, Ok, Err, IfErr, IfSome, inl, inr, ⊎_elim, ap, sym, subst, ◌∙◌, arith, refl}
use Rattle.trap_bank.specs.Disks.{View}
use Rattle.trap_format.specs.HeadValue.{IsHead}
use Rattle.trap_format.specs.declared.head.Head.{Head}
use Rattle.trap_index.specs.Indexed.{Indexed, with_record}
use Rattle.trap_model.specs.ArrayStep.{added}
use Rattle.trap_model.specs.declared.log_record.LogRec.{LogRec}
use Rattle.trap_model.specs.declared.numbers.Geometry.{Geometry}
use Rattle.trap_model.specs.declared.request.Refusal.{Refusal}
use Rattle.trap_model.specs.declared.request.Reply.{Reply}
use Rattle.trap_array.specs.Calls.{Mounted}
use Rattle.trap_array.specs.Growing.{HasOneMore, HeadAfterFault, HeadAfter, HasRecordOf, IndexAfterFault, IndexAfter}
use Rattle.trap_array.specs.NextHead.{committed, drained_to, next_rec}
use Rattle.trap_array.specs.Owed.{reply_of_write}
use Rattle.trap_array.specs.Room.{ring_limit}
use Rattle.trap_array.specs.Turning.{IsFaultOf, Denies}
pub use Rattle.trap_log.proofs.IndexSteps.{rec_for, drained_step, indexes_drained}
use Rattle.trap_array.specs.declared.fault.Denied.{Denied}
use Rattle.trap_array.specs.declared.fault.Denied.TheVariants.{Refused, LogFault, MemberFault, Damaged, Stopped}

-- the record that a commit adds is as long as the head's window grows
pub has_record : (a b : Mounted) (seq time block size : ℕ) (rec : LogRec) → seq ≡ a.head.last + 1 → 30 ≤ size → rec ≡ next_rec a.head time block size
    → b.index ≡ with_record a.index rec → b.head.end_off ≡ a.head.end_off + size → HasRecordOf a b seq time block
has_record a b seq time block size rec number least is added grew = record {
  number = number;
  size = size;
  least = least;
  added = added ∙ ap (λ (r : LogRec). with_record a.index r) is;
  long = grew;
}

-- the head that was put stays
pub head_still : (h t : Head) → t ≡ h → t ≡ drained_to h t.drained
head_still h t is = subst (λ (k : Head). k ≡ drained_to h k.drained) (sym is) refl

-- there was room for one more, and it was added
pub one_more_after : (g : Geometry) (h t : Head) (time seq size : ℕ) → seq ≡ h.last + 1 → IsHead g (committed h time size) → 30 ≤ size → size ≤ g.block + 33
    → t ≡ drained_to (committed h time size) t.drained → HasOneMore g h t time seq
one_more_after g h t time seq size number is least most put =
    let retained = is.numbers.retained in
    let window = is.offsets.window in
    record {
      number = number;
      size = size;
      least = least;
      most = omega arith;
      few = omega arith;
      room = omega arith;
      head = put;
    }

-- after a fault before it
pub index_still : (a b : Mounted) (v w : View) (time block : ℕ) (e : Denied) → IsFaultOf a v w e → b.head ≡ a.head → b.index ≡ a.index → IndexAfter a b time block (Err e)
index_still a b v w time block (Refused why) fault still same = absurd fault
index_still a b v w time block LogFault fault still same = inl (head_still a.head b.head still, same)
index_still a b v w time block (MemberFault first second) fault still same = inl (head_still a.head b.head still, same)
index_still a b v w time block (Damaged offset) fault still same = absurd fault
index_still a b v w time block Stopped fault still same = absurd fault

-- a fault refuses nothing
pub fault_refuses : (m : Mounted) (v w : View) (e : Denied) (why : Refusal) → ◌≡◌ {A = Result ℕ Denied} (Err e) (Err (Refused why)) → IsFaultOf m v w e → ⊥
fault_refuses m v w (Refused other) why is fault = fault
fault_refuses m v w LogFault why is fault = absurd (cc is)
fault_refuses m v w (MemberFault first second) why is fault = absurd (cc is)
fault_refuses m v w (Damaged offset) why is fault = fault
fault_refuses m v w Stopped why is fault = fault

-- and it is no reply
pub fault_owes : (m : Mounted) (v w : View) (P : Reply → Type 0) (e : Denied) → IsFaultOf m v w e → IfSome (reply_of_write (Err e)) P
fault_owes m v w P (Refused why) fault = absurd fault
fault_owes m v w P LogFault fault = tt
fault_owes m v w P (MemberFault first second) fault = tt
fault_owes m v w P (Damaged offset) fault = tt
fault_owes m v w P Stopped fault = tt

-- the head after a fault
pub head_fault : (m : Mounted) (v w : View) (g : Geometry) (h t : Head) (time : ℕ) (e : Denied) → IsFaultOf m v w e → HeadAfterFault g h t time → HeadAfter g h t time (Err e)
head_fault m v w g h t time (Refused why) fault either = absurd fault
head_fault m v w g h t time LogFault fault either = either
head_fault m v w g h t time (MemberFault first second) fault either = either
head_fault m v w g h t time (Damaged offset) fault either = absurd fault
head_fault m v w g h t time Stopped fault either = absurd fault

-- and after a fault that follows it
pub index_grown : (a m b : Mounted) (v w : View) (time block : ℕ) (e : Denied) → IsFaultOf m v w e → HasOneMore a.g a.head b.head time (a.head.last + 1)
    → HasRecordOf a b (a.head.last + 1) time block → IndexAfter a b time block (Err e)
index_grown a m b v w time block (Refused why) fault one more = absurd fault
index_grown a m b v w time block LogFault fault one more = inr (one, more)
index_grown a m b v w time block (MemberFault first second) fault one more = inr (one, more)
index_grown a m b v w time block (Damaged offset) fault one more = absurd fault
index_grown a m b v w time block Stopped fault one more = absurd fault

-- what a call before it leaves of the head: all but how much is drained
module _ (g : Geometry) (h m t : Head) (time : ℕ) (still : m ≡ drained_to h m.drained) where
  one_more_since : (seq q : ℕ) → q ≡ h.last + 1 → HasOneMore g m t time seq → HasOneMore g h t time q
  one_more_since seq q number more =
      let few = subst (λ (k : Head). k.last < k.first + g.entries) still more.few in
      let room = subst (λ (k : Head). k.end_off + more.size ≤ k.first_off + ring_limit g) still more.room in
      record {
        number = number;
        size = more.size;
        least = more.least;
        most = more.most;
        few = few;
        room = room;
        head = more.head ∙ ap (λ (k : Head). drained_to (committed k time more.size) t.drained) still;
      }

  kept_since : t ≡ drained_to m t.drained → t ≡ drained_to h t.drained
  kept_since kept = kept ∙ ap (λ (k : Head). drained_to k t.drained) still

  head_fault_since : HeadAfterFault g m t time → HeadAfterFault g h t time
  head_fault_since either = ⊎_elim (λ kept. inl (kept_since kept)) (λ more. inr (one_more_since (m.last + 1) (h.last + 1) refl more)) either

  pub head_since : (a : Mounted) (v w : View) (result : Result ℕ Denied) → IfErr result (Denies a v w) → HeadAfter g m t time result → HeadAfter g h t time result
  head_since a v w (Ok seq) cause after = one_more_since seq seq (after.number ∙ ap (λ (k : Head). k.last + 1) still) after
  head_since a v w (Err (Refused why)) cause after = kept_since after
  head_since a v w (Err LogFault) cause after = head_fault_since after
  head_since a v w (Err (MemberFault first second)) cause after = head_fault_since after
  head_since a v w (Err (Damaged offset)) cause after = absurd cause
  head_since a v w (Err Stopped) cause after = absurd cause

-- a call before it that leaves the index, and of the head all but how much is drained
module _ (a m b : Mounted) (time block : ℕ) (geometry : m.g ≡ a.g) (same : m.index ≡ a.index) (still : m.head ≡ drained_to a.head m.head.drained) where
  record_since : (seq q : ℕ) → q ≡ a.head.last + 1 → HasRecordOf m b seq time block → HasRecordOf a b q time block
  record_since seq q number more = record {
    number = number;
    size = more.size;
    least = more.least;
    added = more.added ∙ ap (λ (i : Indexed). with_record i (next_rec m.head time block more.size)) same
        ∙ ap (λ (h : Head). with_record a.index (next_rec h time block more.size)) still;
    long = more.long ∙ ap (λ (h : Head). h.end_off + more.size) still;
  }

  fault_since : IndexAfterFault m b time block → IndexAfterFault a b time block
  fault_since either = ⊎_elim (λ kept. inl (kept_since a.g a.head m.head b.head time still kept.0, kept.1 ∙ same))
      (λ more. inr (
        one_more_since a.g a.head m.head b.head time still (m.head.last + 1) (a.head.last + 1) refl
            (subst (λ (k : Geometry). HasOneMore k m.head b.head time (m.head.last + 1)) geometry more.0),
        record_since (m.head.last + 1) (a.head.last + 1) refl more.1,
      )) either

  pub index_since : (result : Result ℕ Denied) → IndexAfter m b time block result → IndexAfter a b time block result
  index_since (Ok seq) after = record_since seq seq (after.number ∙ ap (λ (h : Head). h.last + 1) still) after
  index_since (Err (Refused why)) after = after ∙ same
  index_since (Err LogFault) after = fault_since after
  index_since (Err (MemberFault first second)) after = fault_since after
  index_since (Err (Damaged offset)) after = after ∙ same
  index_since (Err Stopped) after = after ∙ same

-- whatever it answers, the index is of the same array
pub index_same : (a b : Mounted) (time block : ℕ) (result : Result ℕ Denied) → IndexAfter a b time block result → b.index.g ≡ a.index.g
index_same a b time block (Ok seq) after = ap (λ (i : Indexed). i.g) after.added
index_same a b time block (Err (Refused why)) after = ap (λ (i : Indexed). i.g) after
index_same a b time block (Err LogFault) after = ⊎_elim (λ kept. ap (λ (i : Indexed). i.g) kept.1) (λ more. ap (λ (i : Indexed). i.g) more.1.added) after
index_same a b time block (Err (MemberFault first second)) after = ⊎_elim (λ kept. ap (λ (i : Indexed). i.g) kept.1) (λ more. ap (λ (i : Indexed). i.g) more.1.added) after
index_same a b time block (Err (Damaged offset)) after = ap (λ (i : Indexed). i.g) after
index_same a b time block (Err Stopped) after = ap (λ (i : Indexed). i.g) after
