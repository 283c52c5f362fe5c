-- How often a line calls the bank, from the array's call and the one that says the reply.
use Rattle.std.proofs.Common.{◌≡◌, ℕ, ◌+◌, IsTrue, Result, Ok, Err, OnOk, sym, ap, subst, ◌∙◌, arith}
use Rattle.std.specs.Prelude.{Some}
use Rattle.trap_bank.specs.Called.{CalledTimes, CalledAtMost, TakesCalls}
use Rattle.trap_bank.specs.Calls.{IsOneCall}
use Rattle.trap_bank.specs.Disks.{View}
use Rattle.trap_bank.proofs.Called.{called_once, called_then, called_at_most, at_most_then, at_most_more}
use Rattle.trap_format.specs.declared.head.Head.{Head}
use Rattle.trap_model.specs.Limits.{greatest_record}
use Rattle.trap_model.specs.declared.request.Reply.{Reply}
use Rattle.trap_model.specs.declared.request.Refusal.{Refusal}
use Rattle.trap_model.specs.declared.request.Request.TheVariants.{Read}
use Rattle.trap_array.specs.Calling.{kept_calls, CallsInWrite}
use Rattle.trap_array.specs.Calls.{Mounted}
use Rattle.trap_array.specs.Growing.{HeadAfter}
use Rattle.trap_array.specs.NextHead.{drained_to}
use Rattle.trap_array.specs.declared.fault.Denied.{Denied}
use Rattle.trap_array.specs.declared.fault.Denied.TheVariants.{Refused}
use Rattle.trap_array.specs.Sources.{CallsAtMost, present_of}
use Rattle.trap_session.specs.Calling.{CallsToWrite, CallsToRead}
use Rattle.trap_session.specs.Deciding.{decided_reply}
use Rattle.trap_session.specs.declared.outcome.Next.{Next}
use Rattle.trap_session.specs.declared.outcome.SessionFault.{SessionFault}

-- at most so many, and the reply
pub said_after : {T E : Type 0} (n : ℕ) (result : Result T E) (v u w : View) → u.tells ≡ v.tells → CallsAtMost n v u → IsOneCall result u w → CallsAtMost (n + 1) v w
said_after n result v u w tells calls goes = record {
  by_one = goes.same_by_one ∙ calls.by_one;
  moment = λ told one.
      let before = calls.moment told one in
      let now = goes.by_one (subst IsTrue (sym tells) told) (subst IsTrue (sym calls.by_one) one) in
      omega (arith, before, now);
}

-- or no reply
pub none_after : (n : ℕ) (v u : View) → CallsAtMost n v u → CallsAtMost (n + 1) v u
none_after n v u calls = record { by_one = calls.by_one; moment = λ told one. let most = calls.moment told one in omega (arith, most) }

all_times : {T E : Type 0} (n : ℕ) (result : Result T E) (v w : View) → CalledTimes n v w → OnOk result (CalledTimes n v w)
all_times n (Ok value) v w called = called
all_times n (Err e) v w called = tt

-- a read that went well, and its reply
pub read_called : {T E : Type 0} (a : Mounted) (block : ℕ) (value : T) (result : Result Next SessionFault) (v u w : View)
    → TakesCalls {T = T} {E = E} (present_of a block) (Ok value) v u → IsOneCall result u w → CallsToRead a block result v w
read_called a block value result v u w takes goes =
    let times = called_then (present_of a block) 1 v u w takes.ok (called_once result u w goes) in
    record { exact = λ undecided. all_times (present_of a block + 1) result v w times; most = called_at_most (present_of a block + 1) (present_of a block + 1) v w (omega arith) times }

-- one that is refused
pub read_denied : {T E : Type 0} (a : Mounted) (block : ℕ) (call : Result T E) (reply : Reply) (result : Result Next SessionFault) (v u w : View)
    → TakesCalls (present_of a block) call v u → decided_reply a (Read block) ≡ Some reply → IsOneCall result u w → CallsToRead a block result v w
read_denied a block call reply result v u w takes decided goes = record {
  exact = λ undecided. absurd (cc (undecided, decided));
  most = at_most_then (present_of a block) 1 (present_of a block + 1) v u w (omega arith) takes.most (called_at_most 1 1 u w (omega arith) (called_once result u w goes));
}

-- and one that failed
pub read_unsaid : {T E : Type 0} (a : Mounted) (block : ℕ) (call : Result T E) (fault : SessionFault) (v u : View)
    → TakesCalls (present_of a block) call v u → CallsToRead a block (Err fault) v u
read_unsaid a block call fault v u takes = record { exact = λ undecided. tt; most = at_most_more (present_of a block) (present_of a block + 1) v u (omega arith) takes.most }

-- the greatest record's calls, and the reply
write_most : {T E : Type 0} (a b : Mounted) (block : ℕ) (call : Result ℕ Denied) (result : Result T E) (v u w : View) → CallsInWrite a b block call v u → IsOneCall result u w
    → CalledAtMost (kept_calls a block (greatest_record a.g.block) + 1) v w
write_most a b block call result v u w calls goes = at_most_then (kept_calls a block (greatest_record a.g.block)) 1 (kept_calls a block (greatest_record a.g.block) + 1) v u w (omega arith) calls.most
    (called_at_most 1 1 u w (omega arith) (called_once result u w goes))

-- a write that is kept, and its reply
pub write_called : (a b : Mounted) (block seq : ℕ) (result : Result Next SessionFault) (v u w : View) → CallsInWrite a b block (Ok seq) v u → IsOneCall result u w
    → CallsToWrite a b block result v w
write_called a b block seq result v u w calls goes = record {
  kept = λ size some grew. all_times (kept_calls a block size + 1) result v w (called_then (kept_calls a block size) 1 v u w (calls.kept size grew) (called_once result u w goes));
  most = write_most a b block (Ok seq) result v u w calls goes;
}

-- one that is refused, by which the window doesn't grow
pub write_denied : (a b : Mounted) (time block : ℕ) (call : Result ℕ Denied) (why : Refusal) (result : Result Next SessionFault) (v u w : View) → call ≡ Err (Refused why)
    → HeadAfter a.g a.head b.head time call → CallsInWrite a b block call v u → IsOneCall result u w → CallsToWrite a b block result v w
write_denied a b time block call why result v u w is head calls goes =
    let left : b.head ≡ drained_to a.head b.head.drained = subst (λ (r : Result ℕ Denied). HeadAfter a.g a.head b.head time r) is head in
    let still : b.head.end_off ≡ a.head.end_off = ap (λ (h : Head). h.end_off) left in
    record { kept = λ size some grew. absurd (omega (arith, some, grew, still)); most = write_most a b block call result v u w calls goes }

-- and one that failed
pub write_unsaid : (a b : Mounted) (block : ℕ) (call : Result ℕ Denied) (fault : SessionFault) (v u : View) → CallsInWrite a b block call v u → CallsToWrite a b block (Err fault) v u
write_unsaid a b block call fault v u calls = record {
  kept = λ size some grew. tt;
  most = at_most_more (kept_calls a block (greatest_record a.g.block)) (kept_calls a block (greatest_record a.g.block) + 1) v u (omega arith) calls.most;
}
