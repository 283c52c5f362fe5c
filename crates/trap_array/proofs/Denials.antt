-- Why a call answers no value, case by case.
use Rattle.std.proofs.Common.{◌≡◌, ◌≢◌, ◌↔◌, ℕ, ◌<◌, ◌≤◌, Bool, true, false, if◌then◌else◌, ◌==◌, ◌^◌, nat_lt, Option, Some, None, Result, Err, IfErr, IsErrOf, IsTrue, ⊎_elim, refl, subst, arith}
use Rattle.trap_bank.specs.Disks.{View}
use Rattle.trap_bank.specs.Steps.{Always}
use Rattle.trap_format.specs.declared.head.Head.{Head}
use Rattle.trap_index.specs.Indexed.{Indexed, last_seq}
use Rattle.trap_model.specs.Image.{volume}
use Rattle.trap_model.specs.Limits.{greatest_record}
use Rattle.trap_model.specs.declared.history.State.{State}
use Rattle.trap_model.specs.declared.request.Refusal.{Refusal}
use Rattle.trap_model.specs.declared.request.Refusal.TheVariants.{NoBlock, TimeBack, Worn, Full, NotKept, Ahead}
use Rattle.trap_raid.proofs.FitLemmas.{others_count}
use Rattle.trap_array.specs.Calls.{Mounted, StandsFor, MemberFails}
use Rattle.trap_array.specs.Causes.{Reasons, DeniedBy, of_write, of_reading}
use Rattle.trap_array.specs.Coded.{DeniesCode}
use Rattle.trap_array.specs.Instants.{DeniesInstant, FailsRead, FailsRecord, number_refused, time_refused}
use Rattle.trap_array.specs.Turning.{Denies, IsFull, early_refusal}
use Rattle.trap_array.specs.Untouched.{Untouched}
use Rattle.trap_array.specs.declared.fault.Denied.{Denied}
use Rattle.trap_array.specs.declared.fault.Denied.TheVariants.{Refused, LogFault, MemberFault, Damaged, Stopped}

-- ---- no call of the bank
pub untouched_none : (v : View) → Untouched v v
untouched_none v = record {
  tells = refl;
  sizes = λ e. refl;
  now = refl;
  unsynced = λ e i. ((λ is. is), (λ is. is));
  faults = λ e. refl;
  port_faults = refl;
  moment = refl;
  by_one = refl;
  left = λ t c. ((λ is. is), (λ is. is));
}

module _ {T : Type 0} (a : Mounted) (block : ℕ) (reasons : Reasons) (v : View) where
  -- a block that isn't there
  pub denied_beyond : volume a.g ≤ block → DeniedBy {T = T} a block reasons (Err (Refused NoBlock)) v v
  denied_beyond beyond = record {
    no_block = ((λ is. beyond), (λ above. refl));
    stopped = ((λ is. absurd (cc is)), (λ both. absurd (omega (arith, both.0, beyond))));
    untouched = λ either. untouched_none v;
    at_once = λ why is. untouched_none v;
    refused = λ why other free. ((λ is. absurd (other (cc is))), (λ all. absurd (omega (arith, all.0, beyond))));
    full = λ is. absurd (cc is);
    log = λ is. absurd (cc is);
    member = λ first second is. absurd (cc is);
    used = λ first second is. absurd (cc is);
  }

  -- an array that is stopped
  pub denied_stopped : block < volume a.g → a.is_stopped ≡ true → DeniedBy {T = T} a block reasons (Err Stopped) v v
  denied_stopped inside stopped = record {
    no_block = ((λ is. absurd (cc is)), (λ above. absurd (omega (arith, inside, above))));
    stopped = ((λ is. (inside, stopped)), (λ both. refl));
    untouched = λ either. untouched_none v;
    at_once = λ why is. untouched_none v;
    refused = λ why other free. ((λ is. absurd (cc is)), (λ all. absurd (running all.1)));
    full = λ is. absurd (cc is);
    log = λ is. absurd (cc is);
    member = λ first second is. absurd (cc is);
    used = λ first second is. absurd (cc is);
  }
    where
      running : a.is_stopped ≡ false → ⊥
      running is = cc (is, stopped)

-- what a result's error meets, an error that it is meets
error_meets : {T : Type 0} (P : Denied → Type 0) (result : Result T Denied) (e : Denied) → IfErr result P → result ≡ Err e → P e
error_meets {T = T} P result e holds is = subst (λ (r : Result T Denied). IfErr r P) is holds

-- ---- a write that went on
module _ (a : Mounted) (time block : ℕ) (result : Result ℕ Denied) (v w : View) (inside : block < volume a.g) (running : a.is_stopped ≡ false)
    (cause : IfErr result (Denies a v w)) where
  pub denied_write : ((why : Refusal) → why ≢ Full → (result ≡ Err (Refused why)) ↔ (early_refusal a.head time ≡ Some why))
      → (result ≡ Err (Refused Full) → IsFull a.g a.head (greatest_record a.g.block)) → ((why : Refusal) → early_refusal a.head time ≡ Some why → Untouched v w)
      → DeniedBy a block (of_write a time) result v w
  denied_write refused full at_once = record {
    no_block = ((λ is. absurd (error_meets (Denies a v w) result (Refused NoBlock) cause is refl)), (λ above. absurd (omega (arith, inside, above))));
    stopped = ((λ is. absurd (error_meets (Denies a v w) result Stopped cause is)), (λ both. absurd (not_both both.1)));
    untouched = λ either. absurd (⊎_elim (λ above. omega (arith, inside, above)) (λ stopped. not_both stopped) either);
    at_once = at_once;
    refused = λ why other free. ((λ is. (inside, running, (refused why free).0 is)), (λ all. (refused why free).1 all.2));
    full = full;
    log = λ is. error_meets (Denies a v w) result LogFault cause is;
    member = λ first second is. error_meets (Denies a v w) result (MemberFault first second) cause is;
    used = λ first second is. (error_meets (Denies a v w) result (MemberFault first second) cause is).counts;
  }
    where
      not_both : a.is_stopped ≡ true → ⊥
      not_both stopped = cc (stopped, running)

-- ---- a read that went on
member_of : (a : Mounted) (v w : View) (first second : ℕ) → FailsRead a first second v w → MemberFails a first second v w
member_of a v w first second fails = record {
  same = fails.same;
  inside = fails.member.inside;
  counts = others_count a.head.lost a.head.rebuilt 0 second fails.member.apart;
  rose = fails.member.rose;
}

module _ {T : Type 0} (a : Mounted) (block : ℕ) (own : Option Refusal) (result : Result T Denied) (v w : View) (inside : block < volume a.g) (running : a.is_stopped ≡ false)
    (damages : ℕ → Type 0) (cause : IfErr result (DeniesInstant a damages v w)) where
  pub denied_reading : ((why : Refusal) → (result ≡ Err (Refused why)) ↔ (own ≡ Some why)) → (own ≡ Some Full → ⊥) → ((why : Refusal) → own ≡ Some why → Untouched v w)
      → DeniedBy a block (of_reading a own) result v w
  denied_reading refused not_full at_once = record {
    no_block = ((λ is. absurd (error_meets (DeniesInstant a damages v w) result (Refused NoBlock) cause is refl)), (λ above. absurd (omega (arith, inside, above))));
    stopped = ((λ is. absurd (error_meets (DeniesInstant a damages v w) result Stopped cause is)), (λ both. absurd (not_both both.1)));
    untouched = λ either. absurd (⊎_elim (λ above. omega (arith, inside, above)) (λ stopped. not_both stopped) either);
    at_once = at_once;
    refused = λ why other free. ((λ is. (inside, running, (refused why).0 is)), (λ all. (refused why).1 all.2));
    full = λ is. not_full ((refused Full).0 is);
    log = λ is. error_meets (DeniesInstant a damages v w) result LogFault cause is;
    member = λ first second is. member_of a v w first second (error_meets (DeniesInstant a damages v w) result (MemberFault first second) cause is);
    used = λ first second is. (error_meets (DeniesInstant a damages v w) result (MemberFault first second) cause is).member.apart;
  }
    where
      not_both : a.is_stopped ≡ true → ⊥
      not_both stopped = cc (stopped, running)

-- ---- a code that isn't answered
module _ {T : Type 0} (a : Mounted) (q : ℕ) where
  pub no_code_stopped : (v : View) → a.is_stopped ≡ true → DeniesCode {T = T} a q (Err Stopped) v v
  no_code_stopped v stopped = record {
    stopped = ((λ is. stopped), (λ same. refl));
    untouched = λ same. untouched_none v;
    cause = λ running. absurd (cc (stopped, running));
    damaged = λ offset is. absurd (cc is);
  }

  pub no_code : (result : Result T Denied) (v w : View) → a.is_stopped ≡ false → IfErr result (FailsRecord a q v w)
      → ((offset : ℕ) → IsErrOf result (Damaged offset) → IsTrue v.tells → (s : State) → Always v (StandsFor a s) → ⊥) → DeniesCode a q result v w
  no_code result v w running cause damaged = record {
    stopped = ((λ is. absurd (error_meets (FailsRecord a q v w) result Stopped cause is)), (λ stopped. absurd (cc (stopped, running))));
    untouched = λ stopped. absurd (cc (stopped, running));
    cause = λ same. cause;
    damaged = damaged;
  }

-- ---- what the array's own numbers refuse
not_full_if : (b : Bool) (it : Refusal) (other : Option Refusal) → it ≢ Full → (other ≡ Some Full → ⊥) → (if b then Some it else other) ≡ Some Full → ⊥
not_full_if true it other differs none is = differs (cc is)
not_full_if false it other differs none is = none is

not_full_none : {A : Type 0} (x : A) → None ≡ Some x → ⊥
not_full_none x is = cc is

pub number_not_full : (i : Indexed) (seq : ℕ) → number_refused i seq ≡ Some Full → ⊥
number_not_full i seq = not_full_if (nat_lt seq i.first) (NotKept i.first) _ (λ e. cc e)
    (not_full_if (nat_lt (last_seq i) seq) (Ahead (last_seq i)) None (λ e. cc e) (not_full_none Full))

pub time_not_full : (i : Indexed) (time : ℕ) → time_refused i time ≡ Some Full → ⊥
time_not_full i time = not_full_if (nat_lt time i.base_time) (NotKept i.base_time) None (λ e. cc e) (not_full_none Full)

pub early_not_full : (h : Head) (time : ℕ) → early_refusal h time ≡ Some Full → ⊥
early_not_full h time = not_full_if (nat_lt time h.last_time) (TimeBack h.last_time) _ (λ e. cc e)
    (not_full_if (h.last == 2 ^ 40) Worn None (λ e. cc e) (not_full_none Full))
