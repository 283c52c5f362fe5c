-- What is denied at once: a block that isn't there, or any by a stopped array. Nothing is done.
use Rattle.std.proofs.Common.{◌≡◌, ℕ, ◌≤◌, List, Option, Bool, true, false, ◌||◌, Err, inl, ⊎_elim, refl, sym, ap, subst, ◌∙◌}
use Rattle.trap_bank.specs.Disks.{View}
use Rattle.trap_bank.proofs.Moves.{unmoved}
use Rattle.trap_bank.proofs.OnlyReads.{reads_none}
use Rattle.trap_model.specs.ArrayStep.{step, accepted, or_refused, number_refusal, time_refusal}
use Rattle.trap_model.specs.Image.{volume}
use Rattle.trap_model.specs.declared.history.State.{State}
use Rattle.trap_model.specs.declared.numbers.Geometry.{Geometry}
use Rattle.trap_model.specs.declared.request.Refusal.{Refusal}
use Rattle.trap_model.specs.declared.request.Refusal.TheVariants.{NoBlock}
use Rattle.trap_model.specs.declared.request.Reply.TheVariants.{No}
use Rattle.trap_model.specs.declared.request.Request.TheVariants.{Write, Read, At, By}
use Rattle.trap_model.proofs.Refusals.{no_block}
use Rattle.trap_array.specs.Areas.{InWrite}
use Rattle.trap_array.specs.Asked.{request_at}
use Rattle.trap_array.specs.Calling.{CallsInRead, kept_calls}
use Rattle.trap_array.specs.Calls.{Mounted, AnswersRead, AtReplies, ReadReplies, is_fault}
use Rattle.trap_array.specs.Causes.{Reasons, DeniedBy, DeniesAtOnce}
use Rattle.trap_array.specs.Taking.{TakesStep}
use Rattle.trap_array.specs.declared.fault.Denied.{Denied}
use Rattle.trap_array.specs.declared.fault.Denied.TheVariants.{Refused, MemberFault, Damaged, LogFault, Stopped}
use Rattle.trap_array.specs.declared.instant.Instant.{Instant}
use Rattle.trap_array.specs.declared.instant.Instant.TheVariants.{Number, Time}
use Rattle.trap_array.proofs.AreaSteps.{touches_none}
use Rattle.trap_array.proofs.Counting.{calls_none}
use Rattle.trap_array.proofs.Denials.{denied_beyond, denied_stopped}
use Rattle.trap_array.proofs.KeepSteps.{next_of}
use Rattle.trap_array.proofs.LookingBack.{reads_no_present}
use Rattle.trap_array.proofs.Turns.{same_may}
use Rattle.trap_array.proofs.WriteSteps.{beyond_turned, beyond_any, reads_keep}

or_none : (b : Bool) → b ≡ (b || false)
or_none true = refl
or_none false = refl

-- the model refuses a block that isn't there
beyond_read : (g : Geometry) (s : State) (block : ℕ) → volume g ≤ block → (step g).reply s (Read block) ≡ No NoBlock
beyond_read g s block beyond = ap (λ (o : Option Refusal). or_refused o (accepted s (Read block)) No) (no_block g block _ beyond)

beyond_at : (g : Geometry) (s : State) (block : ℕ) (instant : Instant) → volume g ≤ block → (step g).reply s (request_at instant block) ≡ No NoBlock
beyond_at g s block (Number seq) beyond = ap (λ (o : Option Refusal). or_refused o (accepted s (At seq block)) No) (no_block g block (number_refusal s seq) beyond)
beyond_at g s block (Time time) beyond = ap (λ (o : Option Refusal). or_refused o (accepted s (By time block)) No) (no_block g block (time_refusal s time) beyond)

module _ (a : Mounted) (block : ℕ) (why : Denied) (is : DeniesAtOnce a.g a.is_stopped block why) where
  -- what holds of both holds of it
  by_either : (P : Denied → Type 0) → P (Refused NoBlock) → P Stopped → P why
  by_either P beyond stopped = ⊎_elim (λ both. subst P (sym both.0) beyond) (λ all. subst P (sym all.0) stopped) is

  pub no_damage_at_once : (offset : ℕ) → why ≡ Damaged offset → ⊥
  no_damage_at_once offset = by_either (λ (e : Denied). e ≡ Damaged offset → ⊥) (λ same. cc same) (λ same. cc same)

  pub no_log_at_once : why ≡ LogFault → ⊥
  no_log_at_once = by_either (λ (e : Denied). e ≡ LogFault → ⊥) (λ same. cc same) (λ same. cc same)

  pub no_fault_at_once : (T : Type 0) → is_fault {T = T} (Err why) ≡ false
  no_fault_at_once T = by_either (λ (e : Denied). is_fault {T = T} (Err e) ≡ false) refl refl

  -- it is stopped then only where it was
  pub stops_at_once : (T : Type 0) → a.is_stopped ≡ (a.is_stopped || is_fault {T = T} (Err why))
  stops_at_once T = or_none a.is_stopped ∙ ap (λ (fault : Bool). a.is_stopped || fault) (sym (no_fault_at_once T))

  pub same_at_once : (T : Type 0) → a ≡ record a { is_stopped = a.is_stopped || is_fault {T = T} (Err why) }
  same_at_once T = ap (λ (stopped : Bool). record a { is_stopped = stopped }) (stops_at_once T)

  pub denied_at_once : {T : Type 0} (reasons : Reasons) (v : View) → DeniedBy {T = T} a block reasons (Err why) v v
  denied_at_once {T = T} reasons v = ⊎_elim
      (λ both. subst (λ (e : Denied). DeniedBy {T = T} a block reasons (Err e) v v) (sym both.0) (denied_beyond a block reasons v both.1))
      (λ all. subst (λ (e : Denied). DeniedBy {T = T} a block reasons (Err e) v v) (sym all.0) (denied_stopped a block reasons v all.1 all.2))
      is

  pub calls_at_once : {T : Type 0} (v : View) → CallsInRead {T = T} a block (Err why) v v
  calls_at_once {T = T} v = reads_no_present a block why v (λ first second. by_either (λ (e : Denied). e ≡ MemberFault first second → ⊥) (λ same. cc same) (λ same. cc same))

  -- a read of a block
  pub read_at_once : {T : Type 0} (bytes : List ℕ) (v : View) → AnswersRead {T = T} a a (Read block) (ReadReplies {T = T} (Err why) bytes) (Err why) v v
  read_at_once {T = T} bytes v = record {
    reply = λ told s always. ⊎_elim (λ both. subst (λ (e : Denied). ReadReplies {T = T} (Err e) bytes ((step a.g).reply s (Read block))) (sym both.0) (beyond_read a.g s block both.1))
        (λ all. subst (λ (e : Denied). ReadReplies {T = T} (Err e) bytes ((step a.g).reply s (Read block))) (sym all.0) tt)
        is;
    state = reads_keep a a a.is_stopped _ v v (reads_none v) refl;
  }

  -- and at an instant
  pub instant_at_once : {T : Type 0} (instant : Instant) (bytes : List ℕ) (v : View) → AnswersRead {T = T} a a (request_at instant block) (AtReplies {T = T} (Err why) bytes) (Err why) v v
  instant_at_once {T = T} instant bytes v = record {
    reply = λ told s always.
        let P : Denied → Type 0 = λ (e : Denied). AtReplies {T = T} (Err e) bytes ((step a.g).reply s (request_at instant block)) in
        ⊎_elim (λ both. subst P (sym both.0) (beyond_at a.g s block instant both.1)) (λ all. subst P (sym all.0) tt) is;
    state = reads_keep a a a.is_stopped _ v v (reads_none v) refl;
  }

  -- a write
  pub write_at_once : (time : ℕ) (bytes : List ℕ) (v : View) → TakesStep a a time block bytes (Err why) v v
  write_at_once time bytes v = ⊎_elim
      (λ both. subst (λ (e : Denied). TakesStep a a time block bytes (Err e) v v) (sym both.0) (record {
        reply = λ told s always. ap (λ (o : Option Refusal). or_refused o (accepted s (Write time block bytes)) No) (no_block a.g block _ both.1);
        state = record { turned = λ done running. beyond_turned a v time block bytes both.1; any_moment = beyond_any a v time block bytes both.1 };
        head = refl;
        index = refl;
        pending = refl;
        staged = λ refusal same. inl refl;
        touches = touches_none (InWrite a block) v;
        calls = calls_none (kept_calls a block) a a _ v;
      }))
      (λ all. subst (λ (e : Denied). TakesStep a a time block bytes (Err e) v v) (sym all.0) (record {
        reply = λ told s always. tt;
        state = record { turned = λ done running. absurd (running refl); any_moment = same_may a v v (next_of a.g time block bytes) (unmoved v) };
        head = refl;
        index = refl;
        pending = tt;
        staged = λ refusal same. inl refl;
        touches = touches_none (InWrite a block) v;
        calls = calls_none (kept_calls a block) a a _ v;
      }))
      is
