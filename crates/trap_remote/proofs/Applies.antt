-- The command `apply`, whatever became of it.
use Rattle.std.proofs.Common.{◌≡◌, ◌≢◌, inl, inr, ⊎_elim, ℕ, ◌<◌, List, [], Option, Some, None, Result, Ok, Err, true, false, IsTrue, refl, sym, ap, subst, ◌∙◌, append-nil, arith}
use Rattle.trap_bank.specs.Called.{CalledTimes, CalledAtMost}
use Rattle.trap_bank.specs.Calls.{Says}
use Rattle.trap_bank.specs.Disks.{Contents, Disks, View, Quiet, Differs}
use Rattle.trap_bank.specs.Faults.{Rose}
use Rattle.trap_bank.specs.Steps.{Steps, Same, OnlyReads}
use Rattle.trap_bank.specs.Stream.{Stream}
use Rattle.trap_bank.specs.declared.disks.Failed.{Failed}
use Rattle.trap_bank.proofs.Called.{called_at_most}
use Rattle.trap_bank.proofs.Moves.{weaken, say_steps, said_steps}
use Rattle.trap_format.specs.declared.shape.Shape.{Shape}
use Rattle.trap_model.specs.Receiver.{starting}
use Rattle.trap_replica.specs.Mounted.{MountedReplica, StaysBeside}
use Rattle.trap_replica.specs.Mounting.{MountsReplica, IsMountFault, IsRefusedAs}
use Rattle.trap_replica.specs.OnDisk.{ReplicaHolds}
use Rattle.trap_replica.specs.declared.fault.ReplicaFault.{ReplicaFault}
use Rattle.trap_replica.specs.declared.fault.ReplicaFault.TheVariants.{NotAReplica, DiskFault, OutOfMemory}
use Rattle.trap_replica.proofs.MountedDisk.{holds_unrefused}
use Rattle.trap_apply.specs.Applies.{Applies}
use Rattle.trap_apply.specs.Summary.{summary_line}
use Rattle.trap_apply.specs.declared.outcome.ApplyFault.{ApplyFault}
use Rattle.trap_apply.specs.declared.outcome.ApplyFault.TheVariants.{Replica as InReplica}
use Rattle.trap_apply.specs.declared.outcome.Outcome.{Outcome}
use Rattle.trap_remote.specs.Ended.{reads_source}
use Rattle.trap_remote.specs.Found.{ReadsSource}
use Rattle.trap_remote.specs.Applying.{ApplyEnds, ApplyLeavesNow, ApplySaid, ApplyOutcome}
use Rattle.trap_remote.specs.Running.{end_of, end_after_line, is_unsaid, SaysUnless, SaysOutcome, TakesOver, GoesByFrames}
use Rattle.trap_remote.specs.declared.outcome.ReplicaEnd.{ReplicaEnd}
use Rattle.trap_remote.specs.declared.outcome.ReplicaEnd.TheVariants.{Memory, NoReplica, NotApplied}
use Rattle.trap_remote.proofs.Framing.{reads_replica, took_none}
use Rattle.trap_remote.proofs.Mounted.{is_memory, finds_replica}
use Rattle.trap_remote.proofs.Applied.{disk_outcome, whole_outcome, cut_outcome}

-- nothing was read
read_nothing : (ended : ReplicaEnd) (from : Stream) → ReadsSource ended from from
read_nothing ended from = record { took = took_none from; unread = λ is. refl }

-- the replica could not be mounted, or there was no memory
module _ (a b : View) (from : Stream) (reads : OnlyReads a b) where
  quiet_now : IsTrue a.tells → Quiet Same a.now b.now
  quiet_now told = record { disks = ap (λ (c : Contents). c.disks) (reads.same told); said = ap (λ (c : Contents). c.said) (reads.same told) }

  silent_steps : (ended : ReplicaEnd) → ((s : Shape) (n t : ℕ) (image : List (List ℕ)) (input : List ℕ) (x y : Contents) → IsTrue a.tells → ReplicaHolds s n t image a.now.disks
      → Quiet Same x y → ApplyEnds s (starting n t image) input ended x y from from) → Steps a b (ApplyLeavesNow a from) (ApplySaid ended a from from)
  silent_steps ended ends = weaken a b (Quiet Same) (Quiet Same) (ApplyLeavesNow a from) (ApplySaid ended a from from) reads.moves
      (λ x y was same s n t image input told holds known. record {
        part = [];
        said = same.said ∙ sym (append-nil x.said);
        leaves = inl (refl, subst (λ (disks : Disks). Differs a.unsynced a.now.disks disks) (sym same.disks) was.torn.disks);
      })
      (λ x y was left same s n t image input told holds known. ends s n t image input x y told holds same)

  pub unmounted_applies : (why : ReplicaFault) → IsMountFault why → (((n : ℕ) → a.sizes 17 ≡ Some n → n < 32) → why ≡ NotAReplica)
      → (IsTrue a.tells → IsRefusedAs a.now.disks why) → (why ≡ DiskFault → Rose (a.faults 17) (b.faults 17)) → CalledAtMost 5 a b → ApplyOutcome (NoReplica why) a b from from
  unmounted_applies why kind absent refused failed called = record {
    cause = record { kind = kind; refused = refused; failed = failed };
    first = λ small. ap NoReplica (absent small);
    said = λ s n t image input told holds known. (holds_unrefused s n t image a.now.disks holds why (refused told), quiet_now told);
    silent = λ is told. ap (λ (c : Contents). c.said) (reads.same told);
    changes = reads_replica (NoReplica why) a b reads;
    sizes = reads.sizes;
    source = read_nothing (NoReplica why) from;
    steps = silent_steps (NoReplica why) (λ s n t image input x y told holds same. (holds_unrefused s n t image a.now.disks holds why (refused told), same));
    completes = λ s n t image input told holds known frames short are fits nothing. ⊎_elim (λ (is : why ≡ DiskFault). absurd (nothing.disk (failed is)))
        (λ (is : why ≡ OutOfMemory). inr (inr (ap NoReplica is))) (holds_unrefused s n t image a.now.disks holds why (refused told));
    calls = λ is. called;
  }

module _ (r : MountedReplica) (a m : View) (mounts : MountsReplica r a m) (reads : OnlyReads a m) (present : ((n : ℕ) → a.sizes 17 ≡ Some n → n < 32) → ⊥)
    (called : CalledTimes 5 a m) where
  memory_applies : (from : Stream) → ApplyOutcome Memory a m from from
  memory_applies from = record {
    cause = (r.store.shape, finds_replica r a m mounts reads);
    first = λ small. absurd (present small);
    said = λ s n t image input told holds known. quiet_now a m from reads told;
    silent = λ is told. ap (λ (c : Contents). c.said) (reads.same told);
    changes = reads_replica Memory a m reads;
    sizes = reads.sizes;
    source = read_nothing Memory from;
    steps = silent_steps a m from reads Memory (λ s n t image input x y told holds same. same);
    completes = λ s n t image input told holds known frames short are fits nothing. inr (inl refl);
    calls = λ is. called_at_most 5 5 a m (omega arith) called;
  }

  -- the summary was said, or the port failed in it
  line_applies : (b : MountedReplica) (outcome : Outcome) (n z : View) (from to : Stream) (fault : Option ApplyFault) → outcome.fault ≡ fault → fault ≢ Some (InReplica DiskFault)
      → Applies r b outcome m n from to → StaysBeside r b m n → (result : Result (Unit {0}) Failed) → Says (summary_line outcome.summary) result n z
      → ApplyOutcome (end_after_line fault result) a z from to
  line_applies b outcome n z from to fault is other applies stays (Ok value) says = whole_outcome r b outcome a m n from to mounts reads present applies stays fault is other z
      (say_steps {T = Unit {0}} {E = Failed} (Ok value) n z (summary_line outcome.summary) says) says.sizes says.disks
      (said_steps {T = Unit {0}} {E = Failed} value n z (summary_line outcome.summary) says) says.said
  line_applies b outcome n z from to fault is other applies stays (Err e) says = cut_outcome r b outcome a m n from to mounts reads present applies stays fault is other z
      (say_steps {T = Unit {0}} {E = Failed} (Err e) n z (summary_line outcome.summary) says) says.sizes says.disks says.cause says.part

  said_applies : {B : Type 0} (view : B → View) (b : MountedReplica) (outcome : Outcome) (applied last : B) (from to : Stream) (ended : ReplicaEnd) (fault : Option ApplyFault)
      → outcome.fault ≡ fault → Applies r b outcome m (view applied) from to → StaysBeside r b m (view applied)
      → SaysUnless view (summary_line outcome.summary) fault ended applied last → ApplyOutcome ended a (view last) from to
  said_applies {B} view b outcome applied last from to ended (Some (InReplica DiskFault)) is applies stays says =
      subst (λ (ended : ReplicaEnd). ApplyOutcome ended a (view last) from to) (sym says.0)
      (subst (λ (bank : B). ApplyOutcome (NotApplied (InReplica DiskFault)) a (view bank) from to) (sym says.1)
      (disk_outcome r b outcome a m (view applied) from to mounts reads present applies stays is))
  said_applies {B} view b outcome applied last from to ended fault is applies stays says =
      subst (λ (ended : ReplicaEnd). ApplyOutcome ended a (view last) from to) (sym says.is)
      (line_applies b outcome (view applied) (view last) from to _ is (λ disk. cc) applies stays says.result says.says)

  pub mounted_applies : {B : Type 0} (view : B → View) (ended : ReplicaEnd) (mounted last : B) (from to : Stream) → view mounted ≡ m → (ended ≡ Memory → (last ≡ mounted) × (to ≡ from))
      → (ended ≢ Memory → TakesOver view r ended mounted last from to) → ApplyOutcome ended a (view last) from to
  mounted_applies view ended mounted last from to is idle takes = ⊎_elim
      (λ (none : ended ≡ Memory).
      let still = idle none in
      subst (λ (ended : ReplicaEnd). ApplyOutcome ended a (view last) from to) (sym none)
      (subst (λ (v : View). ApplyOutcome Memory a v from to) (sym (ap view still.0 ∙ is))
      (subst (λ (s : Stream). ApplyOutcome Memory a m from s) (sym still.1) (memory_applies from))))
      (λ (some : ended ≢ Memory).
      let taken = takes some in
      said_applies view taken.b taken.outcome taken.applied last from to ended taken.outcome.fault refl
      (subst (λ (v : View). Applies r taken.b taken.outcome v (view taken.applied) from to) is taken.applies)
      (subst (λ (v : View). StaysBeside r taken.b v (view taken.applied)) is taken.stays) taken.says)
      (is_memory ended)

-- how it went on
pub apply_goes : {B : Type 0} (view : B → View) (r : MountedReplica) (ended : ReplicaEnd) (first mounted last : B) (from to : Stream) → MountsReplica r (view first) (view mounted)
    → OnlyReads (view first) (view mounted) → CalledTimes 5 (view first) (view mounted) → (ended ≢ Memory → TakesOver view r ended mounted last from to)
    → GoesByFrames view ended first last from to
apply_goes view r ended first mounted last from to mounts reads called takes is = record {
  a = r;
  mounted = mounted;
  mounts = mounts;
  reads = reads;
  called = called;
  takes = takes (λ none. let both : true ≡ false = sym is ∙ ap reads_source none in cc);
}

-- the summary is left out
pub line_unsaid : {B : Type 0} (view : B → View) (line : List ℕ) (fault : Option ApplyFault) (bank : B) → is_unsaid fault ≡ true → SaysUnless view line fault (end_of fault) bank bank
line_unsaid view line (Some (InReplica DiskFault)) bank is = (refl, refl)
line_unsaid view line fault bank is = absurd (cc)

-- or it is said in one call
pub line_said : {B : Type 0} (view : B → View) (line : List ℕ) (fault : Option ApplyFault) (result : Result (Unit {0}) Failed) (old new : B) → is_unsaid fault ≡ false
    → Says line result (view old) (view new) → SaysUnless view line fault (end_after_line fault result) old new
line_said view line (Some (InReplica DiskFault)) result old new is says = absurd (cc)
line_said view line fault result old new is says = record { result = result; says = says; is = refl }

-- the frames were taken, and the source was read
pub takes_over : {B : Type 0} (view : B → View) (r b : MountedReplica) (outcome : Outcome) (ended : ReplicaEnd) (first applied last : B) (from to : Stream)
    → Applies r b outcome (view first) (view applied) from to → StaysBeside r b (view first) (view applied) → SaysOutcome view outcome ended applied last
    → TakesOver view r ended first last from to
takes_over view r b outcome ended first applied last from to applies stays says = record { b = b; outcome = outcome; applied = applied; applies = applies; stays = stays; says = says }

-- so there was memory
pub not_memory : {B : Type 0} (view : B → View) (line : List ℕ) (fault : Option ApplyFault) (ended : ReplicaEnd) (old new : B) → SaysUnless view line fault ended old new → ended ≡ Memory → ⊥
not_memory view line (Some (InReplica DiskFault)) ended old new says none = let both : NotApplied (InReplica DiskFault) ≡ Memory = sym says.0 ∙ none in cc
not_memory view line fault ended old new says none = by_result fault says.result (sym says.is ∙ none)
  where
    by_fault : (f : Option ApplyFault) → end_of f ≡ Memory → ⊥
    by_fault None is = cc
    by_fault (Some why) is = cc

    by_result : (f : Option ApplyFault) (result : Result (Unit {0}) Failed) → end_after_line f result ≡ Memory → ⊥
    by_result f (Ok value) is = by_fault f is
    by_result f (Err e) is = cc
