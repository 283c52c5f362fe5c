-- The command `replica-export`.
use Rattle.std.proofs.Common.{◌≡◌, ◌≢◌, inl, inr, ⊎_elim, ℕ, ◌<◌, List, [], ◌++◌, Some, Result, Ok, Err, true, false, IsTrue, refl, sym, ap, subst, ◌∙◌, append-nil, arith}
use Rattle.std.specs.Prelude.{IfErr}
use Rattle.trap_bank.specs.Called.{CalledTimes, CalledAtMost}
use Rattle.trap_bank.specs.Disks.{Contents, View, Quiet}
use Rattle.trap_bank.specs.Faults.{Rose}
use Rattle.trap_bank.specs.Steps.{Steps, Same, OnlyReads, Spoke, SpokePart}
use Rattle.trap_bank.proofs.Called.{called_at_most}
use Rattle.trap_bank.proofs.Moves.{then_, weaken, read_is_left}
use Rattle.trap_bank.proofs.Rising.{rose_since}
use Rattle.trap_format.specs.declared.shape.Shape.{Shape}
use Rattle.trap_replica.specs.Exporting.{image_bytes, HasSaidImage, IsExportFault}
use Rattle.trap_replica.specs.Mounted.{MountedReplica}
use Rattle.trap_replica.specs.Mounting.{MountsReplica, IsMountFault, IsRefusedAs}
use Rattle.trap_replica.specs.OnDisk.{ReplicaHolds}
use Rattle.trap_replica.specs.declared.exporting.ExportFault.{ExportFault}
use Rattle.trap_replica.specs.declared.exporting.ExportFault.TheVariants as Fault
use Rattle.trap_replica.specs.declared.fault.ReplicaFault.{ReplicaFault}
use Rattle.trap_replica.specs.declared.fault.ReplicaFault.TheVariants.{DiskFault, OutOfMemory, NotAReplica}
use Rattle.trap_replica.proofs.MountedDisk.{holds_unrefused}
use Rattle.trap_remote.specs.Ended.{changes_no_disk}
use Rattle.trap_remote.specs.Found.{ByDisks, ChangesNothing, MountFirst, IsSilent}
use Rattle.trap_remote.specs.Exporting.{exported, SaysImage, GoesByImage, ExportCause, ExportEnds, ExportLeavesNow, ExportSaid, ExportCompletes, ExportOutcome}
use Rattle.trap_remote.specs.declared.outcome.ReplicaEnd.{ReplicaEnd}
use Rattle.trap_remote.specs.declared.outcome.ReplicaEnd.TheVariants.{Memory, NoReplica}
use Rattle.trap_remote.proofs.Framing.{reads_nothing, changes_then, changes_reads}
use Rattle.trap_remote.proofs.Mounted.{is_memory, OneImage, told_mounted, finds_replica, one_image}

-- nothing was said
quiet_part : (text : List ℕ) (x y : Contents) → Quiet Same x y → SpokePart text x y
quiet_part text x y same = record { disks = same.disks; says = record { part = []; rest = text; whole = refl; said = same.said ∙ sym (append-nil x.said) } }

-- the replica could not be mounted, or there was no memory
module _ (a b : View) (reads : OnlyReads a b) where
  quiet_now : IsTrue a.tells → Quiet Same a.now b.now
  quiet_now told = record { disks = ap (λ (c : Contents). c.disks) (reads.same told); said = ap (λ (c : Contents). c.said) (reads.same told) }

  silent_steps : (ended : ReplicaEnd) → ((image : List (List ℕ)) (s : Shape) (n t : ℕ) (x y : Contents) → IsTrue a.tells
      → ReplicaHolds s n t image a.now.disks → Quiet Same x y → ExportEnds image ended x y)
      → Steps a b (ExportLeavesNow a) (ExportSaid ended a)
  silent_steps ended ends = weaken a b (Quiet Same) (Quiet Same) (ExportLeavesNow a) (ExportSaid ended a) reads.moves
      (λ x y was same s n t image told holds. quiet_part (image_bytes image) x y same)
      (λ x y was left same s n t image told holds. ends image s n t x y told holds same)

  pub unmounted_outcome : (why : ReplicaFault) → IsMountFault why → (((n : ℕ) → a.sizes 17 ≡ Some n → n < 32) → why ≡ NotAReplica)
      → (IsTrue a.tells → IsRefusedAs a.now.disks why) → (why ≡ DiskFault → Rose (a.faults 17) (b.faults 17)) → CalledAtMost 5 a b → ExportOutcome (NoReplica why) a b
  unmounted_outcome why kind absent refused failed called = record {
    cause = record { kind = kind; refused = refused; failed = failed };
    first = λ small. ap NoReplica (absent small);
    said = λ s n t image told holds. (holds_unrefused s n t image a.now.disks holds why (refused told), quiet_now told);
    silent = λ is told. ap (λ (c : Contents). c.said) (reads.same told);
    changes = reads_nothing a b reads;
    steps = silent_steps (NoReplica why) (λ image s n t x y told holds same. (holds_unrefused s n t image a.now.disks holds why (refused told), same));
    completes = λ disk port s n t image told holds. ⊎_elim (λ (is : why ≡ DiskFault). absurd (disk (failed is)))
        (λ (is : why ≡ OutOfMemory). inr (inr (ap NoReplica is))) (holds_unrefused s n t image a.now.disks holds why (refused told));
    calls = λ is. called;
  }

module _ (r : MountedReplica) (a m : View) (mounts : MountsReplica r a m) (reads : OnlyReads a m) (present : ((n : ℕ) → a.sizes 17 ≡ Some n → n < 32) → ⊥)
    (called : CalledTimes 5 a m) where
  memory_outcome : ExportOutcome Memory a m
  memory_outcome = record {
    cause = (r.store.shape, finds_replica r a m mounts reads);
    first = λ small. absurd (present small);
    said = λ s n t image told holds. quiet_now a m reads told;
    silent = λ is told. ap (λ (c : Contents). c.said) (reads.same told);
    changes = reads_nothing a m reads;
    steps = silent_steps a m reads Memory (λ image s n t x y told holds same. same);
    completes = λ disk port s n t image told holds. inr (inl refl);
    calls = λ is. called_at_most 5 5 a m (omega arith) called;
  }

  module _ (z : View) where
    -- so much of the image was said, or all of it
    some_part : (image : List (List ℕ)) (result : Result (Unit {0}) ExportFault) (x y : Contents) → HasSaidImage image result x y → SpokePart (image_bytes image) x y
    some_part image (Ok value) x y said = record { disks = said.disks; says = record { part = image_bytes image; rest = []; whole = append-nil (image_bytes image); said = said.said } }
    some_part image (Err why) x y said = said

    ends_so : (image : List (List ℕ)) (result : Result (Unit {0}) ExportFault) (x y : Contents) → HasSaidImage image result x y → ExportEnds image (exported result) x y
    ends_so image (Ok value) x y said = said
    ends_so image (Err Fault.Disk) x y said = said
    ends_so image (Err Fault.Port) x y said = said

    -- after a run in which nothing was said
    from_before : (text : List ℕ) (x y w : Contents) → Quiet Same x y → SpokePart text y w → SpokePart text x w
    from_before text x y w same spoke = record {
      disks = spoke.disks ∙ same.disks;
      says = record {
        part = spoke.says.part;
        rest = spoke.says.rest;
        whole = spoke.says.whole;
        said = spoke.says.said ∙ ap (λ (l : List ℕ). l ++ spoke.says.part) same.said;
      };
    }

    all_from_before : (text : List ℕ) (x y w : Contents) → Quiet Same x y → Spoke text y w → Spoke text x w
    all_from_before text x y w same spoke = record { disks = spoke.disks ∙ same.disks; said = spoke.said ∙ ap (λ (l : List ℕ). l ++ text) same.said }

    said_before : (image : List (List ℕ)) (result : Result (Unit {0}) ExportFault) (x y w : Contents) → Quiet Same x y → HasSaidImage image result y w → HasSaidImage image result x w
    said_before image (Ok value) x y w same said = all_from_before (image_bytes image) x y w same said
    said_before image (Err why) x y w same said = from_before (image_bytes image) x y w same said

    module _ (ended : ReplicaEnd) (says : SaysImage r ended m z) where
      one : OneImage r a m
      one = one_image r a m mounts reads

      -- the image that disk 17 held is the replica's
      own_is : (s : Shape) (n t : ℕ) (image : List (List ℕ)) → IsTrue a.tells → ReplicaHolds s n t image a.now.disks → one.own ≡ image
      own_is s n t image told holds = (one.only s n t image told holds).image_

      ends : (image : List (List ℕ)) (x y : Contents) → one.own ≡ image → HasSaidImage one.own says.result x y → ExportEnds image ended x y
      ends image x y is said = subst (λ (ended : ReplicaEnd). ExportEnds image ended x y) (sym says.is)
          (subst (λ (i : List (List ℕ)). ExportEnds i (exported says.result) x y) is (ends_so one.own says.result x y said))

      all_steps : Steps a z (ExportLeavesNow a) (ExportSaid ended a)
      all_steps = then_ a m z (Quiet Same) (Quiet Same) (SpokePart (image_bytes one.own)) (HasSaidImage one.own says.result) (ExportLeavesNow a) (ExportSaid ended a)
          reads.moves (says.steps one.own one.mirrors)
          (λ x y was same s n t image told holds. quiet_part (image_bytes image) x y same)
          (λ x y w was same left spoke s n t image told holds. subst (λ (i : List (List ℕ)). SpokePart (image_bytes i) x w) (own_is s n t image told holds)
          (from_before (image_bytes one.own) x y w same spoke))
          (λ x y w was same left said s n t image told holds. ends image x w (own_is s n t image told holds) (said_before one.own says.result x y w same said))

      told_end : IsTrue a.tells → IsTrue z.tells
      told_end told = subst IsTrue (sym all_steps.tells) told

      -- what a read gives at the end
      said_now : IsTrue a.tells → HasSaidImage one.own says.result a.now z.now
      said_now told =
          let came = (says.steps one.own one.mirrors).now z.now (read_is_left z (told_end told)) in
          in_place told came.origin came.was.torn.said came.by
        where
          in_place : IsTrue a.tells → (y : Contents) → y.said ≡ m.now.said → HasSaidImage one.own says.result y z.now → HasSaidImage one.own says.result a.now z.now
          in_place told y quiet said = by_result says.result (says.disks.disks (told_mounted r a m mounts reads told) ∙ ap (λ (c : Contents). c.disks) (reads.same told))
              (quiet ∙ ap (λ (c : Contents). c.said) (reads.same told)) said
            where
              by_result : (result : Result (Unit {0}) ExportFault) → z.now.disks ≡ a.now.disks → y.said ≡ a.now.said → HasSaidImage one.own result y z.now
                  → HasSaidImage one.own result a.now z.now
              by_result (Ok value) same quiet said = record { disks = same; said = said.said ∙ ap (λ (l : List ℕ). l ++ image_bytes one.own) quiet }
              by_result (Err why) same quiet said = record {
                disks = same;
                says = record { part = said.says.part; rest = said.says.rest; whole = said.says.whole; said = said.says.said ∙ ap (λ (l : List ℕ). l ++ said.says.part) quiet };
              }

      nothing_changed : ChangesNothing a z
      nothing_changed = record {
        sizes = λ e. says.disks.sizes e ∙ reads.sizes e;
        changes = changes_then Same Same Same a m z (λ x y w same also. also ∙ same) (λ x y same. same) (changes_reads a m reads)
            (record {
              now = says.disks.disks;
              any_moment = weaken m z (SpokePart (image_bytes one.own)) (HasSaidImage one.own says.result) (ByDisks Same) (ByDisks Same) (says.steps one.own one.mirrors)
                  (λ x y was by. by.disks) (λ x y was left by. (some_part one.own says.result x y by).disks);
            });
      }

      not_first : (ended : ReplicaEnd) → MountFirst ended a
      not_first ended small = absurd (present small)

      port_rose : Rose m.port_faults z.port_faults → Rose a.port_faults z.port_faults
      port_rose rose = rose_since a.port_faults m.port_faults z.port_faults reads.moves.port_faults rose

      disk_rose : Rose (m.faults 17) (z.faults 17) → Rose (a.faults 17) (z.faults 17)
      disk_rose rose = rose_since (a.faults 17) (m.faults 17) (z.faults 17) (reads.moves.faults 17) rose

      cause_by : (result : Result (Unit {0}) ExportFault) → IfErr result (IsExportFault m z) → ExportCause (exported result) a z
      cause_by (Ok value) cause = (r.store.shape, finds_replica r a m mounts reads)
      cause_by (Err Fault.Disk) cause = (r.store.shape, finds_replica r a m mounts reads, disk_rose cause)
      cause_by (Err Fault.Port) cause = (r.store.shape, finds_replica r a m mounts reads, port_rose cause)

      silent_by : (result : Result (Unit {0}) ExportFault) → IsSilent (exported result) a z
      silent_by (Ok value) is told = absurd (cc)
      silent_by (Err Fault.Disk) is told = absurd (cc)
      silent_by (Err Fault.Port) is told = absurd (cc)

      done_by : (result : Result (Unit {0}) ExportFault) → IfErr result (IsExportFault m z) → (IsTrue a.tells → HasSaidImage one.own result a.now z.now) → ExportCompletes (exported result) a z
      done_by (Ok value) cause said disk port s n t image told holds =
          inl (refl, subst (λ (i : List (List ℕ)). z.now.said ≡ a.now.said ++ image_bytes i) (own_is s n t image told holds) (said told).said)
      done_by (Err Fault.Disk) cause said disk port s n t image told holds = absurd (disk (disk_rose cause))
      done_by (Err Fault.Port) cause said disk port s n t image told holds = absurd (port (port_rose cause))

      called_by : (result : Result (Unit {0}) ExportFault) → changes_no_disk (exported result) ≡ true → CalledAtMost 5 a z
      called_by (Ok value) is = absurd (cc)
      called_by (Err Fault.Disk) is = absurd (cc)
      called_by (Err Fault.Port) is = absurd (cc)

      pub image_outcome : ExportOutcome ended a z
      image_outcome = record {
        cause = subst (λ (ended : ReplicaEnd). ExportCause ended a z) (sym says.is) (cause_by says.result says.cause);
        first = not_first ended;
        said = λ s n t image told holds. ends image a.now z.now (own_is s n t image told holds) (said_now told);
        silent = subst (λ (ended : ReplicaEnd). IsSilent ended a z) (sym says.is) (silent_by says.result);
        changes = nothing_changed;
        steps = all_steps;
        completes = subst (λ (ended : ReplicaEnd). ExportCompletes ended a z) (sym says.is) (done_by says.result says.cause said_now);
        calls = subst (λ (ended : ReplicaEnd). changes_no_disk ended ≡ true → CalledAtMost 5 a z) (sym says.is) (called_by says.result);
      }

  -- whatever became of it
  pub mounted_outcome : (z : View) (ended : ReplicaEnd) → (ended ≡ Memory → z ≡ m) → (ended ≢ Memory → SaysImage r ended m z) → ExportOutcome ended a z
  mounted_outcome z ended idle says = ⊎_elim
      (λ (is : ended ≡ Memory). subst (λ (v : View). ExportOutcome ended a v) (sym (idle is)) (subst (λ (ended : ReplicaEnd). ExportOutcome ended a m) (sym is) memory_outcome))
      (λ (other : ended ≢ Memory). image_outcome z ended (says other))
      (is_memory ended)

-- how it went on
pub export_goes : {B : Type 0} (view : B → View) (r : MountedReplica) (ended : ReplicaEnd) (first mounted last : B) → MountsReplica r (view first) (view mounted)
    → OnlyReads (view first) (view mounted) → CalledTimes 5 (view first) (view mounted) → (ended ≢ Memory → SaysImage r ended (view mounted) (view last)) → GoesByImage view ended first last
export_goes view r ended first mounted last mounts reads called says is = record {
  a = r;
  mounted = mounted;
  mounts = mounts;
  reads = reads;
  called = called;
  says = says (λ none. let both : false ≡ true = sym is ∙ ap changes_no_disk none in cc);
}
