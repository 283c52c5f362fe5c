-- What a run changes on the disks.
use Rattle.std.proofs.Common.{◌≡◌, ◌⊎◌, inl, inr, ⊎_elim, ℕ, ◌+◌, ◌≤◌, List, Option, Some, None, true, false, IsTrue, refl, sym, ap, subst, ◌∙◌}
use Rattle.trap_bank.specs.Disks.{Contents, Disks, View, Differs, Quiet}
use Rattle.trap_bank.specs.Steps.{Steps, Moves, Same, OnlyReads, SpokePart}
use Rattle.trap_bank.proofs.Moves.{then_, weaken, nothing_done}
use Rattle.trap_bank.proofs.Regions.{differs_mono, differs_again, differs_same}
use Rattle.trap_format.specs.declared.head.Head.{Head}
use Rattle.trap_model.specs.declared.numbers.Geometry.{Geometry}
use Rattle.trap_array.specs.Areas.{MayTouch}
use Rattle.trap_array.specs.Calls.{Mounted}
use Rattle.trap_array.specs.Holding.{InCell}
use Rattle.trap_array.specs.Mounting.{MayPutHead, FoundLost, HasFound, WritesHead}
use Rattle.trap_mount.specs.declared.fault.MountFault.{MountFault}
use Rattle.trap_mount.specs.declared.fault.MountFault.TheVariants.{LogFault}
use Rattle.trap_mount.proofs.Puts.{put_in_cell}
use Rattle.trap_cli.specs.declared.command.Command.{Command}
use Rattle.trap_cli.specs.declared.command.Command.TheVariants.{Create, Session, History, Send, ReplicaCreate, ReplicaLoad, Apply, ReplicaExport}
use Rattle.trap_cli.specs.Ended.{leaves_log}
use Rattle.trap_cli.specs.Frame.{ByDisks, ChangesBy, InMounted, MayChange}
use Rattle.trap_bank.proofs.Rising.{rose_later}

-- ---- in general
-- a run that changes the disks by a step, and then one that leaves them
pub changes_kept : (step also : Disks → Disks → Type 0) (a b c : View) (d2 a2 : Contents → Contents → Type 0)
    → ((x y : Disks) → step x y → also x y) → ChangesBy step a b → Steps b c d2 a2
    → ((y z : Contents) → d2 y z → z.disks ≡ y.disks) → ((y z : Contents) → a2 y z → z.disks ≡ y.disks)
    → (IsTrue b.tells → c.now.disks ≡ b.now.disks) → ChangesBy also a c
changes_kept step also a b c d2 a2 wider first second in_second at_end same = record {
  now = λ told. subst (λ (disks : Disks). also a.now.disks disks) (sym (same (subst IsTrue (sym first.any_moment.tells) told)))
      (wider a.now.disks b.now.disks (first.now told));
  any_moment = then_ a b c (ByDisks step) (ByDisks step) d2 a2 (ByDisks also) (ByDisks also) first.any_moment second
      (λ x y was by. wider x.disks y.disks by)
      (λ x y z was by mid more. subst (λ (disks : Disks). also x.disks disks) (sym (in_second y z more)) (wider x.disks y.disks by))
      (λ x y z was by mid more. subst (λ (disks : Disks). also x.disks disks) (sym (at_end y z more)) (wider x.disks y.disks by));
}

-- and then a line is said
pub changes_said : (step also : Disks → Disks → Type 0) (a b c : View) (line : List ℕ) → ((x y : Disks) → step x y → also x y)
    → ChangesBy step a b → Steps b c (SpokePart line) (SpokePart line) → (IsTrue b.tells → c.now.disks ≡ b.now.disks) → ChangesBy also a c
changes_said step also a b c line wider first spoke same = changes_kept step also a b c (SpokePart line) (SpokePart line) wider first spoke
    (λ y z by. by.disks) (λ y z by. by.disks) same

-- by a wider step
pub changes_wider : (step also : Disks → Disks → Type 0) (a b : View) → ((x y : Disks) → step x y → also x y) → ChangesBy step a b → ChangesBy also a b
changes_wider step also a b wider by = record {
  now = λ told. wider a.now.disks b.now.disks (by.now told);
  any_moment = weaken a b (ByDisks step) (ByDisks step) (ByDisks also) (ByDisks also) by.any_moment
      (λ x y was step. wider x.disks y.disks step) (λ x y was left step. wider x.disks y.disks step);
}

-- nothing was said
pub changes_quiet : (step : Disks → Disks → Type 0) (a b : View) → (IsTrue a.tells → step a.now.disks b.now.disks) → Moves a b step step → ChangesBy step a b
changes_quiet step a b now moves = record {
  now = now;
  any_moment = weaken a b (Quiet step) (Quiet step) (ByDisks step) (ByDisks step) moves (λ x y was by. by.disks) (λ x y was left by. by.disks);
}

-- only reads
pub changes_reads : (a b : View) → OnlyReads a b → ChangesBy Same a b
changes_reads a b reads = changes_quiet Same a b (λ told. ap (λ (c : Contents). c.disks) (reads.same told)) reads.moves

-- no call
pub changes_none : (a : View) → ChangesBy Same a a
changes_none a = record { now = λ told. refl; any_moment = nothing_done a (ByDisks Same) (ByDisks Same) (λ x was. refl) }

-- ---- mounting
-- what mounting found of the members is so later
pub found_later : (g : Geometry) (h k : Head) (old mid new : View) → ((e : ℕ) → mid.faults e ≤ new.faults e) → FoundLost g h k old mid → FoundLost g h k old new
found_later g h k old mid new later found = record {
  same = found.same;
  lost = found.lost;
  still = found.still;
  mark = ⊎_elim (λ same. inl same)
      (λ zero. inr (zero.0, λ m is. ⊎_elim (λ rose. inl (rose_later (old.faults (m + 1)) (mid.faults (m + 1)) (new.faults (m + 1)) rose (later (m + 1)))) (λ other. inr other) (zero.1 m is)))
      found.mark;
}

pub array_later : (array : Mounted) (old mid new : View) → ((e : ℕ) → mid.faults e ≤ new.faults e) → HasFound array old mid → HasFound array old new
array_later array old mid new later found = record {
  passed = λ told. let passed = found.passed told in
      (passed.0, passed.1, found_later array.g passed.0 array.head old mid new later passed.2, passed.3, passed.4);
}

pub put_later : (old mid new : View) → ((e : ℕ) → mid.faults e ≤ new.faults e) → (x y : Disks) → MayPutHead old mid x y → MayPutHead old new x y
put_later old mid new later x y (inl same) = inl same
put_later old mid new later x y (inr (put, puts)) = inr (
  put,
  record {
    g = puts.g;
    found = puts.found;
    passed = puts.passed;
    own = puts.own;
    head = puts.head;
    lost = found_later puts.g puts.found put old mid new later puts.lost;
    changed = puts.changed;
    synced = puts.synced;
    slot = puts.slot;
    value = puts.value;
  },
)

pub mount_changes : (a b : View) → WritesHead a b → ChangesBy (MayPutHead a b) a b
mount_changes a b writes = changes_quiet (MayPutHead a b) a b (λ told. (writes.contents told).disks) writes.any_moment

-- mounting that wrote nothing didn't end by a fault of disk 0
pub no_log_fault : (why : MountFault) → leaves_log why ≡ true → why ≡ LogFault → ⊥
no_log_fault why is log = let both : true ≡ false = sym is ∙ ap leaves_log log in cc both

-- ---- a session
-- the head's put is in what the array may touch
put_touches : (array : Mounted) (v w : View) (x y : Disks) → MayPutHead v w x y → Differs (MayTouch array) x y
put_touches array v w x y (inl same) = differs_same (MayTouch array) x y same
put_touches array v w x y (inr (put, puts)) = differs_mono InCell (MayTouch array) x y (λ e i cell. inl cell) (put_in_cell puts.slot.cell x y puts.slot.place puts.slot.differs)

-- the array is mounted, and its lines are answered
pub session_changes : (array : Mounted) (a b c : View) → WritesHead a b → HasFound array a b → ChangesBy (Differs (MayTouch array)) b c
    → ChangesBy (λ x y. MayPutHead a c x y ⊎ InMounted a c x y) a c
session_changes array a b c writes found served = record {
  now = λ told. inr (array, now_found, both a.now.disks b.now.disks c.now.disks (writes.contents told).disks (served.now (subst IsTrue (sym writes.any_moment.tells) told)));
  any_moment = then_ a b c (Quiet (MayPutHead a b)) (Quiet (MayPutHead a b)) (ByDisks (Differs (MayTouch array))) (ByDisks (Differs (MayTouch array)))
      (ByDisks (λ x y. MayPutHead a c x y ⊎ InMounted a c x y)) (ByDisks (λ x y. MayPutHead a c x y ⊎ InMounted a c x y)) writes.any_moment served.any_moment
      (λ x y was put. inl (put_later a b c served.any_moment.faults x.disks y.disks put.disks))
      (λ x y z was put mid torn. inr (array, now_found, both x.disks y.disks z.disks put.disks torn))
      (λ x y z was put mid torn. inr (array, now_found, both x.disks y.disks z.disks put.disks torn));
}
  where
    now_found : HasFound array a c
    now_found = array_later array a b c served.any_moment.faults found

    both : (x y z : Disks) → MayPutHead a b x y → Differs (MayTouch array) y z → Differs (MayTouch array) x z
    both x y z put torn = differs_again (MayTouch array) x y z (put_touches array a b x y put) torn

-- what a command may change, it may change by what is known at its end
pub change_later : (command : Option Command) (old mid new : View) → ((e : ℕ) → mid.faults e ≤ new.faults e) → (x y : Disks)
    → MayChange command old mid x y → MayChange command old new x y
change_later None old mid new later x y same = same
change_later (Some Session) old mid new later x y by = ⊎_elim (λ put. inl (put_later old mid new later x y put))
    (λ some. inr (some.0, array_later some.0 old mid new later some.1, some.2)) by
change_later (Some History) old mid new later x y put = put_later old mid new later x y put
change_later (Some (Send seq)) old mid new later x y put = put_later old mid new later x y put
change_later (Some (Create asked)) old mid new later x y by = by
change_later (Some (ReplicaCreate asked)) old mid new later x y by = by
change_later (Some (ReplicaLoad asked start)) old mid new later x y by = by
change_later (Some Apply) old mid new later x y by = by
change_later (Some ReplicaExport) old mid new later x y by = by
