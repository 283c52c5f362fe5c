-- A run from its command and its last line.
use Rattle.std.proofs.Common.{◌≡◌, ◌↔◌, inl, inr, ⊎_elim, ℕ, ◌+◌, ◌≤◌, List, [], ◌++◌, Option, Some, None, true, IsTrue, refl, sym, ap, subst, ◌∙◌, append-nil}
use Rattle.std.specs.declared.alloc.Global.{Global}
use Rattle.std.specs.Prelude.{String}
use Rattle.trap_bank.specs.Disks.{Contents, Disks, View}
use Rattle.trap_bank.specs.Calls.{MayLeave, IsLawful}
use Rattle.trap_bank.specs.Steps.{Same}
use Rattle.trap_bank.specs.Stream.{Stream}
use Rattle.trap_bank.proofs.Moves.{nothing_done}
use Rattle.trap_array.specs.Holding.{HoldsBy}
use Rattle.trap_array.specs.Mounting.{MountFails, MayPutHead}
use Rattle.trap_mount.specs.declared.fault.CreateFault.TheVariants as creating
use Rattle.trap_mount.specs.declared.fault.MountFault.{MountFault}
use Rattle.trap_mount.specs.declared.fault.MountFault.TheVariants as mounting
use Rattle.trap_array.specs.declared.fault.Denied.TheVariants as denied
use Rattle.trap_session.specs.Store.{IsDamagedFor}
use Rattle.trap_session.specs.declared.outcome.SessionFault.{SessionFault}
use Rattle.trap_session.specs.declared.outcome.SessionFault.TheVariants as serving
use Rattle.trap_cli.specs.declared.command.Command.{Command}
use Rattle.trap_cli.specs.declared.command.Command.TheVariants.{Create, Session, History, Send, ReplicaCreate, ReplicaLoad, Apply, ReplicaExport}
use Rattle.trap_cli.specs.declared.outcome.Ended.{Ended}
use Rattle.trap_cli.specs.declared.outcome.Ended.TheVariants.{Done, Usage, BadGeometry, NotCreated, NotMounted, NotRetained, Stopped, Port, Memory, Replica}
use Rattle.trap_cli.specs.Command.{IsCommand}
use Rattle.trap_cli.specs.Ended.{status_of, last_line, leaves_disks}
use Rattle.trap_array.specs.Instants.{IsBadRecord}
use Rattle.trap_array.specs.MountEnds.{MountCause}
use Rattle.trap_cli.specs.Sending.{SendCause}
use Rattle.trap_cli.specs.Cause.{CauseOf, SessionCause, HistoryCause, CreateCause}
use Rattle.trap_cli.specs.Stopping.{StopCause}
use Rattle.trap_cli.specs.Said.{SaidAndHeld}
use Rattle.trap_cli.specs.Crash.{CommandLeaves, LeavesNow, LeavesWithFront}
use Rattle.trap_cli.specs.Run.{CommandOutcome, EndsAs, ThenLastLine}
use Rattle.trap_cli.specs.Frame.{MayChange, Frames, LeavesUnmounted, ChangesNothing, StaysHeld}
use Rattle.trap_cli.proofs.Framing.{changes_none, changes_said, change_later, put_later}
use Rattle.trap_cli.proofs.Heads.{held_same}
use Rattle.trap_cli.proofs.Words.{one_command}
use Rattle.trap_cli.proofs.Saying.{Spoken, last_since, run_leaves, took_none}
use Rattle.trap_bank.proofs.Rising.{rose_later}
use Rattle.trap_cli.proofs.Crashing.{no_front, mount_leaves}
use Rattle.trap_cli.proofs.Creates.{entry_creates, new_sizes_later}
use Rattle.trap_cli.proofs.Histories.{mount_lists}
use Rattle.trap_cli.proofs.Sends.{mount_sends}
use Rattle.trap_frame.specs.declared.found.FrameFault.TheVariants as framing
use Rattle.trap_replica.specs.Exporting.{image_bytes}
use Rattle.trap_replica.specs.declared.fault.ReplicaFault.{ReplicaFault}
use Rattle.trap_replica.specs.declared.fault.ReplicaFault.TheVariants as replica
use Rattle.trap_apply.specs.declared.outcome.ApplyFault.TheVariants as applying
use Rattle.trap_remote.specs.declared.outcome.ReplicaEnd.TheVariants as remote
use Rattle.trap_cli.specs.Faults.{replica_status}
use Rattle.trap_cli.proofs.Replicas.{create_entry, load_entry, fault_alone}
use Rattle.trap_cli.proofs.ReplicasLater.{create_later, load_later, apply_later, export_later}

-- causes stay
mount_later : (why : MountFault) (old mid new : View) → ((e : ℕ) → mid.faults e ≤ new.faults e) → MountFails why old mid → MountFails why old new
mount_later mounting.NotAnArray old mid new later fails = tt
mount_later (mounting.BadVersion version) old mid new later fails = tt
mount_later (mounting.WrongMember member) old mid new later fails = tt
mount_later (mounting.TooManyLost first second) old mid new later fails = tt
mount_later (mounting.Damaged offset) old mid new later fails = tt
mount_later mounting.LogFault old mid new later fails = rose_later (old.faults 0) (mid.faults 0) (new.faults 0) fails (later 0)
mount_later (mounting.MemberFault first second) old mid new later fails =
    (fails.0, fails.1, rose_later (old.faults (second + 1)) (mid.faults (second + 1)) (new.faults (second + 1)) fails.2 (later (second + 1)))
mount_later mounting.OutOfMemory old mid new later fails = tt

cause_of_later : (why : MountFault) (old mid new : View) → ((e : ℕ) → mid.faults e ≤ new.faults e) → MountCause why old mid → MountCause why old new
cause_of_later why old mid new later by = record {
  refused = by.refused;
  failed = mount_later why old mid new later by.failed;
  shown = by.shown;
  complete = λ g h s told held log members. by.complete g h s told held
      (λ rose. log (rose_later (old.faults 0) (mid.faults 0) (new.faults 0) rose (later 0)))
      (λ m inside rose. members m inside (rose_later (old.faults (m + 1)) (mid.faults (m + 1)) (new.faults (m + 1)) rose (later (m + 1))));
}

stopped_later : (why : SessionFault) (old mid new : View) (from to : Stream) → ((e : ℕ) → mid.faults e ≤ new.faults e)
    → mid.port_faults ≤ new.port_faults → (IsTrue old.tells → new.now.disks ≡ mid.now.disks)
    → StopCause why old mid from to → StopCause why old new from to
stopped_later (serving.Array (denied.Refused why)) old mid new from to later port same by = absurd by
stopped_later (serving.Array denied.LogFault) old mid new from to later port same by = rose_later (old.faults 0) (mid.faults 0) (new.faults 0) by (later 0)
stopped_later (serving.Array (denied.MemberFault first second)) old mid new from to later port same by =
    record {
      same = by.same;
      inside = by.inside;
      rose = rose_later (old.faults (second + 1)) (mid.faults (second + 1)) (new.faults (second + 1)) by.rose (later (second + 1));
      there = by.there;
      of = by.of;
      held = by.held;
    }
stopped_later (serving.Array (denied.Damaged offset)) old mid new from to later port same by = (
  by.0,
  λ told.
      let named = by.1 told in
      record {
        g = named.g;
        head = named.head;
        index = named.index;
        found = named.found;
        since = named.since;
        asked = named.asked;
        line = named.line;
        bad = subst (λ (disks : Disks). IsDamagedFor named.g named.index named.asked disks offset) (sym (same told)) named.bad;
      },
)
stopped_later (serving.Array denied.Stopped) old mid new from to later port same by = absurd by
stopped_later serving.ReadFault old mid new from to later port same by = by
stopped_later serving.WriteFault old mid new from to later port same by = rose_later old.port_faults mid.port_faults new.port_faults by port
stopped_later serving.TooLong old mid new from to later port same by = by

cause_later : (command : Option Command) (ended : Ended) (old mid new : View) (from to : Stream)
    → ((e : ℕ) → mid.faults e ≤ new.faults e) → mid.port_faults ≤ new.port_faults → ((e : ℕ) → new.sizes e ≡ mid.sizes e) → (IsTrue old.tells → new.now.disks ≡ mid.now.disks)
    → CauseOf command ended old mid from to → CauseOf command ended old new from to
cause_later None ended old mid new from to later port sizes same by = by
cause_later (Some Session) (NotMounted why) old mid new from to later port sizes same by = cause_of_later why old mid new later by
cause_later (Some Session) (Stopped why) old mid new from to later port sizes same by = (by.0, stopped_later why old mid new from to later port same by.1)
cause_later (Some Session) ended old mid new from to later port sizes same by = by
cause_later (Some History) (NotMounted why) old mid new from to later port sizes same by = cause_of_later why old mid new later by
cause_later (Some History) Port old mid new from to later port sizes same by = (by.0, rose_later old.port_faults mid.port_faults new.port_faults by.1 port)
cause_later (Some History) ended old mid new from to later port sizes same by = by
cause_later (Some (Send seq)) (NotMounted why) old mid new from to later port sizes same by =
    cause_of_later why old mid new later by
cause_later (Some (Send seq)) (Stopped (serving.Array denied.LogFault)) old mid new from to later port sizes same by =
    (by.0, rose_later (old.faults 0) (mid.faults 0) (new.faults 0) by.1 (later 0))
cause_later (Some (Send seq)) (Stopped (serving.Array (denied.Damaged offset))) old mid new from to later port sizes same by = (
  by.0,
  by.1,
  λ told.
      let named = by.2 told in
      record {
        g = named.g;
        head = named.head;
        index = named.index;
        found = named.found;
        reads = named.reads;
        entry = named.entry;
        after = named.after;
        bad = subst (λ (disks : Disks). IsBadRecord named.g named.index named.entry disks offset) (sym (same told)) named.bad;
      },
)
cause_later (Some (Send seq)) Port old mid new from to later port sizes same by = (by.0, rose_later old.port_faults mid.port_faults new.port_faults by.1 port)
cause_later (Some (Send seq)) ended old mid new from to later port sizes same by = by
cause_later (Some (ReplicaCreate asked)) (Replica end) old mid new from to later port sizes same by = create_later old mid new later port sizes asked end by
cause_later (Some (ReplicaCreate asked)) ended old mid new from to later port sizes same by = by
cause_later (Some (ReplicaLoad asked start)) (Replica end) old mid new from to later port sizes same by = load_later old mid new later port sizes asked start end from to by
cause_later (Some (ReplicaLoad asked start)) ended old mid new from to later port sizes same by = by
cause_later (Some Apply) (Replica end) old mid new from to later port sizes same by = apply_later old mid new later port sizes end from to by
cause_later (Some Apply) ended old mid new from to later port sizes same by = by
cause_later (Some ReplicaExport) (Replica end) old mid new from to later port sizes same by = export_later old mid new later port sizes end by
cause_later (Some ReplicaExport) ended old mid new from to later port sizes same by = by
cause_later (Some (Create asked)) Done old mid new from to later port sizes same by = (by.0, new_sizes_later asked mid new sizes by.1)
cause_later (Some (Create asked)) (NotCreated (creating.Exists disk)) old mid new from to later port sizes same by = by
cause_later (Some (Create asked)) (NotCreated creating.LogFault) old mid new from to later port sizes same by =
    (by.0, by.1, rose_later (old.faults 0) (mid.faults 0) (new.faults 0) by.2 (later 0))
cause_later (Some (Create asked)) (NotCreated (creating.MemberFault first second)) old mid new from to later port sizes same by =
    (by.0, by.1, (by.2.0, (by.2.1.0, rose_later (old.faults (second + 1)) (mid.faults (second + 1)) (new.faults (second + 1)) by.2.1.1 (later (second + 1))), sizes 0 ∙ by.2.2))
cause_later (Some (Create asked)) Port old mid new from to later port sizes same by =
    (by.0, rose_later old.port_faults mid.port_faults new.port_faults by.1 port, new_sizes_later asked mid new sizes by.2)
cause_later (Some (Create asked)) ended old mid new from to later port sizes same by = by

not_two_replica : (why : ReplicaFault) → replica_status why ≡ 2 → ⊥
not_two_replica (replica.Exists disk) two = cc two
not_two_replica replica.NotAReplica two = cc two
not_two_replica (replica.Damaged offset) two = cc two
not_two_replica replica.DiskFault two = cc two
not_two_replica replica.ReadFault two = cc two
not_two_replica (replica.ShortImage at) two = cc two
not_two_replica (replica.LongImage at) two = cc two
not_two_replica (replica.Stranger id) two = cc two
not_two_replica (replica.NoBlock block) two = cc two
not_two_replica replica.Stopped two = cc two
not_two_replica replica.OutOfMemory two = cc two

-- status 2 is that of one ending alone
not_two : (ended : Ended) → (ended ≡ Usage → ⊥) → status_of ended ≡ 2 → ⊥
not_two Done other two = cc two
not_two Usage other two = other refl
not_two (BadGeometry field) other two = cc two
not_two (NotCreated (creating.Exists disk)) other two = cc two
not_two (NotCreated creating.LogFault) other two = cc two
not_two (NotCreated (creating.MemberFault first second)) other two = cc two
not_two (NotMounted mounting.NotAnArray) other two = cc two
not_two (NotMounted (mounting.BadVersion version)) other two = cc two
not_two (NotMounted (mounting.WrongMember member)) other two = cc two
not_two (NotMounted (mounting.TooManyLost first second)) other two = cc two
not_two (NotMounted (mounting.Damaged offset)) other two = cc two
not_two (NotMounted mounting.LogFault) other two = cc two
not_two (NotMounted (mounting.MemberFault first second)) other two = cc two
not_two (NotMounted mounting.OutOfMemory) other two = cc two
not_two (NotRetained why) other two = cc two
not_two (Stopped (serving.Array (denied.Refused why))) other two = cc two
not_two (Stopped (serving.Array denied.LogFault)) other two = cc two
not_two (Stopped (serving.Array (denied.MemberFault first second))) other two = cc two
not_two (Stopped (serving.Array (denied.Damaged offset))) other two = cc two
not_two (Stopped (serving.Array denied.Stopped)) other two = cc two
not_two (Stopped serving.ReadFault) other two = cc two
not_two (Stopped serving.WriteFault) other two = cc two
not_two (Stopped serving.TooLong) other two = cc two
not_two Port other two = cc two
not_two Memory other two = cc two
not_two (Replica remote.Done) other two = cc two
not_two (Replica remote.Memory) other two = cc two
not_two (Replica remote.Port) other two = cc two
not_two (Replica (remote.BadGeometry field)) other two = cc two
not_two (Replica (remote.NoReplica why)) other two = not_two_replica why two
not_two (Replica (remote.NotMade why)) other two = not_two_replica why two
not_two (Replica (remote.NotApplied (applying.Stream (framing.BadFrame at)))) other two = cc two
not_two (Replica (remote.NotApplied (applying.Stream (framing.Cut at)))) other two = cc two
not_two (Replica (remote.NotApplied (applying.Stream framing.ReadFault))) other two = cc two
not_two (Replica (remote.NotApplied (applying.Stream framing.TooLong))) other two = cc two
not_two (Replica (remote.NotApplied (applying.Replica why))) other two = not_two_replica why two
not_two (Replica remote.NotExported) other two = cc two

-- a command isn't refused as none
no_usage : (command : Command) (ended : Ended) (old new : View) (from to : Stream) → CauseOf (Some command) ended old new from to → ended ≡ Usage → ⊥
no_usage Session ended old new from to by is = subst (λ (ended : Ended). SessionCause ended old new from to) is by
no_usage History ended old new from to by is = subst (λ (ended : Ended). HistoryCause ended old new) is by
no_usage (Send seq) ended old new from to by is = subst (λ (ended : Ended). SendCause seq ended old new) is by
no_usage (ReplicaCreate asked) ended old new from to by is = subst (λ (ended : Ended). CauseOf (Some (ReplicaCreate asked)) ended old new from to) is by
no_usage (ReplicaLoad asked start) ended old new from to by is = subst (λ (ended : Ended). CauseOf (Some (ReplicaLoad asked start)) ended old new from to) is by
no_usage Apply ended old new from to by is = subst (λ (ended : Ended). CauseOf (Some Apply) ended old new from to) is by
no_usage ReplicaExport ended old new from to by is = subst (λ (ended : Ended). CauseOf (Some ReplicaExport) ended old new from to) is by
no_usage (Create asked) ended old new from to by is = subst (λ (ended : Ended). CreateCause asked ended old new) is by

pub usage_exact : (status : ℕ) (words : List (String Global)) (command : Option Command) (ended : Ended) (old new : View) (from to : Stream) → IsCommand command words
    → status ≡ status_of ended → CauseOf command ended old new from to → (status ≡ 2) ↔ IsCommand None words
usage_exact status words None ended old new from to is number by = (λ two. is, λ none. number ∙ ap status_of by)
usage_exact status words (Some command) ended old new from to is number by =
    (λ two. absurd (not_two ended (no_usage command ended old new from to by) (sym number ∙ two)), λ none. absurd (some_none command is none))
  where
    some_none : (command : Command) → IsCommand (Some command) words → IsCommand None words → ⊥
    some_none command is none = let both = one_command words (Some command) None is none in cc both

-- what a crash on entry leaves
pub at_entry : (command : Option Command) (a : View) (from : Stream) → IsLawful a → (x : Contents) → MayLeave a x → CommandLeaves command a from x.said x
at_entry None a from lawful x was = record { part = []; said = sym (append-nil x.said); leaves = (no_front, was.torn.disks) }
at_entry (Some Session) a from lawful x was = λ g s input begins. record {
  part = [];
  said = sym (append-nil x.said);
  leaves = mount_leaves g s input a from begins [] no_front x x was (inl refl);
}
at_entry (Some History) a from lawful x was = λ g s told holds. record {
  part = [];
  said = sym (append-nil x.said);
  leaves = mount_lists g s a holds [] no_front x x was (inl refl);
}
at_entry (Some (Send seq)) a from lawful x was = λ g s told holds. record {
  part = [];
  said = sym (append-nil x.said);
  leaves = mount_sends g s seq a holds [] no_front x x was (inl refl);
}
at_entry (Some (ReplicaCreate asked)) a from lawful x was = create_entry asked a lawful x was
at_entry (Some (ReplicaLoad asked start)) a from lawful x was = λ input known. load_entry asked start input from a lawful x was
at_entry (Some Apply) a from lawful x was = λ s number time image input told holds known. record {
  part = [];
  said = sym (append-nil x.said);
  leaves = inl (no_front, was.torn.disks);
}
at_entry (Some ReplicaExport) a from lawful x was = λ s number time image told holds. record {
  part = [];
  said = sym (append-nil x.said);
  leaves = (fault_alone (image_bytes image) [] no_front, was.torn.disks);
}
at_entry (Some (Create asked)) a from lawful x was = record {
  part = [];
  said = sym (append-nil x.said);
  leaves = entry_creates asked a lawful x was;
}

-- words that are no command
pub no_command : (a : View) (from : Stream) → CommandOutcome None Usage a a from from
no_command a from = record {
  cause = refl;
  first = tt;
  unchanged = λ is. record { sizes = λ e. refl; changes = changes_none a };
  unmounted = λ why is. absurd (cc is);
  stops = λ told. refl;
  frame = record { changes = changes_none a; sizes = λ e is. refl };
  unread = λ other. refl;
  took = took_none from;
  silent = λ is told. refl;
  held = held_same a a (λ told. refl);
  steps = nothing_done a (LeavesNow None a from) (LeavesWithFront (last_line Usage) None a from)
      (λ x was front rest is. record { part = front; said = refl; leaves = ((Usage, rest, is), was.torn.disks) });
}

-- what is held stays so over the last line
held_later : (old mid new : View) → (IsTrue old.tells → new.now.disks ≡ mid.now.disks) → ((e : ℕ) → mid.faults e ≤ new.faults e)
    → StaysHeld old mid → StaysHeld old new
held_later old mid new same later stay g s h told was =
    let held = stay g s h told was in
    record {
      state = held.state;
      head = held.head;
      by = subst (λ (disks : Disks). HoldsBy g held.head held.state disks) (sym (same told)) held.by;
      keeps = record {
        lost = held.keeps.lost;
        mark = λ m before after lower. ⊎_elim
            (λ rose. inl (rose_later (old.faults (m + 1)) (mid.faults (m + 1)) (new.faults (m + 1)) rose (later (m + 1)))) (λ other. inr other)
            (held.keeps.mark m before after lower);
      };
    }

-- no disk changed, and then a line was said
nothing_said : (line : List ℕ) (a b c : View) → ChangesNothing a b → Spoken line b c → ChangesNothing a c
nothing_said line a b c stays spoken = record {
  sizes = λ e. spoken.sizes e ∙ stays.sizes e;
  changes = changes_said Same Same a b c line (λ x y same. same) stays.changes spoken.steps spoken.disks;
}

module _ (command : Option Command) (ended : Ended) (old mid new : View) (from to : Stream) (outcome : CommandOutcome command ended old mid from to)
    (spoken : Spoken (last_line ended) mid new) where
  told_mid : IsTrue old.tells → IsTrue mid.tells
  told_mid told = subst IsTrue (sym outcome.steps.tells) told

  ends : IsTrue old.tells → ThenLastLine command ended old new from to
  ends told = record {
    before = mid.now.said;
    stops = subst (λ (disks : Disks). SaidAndHeld command ended old (record { disks = disks; said = mid.now.said }) from to)
        (sym (spoken.disks (told_mid told))) outcome.stops;
    last = last_since old mid new outcome.steps.port_faults (spoken.last (told_mid told));
  }

  leaves : leaves_disks ended ≡ true → ChangesNothing old new
  leaves is = nothing_said (last_line ended) old mid new (outcome.unchanged is) spoken

  found_none : LeavesUnmounted ended old new
  found_none why is = changes_said (MayPutHead old mid) (MayPutHead old new) old mid new (last_line ended)
      (put_later old mid new spoken.steps.faults) (outcome.unmounted why is) spoken.steps spoken.disks

  pub run_held : StaysHeld old new
  run_held = held_later old mid new (λ told. spoken.disks (told_mid told)) spoken.steps.faults outcome.held

  pub run_ends : (status : ℕ) → status ≡ status_of ended → EndsAs status command ended old new from to
  run_ends status is = record {
    number = is;
    cause = cause_later command ended old mid new from to spoken.steps.faults spoken.steps.port_faults spoken.sizes (λ told. spoken.disks (told_mid told)) outcome.cause;
    first = outcome.first;
    unchanged = leaves;
    unmounted = found_none;
    unread = outcome.unread;
    took = outcome.took;
    silent = λ is told.
        let last = last_since old mid new outcome.steps.port_faults (spoken.last (told_mid told)) in
        record { part = last.part; rest = last.rest; whole = last.whole; said = last.said ∙ ap (λ (l : List ℕ). l ++ last.part) (outcome.silent is told); port = last.port };
    told = ends;
  }

  pub run_frame : Frames command old new
  run_frame = record {
    changes = changes_said (MayChange command old mid) (MayChange command old new) old mid new (last_line ended)
        (change_later command old mid new spoken.steps.faults) outcome.frame.changes spoken.steps spoken.disks;
    sizes = λ e is. spoken.sizes e ∙ outcome.frame.sizes e is;
  }

  pub run_crash : IsLawful old → (w : Contents) → new.left old.moment w → CommandLeaves command old from old.now.said w
  run_crash lawful = run_leaves command old mid new from (last_line ended) lawful (at_entry command old from lawful) outcome.steps spoken.steps
