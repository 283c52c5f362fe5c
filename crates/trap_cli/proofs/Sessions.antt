-- All but the last line of `session`.
use Rattle.std.proofs.Common.{◌≡◌, inl, inr, ⊎_elim, ℕ, ◌+◌, ◌<◌, ◌≤◌, List, true, false, IsTrue, sym, Some, None, ap, subst, ◌∙◌, append-nil, arith, refl}
use Rattle.trap_bank.specs.Disks.{Contents, View, Quiet}
use Rattle.trap_bank.specs.Steps.{Steps, Moves, OnlyReads, Always}
use Rattle.trap_bank.specs.Stream.{Stream}
use Rattle.trap_bank.proofs.Moves.{read_is_left, nothing_done}
use Rattle.trap_bank.proofs.Regions.{differs_none}
use Rattle.trap_format.specs.declared.head.Head.{Head}
use Rattle.trap_model.specs.declared.numbers.Geometry.{Geometry}
use Rattle.trap_model.specs.declared.history.State.{State}
use Rattle.trap_array.specs.Areas.{MayTouch}
use Rattle.trap_array.specs.Holding.{Holds, HoldsBy}
use Rattle.trap_index.specs.Indexed.{Indexed}
use Rattle.trap_raid.specs.Members.{Counts}
use Rattle.trap_array.specs.Calls.{Mounted, StandsFor, IsReady, MemberFails}
use Rattle.trap_array.specs.MountEnds.{MountCause}
use Rattle.trap_array.specs.Reading.{ReadsIndex}
use Rattle.trap_array.specs.Mounting.{Mounts, FoundLost, MayPutHead, WritesHead, HasFound, IsNoLog, is_refusal}
use Rattle.trap_array.proofs.Turns.{later_same}
use Rattle.trap_mount.specs.declared.fault.MountFault.{MountFault}
use Rattle.trap_mount.specs.declared.fault.MountFault.TheVariants.{NotAnArray, LogFault}
use Rattle.trap_array.specs.declared.fault.Denied.TheVariants as denied
use Rattle.trap_session.specs.declared.outcome.SessionFault.TheVariants as serving
use Rattle.trap_session.specs.Changing.{DiffersIn, ChangesOnly}
use Rattle.trap_session.specs.Store.{IsDamagedFor}
use Rattle.trap_session.specs.Serving.{Serves, StandsAtEnd, Took}
use Rattle.trap_cli.proofs.Saying.{took_none}
use Rattle.trap_bank.proofs.Rising.{rose_since}
use Rattle.trap_cli.specs.declared.outcome.Ended.{Ended}
use Rattle.trap_cli.specs.declared.outcome.Ended.TheVariants.{Done, NotMounted, Stopped, Memory}
use Rattle.trap_cli.specs.Command.{command_session}
use Rattle.trap_cli.specs.Ended.{leaves_disks}
use Rattle.trap_cli.specs.Cause.{SessionCause}
use Rattle.trap_cli.specs.Mounting.{MountPasses}
use Rattle.trap_cli.specs.Stopping.{MemberFaults, NamesRecord}
use Rattle.trap_cli.specs.Said.{held_store, BeginsHeld, SessionSaid, ServedSaid, ServedCause, FindsBad}
use Rattle.trap_cli.specs.Run.{CommandOutcome, reads_input, only_mounts, ends_silent}
use Rattle.trap_cli.specs.Session.{MountsArray, MountsOnly, CallsFound}
use Rattle.trap_cli.specs.Frame.{MayChange, ChangesNothing, StaysHeld}
use Rattle.trap_cli.proofs.Framing.{changes_wider, changes_none, changes_reads, no_log_fault, mount_changes, session_changes}
use Rattle.trap_cli.proofs.Heads.{mounted_holds, held_mounted, keeps_found, keeps_like, found_out, mounting_moves}
use Rattle.trap_cli.proofs.Stopping.{stops_held}
use Rattle.trap_cli.proofs.Crashing.{unmounted_steps, session_steps}

pub passes_found : (array : Mounted) (old mid : View) → HasFound array old mid → IsTrue old.tells → MountPasses array.g old.now.disks
passes_found array old mid found told = let passed = found.passed told in record { h = passed.0; members = passed.1; own = passed.3 }

-- the member that failed in a mounted session
member_faults : (array : Mounted) (first second : ℕ) (old mid new : View) → HasFound array old mid → old.faults (second + 1) ≤ mid.faults (second + 1)
    → array.is_stopped ≡ false → IsReady array mid → ((e : ℕ) → mid.sizes e ≡ old.sizes e)
    → ((g : Geometry) (h : Head) (s : State) → IsTrue old.tells → HoldsBy g h s old.now.disks → (array.g ≡ g) × FoundLost g h array.head old mid)
    → MemberFails array first second mid new → MemberFaults first second old new
member_faults array first second old mid new found later going ready sizes held by = record {
  same = by.same;
  inside = let inside = by.inside in omega (arith, inside, array.g.within.members_most);
  rose = rose_since (old.faults (second + 1)) (mid.faults (second + 1)) (new.faults (second + 1)) later by.rose;
  there = λ none.
      let fits = (ready.sizes going).members second by.inside by.counts in
      let both : None ≡ Some fits.0 = sym none ∙ sym (sizes (second + 1)) ∙ fits.1 in cc both;
  of = λ told.
      let passed = found.passed told in
      (array.g, passed.0, passed.1, by.inside, counts array.g passed.0 passed.2);
  held = λ told g h s was.
      let known = held g h s told was in
      (subst (λ (g : Geometry). second < g.members) known.0 by.inside, counts g h known.1);
}
  where
    counts : (g : Geometry) (h : Head) → FoundLost g h array.head old mid → Counts h.lost h.rebuilt 0 second
    counts g h lost is = ⊎_elim (λ same. let rows = by.counts (lost.still second is) in omega (arith, same, rows))
        (λ none. let rows = by.counts (lost.still second is) in absurd (let zero = none.0 in omega (arith, zero, rows))) lost.mark

-- what was read by the mounted head was read by the head on the disks
pub reads_by : (g : Geometry) (h k : Head) (i : Indexed) (old : View) → k ≡ record h { lost = k.lost; rebuilt = k.rebuilt } → ReadsIndex g k i old → ReadsIndex g h i old
reads_by g h k i old same reads =
    let by = subst (λ (x : Head). ReadsIndex g x i old) same reads in
    record { of = by.of; first = by.first; base_time = by.base_time; offset = by.offset; end = by.end; time = by.time; read = by.read }

-- the record that is damaged
names_record : (array : Mounted) (offset : ℕ) (old mid new : View) (from : Stream) → HasFound array old mid → ReadsIndex array.g array.head array.index old → new.tells ≡ old.tells
    → FindsBad array offset new from → IsTrue old.tells → NamesRecord offset old new from
names_record array offset old mid new from found knows now bad told =
    let passed = found.passed told in
    record {
      g = array.g;
      head = passed.0;
      index = bad.b.index;
      found = passed.1.records.slots.head;
      since = record { read = array.index; reads = reads_by array.g passed.0 array.head array.index old passed.2.same knows; more = bad.more };
      asked = bad.asked;
      line = bad.line;
      bad = subst (λ (g : Geometry). IsDamagedFor g bad.b.index bad.asked new.now.disks offset) bad.same (bad.bad (subst IsTrue (sym now) told));
    }

-- why a mounted session ended so is why the command did
ended_cause : (array : Mounted) (ended : Ended) (old mid new : View) (from to : Stream)
    → ((e : ℕ) → old.faults e ≤ mid.faults e) → old.port_faults ≤ mid.port_faults
    → ((g : Geometry) (s : State) → IsTrue old.tells → Holds g s old.now.disks → (array.g ≡ g) × Always mid (StandsFor array s))
    → mid.tells ≡ old.tells → HasFound array old mid → ReadsIndex array.g array.head array.index old → ((offset : ℕ) → ended ≡ Stopped (serving.Array (denied.Damaged offset)) → FindsBad array offset new from) → new.tells ≡ old.tells
    → array.is_stopped ≡ false → IsReady array mid → ((e : ℕ) → mid.sizes e ≡ old.sizes e)
    → ((g : Geometry) (h : Head) (s : State) → IsTrue old.tells → HoldsBy g h s old.now.disks → (array.g ≡ g) × FoundLost g h array.head old mid)
    → ServedCause array ended mid new from to
    → SessionCause ended old new from to
ended_cause array Done old mid new from to later port stands tells found knows bad now going ready sizes held by =
    (λ told. (array.g, passes_found array old mid found told), ⊎_elim (λ at_end. inl at_end) (λ took. inr (array.g, passes_found array old mid found, took)) by)
ended_cause array (Stopped (serving.Array (denied.Refused why))) old mid new from to later port stands tells found knows bad now going ready sizes held by = absurd by
ended_cause array (Stopped (serving.Array denied.LogFault)) old mid new from to later port stands tells found knows bad now going ready sizes held by =
    (λ told. (array.g, passes_found array old mid found told), rose_since (old.faults 0) (mid.faults 0) (new.faults 0) (later 0) by)
ended_cause array (Stopped (serving.Array (denied.MemberFault first second))) old mid new from to later port stands tells found knows bad now going ready sizes held by =
    (λ told. (array.g, passes_found array old mid found told), member_faults array first second old mid new found (later (second + 1)) going ready sizes held by)
ended_cause array (Stopped (serving.Array (denied.Damaged offset))) old mid new from to later port stands tells found knows bad now going ready sizes held by = (
  λ told. (array.g, passes_found array old mid found told),
  (λ told g s holds. by (subst IsTrue (sym tells) told) s (stands g s told holds).1, names_record array offset old mid new from found knows now (bad offset refl)),
)
ended_cause array (Stopped (serving.Array denied.Stopped)) old mid new from to later port stands tells found knows bad now going ready sizes held by = absurd by
ended_cause array (Stopped serving.ReadFault) old mid new from to later port stands tells found knows bad now going ready sizes held by = (λ told. (array.g, passes_found array old mid found told), by)
ended_cause array (Stopped serving.WriteFault) old mid new from to later port stands tells found knows bad now going ready sizes held by =
    (λ told. (array.g, passes_found array old mid found told), rose_since old.port_faults mid.port_faults new.port_faults port by)
ended_cause array (Stopped serving.TooLong) old mid new from to later port stands tells found knows bad now going ready sizes held by = (λ told. (array.g, passes_found array old mid found told), by)
ended_cause array Memory old mid new from to later port stands tells found knows bad now going ready sizes held by = λ told. (array.g, passes_found array old mid found told)
ended_cause array ended old mid new from to later port stands tells found knows bad now going ready sizes held by = absurd by

-- and it isn't an end that leaves the disks
not_left : (array : Mounted) (ended : Ended) (old new : View) (from to : Stream) → ServedCause array ended old new from to → leaves_disks ended ≡ true → ⊥
not_left array Done old new from to by is = cc is
not_left array (Stopped why) old new from to by is = cc is
not_left array Memory old new from to by is = cc is
not_left array ended old new from to by is = absurd by

-- and the array was mounted
was_mounted : (array : Mounted) (ended : Ended) (why : MountFault) (old new : View) (from to : Stream) → ServedCause array ended old new from to
    → ended ≡ NotMounted why → ⊥
was_mounted array ended why old new from to by is = subst (λ (ended : Ended). ServedCause array ended old new from to) is by

-- a session that mounts and reads no line has no memory
without_memory : (ended : Ended) → only_mounts command_session ended ≡ true → ended ≡ Memory
without_memory Memory is = refl
without_memory ended is = absurd (cc is)

-- and after mounting it makes no call
pub session_mounts : {B : Type 0} (view : B → View) (a : Mounted) (first mounted last : B) (ended : Ended) → MountsArray a (view first) (view mounted)
    → (ended ≡ Memory → last ≡ mounted) → only_mounts command_session ended ≡ true → MountsOnly view command_session ended first last
session_mounts view a first mounted last ended mounts idle is = record {
  a = a;
  mounted = mounted;
  mounts = mounts;
  stays = subst (λ (bank : _). ChangesNothing (view mounted) (view bank)) (sym (idle (without_memory ended is)))
      (record { sizes = λ e. refl; changes = changes_none (view mounted) });
  says = λ told. tt;
  calls = subst (λ (ended : Ended). CallsFound view command_session a ended mounted last) (sym (without_memory ended is)) (idle (without_memory ended is));
}

-- the source is as it was where a session has no memory
not_read : (array : Mounted) (ended : Ended) (old new : View) (from to : Stream) → ServedCause array ended old new from to → (ended ≡ Memory → to ≡ from)
    → reads_input command_session ended ≡ false → to ≡ from
not_read array Done old new from to by memory is = absurd (cc is)
not_read array (Stopped why) old new from to by memory is = absurd (cc is)
not_read array Memory old new from to by memory is = memory refl
not_read array ended old new from to by memory is = absurd by

-- and that is where a mounted session says nothing
only_memory : (array : Mounted) (ended : Ended) (old new : View) (from to : Stream) → ServedCause array ended old new from to
    → ends_silent ended ≡ true → ended ≡ Memory
only_memory array Done old new from to by is = absurd (cc is)
only_memory array (Stopped why) old new from to by is = absurd (cc is)
only_memory array Memory old new from to by is = refl
only_memory array ended old new from to by is = absurd by

module _ (a b : View) (from : Stream) (mounted : Moves a b (Mounts a b) (Mounts a b)) (sizes : (e : ℕ) → b.sizes e ≡ a.sizes e)
    (contents : IsTrue a.tells → Quiet (Mounts a b) a.now b.now)
    (writes : WritesHead a b)
    (lost : (g : Geometry) (h k : Head) (s t : State) → IsTrue a.tells → HoldsBy g h s a.now.disks → HoldsBy g k t b.now.disks → FoundLost g h k a b) where
  -- The array could not be mounted.
  pub unmounted_outcome : (why : MountFault) → (IsNoLog (a.sizes 0) → why ≡ NotAnArray) → MountCause why a b
      → ((why ≡ LogFault → ⊥) → OnlyReads a b)
      → ((g : Geometry) (s : State) → IsTrue a.tells → Holds g s a.now.disks → is_refusal why ≡ false)
      → CommandOutcome command_session (NotMounted why) a b from from
  unmounted_outcome why no_log by unwritten held = record {
    cause = by;
    first = λ none. ap NotMounted (no_log none);
    unchanged = λ is. record { sizes = sizes; changes = changes_reads a b (unwritten (no_log_fault why is)) };
    unmounted = λ other is. mount_changes a b writes;
    stops = λ g s input begins. (
      held g s begins.tells begins.holds,
      record {
        within = omega arith;
        said = (contents begins.tells).said ∙ sym (append-nil a.now.said);
        holds = mounted_holds g s a b b.now.disks (contents begins.tells).disks begins.holds;
      },
    );
    frame = record {
      changes = changes_wider (MayPutHead a b) (MayChange command_session a b) a b (λ x y put. inl put) (mount_changes a b writes);
      sizes = λ e is. sizes e;
    };
    unread = λ other. refl;
    took = took_none from;
    silent = λ is told. (contents told).said;
    held = held_mounted a b b (λ told. (contents told).disks) lost (λ e. omega arith) (λ told. refl);
    steps = unmounted_steps a b from why (mounting_moves a b mounted);
  }

  module _ (c : View) (to : Stream) (array : Mounted) (ended : Ended)
      (stands : (g : Geometry) (s : State) → IsTrue a.tells → Holds g s a.now.disks → (array.g ≡ g) × Always b (StandsFor array s))
      (found : HasFound array a b) (knows : ReadsIndex array.g array.head array.index a)
      (served : Steps b c (Serves array b from) (ServedSaid array b ended from to))
      (by : ServedCause array ended b c from to)
      (same_sizes : (e : ℕ) → c.sizes e ≡ b.sizes e)
      (changes : ChangesOnly (MayTouch array) b c)
      (held : StandsAtEnd array b c)
      (took : Took from to) (idle : ended ≡ Memory → (c.now ≡ b.now) × (to ≡ from)) (bad : (offset : ℕ) → ended ≡ Stopped (serving.Array (denied.Damaged offset)) → FindsBad array offset c from)
      (going : array.is_stopped ≡ false) (ready : IsReady array b) where
    told_mid : IsTrue a.tells → IsTrue b.tells
    told_mid told = subst IsTrue (sym mounted.tells) told

    told_end : IsTrue a.tells → IsTrue c.tells
    told_end told = subst IsTrue (sym served.tells) (told_mid told)

    held_found : (g : Geometry) (h : Head) (s : State) → IsTrue a.tells → HoldsBy g h s a.now.disks → (array.g ≡ g) × FoundLost g h array.head a b
    held_found g h s told was =
        let known = stands g s told (record { head = h; by = was }) in
        let by_mid = subst (λ (g : Geometry). HoldsBy g array.head s b.now.disks) known.0 (known.1 b.now (read_is_left b (told_mid told))).by in
        (known.0, lost g h array.head s s told was by_mid)

    -- what a read gives at the end
    stops_now : (g : Geometry) (s : State) (input : List ℕ) → BeginsHeld g s input a from → SessionSaid (held_store g) ended s input a.now c.now from to
    stops_now g s input begins =
        let known = stands g s begins.tells begins.holds in
        let came = served.now c.now (read_is_left c (told_end begins.tells)) in
        stops_held array g ended s input came.origin a.now c.now from to known.0
        (came.was.torn.said ∙ (contents begins.tells).said) (came.by s known.1 input begins.left)

    -- the state at the end
    held_now : StaysHeld a c
    held_now g s h told was =
        let known = stands g s told (record { head = h; by = was }) in
        let keeps = keeps_found g h array.head a b c (held_found g h s told was).1 served.faults in
        let some = held (told_mid told) s known.1 in
        record {
          state = some.0;
          head = some.1.head;
          by = subst (λ (g : Geometry). HoldsBy g some.1.head some.0 c.now.disks) known.0 some.1.by;
          keeps = keeps_like g h array.head some.1.head a c keeps some.1.follows.lost some.1.follows.rebuilt;
        }

    -- The lines were answered.
    pub session_outcome : (IsNoLog (a.sizes 0) → ⊥) → CommandOutcome command_session ended a c from to
    session_outcome log = record {
      cause = ended_cause array ended a b c from to mounted.faults mounted.port_faults stands mounted.tells found knows bad (served.tells ∙ mounted.tells) going ready sizes held_found by;
      first = λ none. absurd (log none);
      unchanged = λ is. absurd (not_left array ended b c from to by is);
      unmounted = λ why is. absurd (was_mounted array ended why b c from to by is);
      stops = stops_now;
      frame = record {
        changes = session_changes array a b c writes found (record { now = changes.now; any_moment = changes.any_moment });
        sizes = λ e is. same_sizes e ∙ sizes e;
      };
      unread = not_read array ended b c from to by (λ is. (idle is).1);
      took = took;
      silent = λ is told. ap (λ (x : Contents). x.said) (idle (only_memory array ended b c from to by is)).0 ∙ (contents told).said;
      held = held_now;
      steps = session_steps a b c from to ended array stands (λ g s told holds. found_out g s a b array lost told (told_mid told) (stands g s told holds)) (mounting_moves a b mounted) served;
    }

-- There was no memory for the session.
pub memory_steps : (array : Mounted) (v : View) (from : Stream) → Steps v v (Serves array v from) (ServedSaid array v Memory from from)
memory_steps array v from = nothing_done v (Serves array v from) (ServedSaid array v Memory from from) (λ x was s stands input left. record {
  within = omega arith;
  said = sym (append-nil x.said);
  holds = record { head = array.head; by = (stands x was).by; follows = later_same array.head };
})

pub memory_held : (array : Mounted) (v : View) → StandsAtEnd array v v
memory_held array v told s stands = (s, record { head = array.head; by = (stands v.now (read_is_left v told)).by; follows = later_same array.head })

pub nothing_changes : (array : Mounted) (v : View) → ChangesOnly (MayTouch array) v v
nothing_changes array v = record {
  now = λ told. differs_none (MayTouch array) v.now.disks;
  any_moment = nothing_done v (DiffersIn (MayTouch array)) (DiffersIn (MayTouch array)) (λ x was. differs_none (MayTouch array) x.disks);
}
