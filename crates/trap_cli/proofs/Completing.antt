-- A run in which nothing fails.
use Rattle.std.proofs.Common.{◌≡◌, inl, inr, ⊎_elim, ℕ, ◌+◌, ◌^◌, ◌<◌, ◌≤◌, List, [], ◌++◌, length, Option, Some, None, IsTrue, sym, ap, subst, ◌∙◌, length-append, arith}
use Rattle.std.specs.Io.KnownBytes.{Consumes}
use Rattle.trap_bank.specs.Disks.{View, size_of}
use Rattle.trap_bank.specs.Calls.{IsLawful}
use Rattle.trap_bank.specs.Stream.{Stream}
use Rattle.trap_model.specs.declared.numbers.Geometry.{Geometry}
use Rattle.trap_model.specs.declared.history.State.{State}
use Rattle.trap_format.specs.declared.head.Head.{Head}
use Rattle.trap_format.specs.Checked.{first_broken, HasNumbers}
use Rattle.trap_model.specs.declared.asked.Asked.{Asked}
use Rattle.trap_array.specs.Creating.{NoneIsThere}
use Rattle.trap_mount.specs.declared.fault.CreateFault.TheVariants as creating
use Rattle.trap_array.specs.Holding.{Holds, HoldsBy}
use Rattle.trap_mount.specs.declared.fault.MountFault.{MountFault}
use Rattle.trap_array.specs.declared.fault.Denied.TheVariants as denied
use Rattle.trap_session.specs.declared.outcome.SessionFault.{SessionFault}
use Rattle.trap_session.specs.declared.outcome.SessionFault.TheVariants as serving
use Rattle.trap_session.specs.Serving.{Took}
use Rattle.trap_cli.specs.declared.command.Command.{Command}
use Rattle.trap_cli.specs.declared.command.Command.TheVariants.{Create, Session, History, Send, ReplicaCreate, ReplicaLoad, Apply, ReplicaExport}
use Rattle.trap_cli.specs.declared.outcome.Ended.{Ended}
use Rattle.trap_cli.specs.declared.outcome.Ended.TheVariants.{Done, BadGeometry, NotCreated, NotMounted, NotRetained, Stopped, Port, Memory, Replica}
use Rattle.trap_cli.specs.Faults.{mount_status}
use Rattle.trap_model.specs.Receiver.{starting}
use Rattle.trap_replica.specs.Exporting.{image_bytes}
use Rattle.trap_remote.specs.Receiving.{received_line}
use Rattle.trap_remote.specs.Ended.{loaded_line}
use Rattle.trap_remote.specs.declared.outcome.ReplicaEnd.TheVariants as remote
use Rattle.trap_cli.specs.ReplicaRuns.{ReplicaCompletes}
use Rattle.trap_cli.proofs.ReplicasLater.{fails_before, said_whole, status_is, loaded_done, applied_done, exported_done}
use Rattle.trap_cli.specs.Ended.{status_of, last_line, created_line}
use Rattle.trap_model.specs.State.{last}
use Rattle.trap_cli.specs.declared.outcome.Unretained.{Unretained}
use Rattle.trap_cli.specs.declared.outcome.Unretained.TheVariants.{NotKept, Ahead}
use Rattle.trap_array.specs.MountEnds.{MountCause}
use Rattle.trap_cli.specs.Sending.{IsOutside, SendCause}
use Rattle.trap_cli.specs.Cause.{SessionCause, HistoryCause, CreateCause}
use Rattle.trap_cli.specs.Stopping.{StopCause, MemberFaults}
use Rattle.trap_cli.specs.Said.{BeginsHeld}
use Rattle.trap_cli.specs.Run.{SaysLast, ThenLastLine, EndsAs}
use Rattle.trap_cli.proofs.Saying.{nothing_more}
use Rattle.trap_cli.specs.Completes.{output, NothingFails, IsUnused, IsDone, Completes}

-- nothing is said after what was done
said_before : (before : List ℕ) (old new : View) → SaysLast [] before old new → new.now.said ≡ before
said_before before old new last = nothing_more new.now.said before last.part last.rest last.whole last.said

-- a retained instant isn't outside
retained : (seq : ℕ) (why : Unretained) {first end : ℕ} → first ≤ seq → seq ≤ end → IsOutside seq why first end → ⊥
retained seq (NotKept bound) low high outside = omega (arith, low, outside.1)
retained seq (Ahead bound) low high outside = omega (arith, high, outside.1)

module _ (old new : View) (from to : Stream) (lawful : IsLawful old) (g : Geometry) (h : Head) (s : State) (told : IsTrue old.tells)
    (holds_by : HoldsBy g h s old.now.disks) (fails : NothingFails g (IsUnused h old.now.disks) old new from to) where
  -- an array that isn't mounted has no memory
  unmounted : (status : ℕ) (why : MountFault) → status ≡ mount_status why → MountCause why old new → status ≡ 10
  unmounted status why number by = number ∙ ap mount_status (by.complete g h s told holds_by fails.log
      (λ m inside rose. ⊎_elim (λ absent. inr absent) (λ (lost : (h.lost ≡ Some m) × (h.rebuilt ≡ 0)). inl lost.0) (fails.members m inside rose)))

  -- no member that is used fails
  no_member : (first second : ℕ) → MemberFaults first second old new → ⊥
  no_member first second member =
      let held = member.held told g h s holds_by in
      ⊎_elim (λ absent. member.there (sym (lawful.sized told (second + 1)) ∙ ap size_of absent))
      (λ (lost : (h.lost ≡ Some second) × (h.rebuilt ≡ 0)). let rows = held.1 lost.0 in let none = lost.1 in absurd (omega (arith, rows, none)))
      (fails.members second held.0 member.rose)

  -- a source can't give more than it has
  too_long : (input : List ℕ) (left : Option (List ℕ)) (bytes : List ℕ) → Consumes (Some input) left bytes → length input < 2 ^ 40 → length bytes ≡ 2 ^ 40 → ⊥
  too_long input None bytes gave short long = gave
  too_long input (Some rest) bytes gave short long =
      let whole = ap (λ (l : List ℕ). length l) gave in
      absurd (omega (arith, whole, short, long, length-append bytes rest))

  -- and no session stops
  going : (input : List ℕ) → from.left ≡ Some input → length input < 2 ^ 40 → Took from to
      → (why : SessionFault) → StopCause why old new from to → ⊥
  going input known short took (serving.Array (denied.Refused why)) by = by
  going input known short took (serving.Array denied.LogFault) by = fails.log by
  going input known short took (serving.Array (denied.MemberFault first second)) by = no_member first second by
  going input known short took (serving.Array (denied.Damaged offset)) by = by.0 told g s (record { head = h; by = holds_by })
  going input known short took (serving.Array denied.Stopped) by = by
  going input known short took serving.ReadFault by = fails.source by
  going input known short took serving.WriteFault by = fails.port by
  going input known short took serving.TooLong by =
      too_long input to.left took.bytes (subst (λ (left : Option (List ℕ)). Consumes left to.left took.bytes) known took.taken) short
      (let given = took.given in let most = by.0 in omega (arith, given, most))

  session_done : (status : ℕ) (input : List ℕ) → BeginsHeld g s input old from → length input < 2 ^ 40 → Took from to
      → (ended : Ended) → status ≡ status_of ended → SessionCause ended old new from to → ThenLastLine (Some Session) ended old new from to
      → IsDone status (output g s Session input) old new
  session_done status input begins short took Done number cause ends =
      let stops = ends.stops g s input begins in
      inl (number, said_before ends.before old new ends.last ∙ stops.said)
  session_done status input begins short took (NotMounted why) number cause ends =
      inr (unmounted status why number cause)
  session_done status input begins short took (Stopped why) number cause ends = absurd (going input begins.left short took why cause.1)
  session_done status input begins short took Memory number cause ends = inr number
  session_done status input begins short took ended number cause ends = absurd cause

  history_done : (status : ℕ) (input : List ℕ) → Holds g s old.now.disks
      → (ended : Ended) → status ≡ status_of ended → HistoryCause ended old new → ThenLastLine (Some History) ended old new from to
      → IsDone status (output g s History input) old new
  history_done status input holds Done number cause ends =
      let stops = ends.stops g s told holds in
      inl (number, said_before ends.before old new ends.last ∙ stops.said)
  history_done status input holds (NotMounted why) number cause ends = inr (unmounted status why number cause)
  history_done status input holds Port number cause ends = absurd (fails.port cause.1)
  history_done status input holds ended number cause ends = absurd cause

  send_done : (status seq : ℕ) (input : List ℕ) → Holds g s old.now.disks → s.first ≤ seq → seq ≤ last s
      → (ended : Ended) → status ≡ status_of ended → SendCause seq ended old new → ThenLastLine (Some (Send seq)) ended old new from to
      → IsDone status (output g s (Send seq) input) old new
  send_done status seq input holds low high Done number cause ends =
      let stops = ends.stops g s told holds in
      inl (number, said_before ends.before old new ends.last ∙ stops.1.said)
  send_done status seq input holds low high (NotMounted why) number cause ends = inr (unmounted status why number cause)
  send_done status seq input holds low high (NotRetained why) number cause ends =
      absurd (retained seq why low high (ends.stops g s told holds).0)
  send_done status seq input holds low high (Stopped (serving.Array denied.LogFault)) number cause ends = absurd (fails.log cause.1)
  send_done status seq input holds low high (Stopped (serving.Array (denied.Damaged offset))) number cause ends = absurd (cause.1 told g s holds)
  send_done status seq input holds low high Port number cause ends = absurd (fails.port cause.1)
  send_done status seq input holds low high Memory number cause ends = inr number
  send_done status seq input holds low high ended number cause ends = absurd cause

create_done : (status : ℕ) (asked : Asked) (g : Geometry) (old new : View) (from to : Stream) → IsTrue old.tells → HasNumbers g asked → first_broken asked ≡ None
    → NoneIsThere g old → NothingFails g (λ m. ⊥) old new from to
    → (ended : Ended) → status ≡ status_of ended → CreateCause asked ended old new → ThenLastLine (Some (Create asked)) ended old new from to
    → (status ≡ 0) × (new.now.said ≡ old.now.said ++ created_line asked.id)
create_done status asked g old new from to told numbers kept none fails Done number cause ends =
    (number, said_before ends.before old new ends.last ∙ (ends.stops told).said)
create_done status asked g old new from to told numbers kept none fails (BadGeometry field) number cause ends =
    let both : None ≡ Some field = sym kept ∙ cause in absurd (cc both)
create_done status asked g old new from to told numbers kept none fails (NotCreated (creating.Exists d)) number cause ends =
    absurd (cause.2.there (none d (omega (arith, cause.2.inside, cause.1.members, numbers.members))))
create_done status asked g old new from to told numbers kept none fails (NotCreated creating.LogFault) number cause ends = absurd (fails.log cause.2)
create_done status asked g old new from to told numbers kept none fails (NotCreated (creating.MemberFault first second)) number cause ends =
    absurd (fails.members second (omega (arith, cause.2.0, cause.1.members, numbers.members)) cause.2.1.1)
create_done status asked g old new from to told numbers kept none fails Port number cause ends = absurd (fails.port cause.1)
create_done status asked g old new from to told numbers kept none fails ended number cause ends = absurd cause

pub session_completes : (status : ℕ) (old new : View) (from to : Stream) → IsLawful old → (ended : Ended)
    → EndsAs status (Some Session) ended old new from to → Completes status (Some Session) old new from to
session_completes status old new from to lawful ended runs = λ g s input begins short fails.
    session_done old new from to lawful g begins.holds.head s begins.tells begins.holds.by fails
    status input begins short runs.took ended runs.number runs.cause (runs.told begins.tells)

-- the last line left the sizes, and no count fell
pub record Laters (mid new : View) : Type 0 where
  pub faults : (e : ℕ) → mid.faults e ≤ new.faults e
  pub port : mid.port_faults ≤ new.port_faults
  pub sizes : (e : ℕ) → new.sizes e ≡ mid.sizes e

pub run_completes : (status : ℕ) (command : Option Command) (old new : View) (from to : Stream) → IsLawful old → (ended : Ended)
    → EndsAs status command ended old new from to → (mid : View) → ReplicaCompletes command ended old mid from to → Laters mid new
    → (IsTrue old.tells → SaysLast (last_line ended) mid.now.said mid new) → Completes status command old new from to
run_completes status None old new from to lawful ended runs mid done laters last = tt
run_completes status (Some Session) old new from to lawful ended runs mid done laters last = session_completes status old new from to lawful ended runs
run_completes status (Some History) old new from to lawful ended runs mid done laters last = λ g s input told holds fails.
    history_done old new from to lawful g holds.head s told holds.by fails
    status input holds ended runs.number runs.cause (runs.told told)
run_completes status (Some (Send seq)) old new from to lawful ended runs mid done laters last = λ g s input told holds low high fails.
    send_done old new from to lawful g holds.head s told holds.by fails
    status seq input holds low high ended runs.number runs.cause (runs.told told)
run_completes status (Some (Create asked)) old new from to lawful ended runs mid done laters last = λ g told numbers kept none fails.
    create_done status asked g old new from to told numbers kept none fails ended runs.number runs.cause (runs.told told)
run_completes status (Some (ReplicaCreate asked)) old new from to lawful (Replica end) runs mid done laters last = λ kept none fails.
    let before = fails_before old mid new laters.faults laters.port laters.sizes from to fails in
    let is = done kept none before.disk before.port in
    (status_is status end old mid new runs.number last remote.Done is.0, λ told. said_whole status end old mid new runs.number last told is.0 (created_line asked.id) (is.1 told))
run_completes status (Some (ReplicaCreate asked)) old new from to lawful ended runs mid done laters last = absurd runs.cause
run_completes status (Some (ReplicaLoad asked start)) old new from to lawful (Replica end) runs mid done laters last = λ input kept none known whole fails.
    loaded_done status end old mid new runs.number last (loaded_line start.seq)
    (done input kept none known whole (fails_before old mid new laters.faults laters.port laters.sizes from to fails))
run_completes status (Some (ReplicaLoad asked start)) old new from to lawful ended runs mid done laters last = absurd runs.cause
run_completes status (Some Apply) old new from to lawful (Replica end) runs mid done laters last =
    λ s number time image input told holds known frames short are fits fails.
    applied_done status end old mid new runs.number last told (received_line (starting number time image) frames)
    (done s number time image input told holds known frames short are fits (fails_before old mid new laters.faults laters.port laters.sizes from to fails))
run_completes status (Some Apply) old new from to lawful ended runs mid done laters last = absurd runs.cause
run_completes status (Some ReplicaExport) old new from to lawful (Replica end) runs mid done laters last = λ fails s number time image told holds.
    let before = fails_before old mid new laters.faults laters.port laters.sizes from to fails in
    exported_done status end old mid new runs.number last told (image_bytes image) (done before.disk before.port s number time image told holds)
run_completes status (Some ReplicaExport) old new from to lawful ended runs mid done laters last = absurd runs.cause
