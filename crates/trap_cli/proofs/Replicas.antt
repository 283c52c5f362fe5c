-- All but the last line of the commands of a replica.
use Rattle.std.proofs.Common.{◌≡◌, ◌≢◌, ◌⊎◌, inl, inr, ⊎_elim, ℕ, List, [], ◌∷◌, ◌++◌, length, get_or, Option, Some, None, IsTrue, refl, sym, ap, subst, ◌∙◌, append_assoc, append-nil, length-append, arith}
use Rattle.trap_bank.specs.Disks.{Contents, Disks, View, Quiet}
use Rattle.trap_bank.specs.Calls.{IsLawful, MayLeave, SaysPart}
use Rattle.trap_bank.specs.Steps.{Same}
use Rattle.trap_bank.specs.Stream.{Stream}
use Rattle.trap_bank.proofs.Moves.{weaken}
use Rattle.trap_format.specs.declared.shape.Shape.{Shape}
use Rattle.trap_model.specs.Receiver.{Receiver, receive, starting}
use Rattle.trap_model.specs.declared.arrival.Arrival.{Arrival}
use Rattle.trap_replica.specs.Applying.{Elsewhere}
use Rattle.trap_replica.specs.Creating.{IsReplicaGateOff, zero_blocks}
use Rattle.trap_replica.specs.Exporting.{image_bytes}
use Rattle.trap_replica.specs.OnDisk.{ReplicaHolds}
use Rattle.trap_replica.specs.declared.fault.ReplicaFault.TheVariants as fault
use Rattle.trap_session.specs.Serving.{Took}
use Rattle.trap_apply.specs.Reached.{arrivals, HoldsReached}
use Rattle.trap_apply.specs.declared.outcome.ApplyFault.TheVariants.{Stream as InStream, Replica as InReplica}
use Rattle.trap_remote.specs.Applying.{ApplyOutcome, ApplyEnds, ApplyLeavesNow, ApplySaid, LeavesWhileApplying}
use Rattle.trap_remote.specs.Receiving.{SaysSummary, received_line}
use Rattle.trap_remote.specs.Creating.{CreateOutcome, CreateEnds, ReplicaCreateCause, CreateLeavesNow}
use Rattle.trap_remote.specs.Making.{LeavesMade, MayMake, first_broken_in, HasAskedNumbers}
use Rattle.trap_remote.specs.Loading.{LoadOutcome, LoadEnds, LoadCause, LoadLeavesNow, LoadSaid, input_image, HasImageSize}
use Rattle.trap_remote.specs.Exporting.{ExportOutcome, ExportEnds, ExportSaid, ExportLeavesNow}
use Rattle.trap_remote.specs.Ended.{created_line, loaded_line}
use Rattle.trap_remote.specs.Found.{TookBytes}
use Rattle.trap_remote.specs.declared.outcome.AskedReplica.{AskedReplica}
use Rattle.trap_remote.specs.declared.outcome.Start.{Start}
use Rattle.trap_remote.specs.declared.outcome.ReplicaEnd.{ReplicaEnd}
use Rattle.trap_remote.specs.declared.outcome.ReplicaEnd.TheVariants.{Done, Memory, Port, BadGeometry, NoReplica, NotMade, NotApplied, NotExported}
use Rattle.trap_remote.proofs.Making.{unmade, making, is_made}
use Rattle.trap_remote.proofs.Loads.{unmade_left}
use Rattle.trap_cli.specs.declared.outcome.Ended.TheVariants.{Replica}
use Rattle.trap_cli.specs.Command.{command_apply, command_replica_create, command_replica_load, command_replica_export}
use Rattle.trap_cli.specs.Ended.{last_line}
use Rattle.trap_cli.specs.Frame.{StaysHeld}
use Rattle.trap_cli.specs.Left.{IsFaultFront, IsOutputFront, LeftOnEntry, LeftSaid}
use Rattle.trap_cli.specs.Crash.{LeavesNow, LeavesWithFront}
use Rattle.trap_cli.specs.ReplicaCrash.{MakingLeaves, LoadingLeaves, ApplyLeaves, ExportLeaves}
use Rattle.trap_cli.specs.Run.{CommandOutcome}
use Rattle.trap_cli.proofs.Apart.{held_apart}
use Rattle.trap_cli.proofs.Crashing.{no_front}
use Rattle.trap_cli.proofs.Lines.{front_head}
use Rattle.trap_cli.proofs.Heads.{held_same}
use Rattle.trap_cli.proofs.Saying.{took_none}

-- ---- in general
took_of : (from to : Stream) → TookBytes from to → Took from to
took_of from to took = record { bytes = took.bytes; taken = took.taken; given = took.given; most = took.most }

held_elsewhere : (a b : View) → (IsTrue a.tells → Elsewhere a.now.disks b.now.disks) → StaysHeld a b
held_elsewhere a b same = held_apart a b (λ told e low. same told e (λ is. omega (arith, low, is)))

-- of the output nothing was said
pub fault_alone : (text p : List ℕ) → IsFaultFront p → IsOutputFront text p
fault_alone text p fault = record { part = []; rest = text; front = p; whole = refl; fault = fault; is = refl }

-- a first part of it was said
part_alone : (text part rest : List ℕ) → part ++ rest ≡ text → IsOutputFront text part
part_alone text part rest whole = record { part = part; rest = rest; front = []; whole = whole; fault = no_front; is = sym (append-nil part) }

-- a front of a line that begins with all of it is all of it
whole_part : (line part rest more : List ℕ) → part ++ rest ≡ line → part ≡ line ++ more → part ≡ line
whole_part line part [] more front is = sym (append-nil part) ∙ front
whole_part line part (byte ∷ rest) more front is =
    let front_long = ap (λ (l : List ℕ). length l) front in
    let is_long = ap (λ (l : List ℕ). length l) is in
    absurd (omega (arith, front_long, is_long, length-append part (byte ∷ rest), length-append line more))

-- a fault line begins with no other letter than `f`
no_line : (byte : ℕ) (line front more : List ℕ) → byte ≢ 102 → IsFaultFront front → front ≡ (byte ∷ line) ++ more → ⊥
no_line byte line front more other fault is = ⊎_elim
    (λ (none : front ≡ []). let both : [] ≡ byte ∷ (line ++ more) = sym none ∙ is in cc both)
    (λ (f : get_or front 0 0 ≡ 102). other (sym (ap (λ (l : List ℕ). get_or l 0 0) is) ∙ f))
    (front_head front fault)

no_text : (line front more : List ℕ) → get_or line 0 0 ≢ 102 → (line ≡ [] → ⊥) → IsFaultFront front → front ≡ line ++ more → ⊥
no_text [] front more other some fault is = some refl
no_text (byte ∷ word) front more other some fault is = no_line byte word front more other fault is

-- and then a front of the fault line is said
then_front : (has : List ℕ → Disks → Type 0) (before part front : List ℕ) (y : Contents) → y.said ≡ before ++ part → has (part ++ front) y.disks
    → LeftSaid has before (record { disks = y.disks; said = y.said ++ front })
then_front has before part front y said leaves = record {
  part = part ++ front;
  said = ap (λ (l : List ℕ). l ++ front) said ∙ append_assoc before part front;
  leaves = leaves;
}

-- ---- `apply`
reached_end : (s : Shape) (r : Receiver) (frames : List Arrival) (x : Disks)
    → ReplicaHolds s (receive r frames).number (receive r frames).time (receive r frames).image x → HoldsReached s r frames x
reached_end s r [] x holds = holds
reached_end s r (f ∷ frames) x holds = inr (reached_end s (receive r (f ∷ [])) frames x holds)

module _ (s : Shape) (r : Receiver) (input : List ℕ) (a : View) where
  applying : (part : List ℕ) (disks : Disks) → LeavesWhileApplying s r input a part disks → ApplyLeaves s r input a part disks
  applying part disks (inl (none, left)) = inl (subst IsFaultFront (sym none) no_front, left)
  applying part disks (inr leaves) = inr (record {
    frames = leaves.frames;
    begins = leaves.begins;
    reached = leaves.reached;
    output = part_alone (received_line r leaves.frames) part leaves.front.0 leaves.front.1;
    whole = λ more is. leaves.whole (whole_part (received_line r leaves.frames) part leaves.front.0 more leaves.front.1 is);
  })

  -- nothing was done
  untaken : (x y : Contents) (front : List ℕ) → MayLeave a x → Quiet Same x y → IsFaultFront front
      → LeftSaid (ApplyLeaves s r input a) x.said (record { disks = y.disks; said = y.said ++ front })
  untaken x y front was same fault = then_front (ApplyLeaves s r input a) x.said [] front y (same.said ∙ sym (append-nil x.said))
      (inl (fault, subst (λ (disks : Disks). LeftOnEntry a disks) (sym same.disks) was.torn.disks))

  -- the whole summary was said
  summed : (fault : Option _) (x y : Contents) (from to : Stream) (front : List ℕ) → SaysSummary s r input fault x y from to → IsFaultFront front
      → LeftSaid (ApplyLeaves s r input a) x.said (record { disks = y.disks; said = y.said ++ front })
  summed fault x y from to front says is =
      let line = received_line r says.frames in
      then_front (ApplyLeaves s r input a) x.said line front y says.said (inr (record {
        frames = says.frames;
        begins = says.applied.begins;
        reached = reached_end s r (arrivals says.frames) y.disks says.applied.holds;
        output = record { part = line; rest = []; front = front; whole = append-nil line; fault = is; is = refl };
        whole = λ more same. says.applied.holds;
      }))

  applied : (end : ReplicaEnd) (x y : Contents) (from to : Stream) → MayLeave a x → ApplyEnds s r input end x y from to
      → (front rest : List ℕ) → front ++ rest ≡ last_line (Replica end) → LeftSaid (ApplyLeaves s r input a) x.said (record { disks = y.disks; said = y.said ++ front })
  applied Done x y from to was says front rest is = summed None x y from to front says (Replica Done, rest, is)
  applied Memory x y from to was says front rest is = untaken x y front was says (Replica Memory, rest, is)
  applied Port x y from to was says front rest is =
      let line = received_line r says.frames in
      then_front (ApplyLeaves s r input a) x.said says.part.part front y says.part.said (inr (record {
        frames = says.frames;
        begins = says.applied.begins;
        reached = reached_end s r (arrivals says.frames) y.disks says.applied.holds;
        output = record { part = says.part.part; rest = says.part.rest; front = front; whole = says.part.whole; fault = (Replica Port, rest, is); is = refl };
        whole = λ more same. says.applied.holds;
      }))
  applied (NoReplica why) x y from to was says front rest is = untaken x y front was says.1 (Replica (NoReplica why), rest, is)
  applied (NotApplied (InStream fault)) x y from to was says front rest is =
      summed (Some (InStream fault)) x y from to front says (Replica (NotApplied (InStream fault)), rest, is)
  applied (NotApplied (InReplica fault.DiskFault)) x y from to was says front rest is =
      let line = received_line r says.frames in
      let fault : IsFaultFront front = (Replica (NotApplied (InReplica fault.DiskFault)), rest, is) in
      then_front (ApplyLeaves s r input a) x.said [] front y (says.said ∙ sym (append-nil x.said)) (inr (record {
        frames = says.frames;
        begins = says.begins;
        reached = says.reached;
        output = fault_alone line front fault;
        whole = λ more same. absurd (no_text line front more (λ same. omega (arith, same)) (λ none. cc none) fault same);
      }))
  applied (NotApplied (InReplica why)) x y from to was says front rest is =
      summed (Some (InReplica why)) x y from to front says (Replica (NotApplied (InReplica why)), rest, is)
  applied end x y from to was says front rest is = absurd says

pub apply_outcome : (a b : View) (from to : Stream) (end : ReplicaEnd) → ApplyOutcome end a b from to → CommandOutcome command_apply (Replica end) a b from to
apply_outcome a b from to end does = record {
  cause = does.cause;
  first = does.first;
  unchanged = does.changes.unchanged;
  unmounted = λ why is. absurd (cc is);
  frame = record { changes = does.changes.elsewhere; sizes = λ e is. does.sizes e };
  stops = does.said;
  unread = does.source.unread;
  took = took_of from to does.source.took;
  silent = does.silent;
  held = held_elsewhere a b does.changes.elsewhere.now;
  steps = weaken a b (ApplyLeavesNow a from) (ApplySaid end a from to) (LeavesNow command_apply a from) (LeavesWithFront (last_line (Replica end)) command_apply a from) does.steps
      (λ x y was leaves s number time image input told holds left.
      let said = leaves s number time image input told holds left in
      record { part = said.part; said = said.said; leaves = applying s (starting number time image) input a said.part y.disks said.leaves })
      (λ x y was left said front rest is s number time image input told holds known.
      applied s (starting number time image) input a end x y from to was (said s number time image input told holds known) front rest is);
}

-- ---- `replica-export`
module _ (image : List (List ℕ)) (a : View) where
  exported_part : (x y : Contents) (front : List ℕ) → MayLeave a x → y.disks ≡ x.disks → SaysPart (image_bytes image) x y → IsFaultFront front
      → LeftSaid (ExportLeaves image a) x.said (record { disks = y.disks; said = y.said ++ front })
  exported_part x y front was same says fault = then_front (ExportLeaves image a) x.said says.part front y says.said (
    record { part = says.part; rest = says.rest; front = front; whole = says.whole; fault = fault; is = refl },
    subst (λ (disks : Disks). LeftOnEntry a disks) (sym same) was.torn.disks,
  )

  -- nothing was said
  unexported : (x y : Contents) (front : List ℕ) → MayLeave a x → Quiet Same x y → IsFaultFront front
      → LeftSaid (ExportLeaves image a) x.said (record { disks = y.disks; said = y.said ++ front })
  unexported x y front was same fault = exported_part x y front was same.disks
      (record { part = []; rest = image_bytes image; whole = refl; said = same.said ∙ sym (append-nil x.said) }) fault

  exported : (end : ReplicaEnd) (x y : Contents) → MayLeave a x → ExportEnds image end x y → (front rest : List ℕ) → front ++ rest ≡ last_line (Replica end)
      → LeftSaid (ExportLeaves image a) x.said (record { disks = y.disks; said = y.said ++ front })
  exported Done x y was says front rest is = exported_part x y front was says.disks
      (record { part = image_bytes image; rest = []; whole = append-nil (image_bytes image); said = says.said }) (Replica Done, rest, is)
  exported Memory x y was says front rest is = unexported x y front was says (Replica Memory, rest, is)
  exported Port x y was says front rest is = exported_part x y front was says.disks says.says (Replica Port, rest, is)
  exported (NoReplica why) x y was says front rest is = unexported x y front was says.1 (Replica (NoReplica why), rest, is)
  exported NotExported x y was says front rest is = exported_part x y front was says.disks says.says (Replica NotExported, rest, is)
  exported end x y was says front rest is = absurd says

pub export_outcome : (a b : View) (from : Stream) (end : ReplicaEnd) → ExportOutcome end a b → CommandOutcome command_replica_export (Replica end) a b from from
export_outcome a b from end does = record {
  cause = does.cause;
  first = does.first;
  unchanged = λ is. does.changes;
  unmounted = λ why is. absurd (cc is);
  frame = record { changes = does.changes.changes; sizes = λ e is. does.changes.sizes e };
  stops = does.said;
  unread = λ is. refl;
  took = took_none from;
  silent = does.silent;
  held = held_same a b does.changes.changes.now;
  steps = weaken a b (ExportLeavesNow a) (ExportSaid end a) (LeavesNow command_replica_export a from) (LeavesWithFront (last_line (Replica end)) command_replica_export a from) does.steps
      (λ x y was leaves s number time image told holds.
      let spoke = leaves s number time image told holds in
      record {
        part = spoke.says.part;
        said = spoke.says.said;
        leaves = (part_alone (image_bytes image) spoke.says.part spoke.says.rest spoke.says.whole, subst (λ (disks : Disks). LeftOnEntry a disks) (sym spoke.disks) was.torn.disks);
      })
      (λ x y was left said front rest is s number time image told holds.
      exported image a end x y was (said s number time image told holds) front rest is);
}

-- ---- `replica-create` and `replica-load`
module _ (asked : AskedReplica) (number time : ℕ) (image : Shape → List (List ℕ)) (byte : ℕ) (word : List ℕ) (other : byte ≢ 102) (a : View) (lawful : IsLawful a) where
  some : [] ≡ byte ∷ word → ⊥
  some none = cc none

  -- while nothing but the line is said
  making_part : (part : List ℕ) (disks : Disks) → LeavesMade asked number time image (byte ∷ word) a part disks → MakingLeaves asked number time image (byte ∷ word) a part disks
  making_part part disks leaves = record {
    output = part_alone (byte ∷ word) part leaves.front.0 leaves.front.1;
    broken = leaves.broken;
    there = leaves.there;
    made = leaves.made;
    whole = λ more is. leaves.whole (whole_part (byte ∷ word) part leaves.front.0 more leaves.front.1 is);
  }

  -- nothing was said but a front of a fault line
  unsaid : (x y : Contents) (front : List ℕ) → y.said ≡ x.said → LeavesMade asked number time image (byte ∷ word) a [] y.disks → IsFaultFront front
      → LeftSaid (MakingLeaves asked number time image (byte ∷ word) a) x.said (record { disks = y.disks; said = y.said ++ front })
  unsaid x y front quiet leaves fault = then_front (MakingLeaves asked number time image (byte ∷ word) a) x.said [] front y (quiet ∙ sym (append-nil x.said)) (record {
    output = fault_alone (byte ∷ word) front fault;
    broken = leaves.broken;
    there = leaves.there;
    made = leaves.made;
    whole = λ more is. absurd (no_line byte word front more other fault is);
  })

  -- nothing was done
  undone : (x y : Contents) (front : List ℕ) → MayLeave a x → Quiet Same x y → IsFaultFront front
      → LeftSaid (MakingLeaves asked number time image (byte ∷ word) a) x.said (record { disks = y.disks; said = y.said ++ front })
  undone x y front was same fault = unsaid x y front same.said (unmade asked number time image (byte ∷ word) some a lawful x y.disks was same.disks) fault

  -- it wasn't made whole
  unfinished : MayMake asked number a → (s : Shape) → HasAskedNumbers asked s → (x y : Contents) (front : List ℕ) → y.said ≡ x.said
      → IsReplicaGateOff y.disks ⊎ ReplicaHolds s number time (image s) y.disks → IsFaultFront front
      → LeftSaid (MakingLeaves asked number time image (byte ∷ word) a) x.said (record { disks = y.disks; said = y.said ++ front })
  unfinished may s is_asked x y front quiet has fault =
      unsaid x y front quiet (making asked number time image (byte ∷ word) some a lawful may.kept may.none s is_asked y.disks has) fault

  -- it was made, and a first part of the line was said
  finished : MayMake asked number a → (s : Shape) → HasAskedNumbers asked s → (x y : Contents) (part rest front : List ℕ) → part ++ rest ≡ byte ∷ word
      → y.said ≡ x.said ++ part → ReplicaHolds s number time (image s) y.disks → IsFaultFront front
      → LeftSaid (MakingLeaves asked number time image (byte ∷ word) a) x.said (record { disks = y.disks; said = y.said ++ front })
  finished may s is_asked x y part rest front whole said holds fault =
      let leaves = is_made asked number time image (byte ∷ word) some a lawful may.kept may.none s is_asked part rest y.disks whole holds in
      then_front (MakingLeaves asked number time image (byte ∷ word) a) x.said part front y said (record {
        output = record { part = part; rest = rest; front = front; whole = whole; fault = fault; is = refl };
        broken = leaves.broken;
        there = leaves.there;
        made = leaves.made;
        whole = λ more is. (s, is_asked, holds);
      })

module _ (asked : AskedReplica) (a : View) (lawful : IsLawful a) where
  created : (end : ReplicaEnd) (b : View) (x y : Contents) → ReplicaCreateCause asked end a b → MayLeave a x → CreateEnds asked end x y
      → (front rest : List ℕ) → front ++ rest ≡ last_line (Replica end)
      → LeftSaid (MakingLeaves asked 0 0 zero_blocks (created_line asked.id) a) x.said (record { disks = y.disks; said = y.said ++ front })
  created Done b x y by was ends front rest is = finished asked 0 0 zero_blocks 99 _ (λ same. omega (arith, same)) a lawful by.0 ends.shape ends.asked_ x y
      (created_line asked.id) [] front (append-nil (created_line asked.id)) ends.said ends.made.holds (Replica Done, rest, is)
  created Port b x y by was ends front rest is = finished asked 0 0 zero_blocks 99 _ (λ same. omega (arith, same)) a lawful by.0.0 ends.shape ends.asked_ x y
      ends.part.part ends.part.rest front ends.part.whole ends.part.said ends.made.holds (Replica Port, rest, is)
  created (BadGeometry field) b x y by was ends front rest is = undone asked 0 0 zero_blocks 99 _ (λ same. omega (arith, same)) a lawful x y front was ends (Replica (BadGeometry field), rest, is)
  created (NotMade (fault.Exists disk)) b x y by was ends front rest is =
      undone asked 0 0 zero_blocks 99 _ (λ same. omega (arith, same)) a lawful x y front was ends (Replica (NotMade (fault.Exists disk)), rest, is)
  created (NotMade fault.DiskFault) b x y by was ends front rest is = unfinished asked 0 0 zero_blocks 99 _ (λ same. omega (arith, same)) a lawful by.0 ends.shape ends.asked_ x y
      front ends.makes.said ends.makes.disks.disk (Replica (NotMade fault.DiskFault), rest, is)
  created (NotMade why) b x y by was ends front rest is = absurd by
  created end b x y by was ends front rest is = absurd by

  pub create_outcome : (b : View) (from : Stream) (end : ReplicaEnd) → CreateOutcome asked end a b → CommandOutcome (command_replica_create asked) (Replica end) a b from from
  create_outcome b from end does = record {
    cause = does.cause;
    first = does.first;
    unchanged = does.changes.unchanged;
    unmounted = λ why is. absurd (cc is);
    frame = record { changes = does.changes.elsewhere; sizes = λ e is. does.changes.sizes e is };
    stops = does.said;
    unread = λ is. refl;
    took = took_none from;
    silent = does.silent;
    held = held_elsewhere a b does.changes.elsewhere.now;
    steps = weaken a b (CreateLeavesNow asked a) (CreateEnds asked end) (LeavesNow (command_replica_create asked) a from)
        (LeavesWithFront (last_line (Replica end)) (command_replica_create asked) a from) does.steps
        (λ x y was said. record {
          part = said.part;
          said = said.said;
          leaves = making_part asked 0 0 zero_blocks 99 _ (λ same. omega (arith, same)) a lawful said.part y.disks said.leaves;
        })
        (λ x y was left ends front rest is. created end b x y does.cause was ends front rest is);
  }

module _ (asked : AskedReplica) (start : Start) (input : List ℕ) (a : View) (lawful : IsLawful a) where
  abbrev Loads : (List ℕ) → Disks → Type 0
  Loads = MakingLeaves asked start.seq start.time (input_image input) (loaded_line start.seq) a

  loaded : (end : ReplicaEnd) (b : View) (from to : Stream) (x y : Contents) → LoadCause asked start end a b from to → MayLeave a x → LoadEnds asked start input end x y
      → (front rest : List ℕ) → front ++ rest ≡ last_line (Replica end) → LeftSaid Loads x.said (record { disks = y.disks; said = y.said ++ front })
  loaded Done b from to x y by was ends front rest is = finished asked start.seq start.time (input_image input) 108 _ (λ same. omega (arith, same)) a lawful by.may ends.1.shape ends.1.asked_ x y
      (loaded_line start.seq) [] front (append-nil (loaded_line start.seq)) ends.1.said ends.1.made.holds (Replica Done, rest, is)
  loaded Port b from to x y by was ends front rest is = finished asked start.seq start.time (input_image input) 108 _ (λ same. omega (arith, same)) a lawful by.0.may ends.1.shape ends.1.asked_ x y
      ends.1.part.part ends.1.part.rest front ends.1.part.whole ends.1.part.said ends.1.made.holds (Replica Port, rest, is)
  loaded (BadGeometry field) b from to x y by was ends front rest is =
      undone asked start.seq start.time (input_image input) 108 _ (λ same. omega (arith, same)) a lawful x y front was ends (Replica (BadGeometry field), rest, is)
  loaded (NotMade (fault.Exists disk)) b from to x y by was ends front rest is =
      undone asked start.seq start.time (input_image input) 108 _ (λ same. omega (arith, same)) a lawful x y front was ends (Replica (NotMade (fault.Exists disk)), rest, is)
  loaded (NotMade fault.OutOfMemory) b from to x y by was ends front rest is =
      undone asked start.seq start.time (input_image input) 108 _ (λ same. omega (arith, same)) a lawful x y front was ends (Replica (NotMade fault.OutOfMemory), rest, is)
  loaded (NotMade fault.DiskFault) b from to x y by was ends front rest is =
      unfinished asked start.seq start.time (input_image input) 108 _ (λ same. omega (arith, same)) a lawful by.may ends.0.shape ends.0.asked_ x y
      front ends.0.makes.said ends.0.makes.disks.disk (Replica (NotMade fault.DiskFault), rest, is)
  loaded (NotMade fault.ReadFault) b from to x y by was ends front rest is =
      unfinished asked start.seq start.time (input_image input) 108 _ (λ same. omega (arith, same)) a lawful by.may by.may.shape by.may.asked_ x y
      front ends.said (inl ends.gate) (Replica (NotMade fault.ReadFault), rest, is)
  loaded (NotMade (fault.ShortImage at)) b from to x y by was ends front rest is =
      unfinished asked start.seq start.time (input_image input) 108 _ (λ same. omega (arith, same)) a lawful by.may by.may.shape by.may.asked_ x y
      front ends.0.said (inl ends.0.gate) (Replica (NotMade (fault.ShortImage at)), rest, is)
  loaded (NotMade (fault.LongImage at)) b from to x y by was ends front rest is =
      unfinished asked start.seq start.time (input_image input) 108 _ (λ same. omega (arith, same)) a lawful by.may by.may.shape by.may.asked_ x y
      front ends.0.said (inl ends.0.gate) (Replica (NotMade (fault.LongImage at)), rest, is)
  loaded (NotMade why) b from to x y by was ends front rest is = absurd ends
  loaded end b from to x y by was ends front rest is = absurd ends

  -- with the sentence of the image's size
  abbrev Sized : Disks → Type 0
  Sized disks = first_broken_in asked start.seq ≡ None → a.sizes 17 ≡ None → IsReplicaGateOff disks ⊎ HasImageSize asked input

  and_sized : (before : List ℕ) (c : Contents) → Sized c.disks → LeftSaid Loads before c → LeftSaid (LoadingLeaves asked start input a) before c
  and_sized before c sized said = record { part = said.part; said = said.said; leaves = record { made = said.leaves; whole = sized } }

  -- what its end leaves of it
  sized : (end : ReplicaEnd) (b : View) (from to : Stream) (x y : Contents) → LoadCause asked start end a b from to → MayLeave a x → LoadEnds asked start input end x y → Sized y.disks
  sized Done b from to x y by was ends = λ kept none. inr ends.0
  sized Port b from to x y by was ends = λ kept none. inr ends.0
  sized (BadGeometry field) b from to x y by was ends = (unmade_left asked start a lawful from input x y.disks was ends.disks).whole
  sized (NotMade (fault.Exists disk)) b from to x y by was ends = (unmade_left asked start a lawful from input x y.disks was ends.disks).whole
  sized (NotMade fault.OutOfMemory) b from to x y by was ends = (unmade_left asked start a lawful from input x y.disks was ends.disks).whole
  sized (NotMade fault.DiskFault) b from to x y by was ends = λ kept none. ends.1
  sized (NotMade fault.ReadFault) b from to x y by was ends = λ kept none. inl ends.gate
  sized (NotMade (fault.ShortImage at)) b from to x y by was ends = λ kept none. inl ends.0.gate
  sized (NotMade (fault.LongImage at)) b from to x y by was ends = λ kept none. inl ends.0.gate
  sized (NotMade why) b from to x y by was ends = absurd ends
  sized end b from to x y by was ends = absurd ends

pub load_outcome : (asked : AskedReplica) (start : Start) (a b : View) (from to : Stream) (end : ReplicaEnd) → IsLawful a → LoadOutcome asked start end a b from to
    → CommandOutcome (command_replica_load asked start) (Replica end) a b from to
load_outcome asked start a b from to end lawful does = record {
  cause = does.cause;
  first = does.first;
  unchanged = does.changes.unchanged;
  unmounted = λ why is. absurd (cc is);
  frame = record { changes = does.changes.elsewhere; sizes = λ e is. does.changes.sizes e is };
  stops = does.said;
  unread = does.source.unread;
  took = took_of from to does.source.took;
  silent = does.silent;
  held = held_elsewhere a b does.changes.elsewhere.now;
  steps = weaken a b (LoadLeavesNow asked start a from) (LoadSaid asked start end from) (LeavesNow (command_replica_load asked start) a from)
      (LeavesWithFront (last_line (Replica end)) (command_replica_load asked start) a from) does.steps
      (λ x y was leaves input known.
      let said = leaves input known in
      record {
        part = said.part;
        said = said.said;
        leaves = record {
          made = making_part asked start.seq start.time (input_image input) 108 _ (λ same. omega (arith, same)) a lawful said.part y.disks said.leaves.made;
          whole = said.leaves.whole;
        };
      })
      (λ x y was left ends front rest is input known.
      and_sized asked start input a lawful x.said (record { disks = y.disks; said = y.said ++ front })
      (sized asked start input a lawful end b from to x y does.cause was (ends input known))
      (loaded asked start input a lawful end b from to x y does.cause was (ends input known) front rest is));
}

-- ---- on entry
pub create_entry : (asked : AskedReplica) (a : View) → IsLawful a → (x : Contents) → MayLeave a x
    → LeftSaid (MakingLeaves asked 0 0 zero_blocks (created_line asked.id) a) x.said x
create_entry asked a lawful x was = record {
  part = [];
  said = sym (append-nil x.said);
  leaves = making_part asked 0 0 zero_blocks 99 _ (λ same. omega (arith, same)) a lawful [] x.disks
      (unmade asked 0 0 zero_blocks (created_line asked.id) (λ none. cc none) a lawful x x.disks was refl);
}

pub load_entry : (asked : AskedReplica) (start : Start) (input : List ℕ) (from : Stream) (a : View) → IsLawful a → (x : Contents) → MayLeave a x
    → LeftSaid (LoadingLeaves asked start input a) x.said x
load_entry asked start input from a lawful x was =
    let left = unmade_left asked start a lawful from input x x.disks was refl in
    record {
      part = [];
      said = sym (append-nil x.said);
      leaves = record {
        made = making_part asked start.seq start.time (input_image input) 108 _ (λ same. omega (arith, same)) a lawful [] x.disks left.made;
        whole = left.whole;
      };
    }
