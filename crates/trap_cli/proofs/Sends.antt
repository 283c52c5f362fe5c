-- All but the last line of `send`.
use Rattle.std.proofs.Common.{◌≡◌, inl, inr, ℕ, List, [], ◌++◌, true, false, IsTrue, refl, sym, ap, ap₂, subst, ◌∙◌, append-nil, append_assoc, arith}
use Rattle.trap_bank.specs.Disks.{Contents, Disks, View, Quiet}
use Rattle.trap_bank.specs.Calls.{MayLeave, SaysPart}
use Rattle.trap_bank.specs.Steps.{Steps, Moves, Same, OnlyReads, Always}
use Rattle.trap_bank.specs.Stream.{Stream}
use Rattle.trap_bank.proofs.Moves.{then_, weaken, read_is_left}
use Rattle.trap_bank.proofs.Rising.{rose_since}
use Rattle.trap_format.specs.declared.head.Head.{Head}
use Rattle.trap_model.specs.State.{last}
use Rattle.trap_model.specs.declared.numbers.Geometry.{Geometry}
use Rattle.trap_model.specs.declared.history.State.{State}
use Rattle.trap_index.specs.Indexed.{last_seq}
use Rattle.trap_array.specs.Holding.{Holds, HoldsBy}
use Rattle.trap_array.specs.Calls.{Mounted, StandsFor}
use Rattle.trap_array.specs.Instants.{HasInstant, IsBadRecord}
use Rattle.trap_array.specs.MountEnds.{MountCause}
use Rattle.trap_array.specs.Reading.{ReadsIndex}
use Rattle.trap_array.specs.Mounting.{Mounts, FoundLost, MayPutHead, WritesHead, HasFound, IsNoLog, is_refusal}
use Rattle.trap_array.specs.declared.fault.Denied.TheVariants as denied
use Rattle.trap_mount.specs.declared.fault.MountFault.{MountFault}
use Rattle.trap_mount.specs.declared.fault.MountFault.TheVariants.{NotAnArray, LogFault}
use Rattle.trap_session.specs.declared.outcome.SessionFault.TheVariants as serving
use Rattle.trap_port.specs.Outgoing.{KeepsDisks}
use Rattle.trap_send.specs.Sending.{sent_text}
use Rattle.trap_send.specs.Sends.{Sends, SendsAll}
use Rattle.trap_send.proofs.Telling.{part_told, whole_told}
use Rattle.trap_cli.specs.declared.outcome.Ended.{Ended}
use Rattle.trap_cli.specs.declared.outcome.Ended.TheVariants.{Done, NotMounted, NotRetained, Stopped, Port, Memory}
use Rattle.trap_cli.specs.Command.{command_send}
use Rattle.trap_cli.specs.Ended.{last_line, leaves_disks}
use Rattle.trap_cli.specs.SaidOver.{SaidOver, SaidPartOver}
use Rattle.trap_cli.specs.Sending.{IsInside, IsOutside, FindsInstants, SendCause, SendSaid, SendsInside, SaysFrames, FramesCause}
use Rattle.trap_cli.specs.Left.{IsFaultFront, IsOutputFront, LeftSaid}
use Rattle.trap_cli.specs.Crash.{SendLeaves, LeavesNow, LeavesWithFront}
use Rattle.trap_cli.specs.Run.{CommandOutcome, ends_silent}
use Rattle.trap_cli.specs.Frame.{ByDisks}
use Rattle.trap_cli.specs.Session.{MountsArray, MountsOnly, CallsFound}
use Rattle.trap_cli.proofs.Saying.{took_none}
use Rattle.trap_cli.proofs.Framing.{changes_kept, changes_reads, no_log_fault, put_later, mount_changes}
use Rattle.trap_cli.proofs.Heads.{mounted_holds, held_mounted, found_out, Mounting, mounting_moves}
use Rattle.trap_cli.proofs.Stopping.{LostOn}
use Rattle.trap_cli.proofs.Sessions.{reads_by}
use Rattle.trap_cli.proofs.Crashing.{no_front}
use Rattle.trap_cli.proofs.Histories.{crash_lists}

-- of the output nothing was said
only_fault : (text p : List ℕ) → IsFaultFront p → IsOutputFront text p
only_fault text p fault = record { part = []; rest = text; front = p; whole = refl; fault = fault; is = refl }

module _ (g : Geometry) (s : State) (seq : ℕ) (old : View) where
  -- while the array is mounted
  pub mount_sends : Holds g s old.now.disks → (p : List ℕ) → IsFaultFront p → (x y : Contents) → MayLeave old x → Mounting old x.disks y.disks → SendLeaves g s seq old p y.disks
  mount_sends holds p front x y was (inl same) = inl (front, record { entry = x.disks; left = was.torn.disks; same = inl same })
  mount_sends holds p front x y was (inr (inl head)) = inl (front, record { entry = x.disks; left = was.torn.disks; same = inr head })
  mount_sends holds p front x y was (inr (inr still)) = inr (only_fault (sent_text g.id s seq) p front, still g s holds)

  -- and then a line is said
  mount_leaves : Holds g s old.now.disks → (before : List ℕ) (front : List ℕ) → IsFaultFront front → (x y : Contents) → MayLeave old x → Quiet (Mounting old) x y
      → x.said ≡ before → LeftSaid (SendLeaves g s seq old) before (record { disks = y.disks; said = y.said ++ front })
  mount_leaves holds before front fault x y was step same = record {
    part = front;
    said = ap (λ (l : List ℕ). l ++ front) (step.said ∙ same);
    leaves = mount_sends holds front fault x y was step.disks;
  }

-- The array could not be mounted.
unsent_steps : (seq : ℕ) (a b : View) (from : Stream) (why : MountFault) → Moves a b (Mounting a) (Mounting a)
    → Steps a b (LeavesNow (command_send seq) a from) (LeavesWithFront (last_line (NotMounted why)) (command_send seq) a from)
unsent_steps seq a b from why moves = weaken a b (Quiet (Mounting a)) (Quiet (Mounting a)) (LeavesNow (command_send seq) a from)
    (LeavesWithFront (last_line (NotMounted why)) (command_send seq) a from) moves
    (λ x y was step g s told holds. record {
      part = [];
      said = step.said ∙ sym (append-nil x.said);
      leaves = mount_sends g s seq a holds [] no_front x y was step.disks;
    })
    (λ x y was left step front rest is g s told holds.
    mount_leaves g s seq a holds x.said front (NotMounted why, rest, is) x y was step refl)

-- where a run of `send` ended so, whatever it said
frames_disks : (a : Mounted) (v : View) (seq : ℕ) (ended : Ended) (x y : Contents) → SaysFrames a v seq ended x y → y.disks ≡ x.disks
frames_disks a v seq Done x y says = says.disks
frames_disks a v seq (NotRetained why) x y says = ap (λ (c : Contents). c.disks) says
frames_disks a v seq (Stopped why) x y says = says.disks
frames_disks a v seq Port x y says = says.disks
frames_disks a v seq Memory x y says = ap (λ (c : Contents). c.disks) says
frames_disks a v seq ended x y says = absurd says

-- nothing was said
says_nothing : (text : List ℕ) (x y : Contents) → y ≡ x → SaysPart text x y
says_nothing text x y same = record { part = []; rest = text; whole = refl; said = ap (λ (c : Contents). c.said) same ∙ sym (append-nil x.said) }

-- all was said
says_all : (text : List ℕ) (x y : Contents) → y.said ≡ x.said ++ text → SaysPart text x y
says_all text x y said = record { part = text; rest = []; whole = append-nil text; said = said }

-- and as much was said before
part_since : (text : List ℕ) (x x' y : Contents) → x.said ≡ x'.said → SaysPart text x y → SaysPart text x' y
part_since text x x' y same says = record {
  part = says.part;
  rest = says.rest;
  whole = says.whole;
  said = says.said ∙ ap (λ (l : List ℕ). l ++ says.part) same;
}

sends_since : (a : Mounted) (v : View) (seq : ℕ) (x x' y : Contents) → x.said ≡ x'.said → y.disks ≡ x'.disks → Sends a v seq x y → Sends a v seq x' y
sends_since a v seq x x' y same disks sends = record {
  disks = disks;
  count = sends.count;
  most = sends.most;
  text = sends.text;
  frames = sends.frames;
  says = part_since sends.text x x' y same sends.says;
}

contents_same : (x y : Contents) → x.disks ≡ y.disks → x.said ≡ y.said → x ≡ y
contents_same x y disks said = ap₂ (λ (disks : Disks) (said : List ℕ). record { disks = disks; said = said }) disks said

frames_since : (a : Mounted) (v : View) (seq : ℕ) (ended : Ended) (x x' y : Contents) → x.said ≡ x'.said → y.disks ≡ x'.disks
    → SaysFrames a v seq ended x y → SaysFrames a v seq ended x' y
frames_since a v seq Done x x' y same disks says = record {
  disks = disks;
  text = says.text;
  frames = says.frames;
  said = says.said ∙ ap (λ (l : List ℕ). l ++ says.text) same;
}
frames_since a v seq (NotRetained why) x x' y same disks says = contents_same y x' disks (ap (λ (c : Contents). c.said) says ∙ same)
frames_since a v seq (Stopped why) x x' y same disks says = sends_since a v seq x x' y same disks says
frames_since a v seq Port x x' y same disks says = sends_since a v seq x x' y same disks says
frames_since a v seq Memory x x' y same disks says = contents_same y x' disks (ap (λ (c : Contents). c.said) says ∙ same)
frames_since a v seq ended x x' y same disks says = absurd says

module _ (seq : ℕ) (a b : View) (from : Stream) (mounted : Moves a b (Mounts a b) (Mounts a b)) (sizes : (e : ℕ) → b.sizes e ≡ a.sizes e)
    (contents : IsTrue a.tells → Quiet (Mounts a b) a.now b.now)
    (writes : WritesHead a b)
    (lost : (g : Geometry) (h k : Head) (s t : State) → IsTrue a.tells → HoldsBy g h s a.now.disks → HoldsBy g k t b.now.disks → FoundLost g h k a b) where
  -- The array could not be mounted.
  pub unsent_outcome : (why : MountFault) → (IsNoLog (a.sizes 0) → why ≡ NotAnArray) → MountCause why a b
      → ((why ≡ LogFault → ⊥) → OnlyReads a b)
      → ((g : Geometry) (s : State) → IsTrue a.tells → Holds g s a.now.disks → is_refusal why ≡ false)
      → CommandOutcome (command_send seq) (NotMounted why) a b from from
  unsent_outcome why no_log by unwritten held = record {
    cause = by;
    first = λ none. ap NotMounted (no_log none);
    unchanged = λ is. record { sizes = sizes; changes = changes_reads a b (unwritten (no_log_fault why is)) };
    unmounted = λ other is. mount_changes a b writes;
    stops = λ g s told holds. (
      held g s told holds,
      record {
        said = (contents told).said ∙ sym (append-nil a.now.said);
        holds = mounted_holds g s a b b.now.disks (contents told).disks holds;
      },
    );
    frame = record { changes = mount_changes a b writes; sizes = λ e is. sizes e };
    unread = λ other. refl;
    took = took_none from;
    silent = λ is told. (contents told).said;
    held = held_mounted a b b (λ told. (contents told).disks) lost (λ e. omega arith) (λ told. refl);
    steps = unsent_steps seq a b from why (mounting_moves a b mounted);
  }

  module _ (c : View) (array : Mounted) (ended : Ended)
      (stands : (g : Geometry) (s : State) → IsTrue a.tells → Holds g s a.now.disks → (array.g ≡ g) × Always b (StandsFor array s))
      (found : HasFound array a b) (knows : ReadsIndex array.g array.head array.index a) (keeps : KeepsDisks b c) (log : IsNoLog (a.sizes 0) → ⊥)
      (sent : Steps b c (SendsInside array b seq) (SaysFrames array b seq ended))
      (by : FramesCause array seq ended b c) where
    told_mid : IsTrue a.tells → IsTrue b.tells
    told_mid told = subst IsTrue (sym mounted.tells) told

    told_end : IsTrue a.tells → IsTrue c.tells
    told_end told = subst IsTrue (sym sent.tells) (told_mid told)

    was_out : (g : Geometry) (s : State) → IsTrue a.tells → Holds g s a.now.disks → LostOn g a array.head
    was_out g s told holds = found_out g s a b array lost told (told_mid told) (stands g s told holds)

    -- what is so of the index's instants is so of those that the disks' head retains
    instants : (has : ℕ → ℕ → Type 0) → has array.index.first (last_seq array.index) → FindsInstants has a
    instants has is told =
        let passed = found.passed told in
        let head = passed.2.same in (
          array.g,
          record { h = passed.0; members = passed.1; own = passed.3 },
          subst (λ (n : ℕ). has n passed.0.last) (knows.first ∙ ap (λ (h : Head). h.first) head)
              (subst (λ (n : ℕ). has array.index.first n) (knows.end ∙ ap (λ (h : Head). h.last) head) is),
        )

    inside : HasInstant array.index seq → FindsInstants (IsInside seq) a
    inside has = instants (IsInside seq) (has.low, has.high)

    -- and of those of a state that was held
    of_state : (has : ℕ → ℕ → Type 0) → has array.index.first (last_seq array.index) → (s : State) → StandsFor array s b.now.disks → has s.first (last s)
    of_state has is s known =
        subst (λ (n : ℕ). has n (last s)) (knows.first ∙ known.by.fits.head.first)
        (subst (λ (n : ℕ). has array.index.first n) (knows.end ∙ known.by.fits.head.last) is)

    -- why it ended so
    cause_by : (ended : Ended) → FramesCause array seq ended b c → SendCause seq ended a c
    cause_by Done by = inside by
    cause_by (NotRetained why) by = instants (IsOutside seq why) by
    cause_by (Stopped (serving.Array (denied.Refused why))) by = absurd by.1.fails.fails
    cause_by (Stopped (serving.Array denied.LogFault)) by = (inside by.0, rose_since (a.faults 0) (b.faults 0) (c.faults 0) (mounted.faults 0) by.1.fails.fails)
    cause_by (Stopped (serving.Array (denied.MemberFault first second))) by = absurd by.1.fails.fails
    cause_by (Stopped (serving.Array (denied.Damaged offset))) by = (
      inside by.0,
      λ told g s holds. by.1.fails.damaged offset refl (told_mid told) s (stands g s told holds).1,
      λ told.
          let passed = found.passed told in
          record {
            g = array.g;
            head = passed.0;
            index = array.index;
            found = passed.1.records.slots.head;
            reads = reads_by array.g passed.0 array.head array.index a passed.2.same knows;
            entry = by.1.entry;
            after = by.1.after;
            bad = subst (λ (disks : Disks). IsBadRecord array.g array.index by.1.entry disks offset) (sym (keeps.disks (told_mid told))) (by.1.fails.fails (told_mid told));
          },
    )
    cause_by (Stopped (serving.Array denied.Stopped)) by = absurd by.1.fails.fails
    cause_by Port by = (inside by.0, rose_since a.port_faults b.port_faults c.port_faults mounted.port_faults by.1)
    cause_by Memory by = inside by
    cause_by ended by = absurd by

    -- while frames are said
    some_told : (g : Geometry) (s : State) → IsTrue a.tells → Holds g s a.now.disks → (y z : Contents) → HasInstant array.index seq → Sends array b seq y z → SaysPart (sent_text g.id s seq) y z
    some_told g s told holds y z has sends =
        let known = stands g s told holds in
        let here = known.1 b.now (read_is_left b (told_mid told)) in
        subst (λ (g : Geometry). SaysPart (sent_text g.id s seq) y z) known.0
        (part_told array b s seq y z (told_mid told) here (of_state (IsInside seq) (has.low, has.high) s here).0 sends)

    all_told : (g : Geometry) (s : State) → IsTrue a.tells → Holds g s a.now.disks → (y z : Contents) → HasInstant array.index seq → SendsAll array b seq y z
        → z.said ≡ y.said ++ sent_text g.id s seq
    all_told g s told holds y z has sends =
        let known = stands g s told holds in
        let here = known.1 b.now (read_is_left b (told_mid told)) in
        let is = of_state (IsInside seq) (has.low, has.high) s here in
        subst (λ (g : Geometry). z.said ≡ y.said ++ sent_text g.id s seq) known.0 (whole_told array b s seq y z (told_mid told) here is.0 is.1 sends)

    -- and when they were
    end_told : (g : Geometry) (s : State) → IsTrue a.tells → Holds g s a.now.disks → (ended : Ended) (y z : Contents) → FramesCause array seq ended b c → SaysFrames array b seq ended y z
        → SaysPart (sent_text g.id s seq) y z
    end_told g s told holds Done y z by says = says_all (sent_text g.id s seq) y z (all_told g s told holds y z by says)
    end_told g s told holds (NotRetained why) y z by says = says_nothing (sent_text g.id s seq) y z says
    end_told g s told holds (Stopped (serving.Array why)) y z by says = some_told g s told holds y z by.0 says
    end_told g s told holds Port y z by says = some_told g s told holds y z by.0 says
    end_told g s told holds Memory y z by says = says_nothing (sent_text g.id s seq) y z says
    end_told g s told holds ended y z by says = absurd by

    -- what a crash leaves once frames are said
    frames_leave : (g : Geometry) (s : State) → IsTrue a.tells → Holds g s a.now.disks → (x y z : Contents) → y.said ≡ x.said → MayLeave b y → z.disks ≡ y.disks
        → SaysPart (sent_text g.id s seq) y z → (front : List ℕ) → IsFaultFront front
        → LeftSaid (SendLeaves g s seq a) x.said (record { disks = z.disks; said = z.said ++ front })
    frames_leave g s told holds x y z quiet mid same says front fault =
        let known = stands g s told holds in
        record {
          part = says.part ++ front;
          said = ap (λ (l : List ℕ). l ++ front) (says.said ∙ ap (λ (l : List ℕ). l ++ says.part) quiet) ∙ append_assoc x.said says.part front;
          leaves = inr (
            record { part = says.part; rest = says.rest; front = front; whole = says.whole; fault = fault; is = refl },
            record {
              head = array.head;
              by = subst (λ (g : Geometry). HoldsBy g array.head s z.disks) known.0
                  (subst (λ (disks : Disks). HoldsBy array.g array.head s disks) (sym same) (known.1 y mid).by);
              lost = was_out g s told holds;
            },
          );
        }

    frames_steps : Steps a c (LeavesNow (command_send seq) a from) (LeavesWithFront (last_line ended) (command_send seq) a from)
    frames_steps = then_ a b c (Quiet (Mounting a)) (Quiet (Mounting a)) (SendsInside array b seq) (SaysFrames array b seq ended)
        (LeavesNow (command_send seq) a from) (LeavesWithFront (last_line ended) (command_send seq) a from) (mounting_moves a b mounted) sent
        (λ x y was step g s told holds. record {
          part = [];
          said = step.said ∙ sym (append-nil x.said);
          leaves = mount_sends g s seq a holds [] no_front x y was step.disks;
        })
        (λ x y z was step mid says g s told holds.
        subst (λ (c : Contents). LeftSaid (SendLeaves g s seq a) x.said c) (no_more z)
        (frames_leave g s told holds x y z step.said mid says.1.disks (some_told g s told holds y z says.0 says.1) [] no_front))
        (λ x y z was step mid says front rest is g s told holds.
        frames_leave g s told holds x y z step.said mid (frames_disks array b seq ended y z says) (end_told g s told holds ended y z by says) front (ended, rest, is))
      where
        no_more : (z : Contents) → record { disks = z.disks; said = z.said ++ [] } ≡ z
        no_more z = ap (λ (said : List ℕ). record { disks = z.disks; said = said }) (append-nil z.said)

    -- what a read gives at the end
    holds_now : (g : Geometry) (s : State) → IsTrue a.tells → Holds g s a.now.disks → Holds g s c.now.disks
    holds_now g s told holds = subst (λ (disks : Disks). Holds g s disks) (sym (keeps.disks (told_mid told)))
        (mounted_holds g s a b b.now.disks (contents told).disks holds)

    part_over : (g : Geometry) (s : State) → IsTrue a.tells → Holds g s a.now.disks → (x : Contents) → x.said ≡ b.now.said → SaysPart (sent_text g.id s seq) x c.now
        → SaidPartOver g s (sent_text g.id s seq) a.now c.now
    part_over g s told holds x same says = record {
      part = part_since (sent_text g.id s seq) x a.now c.now (same ∙ (contents told).said) says;
      holds = holds_now g s told holds;
    }

    nothing_over : (g : Geometry) (s : State) → IsTrue a.tells → Holds g s a.now.disks → (x : Contents) → x.said ≡ b.now.said → c.now ≡ x → SaidOver g s [] a.now c.now
    nothing_over g s told holds x same is = record {
      said = ap (λ (c : Contents). c.said) is ∙ same ∙ (contents told).said ∙ sym (append-nil a.now.said);
      holds = holds_now g s told holds;
    }

    said_by : (g : Geometry) (s : State) → IsTrue a.tells → Holds g s a.now.disks → (ended : Ended) (x : Contents) → x.said ≡ b.now.said
        → FramesCause array seq ended b c → SaysFrames array b seq ended x c.now → SendSaid g s seq ended a.now c.now
    said_by g s told holds Done x same by says = (
      of_state (IsInside seq) (by.low, by.high) s ((stands g s told holds).1 b.now (read_is_left b (told_mid told))),
      record {
        said = all_told g s told holds x c.now by says ∙ ap (λ (l : List ℕ). l ++ sent_text g.id s seq) (same ∙ (contents told).said);
        holds = holds_now g s told holds;
      },
    )
    said_by g s told holds (NotRetained why) x same by says = (
      of_state (IsOutside seq why) by s ((stands g s told holds).1 b.now (read_is_left b (told_mid told))),
      nothing_over g s told holds x same says,
    )
    said_by g s told holds (Stopped (serving.Array (denied.Refused why))) x same by says = absurd by.1.fails.fails
    said_by g s told holds (Stopped (serving.Array denied.LogFault)) x same by says = part_over g s told holds x same (some_told g s told holds x c.now by.0 says)
    said_by g s told holds (Stopped (serving.Array (denied.MemberFault first second))) x same by says = absurd by.1.fails.fails
    said_by g s told holds (Stopped (serving.Array (denied.Damaged offset))) x same by says =
        absurd (by.1.fails.damaged offset refl (told_mid told) s (stands g s told holds).1)
    said_by g s told holds (Stopped (serving.Array denied.Stopped)) x same by says = absurd by.1.fails.fails
    said_by g s told holds Port x same by says = part_over g s told holds x same (some_told g s told holds x c.now by.0 says)
    said_by g s told holds Memory x same by says = nothing_over g s told holds x same says
    said_by g s told holds ended x same by says = absurd by

    -- nothing is said before the frames
    quiet_by : (ended : Ended) (x : Contents) → x.said ≡ b.now.said → FramesCause array seq ended b c → SaysFrames array b seq ended x c.now → ends_silent ended ≡ true → c.now.said ≡ b.now.said
    quiet_by (NotRetained why) x same by says is = ap (λ (c : Contents). c.said) says ∙ same
    quiet_by Memory x same by says is = ap (λ (c : Contents). c.said) says ∙ same
    quiet_by Done x same by says is = absurd (cc is)
    quiet_by (Stopped why) x same by says is = absurd (cc is)
    quiet_by Port x same by says is = absurd (cc is)
    quiet_by ended x same by says is = absurd by

    -- the array was mounted, so the disks may differ by its head
    not_left : (ended : Ended) → FramesCause array seq ended b c → leaves_disks ended ≡ true → ⊥
    not_left Done by is = cc is
    not_left (NotRetained why) by is = cc is
    not_left (Stopped why) by is = cc is
    not_left Port by is = cc is
    not_left Memory by is = cc is
    not_left ended by is = by

    was_mounted : (why : MountFault) → ended ≡ NotMounted why → ⊥
    was_mounted why is = subst (λ (ended : Ended). FramesCause array seq ended b c) is by

    -- The array was mounted.
    pub sent_outcome : CommandOutcome (command_send seq) ended a c from from
    sent_outcome = record {
      cause = cause_by ended by;
      first = λ none. absurd (log none);
      unchanged = λ is. absurd (not_left ended by is);
      unmounted = λ why is. absurd (was_mounted why is);
      stops = λ g s told holds.
          let came = sent.now c.now (read_is_left c (told_end told)) in
          said_by g s told holds ended came.origin came.was.torn.said by came.by;
      frame = record {
        changes = changes_kept (MayPutHead a b) (MayPutHead a c) a b c (SendsInside array b seq) (SaysFrames array b seq ended) (put_later a b c sent.faults) (mount_changes a b writes)
            sent (λ y z says. says.1.disks) (λ y z says. frames_disks array b seq ended y z says) keeps.disks;
        sizes = λ e is. keeps.sizes e ∙ sizes e;
      };
      unread = λ other. refl;
      took = took_none from;
      silent = λ is told.
          let came = sent.now c.now (read_is_left c (told_end told)) in
          quiet_by ended came.origin came.was.torn.said by came.by is ∙ (contents told).said;
      held = held_mounted a b c (λ told. (contents told).disks) lost sent.faults (λ told. keeps.disks (told_mid told));
      steps = frames_steps;
    }

-- frames are said of an array that has the instant
pub sends_steps : (a : Mounted) (seq : ℕ) (ended : Ended) (v w : View) {after : Contents → Contents → Type 0} → HasInstant a.index seq
    → Steps v w (Sends a v seq) after → ((x y : Contents) → after x y → SaysFrames a v seq ended x y)
    → Steps v w (SendsInside a v seq) (SaysFrames a v seq ended)
sends_steps a seq ended v w {after} has sent ends = weaken v w (Sends a v seq) after (SendsInside a v seq) (SaysFrames a v seq ended) sent
    (λ x y was sends. (has, sends)) (λ x y was left sends. ends x y sends)

-- after mounting no disk changed, and only frames were said
pub sent_mounts : {B : Type 0} (view : B → View) (seq : ℕ) (ended : Ended) (a : Mounted) (first mounted last : B) → MountsArray a (view first) (view mounted)
    → KeepsDisks (view mounted) (view last) → Steps (view mounted) (view last) (SendsInside a (view mounted) seq) (SaysFrames a (view mounted) seq ended)
    → CallsFound view (command_send seq) a ended mounted last → MountsOnly view (command_send seq) ended first last
sent_mounts view seq ended a first mounted last mounts keeps sent calls = record {
  a = a;
  mounted = mounted;
  mounts = mounts;
  stays = record {
    sizes = keeps.sizes;
    changes = record {
      now = keeps.disks;
      any_moment = weaken (view mounted) (view last) (SendsInside a (view mounted) seq) (SaysFrames a (view mounted) seq ended) (ByDisks Same) (ByDisks Same) sent
          (λ x y was says. says.1.disks) (λ x y was left says. frames_disks a (view mounted) seq ended x y says);
    };
  };
  says = λ told.
      let mid = subst IsTrue (sym mounts.writes.any_moment.tells) told in
      let came = sent.now (view last).now (read_is_left (view last) (subst IsTrue (sym sent.tells) mid)) in
      frames_since a (view mounted) seq ended came.origin (view mounted).now (view last).now came.was.torn.said (keeps.disks mid) came.by;
  calls = calls;
}

-- where every crash on entry leaves the state, so does one in a run of `send`
pub crash_sends : (g : Geometry) (s : State) (seq : ℕ) (old : View) → Always old (λ disks. Holds g s disks) → IsTrue old.tells → (p : List ℕ) (disks : Disks)
    → SendLeaves g s seq old p disks → Holds g s disks
crash_sends g s seq old always told p disks (inl before) = crash_lists g s old always told p disks (inl before)
crash_sends g s seq old always told p disks (inr (front, holds)) = record { head = holds.head; by = holds.by }
