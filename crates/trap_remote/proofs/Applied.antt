-- The command `apply`, over a replica that was mounted and frames that were taken.
use Rattle.std.proofs.Common.{◌≡◌, ◌≢◌, ◌⊎◌, inl, inr, ⊎_elim, ℕ, ◌^◌, ◌<◌, List, [], ◌++◌, length, Option, Some, None, true, false, IsTrue, refl, sym, ap, subst, ◌∙◌, append-nil}
use Rattle.trap_bank.specs.Calls.{MayLeave, SaysPart}
use Rattle.trap_bank.specs.Disks.{Contents, Disks, View, Quiet, Differs}
use Rattle.trap_bank.specs.Faults.{Rose}
use Rattle.trap_bank.specs.Steps.{Steps, Moves, Same, OnlyReads, Spoke, SpokePart}
use Rattle.trap_bank.specs.Stream.{Stream}
use Rattle.trap_bank.proofs.Moves.{then_, weaken, read_is_left}
use Rattle.trap_bank.proofs.Rising.{rose_since}
use Rattle.trap_format.specs.declared.shape.Shape.{Shape}
use Rattle.trap_model.specs.Frame.{Sent, AreFrames}
use Rattle.trap_model.specs.Frame.Ending.{AtEnd}
use Rattle.trap_model.specs.Receiver.{Receiver, starting}
use Rattle.trap_model.specs.declared.arrival.Arrival.{Arrival}
use Rattle.trap_replica.specs.Applying.{Elsewhere}
use Rattle.trap_replica.specs.Mounted.{MountedReplica, StaysBeside, receiver}
use Rattle.trap_replica.specs.Mounting.{MountsReplica}
use Rattle.trap_replica.specs.OnDisk.{HoldsImageBy}
use Rattle.trap_replica.specs.declared.fault.ReplicaFault.{ReplicaFault}
use Rattle.trap_replica.specs.declared.fault.ReplicaFault.TheVariants.{DiskFault, Stranger, NoBlock}
use Rattle.trap_apply.specs.Applies.{Applies, EndsIn, EndsApplying}
use Rattle.trap_apply.specs.Reached.{arrivals, received, HoldsReached, HasReceived}
use Rattle.trap_apply.specs.Summary.{summary_line}
use Rattle.trap_apply.specs.declared.outcome.ApplyFault.{ApplyFault}
use Rattle.trap_apply.specs.declared.outcome.ApplyFault.TheVariants.{Stream as InStream, Replica as InReplica}
use Rattle.trap_apply.specs.declared.outcome.Outcome.{Outcome}
use Rattle.trap_apply.proofs.Summaries.{summarised}
use Rattle.trap_remote.specs.Ended.{changes_no_disk, reads_source, fails_by_disk}
use Rattle.trap_remote.specs.Found.{ChangesBy, ChangesReplica, ReadsSource, IsSilent, LeftSaid, NoFaultRose, MountFirst}
use Rattle.trap_remote.specs.Stream.{AreFor, EndsInput, BeginsFor}
use Rattle.trap_remote.specs.Receiving.{GivesFrames, received_line, HoldsReceived, SaysSummary, CutsSummary, FailsApplying}
use Rattle.trap_remote.specs.Applying.{FindsAndReads, ApplyCause, ApplyEnds, LeavesWhileApplying, OverImage, ApplyLeavesNow, ApplySaid, IsApplied, ApplyCompletes, ApplyOutcome}
use Rattle.trap_remote.specs.Running.{end_of}
use Rattle.trap_remote.specs.declared.outcome.ReplicaEnd.{ReplicaEnd}
use Rattle.trap_remote.specs.declared.outcome.ReplicaEnd.TheVariants.{Port, NotApplied}
use Rattle.trap_remote.proofs.Framing.{changes_quiet, changes_reads, changes_then, changes_spoken, same_elsewhere, elsewhere_then, elsewhere_same}
use Rattle.trap_remote.proofs.Mounted.{IsReplica, OneImage, told_mounted, finds_replica, one_image}
use Rattle.trap_remote.proofs.Streams.{brings_begin, brings_took, brings_taken, reads_stream, ends_input, one_stream, no_fault}

-- the line of a summary has bytes
summary_some : (r : Receiver) (frames : List Sent) → [] ≡ received_line r frames → ⊥
summary_some r frames is = cc

-- nothing but the disk's fault ends a run before its summary
silent_fault : (why : ApplyFault) → fails_by_disk why ≡ true → why ≡ InReplica DiskFault
silent_fault (InStream fault) is = absurd cc
silent_fault (InReplica DiskFault) is = refl
silent_fault (InReplica other) is = absurd cc

-- the replica received the frames, unless its disk failed
received_by : (fault : Option ApplyFault) (frames : List Sent) (a b : MountedReplica) (old new : View) (used : ℕ) (s s' : Stream) → fault ≢ Some (InReplica DiskFault)
    → EndsApplying fault frames a b old new used s s' → HasReceived frames a b old new
received_by None frames a b old new used s s' other ends = ends.2
received_by (Some (InStream fault)) frames a b old new used s s' other ends = ends.2
received_by (Some (InReplica why)) frames a b old new used s s' other ends = by_why why (λ is. other (ap (λ (why : ReplicaFault). Some (InReplica why)) is)) ends.0 ends.3
  where
    by_why : (why : ReplicaFault) → (why ≡ DiskFault → ⊥) → (next : Sent) → EndsIn why frames next a b old new → HasReceived frames a b old new
    by_why (Stranger id) other next ends = ends.1
    by_why (NoBlock block) other next ends = ends.1
    by_why DiskFault other next ends = absurd (other refl)
    by_why why other next ends = absurd ends

-- its summary was said
ends_summary : (s : Shape) (r : Receiver) (input : List ℕ) (fault : Option ApplyFault) (x y : Contents) (from to : Stream) → fault ≢ Some (InReplica DiskFault)
    → SaysSummary s r input fault x y from to → ApplyEnds s r input (end_of fault) x y from to
ends_summary s r input None x y from to other says = says
ends_summary s r input (Some (InStream fault)) x y from to other says = says
ends_summary s r input (Some (InReplica DiskFault)) x y from to other says = absurd (other refl)
ends_summary s r input (Some (InReplica why)) x y from to other says = says

module _ (r b : MountedReplica) (outcome : Outcome) (a m n : View) (from to : Stream) (mounts : MountsReplica r a m) (reads : OnlyReads a m)
    (present : ((n : ℕ) → a.sizes 17 ≡ Some n → n < 32) → ⊥)
    (applies : Applies r b outcome m n from to) (stays : StaysBeside r b m n) where
  abbrev one : OneImage r a m
  one = one_image r a m mounts reads

  abbrev own : Receiver
  own = receiver r one.own

  abbrev delivered : List Sent
  delivered = applies.any_moment.0

  told_applied : IsTrue a.tells → IsTrue n.tells
  told_applied told = subst IsTrue (sym stays.elsewhere.tells) (told_mounted r a m mounts reads told)

  -- what is so of the replica's own image is so of whichever disk 17 held
  over : (P : Shape → Receiver → List ℕ → Type 0) → ((input : List ℕ) → IsTrue a.tells → from.left ≡ Some input → P r.store.shape own input) → OverImage P a from
  over P has shape number time image input told holds known =
      let is = one.only shape number time image told holds in
      subst (λ (z : Shape). P z (starting number time image) input) is.shape
      (subst (λ (q : Receiver). P r.store.shape q input) (own_is is) (has input told known))
    where
      own_is : IsReplica r one.own shape number time image → own ≡ starting number time image
      own_is is =
          ap (λ (held : List Arrival). record { number = r.store.number; time = r.store.time; image = one.own; held = held }) mounts.held
          ∙ ap (λ (k : ℕ). starting k r.store.time one.own) is.number_
          ∙ ap (λ (k : ℕ). starting number k one.own) is.time_
          ∙ ap (λ (i : List (List ℕ)). starting number time i) is.image_

  begins_delivered : (input : List ℕ) → from.left ≡ Some input → BeginsFor r.store.shape input delivered
  begins_delivered input known = brings_begin r.store.shape delivered input from to known applies.any_moment.1

  begins_taken : (input : List ℕ) → from.left ≡ Some input → BeginsFor r.store.shape input applies.frames
  begins_taken input known = brings_begin r.store.shape applies.frames input from applies.mid known
      (brings_taken applies.frames r b m n applies.used from applies.mid to applies.taken applies.fits)

  -- while frames are taken
  abbrev Reaches : Disks → Disks → Type 0
  Reaches x y = HoldsReached r.store.shape own (arrivals delivered) y

  reaches : Moves m n Reaches Reaches
  reaches = applies.any_moment.2 one.own one.mirrors

  -- nothing was said before the summary
  abbrev Begun : Contents → Contents → Type 0
  Begun x y = (y.said ≡ x.said) × ((y.disks ≡ x.disks) ⊎ HoldsReached r.store.shape own (arrivals delivered) y.disks)

  abbrev Taken : Contents → Contents → Type 0
  Taken x y = (y.said ≡ x.said) × HoldsReached r.store.shape own (arrivals delivered) y.disks

  begun_steps : Steps a n Begun Taken
  begun_steps = then_ a m n (Quiet Same) (Quiet Same) (Quiet Reaches) (Quiet Reaches) Begun Taken reads.moves reaches
      (λ x y was same. (same.said, inl same.disks))
      (λ x y z was same mid step. (step.said ∙ same.said, inr step.disks))
      (λ x y z was same mid step. (step.said ∙ same.said, step.disks))

  begun_leaves : (x y : Contents) → MayLeave a x → Begun x y → ApplyLeavesNow a from x y
  begun_leaves x y was begun = over (λ s r input. LeftSaid (LeavesWhileApplying s r input a) x.said y) (λ input told known. record {
    part = [];
    said = begun.0 ∙ sym (append-nil x.said);
    leaves = ⊎_elim
        (λ (same : y.disks ≡ x.disks). inl (refl, subst (λ (disks : Disks). Differs a.unsynced a.now.disks disks) (sym same) was.torn.disks))
        (λ (reached : HoldsReached r.store.shape own (arrivals delivered) y.disks). inr (record {
          frames = delivered;
          begins = begins_delivered input known;
          reached = reached;
          front = (received_line own delivered, refl);
          whole = λ is. absurd (summary_some own delivered is);
        })) begun.1;
  })

  -- what a read gives when the frames are taken
  said_taken : IsTrue a.tells → n.now.said ≡ a.now.said
  said_taken told = (stays.touches (told_mounted r a m mounts reads told)).said ∙ ap (λ (c : Contents). c.said) (reads.same told)

  reached_now : IsTrue a.tells → HoldsReached r.store.shape own (arrivals delivered) n.now.disks
  reached_now told = (reaches.now n.now (read_is_left n (told_applied told))).by.disks

  abbrev Apart : ChangesBy Elsewhere a n
  Apart = changes_then Same Elsewhere Elsewhere a m n (λ x y z same more. elsewhere_then x y z (same_elsewhere x y same) more) same_elsewhere
      (changes_reads a m reads) (changes_quiet Elsewhere m n (λ told. (stays.touches told).disks) stays.elsewhere)

  read_source : (ended : ReplicaEnd) → reads_source ended ≡ true → ReadsSource ended from to
  read_source ended reads = record {
    took = brings_took r.store.shape delivered from to applies.any_moment.1;
    unread = λ is. let both : true ≡ false = sym reads ∙ is in absurd (cc both);
  }

  not_first : (ended : ReplicaEnd) → MountFirst ended a
  not_first ended small = absurd (present small)

  disk_rose : Rose (m.faults 17) (n.faults 17) → Rose (a.faults 17) (n.faults 17)
  disk_rose rose = rose_since (a.faults 17) (m.faults 17) (n.faults 17) (reads.moves.faults 17) rose

  -- The replica's disk failed.
  module _ (fails : outcome.fault ≡ Some (InReplica DiskFault)) where
    fails_in : EndsApplying (Some (InReplica DiskFault)) applies.frames r b m n applies.used applies.mid to
    fails_in = subst (λ (fault : Option ApplyFault). EndsApplying fault applies.frames r b m n applies.used applies.mid to) fails applies.ends

    rose : Rose (a.faults 17) (n.faults 17)
    rose = disk_rose fails_in.3.cause

    failing : (x y : Contents) → y.said ≡ x.said → HoldsReached r.store.shape own (arrivals delivered) y.disks → (input : List ℕ) → from.left ≡ Some input
        → FailsApplying r.store.shape own input x y
    failing x y quiet reached input known = record { frames = delivered; begins = begins_delivered input known; reached = reached; said = quiet }

    pub disk_outcome : ApplyOutcome (NotApplied (InReplica DiskFault)) a n from to
    disk_outcome = record {
      cause = (
        record {
          shape = r.store.shape;
          found = finds_replica r a m mounts reads;
          frames = applies.frames;
          reads = reads_stream applies.frames r b m n applies.used from applies.mid to applies.taken applies.fits (Some (InReplica DiskFault)) fails_in;
        },
        λ is. rose,
      );
      first = not_first (NotApplied (InReplica DiskFault));
      said = over (λ s r input. FailsApplying s r input a.now n.now) (λ input told known. failing a.now n.now (said_taken told) (reached_now told) input known);
      silent = λ is told. said_taken told;
      changes = record { sizes = λ e other. stays.sizes e ∙ reads.sizes e; elsewhere = Apart; unchanged = λ is. absurd (cc) };
      sizes = λ e. stays.sizes e ∙ reads.sizes e;
      source = read_source (NotApplied (InReplica DiskFault)) refl;
      steps = weaken a n Begun Taken (ApplyLeavesNow a from) (ApplySaid (NotApplied (InReplica DiskFault)) a from to) begun_steps begun_leaves
          (λ x y was left taken. over (λ s r input. FailsApplying s r input x y) (λ input told known. failing x y taken.0 taken.1 input known));
      completes = λ shape number time image input told holds known frames short are fits nothing. absurd (nothing.disk rose);
      calls = λ is. absurd (cc);
    }

  -- The summary was said, or the port failed in it.
  module _ (fault : Option ApplyFault) (is_fault : outcome.fault ≡ fault) (other : fault ≢ Some (InReplica DiskFault)) (z : View) where
    ends : EndsApplying fault applies.frames r b m n applies.used applies.mid to
    ends = subst (λ (fault : Option ApplyFault). EndsApplying fault applies.frames r b m n applies.used applies.mid to) is_fault applies.ends

    has : HasReceived applies.frames r b m n
    has = received_by fault applies.frames r b m n applies.used applies.mid to other ends

    abbrev line : List ℕ
    line = summary_line outcome.summary

    line_is : summary_line outcome.summary ≡ received_line own applies.frames
    line_is = ap summary_line (summarised own (arrivals applies.frames) b (received own applies.frames).image outcome.summary (applies.summary one.own) (has.numbers one.own))

    -- every crash leaves exactly what the receiver has
    exact : (y : Contents) → MayLeave n y → HoldsReceived r.store.shape own applies.frames y.disks
    exact y left =
        let last = received own applies.frames in
        let holds = (has.mirrors one.own one.mirrors).holds y left in
        let same = has.numbers one.own in (
          b.store.block,
          subst (λ (k : ℕ). HoldsImageBy r.store.shape b.store.block last.number k last.image y.disks) (ap (λ (q : Receiver). q.time) same)
              (subst (λ (k : ℕ). HoldsImageBy r.store.shape b.store.block k b.store.time last.image y.disks) (ap (λ (q : Receiver). q.number) same)
              (subst (λ (shape : Shape). HoldsImageBy shape b.store.block b.store.number b.store.time last.image y.disks) stays.shape holds)),
        )

    -- what was reached by these frames
    abbrev Received : Contents → Contents → Type 0
    Received x y = (y.said ≡ x.said) × HoldsReached r.store.shape own (arrivals applies.frames) y.disks × HoldsReceived r.store.shape own applies.frames y.disks

    received_steps : Steps a n Begun Received
    received_steps = then_ a m n (Quiet Same) (Quiet Same) (Quiet Reaches)
        (Quiet (λ x y. HoldsReached r.store.shape own (arrivals applies.frames) y × HoldsReceived r.store.shape own applies.frames y))
        Begun Received reads.moves both
        (λ x y was same. (same.said, inl same.disks))
        (λ x y w was same mid step. (step.said ∙ same.said, inr step.disks))
        (λ x y w was same mid step. (step.said ∙ same.said, step.disks.0, step.disks.1))
      where
        both : Steps m n (Quiet Reaches) (Quiet (λ x y. HoldsReached r.store.shape own (arrivals applies.frames) y × HoldsReceived r.store.shape own applies.frames y))
        both = record {
          tells = reaches.tells;
          faults = reaches.faults;
          port_faults = reaches.port_faults;
          later = reaches.later;
          in_run = reaches.in_run;
          now = λ y left.
              let came = (has.any_moment one.own one.mirrors).now y left in
              record { origin = came.origin; was = came.was; by = record { disks = (came.by.disks, exact y left); said = came.by.said } };
        }

    is_applied : (input : List ℕ) → from.left ≡ Some input → (disks : Disks) → HoldsReceived r.store.shape own applies.frames disks
        → GivesFrames r.store.shape own input applies.frames fault disks from to
    is_applied input known disks holds = record {
      begins = begins_taken input known;
      ends = ends_input applies.frames r b m n applies.used from applies.mid to applies.taken applies.fits input known fault ends;
      holds = holds;
    }

    says_whole : (x w : Contents) → HoldsReceived r.store.shape own applies.frames w.disks → w.said ≡ x.said ++ line → (input : List ℕ) → from.left ≡ Some input
        → ApplyEnds r.store.shape own input (end_of fault) x w from to
    says_whole x w holds said input known = ends_summary r.store.shape own input fault x w from to other (record {
      frames = applies.frames;
      applied = is_applied input known w.disks holds;
      said = said ∙ ap (λ (l : List ℕ). x.said ++ l) line_is;
    })

    says_part : (x w : Contents) → HoldsReceived r.store.shape own applies.frames w.disks → SaysPart line x w → (input : List ℕ) → from.left ≡ Some input
        → CutsSummary r.store.shape own input x w from to
    says_part x w holds part input known = record {
      fault = fault;
      other = other;
      frames = applies.frames;
      applied = is_applied input known w.disks holds;
      part = record { part = part.part; rest = part.rest; whole = part.whole ∙ line_is; said = part.said };
    }

    module _ (spoke : Steps n z (SpokePart line) (SpokePart line)) (sizes : (e : ℕ) → z.sizes e ≡ n.sizes e) (disks : IsTrue n.tells → z.now.disks ≡ n.now.disks) where
      holds_now : IsTrue a.tells → HoldsReceived r.store.shape own applies.frames z.now.disks
      holds_now told = subst (λ (disks : Disks). HoldsReceived r.store.shape own applies.frames disks) (sym (disks (told_applied told)))
          (exact n.now (read_is_left n (told_applied told)))

      framed : (ended : ReplicaEnd) → changes_no_disk ended ≡ false → ChangesReplica ended a z
      framed ended changed = record {
        sizes = λ e other. sizes e ∙ stays.sizes e ∙ reads.sizes e;
        elsewhere = changes_then Elsewhere Same Elsewhere a n z elsewhere_same (λ x y same. same) Apart (changes_spoken n z line spoke disks);
        unchanged = λ is. let both : false ≡ true = sym changed ∙ is in absurd (cc both);
      }

      -- the line is said, as far as it is
      spoken_leaves : (x y w : Contents) → Received x y → SpokePart line y w → ApplyLeavesNow a from x w
      spoken_leaves x y w got said = over (λ s r input. LeftSaid (LeavesWhileApplying s r input a) x.said w) (λ input told known. record {
        part = said.says.part;
        said = said.says.said ∙ ap (λ (l : List ℕ). l ++ said.says.part) got.0;
        leaves = inr (record {
          frames = applies.frames;
          begins = begins_taken input known;
          reached = subst (λ (disks : Disks). HoldsReached r.store.shape own (arrivals applies.frames) disks) (sym said.disks) got.1;
          front = (said.says.rest, said.says.whole ∙ line_is);
          whole = λ is. subst (λ (disks : Disks). HoldsReceived r.store.shape own applies.frames disks) (sym said.disks) got.2;
        });
      })

      all_steps : (ended : ReplicaEnd) (spoken : Contents → Contents → Type 0) → Steps n z (SpokePart line) spoken
          → ((x y w : Contents) → Received x y → spoken y w → (input : List ℕ) → from.left ≡ Some input → ApplyEnds r.store.shape own input ended x w from to)
          → Steps a z (ApplyLeavesNow a from) (ApplySaid ended a from to)
      all_steps ended spoken saying at_end = then_ a n z Begun Received (SpokePart line) spoken (ApplyLeavesNow a from) (ApplySaid ended a from to) received_steps saying
          begun_leaves
          (λ x y w was got mid said. spoken_leaves x y w got said)
          (λ x y w was got mid said. over (λ s r input. ApplyEnds s r input ended x w from to) (λ input told known. at_end x y w got said input known))

      found : FindsAndReads fault a from to
      found = record {
        shape = r.store.shape;
        found = finds_replica r a m mounts reads;
        frames = applies.frames;
        reads = reads_stream applies.frames r b m n applies.used from applies.mid to applies.taken applies.fits fault ends;
      }

      port_rose : Rose n.port_faults z.port_faults → Rose a.port_faults z.port_faults
      port_rose rose = rose_since a.port_faults n.port_faults z.port_faults begun_steps.port_faults rose

      -- The whole line was said.
      module _ (whole : Steps n z (SpokePart line) (Spoke line)) (said : IsTrue n.tells → z.now.said ≡ n.now.said ++ line) where
        said_whole : IsTrue a.tells → z.now.said ≡ a.now.said ++ line
        said_whole told = said (told_applied told) ∙ ap (λ (l : List ℕ). l ++ line) (said_taken told)

        completes_whole : ApplyCompletes (end_of fault) a z from to
        completes_whole = over (λ s r input. (frames : List Sent) → length input < 2 ^ 40 → AreFrames s.block input frames AtEnd → AreFor s frames → NoFaultRose a z from to
            → IsApplied (end_of fault) (received_line r frames) a z)
            (λ input told known all short are fits nothing. done input told known all short are fits nothing fault refl)
          where
            done : (input : List ℕ) → IsTrue a.tells → from.left ≡ Some input → (all : List Sent) → length input < 2 ^ 40 → AreFrames r.store.shape.block input all AtEnd
                → AreFor r.store.shape all → NoFaultRose a z from to → (f : Option ApplyFault) → fault ≡ f → IsApplied (end_of f) (received_line own all) a z
            done input told known all short are fits nothing None is =
                let ended = subst (λ (f : Option ApplyFault). EndsInput r.store.shape input applies.frames f from to) is
                (ends_input applies.frames r b m n applies.used from applies.mid to applies.taken applies.fits input known fault ends) in
                inl (
                  refl,
                  subst (λ (frames : List Sent). z.now.said ≡ a.now.said ++ received_line own frames) (one_stream r.store.shape input all are fits short applies.frames ended)
                      (said_whole told ∙ ap (λ (l : List ℕ). a.now.said ++ l) line_is),
                )
            done input told known all short are fits nothing (Some why) is =
                let ended = subst (λ (f : Option ApplyFault). EndsInput r.store.shape input applies.frames f from to) is
                (ends_input applies.frames r b m n applies.used from applies.mid to applies.taken applies.fits input known fault ends) in
                absurd (no_fault r.store.shape input all are fits short applies.frames why from to known nothing.source (λ disk. other (is ∙ ap Some disk)) ended)

        cause_whole : (f : Option ApplyFault) → fault ≡ f → FindsAndReads f a from to → ApplyCause (end_of f) a z from to
        cause_whole None is found = found
        cause_whole (Some why) is found = (found, λ disk. absurd (other (is ∙ ap Some disk)))

        silent_whole : (f : Option ApplyFault) → fault ≡ f → IsSilent (end_of f) a z
        silent_whole None is silent told = absurd (cc)
        silent_whole (Some why) is silent told = absurd (other (is ∙ ap Some (silent_fault why silent)))

        changed : (f : Option ApplyFault) → changes_no_disk (end_of f) ≡ false
        changed None = refl
        changed (Some why) = refl

        read : (f : Option ApplyFault) → reads_source (end_of f) ≡ true
        read None = refl
        read (Some why) = refl

        pub whole_outcome : ApplyOutcome (end_of fault) a z from to
        whole_outcome = record {
          cause = cause_whole fault refl found;
          first = not_first (end_of fault);
          said = over (λ s r input. ApplyEnds s r input (end_of fault) a.now z.now from to) (λ input told known. says_whole a.now z.now (holds_now told) (said_whole told) input known);
          silent = silent_whole fault refl;
          changes = framed (end_of fault) (changed fault);
          sizes = λ e. sizes e ∙ stays.sizes e ∙ reads.sizes e;
          source = read_source (end_of fault) (read fault);
          steps = all_steps (end_of fault) (Spoke line) whole (λ x y w got spoke input known.
              says_whole x w (subst (λ (disks : Disks). HoldsReceived r.store.shape own applies.frames disks) (sym spoke.disks) got.2)
              (spoke.said ∙ ap (λ (l : List ℕ). l ++ line) got.0) input known);
          completes = completes_whole;
          calls = λ is. let both : false ≡ true = sym (changed fault) ∙ is in absurd (cc both);
        }

      -- The port failed in it.
      module _ (rose : Rose n.port_faults z.port_faults) (part : IsTrue n.tells → SaysPart line n.now z.now) where
        part_now : IsTrue a.tells → SaysPart line a.now z.now
        part_now told =
            let some = part (told_applied told) in
            record { part = some.part; rest = some.rest; whole = some.whole; said = some.said ∙ ap (λ (l : List ℕ). l ++ some.part) (said_taken told) }

        pub cut_outcome : ApplyOutcome Port a z from to
        cut_outcome = record {
          cause = (fault, other, found, port_rose rose);
          first = not_first Port;
          said = over (λ s r input. CutsSummary s r input a.now z.now from to) (λ input told known. says_part a.now z.now (holds_now told) (part_now told) input known);
          silent = λ is told. absurd (cc);
          changes = framed Port refl;
          sizes = λ e. sizes e ∙ stays.sizes e ∙ reads.sizes e;
          source = read_source Port refl;
          steps = all_steps Port (SpokePart line) spoke (λ x y w got said input known.
              says_part x w (subst (λ (disks : Disks). HoldsReceived r.store.shape own applies.frames disks) (sym said.disks) got.2)
              (record { part = said.says.part; rest = said.says.rest; whole = said.says.whole; said = said.says.said ∙ ap (λ (l : List ℕ). l ++ said.says.part) got.0 }) input known);
          completes = λ shape number time image input told holds known frames short are fits nothing. absurd (nothing.port (port_rose rose));
          calls = λ is. absurd (cc);
        }
