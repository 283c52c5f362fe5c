-- The command `replica-load`.
use Rattle.std.proofs.Common.{◌≡◌, ◌≢◌, ◌↔◌, ◌⊎◌, inl, inr, ⊎_elim, ℕ, ◌+◌, ◌*◌, ◌^◌, ◌≤◌, List, [], ◌++◌, length, length-append, append-nil, Option, Some, None, Result, Ok, Err, Bool, true, false, not, if◌then◌else◌, IsTrue, refl, sym, ap, ap₂, subst, ◌∙◌, arith}
use Rattle.std.specs.Io.KnownBytes.{Consumes, IsAtEnd}
use Rattle.trap_bank.specs.Called.{CalledTimes, CalledAtMost}
use Rattle.trap_bank.specs.Calls.{IsLawful, MayLeave, Says}
use Rattle.trap_bank.specs.Disks.{Contents, Disks, View, Quiet}
use Rattle.trap_bank.specs.Faults.{Rose}
use Rattle.trap_bank.specs.Filling.{CountsBytes, IsInputEnd}
use Rattle.trap_bank.specs.Steps.{Steps, Moves, Same, Spoke, SpokePart, Always}
use Rattle.trap_bank.specs.Stream.{Stream}
use Rattle.trap_bank.proofs.Called.{called_once, called_at_most, at_most_then, at_most_more, not_called}
use Rattle.trap_bank.proofs.Filled.{counts_none}
use Rattle.trap_bank.proofs.Moves.{then_, weaken, moves_weaken, nothing_done, read_is_left, say_steps, said_steps}
use Rattle.trap_bank.proofs.OnlyReads.{reads_none}
use Rattle.trap_bank.proofs.Regions.{absent_disk}
use Rattle.trap_bank.proofs.Rising.{rose_since}
use Rattle.std.specs.Prelude.{nat_le}
use Rattle.std.proofs.lemmas.Bool.Decides.{nat_tests}
use Rattle.trap_model.specs.Limits.{is_block_size}
use Rattle.trap_format.specs.Checked.{is_between}
use Rattle.trap_format.specs.ReplicaDisk.{replica_size, first_broken_shape}
use Rattle.trap_format.specs.declared.limits.Field.TheVariants.{Block, Volume, Seq}
use Rattle.trap_format.specs.declared.limits.Field.{Field}
use Rattle.trap_format.specs.declared.shape.Shape.{Shape}
use Rattle.trap_replica.specs.Applying.{Elsewhere}
use Rattle.trap_replica.specs.Creating.{MakesReplica, HasMade, MakesDisk, ShutsReplica, IsReplicaGateOff}
use Rattle.trap_replica.specs.Loading.{Loads, IsLoadFault, image_of, image_size}
use Rattle.trap_replica.specs.OnDisk.{ReplicaHolds}
use Rattle.trap_replica.specs.declared.fault.ReplicaFault.{ReplicaFault}
use Rattle.trap_replica.specs.declared.fault.ReplicaFault.TheVariants.{Exists, DiskFault, ReadFault, ShortImage, LongImage, OutOfMemory}
use Rattle.trap_replica.proofs.LoadedImage.{image_small}
use Rattle.trap_replica.proofs.LoadedReplica.{stays_off}
use Rattle.trap_replica.proofs.NewReplica.{absent_off}
use Rattle.trap_remote.specs.Ended.{loaded_line, makes_nothing, is_disk_fault, reads_source}
use Rattle.trap_remote.specs.Found.{TookBytes, ReadsSource, NoFaultRose}
use Rattle.trap_remote.specs.Making.{first_broken_in, HasAskedNumbers, MayMake, MakeFirst}
use Rattle.trap_remote.specs.Loaded.{input_image, LeavesGateOff, HasImageSize, NotLoadedEnds, LoadEnds, LeavesLoaded, LoadLeaves}
use Rattle.trap_remote.specs.Loading.{HasLoadedDisk, FailsLoading, NotLoadedCause, LoadLeavesNow, LoadSaid, LoadTaken, LoadOutcome}
use Rattle.trap_remote.specs.declared.outcome.AskedReplica.{AskedReplica}
use Rattle.trap_remote.specs.declared.outcome.Start.{Start}
use Rattle.trap_remote.specs.declared.outcome.ReplicaEnd.{ReplicaEnd}
use Rattle.trap_remote.specs.declared.outcome.ReplicaEnd.TheVariants.{Done, Port, BadGeometry, NotMade}
use Rattle.trap_remote.proofs.Framing.{reads_replica, consumes_none, took_none}
use Rattle.trap_remote.proofs.Making.{absent_gate, unmade, making, is_made, made_changes, unmade_changes, made_now}
use Rattle.trap_remote.proofs.Streams.{known_front}

-- the line has bytes
line_some : (seq : ℕ) → [] ≡ loaded_line seq → ⊥
line_some seq is = cc

-- all of known bytes was taken
known_whole : (input : List ℕ) (left new : Option (List ℕ)) (bytes : List ℕ) → left ≡ Some input → Consumes left new bytes → IsAtEnd new → input ≡ bytes
known_whole input None new bytes is consumes end = absurd cc
known_whole input (Some all) None bytes is consumes end = absurd consumes
known_whole input (Some all) (Some rest) bytes is consumes end =
    let same : input ≡ all = cc in same ∙ consumes ∙ ap (λ (l : List ℕ). bytes ++ l) end ∙ append-nil bytes

-- an input that begins with these bytes, and is these where they were all
pub record Comes (bytes input : List ℕ) (to : Stream) : Type 0 where
  pub front : (rest : List ℕ) × (input ≡ bytes ++ rest)
  pub whole : IsInputEnd to → input ≡ bytes

-- the bytes themselves
comes_taken : (bytes : List ℕ) (to : Stream) → Comes bytes bytes to
comes_taken bytes to = record { front = ([], sym (append-nil bytes)); whole = λ end. refl }

-- while a replica is loaded: the gate of disk 17 is off, or it holds these bytes, which were the whole input
pub record LoadsWhole (s : Shape) (number time : ℕ) (bytes : List ℕ) (to : Stream) (old new : Disks) : Type 0 where
  pub others : Elsewhere old new
  pub disk : IsReplicaGateOff new ⊎ (ReplicaHolds s number time (image_of s bytes) new × (length bytes ≡ image_size s) × IsInputEnd to)

-- another fault than the disk's
apart : (why : ReplicaFault) → is_disk_fault why ≡ false → why ≢ DiskFault
apart why other is = let both : true ≡ false = sym (ap is_disk_fault is) ∙ other in absurd cc

module _ (asked : AskedReplica) (start : Start) (a : View) (lawful : IsLawful a) (from : Stream) where
  -- a run that ended before anything was made
  unmade_loads : (ended : ReplicaEnd) → ((input : List ℕ) (x y : Contents) → Quiet Same x y → LoadEnds asked start input ended x y)
      → Steps a a (LoadLeavesNow asked start a from) (LoadSaid asked start ended from)
  unmade_loads ended ends = nothing_done a (LoadLeavesNow asked start a from) (LoadSaid asked start ended from) (λ x was input known. ends input x x (record { disks = refl; said = refl }))

  unmade_taken : (ended : ReplicaEnd) → ((input : List ℕ) (x y : Contents) → Quiet Same x y → LoadEnds asked start input ended x y) → LoadTaken asked start ended a a from from
  unmade_taken ended ends = record {
    bytes = [];
    took = counts_none 0 from;
    said = λ told. ends [] a.now a.now (record { disks = refl; said = refl });
    steps = nothing_done a (LoadLeaves asked start [] a) (LoadEnds asked start [] ended) (λ x was. ends [] x x (record { disks = refl; said = refl }));
  }

  -- disks that a crash on entry might have left
  pub unmade_left : (input : List ℕ) (x : Contents) (disks : Disks) → MayLeave a x → disks ≡ x.disks → LeavesLoaded asked start input a [] disks
  unmade_left input x disks was same = record {
    made = unmade asked start.seq start.time (input_image input) (loaded_line start.seq) (line_some start.seq) a lawful x disks was same;
    whole = λ kept none. inl (subst IsReplicaGateOff (sym same)
        (absent_gate asked start.seq start.time (input_image input) (loaded_line start.seq) (line_some start.seq) a lawful none x was));
  }

  -- A number breaks its limit.
  pub broken_loads : (field : Field) → first_broken_in asked start.seq ≡ Some field → LoadOutcome asked start (BadGeometry field) a a from from
  broken_loads field is = record {
    cause = is;
    first = record {
      broken = λ other broken. let both : Some field ≡ Some other = sym is ∙ broken in ap BadGeometry (some_same field other both);
      there = λ kept there. let both : None ≡ Some field = sym kept ∙ is in absurd (cc both);
    };
    said = λ told input known. record { disks = refl; said = refl };
    silent = λ is told. refl;
    changes = reads_replica (BadGeometry field) a a (reads_none a);
    source = record { took = took_none from; unread = λ is. refl };
    steps = unmade_loads (BadGeometry field) (λ input x y same. same);
    taken = unmade_taken (BadGeometry field) (λ input x y same. same);
    completes = λ input kept none known whole nothing. let both : None ≡ Some field = sym kept ∙ is in absurd (cc both);
    calls = called_at_most 0 (asked.volume + 11) a a (omega arith) (not_called a);
  }
    where
      some_same : (x y : Field) → ◌≡◌ {A = Option Field} (Some x) (Some y) → x ≡ y
      some_same x y e = cc

  module _ (kept : first_broken_in asked start.seq ≡ None) where
    no_field : (ended : ReplicaEnd) (field : Field) → first_broken_in asked start.seq ≡ Some field → ended ≡ BadGeometry field
    no_field ended field is = let both : None ≡ Some field = sym kept ∙ is in absurd (cc both)

    -- Disk 17 is there already.
    exists_loads : a.sizes 17 ≢ None → LoadOutcome asked start (NotMade (Exists 17)) a a from from
    exists_loads there = record {
      cause = record { kept = kept; is = refl; there = there };
      first = record { broken = no_field (NotMade (Exists 17)); there = λ also there. refl };
      said = λ told input known. record { disks = refl; said = refl };
      silent = λ is told. refl;
      changes = reads_replica (NotMade (Exists 17)) a a (reads_none a);
      source = record { took = took_none from; unread = λ is. refl };
      steps = unmade_loads (NotMade (Exists 17)) (λ input x y same. same);
      taken = unmade_taken (NotMade (Exists 17)) (λ input x y same. same);
      completes = λ input kept none known whole nothing. absurd (there none);
      calls = called_at_most 0 (asked.volume + 11) a a (omega arith) (not_called a);
    }

    module _ (s : Shape) (is_asked : HasAskedNumbers asked s) (none : a.sizes 17 ≡ None) where
      abbrev may : MayMake asked start.seq a
      may = record { kept = kept; shape = s; asked_ = is_asked; none = none }

      not_there : (ended : ReplicaEnd) → MakeFirst asked start.seq ended a
      not_there ended = record { broken = no_field ended; there = λ also there. absurd (there none) }

      size_is : image_size s ≡ asked.volume * asked.block
      size_is = ap₂ (λ (v b : ℕ). v * b) is_asked.volume is_asked.block

      -- There was no memory.
      memory_loads : LoadOutcome asked start (NotMade OutOfMemory) a a from from
      memory_loads = record {
        cause = record { may = may; bytes = []; took = record { left = consumes_none from.left; counted = refl; given = omega arith; faults = omega arith; untold = λ is. is }; fault = refl };
        first = not_there (NotMade OutOfMemory);
        said = λ told input known. record { disks = refl; said = refl };
        silent = λ is told. refl;
        changes = reads_replica (NotMade OutOfMemory) a a (reads_none a);
        source = record { took = took_none from; unread = λ is. refl };
        steps = unmade_loads (NotMade OutOfMemory) (λ input x y same. same);
        taken = unmade_taken (NotMade OutOfMemory) (λ input x y same. same);
        completes = λ input kept none known whole nothing. inr refl;
        calls = called_at_most 0 (asked.volume + 11) a a (omega arith) (not_called a);
      }

      module _ (b : View) (to : Stream) (bytes : List ℕ) (took : CountsBytes bytes 0 (length bytes) from to) where
        -- the input that the source told
        comes_known : (input : List ℕ) → from.left ≡ Some input → Comes bytes input to
        comes_known input known = record {
          front = known_front input from.left to.left bytes known took.left;
          whole = λ end. known_whole input from.left to.left bytes known took.left end.left;
        }

        abbrev Whole : Disks → Disks → Type 0
        Whole old new = LoadsWhole s start.seq start.time bytes to old new

        -- what is held of these bytes is held of the input
        of_input : (input : List ℕ) → Comes bytes input to → (x y : Disks) → Whole x y → IsReplicaGateOff y ⊎ ReplicaHolds s start.seq start.time (image_of s input) y
        of_input input comes x y loads = ⊎_elim inl
            (λ (has : ReplicaHolds s start.seq start.time (image_of s bytes) y × (length bytes ≡ image_size s) × IsInputEnd to).
            inr (subst (λ (l : List ℕ). ReplicaHolds s start.seq start.time (image_of s l) y) (sym (comes.whole has.2)) has.0)) loads.disk

        -- and then it is a whole image
        or_whole : (input : List ℕ) → Comes bytes input to → (x y : Disks) → Whole x y → IsReplicaGateOff y ⊎ HasImageSize asked input
        or_whole input comes x y loads = ⊎_elim inl
            (λ (has : ReplicaHolds s start.seq start.time (image_of s bytes) y × (length bytes ≡ image_size s) × IsInputEnd to).
            inr (ap length (comes.whole has.2) ∙ has.1 ∙ size_is)) loads.disk

        -- what is so of every such input is so of the one that the source told, and of the bytes taken
        abbrev Leaving : Contents → Contents → Type 0
        Leaving x y = (input : List ℕ) → Comes bytes input to → LoadLeaves asked start input a x y

        abbrev Ending : ReplicaEnd → Contents → Contents → Type 0
        Ending ended x y = (input : List ℕ) → Comes bytes input to → LoadEnds asked start input ended x y

        known_steps : (ended : ReplicaEnd) (c : View) → Steps a c Leaving (Ending ended) → Steps a c (LoadLeavesNow asked start a from) (LoadSaid asked start ended from)
        known_steps ended c steps = weaken a c Leaving (Ending ended) (LoadLeavesNow asked start a from) (LoadSaid asked start ended from) steps
            (λ x y was leaves input known. leaves input (comes_known input known))
            (λ x y was left ends input known. ends input (comes_known input known))

        taken_is : (ended : ReplicaEnd) (c : View) → (IsTrue a.tells → Ending ended a.now c.now) → Steps a c Leaving (Ending ended) → LoadTaken asked start ended a c from to
        taken_is ended c said steps = record {
          bytes = bytes;
          took = took;
          said = λ told. said told bytes (comes_taken bytes to);
          steps = weaken a c Leaving (Ending ended) (LoadLeaves asked start bytes a) (LoadEnds asked start bytes ended) steps
              (λ x y was leaves. leaves bytes (comes_taken bytes to))
              (λ x y was left ends. ends bytes (comes_taken bytes to));
        }

        takes : length bytes ≤ image_size s + 1 → TookBytes from to
        takes most = record { bytes = bytes; taken = took.left; given = took.given; most = omega (arith, most, image_small s); faults = took.faults; untold = took.untold }

        begun : (x y : Contents) → Quiet Whole x y → Leaving x y
        begun x y step input comes = record {
          part = [];
          said = step.said ∙ sym (append-nil x.said);
          leaves = record {
            made = making asked start.seq start.time (input_image input) (loaded_line start.seq) (line_some start.seq) a lawful kept none s is_asked y.disks
                (of_input input comes x.disks y.disks step.disks);
            whole = λ kept none. or_whole input comes x.disks y.disks step.disks;
          };
        }

        -- where the whole input was seen before the gate
        seen_whole : (length bytes ≡ image_size s) → IsInputEnd to → (x y : Disks) → MakesReplica s start.seq start.time (image_of s bytes) x y → Whole x y
        seen_whole long end x y makes = record { others = makes.others; disk = ⊎_elim inl (λ holds. inr (holds, long, end)) makes.disk }

        -- where the gate was off all the time
        stays_shut : (x : Contents) → MayLeave a x → (y : Disks) → ShutsReplica x.disks y → Whole x.disks y
        stays_shut x was y shuts =
            let absent : x.disks 17 ≡ None = absent_disk (x.disks 17) (was.torn.disks.sizes 17 ∙ lawful.sized was.told 17 ∙ none) in
            record {
              others = shuts.others;
              disk = inl (⊎_elim (λ (same : y 17 ≡ x.disks 17). absent_off y (same ∙ absent)) (λ (off : IsReplicaGateOff y). off) shuts.disk);
            }

        -- a load that failed, by its gate or before it
        fails_whole : (why : ReplicaFault) → Moves a b ShutsReplica ShutsReplica ⊎ ((why ≡ DiskFault) × (length bytes ≡ image_size s) × IsInputEnd to)
            → Moves a b (MakesReplica s start.seq start.time (image_of s bytes)) (MakesReplica s start.seq start.time (image_of s bytes)) → Moves a b Whole Whole
        fails_whole why shut moves = ⊎_elim
            (λ (off : Moves a b ShutsReplica ShutsReplica). moves_weaken a b ShutsReplica ShutsReplica Whole Whole off
            (λ x y was step. stays_shut x was y.disks step) (λ x y was left step. stays_shut x was y.disks step))
            (λ (gate : (why ≡ DiskFault) × (length bytes ≡ image_size s) × IsInputEnd to).
            moves_weaken a b (MakesReplica s start.seq start.time (image_of s bytes)) (MakesReplica s start.seq start.time (image_of s bytes)) Whole Whole moves
            (λ x y was step. seen_whole gate.1 gate.2 x.disks y.disks step) (λ x y was left step. seen_whole gate.1 gate.2 x.disks y.disks step)) shut

        -- it failed
        module _ {T : Type 0} (why : ReplicaFault) (result : Result T ReplicaFault) (disk : MakesDisk s result a b) (changed : makes_nothing why ≡ false)
            (fault : IsLoadFault s (length bytes) a b from to why) (shut : why ≢ DiskFault → Always b IsReplicaGateOff)
            (moves : Moves a b Whole Whole)
            (calls : CalledAtMost (s.volume + 10) a b) where
          most : (why : ReplicaFault) → makes_nothing why ≡ false → IsLoadFault s (length bytes) a b from to why → length bytes ≤ image_size s + 1
          most DiskFault is fault = omega (arith, fault.0)
          most ReadFault is fault = omega (arith, fault.0)
          most (ShortImage at) is fault = let few = fault.1 in omega (arith, few)
          most (LongImage at) is fault = let one = fault.1 in omega (arith, one)
          most OutOfMemory is fault = omega (arith, fault)
          most other is fault = absurd fault

          reads_some : reads_source (NotMade why) ≡ true
          reads_some = ap not changed

          -- the gate stays off
          ends_shut : (input : List ℕ) → Comes bytes input to → (why : ReplicaFault) → makes_nothing why ≡ false → why ≢ DiskFault → IsLoadFault s (length bytes) a b from to why
              → (x y : Contents) → LeavesGateOff x y → NotLoadedEnds asked start input why x y
          ends_shut input comes ReadFault is other fault x y stays = stays
          ends_shut input comes (ShortImage at) is other fault x y stays =
              let all = ap length (comes.whole fault.2) in
              let at_is = fault.0 in
              let few = fault.1 in
              (stays, omega (arith, all, at_is), omega (arith, size_is, at_is, few))
          ends_shut input comes (LongImage at) is other fault x y stays =
              let parts = ap length comes.front.1 ∙ length-append bytes comes.front.0 in
              let at_is = fault.0 in
              let one = fault.1 in
              (stays, at_is ∙ size_is, omega (arith, parts, at_is, one))
          ends_shut input comes DiskFault is other fault x y stays = absurd (other refl)
          ends_shut input comes (Exists disk) is other fault x y stays = absurd (cc)
          ends_shut input comes OutOfMemory is other fault x y stays = absurd (cc)
          ends_shut input comes why is other fault x y stays = absurd fault

          -- where nothing fails, and the input is a whole image, this doesn't come
          not_so : (input : List ℕ) → Comes bytes input to → HasImageSize asked input → NoFaultRose a b from to → (why : ReplicaFault) → makes_nothing why ≡ false
              → IsLoadFault s (length bytes) a b from to why → ⊥
          not_so input comes whole nothing DiskFault is fault = nothing.disk fault.1
          not_so input comes whole nothing ReadFault is fault = nothing.source fault.1
          not_so input comes whole nothing (ShortImage at) is fault =
              let all = ap length (comes.whole fault.2) in
              let few = fault.1 in
              omega (arith, all, few, size_is, whole)
          not_so input comes whole nothing (LongImage at) is fault =
              let parts = ap length comes.front.1 ∙ length-append bytes comes.front.0 in
              let one = fault.1 in
              omega (arith, parts, one, size_is, whole)
          not_so input comes whole nothing (Exists disk) is fault = fault
          not_so input comes whole nothing OutOfMemory is fault = cc
          not_so input comes whole nothing other is fault = fault

          cause_is : (why : ReplicaFault) → makes_nothing why ≡ false → FailsLoading asked start why a b from to → NotLoadedCause asked start why a b from to
          cause_is (Exists disk) is fails = absurd (cc)
          cause_is other is fails = fails

          told_end : IsTrue a.tells → IsTrue b.tells
          told_end told = subst IsTrue (sym moves.tells) told

          -- what is said and left, with the gate off or by a fault of the disk
          ends_now : (x y : Contents) → MayLeave b y → Quiet Whole x y → Ending (NotMade why) x y
          ends_now x y left step input comes = by_why why refl
            where
              by_why : (w : ReplicaFault) → why ≡ w → NotLoadedEnds asked start input w x y
              by_why DiskFault is = (
                record {
                  shape = s;
                  asked_ = is_asked;
                  makes = record { disks = record { others = step.disks.others; disk = of_input input comes x.disks y.disks step.disks }; said = step.said };
                },
                or_whole input comes x.disks y.disks step.disks,
              )
              by_why w is = ends_shut input comes w (ap makes_nothing (sym is) ∙ changed) (apart w refl)
                  (subst (λ (w : ReplicaFault). IsLoadFault s (length bytes) a b from to w) is fault) x y
                  (record { others = step.disks.others; gate = shut (λ disk. apart w refl (sym is ∙ disk)) y left; said = step.said })

          -- what a read gives
          whole_now : IsTrue a.tells → Quiet Whole a.now b.now
          whole_now told =
              let came = moves.now b.now (read_is_left b (told_end told)) in
              record { disks = record { others = (disk.touches told).disks; disk = came.by.disks.disk }; said = (disk.touches told).said }

          said_now : IsTrue a.tells → Ending (NotMade why) a.now b.now
          said_now told = ends_now a.now b.now (read_is_left b (told_end told)) (whole_now told)

          failed_steps : Steps a b Leaving (Ending (NotMade why))
          failed_steps = weaken a b (Quiet Whole) (Quiet Whole) Leaving (Ending (NotMade why)) moves
              (λ x y was step. begun x y step)
              (λ x y was left step. ends_now x y left step)

          pub failed_loads : LoadOutcome asked start (NotMade why) a b from to
          failed_loads = record {
            cause = cause_is why changed (record { may = may; bytes = bytes; took = took; fault = fault });
            first = not_there (NotMade why);
            said = λ told input known. said_now told input (comes_known input known);
            silent = λ is told. (disk.touches told).said;
            changes = unmade_changes (NotMade why) s result a b Whole Whole changed disk moves (λ x y made. made.others) (λ x y made. made.others);
            source = record { took = takes (most why changed fault); unread = λ is. let both : true ≡ false = sym reads_some ∙ is in absurd (cc both) };
            steps = known_steps (NotMade why) b failed_steps;
            taken = taken_is (NotMade why) b said_now failed_steps;
            completes = λ input kept none known whole nothing. absurd (not_so input (comes_known input known) whole nothing why changed fault);
            calls = at_most_more (s.volume + 10) (asked.volume + 11) a b (omega (arith, is_asked.volume)) calls;
          }

        -- it is loaded, and its line is said
        module _ {T : Type 0} (result : Result T ReplicaFault) (disk : MakesDisk s result a b) (sized : b.sizes 17 ≡ Some (replica_size s))
            (long : length bytes ≡ image_size s) (end : IsInputEnd to)
            (moves : Moves a b (MakesReplica s start.seq start.time (image_of s bytes)) (HasMade s start.seq start.time (image_of s bytes)))
            (calls : CalledTimes (s.volume + 10) a b) (c : View) where
          told_mid : IsTrue a.tells → IsTrue b.tells
          told_mid told = subst IsTrue (sym moves.tells) told

          input_whole : (input : List ℕ) → Comes bytes input to → HasImageSize asked input
          input_whole input comes = ap length (comes.whole end) ∙ long ∙ size_is

          made_of : (input : List ℕ) → Comes bytes input to → (x y z : Disks) → z ≡ y → HasMade s start.seq start.time (image_of s bytes) x y
              → HasMade s start.seq start.time (input_image input s) x z
          made_of input comes x y z same made = subst (λ (disks : Disks). HasMade s start.seq start.time (input_image input s) x disks) (sym same)
              (subst (λ (l : List ℕ). HasMade s start.seq start.time (image_of s l) x y) (sym (comes.whole end)) made)

          holds_now : (input : List ℕ) → Comes bytes input to → IsTrue a.tells → c.now.disks ≡ b.now.disks → HasMade s start.seq start.time (input_image input s) a.now.disks c.now.disks
          holds_now input comes told same = made_of input comes a.now.disks b.now.disks c.now.disks same
              (made_now s start.seq start.time (image_of s bytes) result a b (MakesReplica s start.seq start.time (image_of s bytes)) disk moves told)

          has_loaded : c.sizes 17 ≡ b.sizes 17 → HasLoadedDisk asked start a c from to
          has_loaded same = record { may = may; size = same ∙ sized; bytes = bytes; took = took; long = long; ended = end }

          reads_all : (ended : ReplicaEnd) → reads_source ended ≡ true → ReadsSource ended from to
          reads_all ended reads = record { took = takes (omega (arith, long)); unread = λ is. let both : true ≡ false = sym reads ∙ is in absurd (cc both) }

          calls_all : {U F : Type 0} (said : Result U F) → Says (loaded_line start.seq) said b c → CalledAtMost (asked.volume + 11) a c
          calls_all said says = at_most_then (s.volume + 10) 1 (asked.volume + 11) a b c (omega (arith, is_asked.volume))
              (called_at_most (s.volume + 10) (s.volume + 10) a b (omega arith) calls)
              (called_at_most 1 1 b c (omega arith) (called_once said b c says.goes))

          loaded_steps : (ended : ReplicaEnd) (spoken : Contents → Contents → Type 0) → Steps b c (SpokePart (loaded_line start.seq)) spoken → ((y z : Contents) → spoken y z → z.disks ≡ y.disks)
              → ((input : List ℕ) → Comes bytes input to → (x y z : Contents) → HasMade s start.seq start.time (input_image input s) x.disks z.disks → y.said ≡ x.said → spoken y z
              → LoadEnds asked start input ended x z)
              → Steps a c Leaving (Ending ended)
          loaded_steps ended spoken spoke same at_end = then_ a b c (Quiet (MakesReplica s start.seq start.time (image_of s bytes))) (Quiet (HasMade s start.seq start.time (image_of s bytes)))
              (SpokePart (loaded_line start.seq)) spoken Leaving (Ending ended) moves spoke
              (λ x y was step. begun x y (record { disks = seen_whole long end x.disks y.disks step.disks; said = step.said }))
              (λ x y z was step mid said input comes. record {
                part = said.says.part;
                said = said.says.said ∙ ap (λ (l : List ℕ). l ++ said.says.part) step.said;
                leaves = record {
                  made = is_made asked start.seq start.time (input_image input) (loaded_line start.seq) (line_some start.seq) a lawful kept none s is_asked
                      said.says.part said.says.rest z.disks said.says.whole (made_of input comes x.disks y.disks z.disks said.disks step.disks).holds;
                  whole = λ kept none. inr (input_whole input comes);
                };
              })
              (λ x y z was step mid said input comes. at_end input comes x y z (made_of input comes x.disks y.disks z.disks (same y z said) step.disks) step.said said)

          -- Its line was said.
          pub loaded_outcome : {U F : Type 0} (value : U) → Says {T = U} {E = F} (loaded_line start.seq) (Ok value) b c → LoadOutcome asked start Done a c from to
          loaded_outcome {U} {F} value says = record {
            cause = has_loaded (says.sizes 17);
            first = not_there Done;
            said = λ told input known. said_now told input (comes_known input known);
            silent = λ is told. absurd (cc);
            changes = made_changes Done s result a b c (loaded_line start.seq) (MakesReplica s start.seq start.time (image_of s bytes)) (HasMade s start.seq start.time (image_of s bytes)) refl
                disk moves (λ x y made. made.others) (λ x y made. made.others) (let said : Result U F = Ok value in said) says;
            source = reads_all Done refl;
            steps = known_steps Done c all_steps;
            taken = taken_is Done c said_now all_steps;
            completes = λ input kept none known whole nothing. inl (refl, said_whole);
            calls = calls_all {U = U} {F = F} (Ok value) says;
          }
            where
              said_whole : IsTrue a.tells → c.now.said ≡ a.now.said ++ loaded_line start.seq
              said_whole told = says.said (told_mid told) ∙ ap (λ (l : List ℕ). l ++ loaded_line start.seq) (disk.touches told).said

              said_now : IsTrue a.tells → Ending Done a.now c.now
              said_now told input comes = (
                input_whole input comes,
                record {
                  shape = s;
                  asked_ = is_asked;
                  made = holds_now input comes told (says.disks (told_mid told));
                  said = said_whole told;
                },
              )

              all_steps : Steps a c Leaving (Ending Done)
              all_steps = loaded_steps Done (Spoke (loaded_line start.seq)) (said_steps {T = U} {E = F} value b c (loaded_line start.seq) says) (λ y z spoke. spoke.disks)
                  (λ input comes x y z made quiet spoke. (
                    input_whole input comes,
                    record {
                      shape = s;
                      asked_ = is_asked;
                      made = made;
                      said = spoke.said ∙ ap (λ (l : List ℕ). l ++ loaded_line start.seq) quiet;
                    },
                  ))

          -- The port failed in its line.
          pub unsaid_loads : {U F : Type 0} (e : F) → Says {T = U} {E = F} (loaded_line start.seq) (Err e) b c → LoadOutcome asked start Port a c from to
          unsaid_loads {U} {F} e says = record {
            cause = (has_loaded (says.sizes 17), rose);
            first = not_there Port;
            said = λ told input known. said_now told input (comes_known input known);
            silent = λ is told. absurd (cc);
            changes = made_changes Port s result a b c (loaded_line start.seq) (MakesReplica s start.seq start.time (image_of s bytes)) (HasMade s start.seq start.time (image_of s bytes)) refl
                disk moves (λ x y made. made.others) (λ x y made. made.others) (let said : Result U F = Err e in said) says;
            source = reads_all Port refl;
            steps = known_steps Port c all_steps;
            taken = taken_is Port c said_now all_steps;
            completes = λ input kept none known whole nothing. absurd (nothing.port rose);
            calls = calls_all {U = U} {F = F} (Err e) says;
          }
            where
              rose : Rose a.port_faults c.port_faults
              rose = rose_since a.port_faults b.port_faults c.port_faults moves.port_faults says.cause

              said_now : IsTrue a.tells → Ending Port a.now c.now
              said_now told input comes =
                  let part = says.part (told_mid told) in (
                    input_whole input comes,
                    record {
                      shape = s;
                      asked_ = is_asked;
                      made = holds_now input comes told (says.disks (told_mid told));
                      part = record { part = part.part; rest = part.rest; whole = part.whole; said = part.said ∙ ap (λ (l : List ℕ). l ++ part.part) (disk.touches told).said };
                    },
                  )

              all_steps : Steps a c Leaving (Ending Port)
              all_steps = loaded_steps Port (SpokePart (loaded_line start.seq)) (say_steps {T = U} {E = F} (Err e) b c (loaded_line start.seq) says) (λ y z spoke. spoke.disks)
                  (λ input comes x y z made quiet spoke. (
                    input_whole input comes,
                    record {
                      shape = s;
                      asked_ = is_asked;
                      made = made;
                      part = record {
                        part = spoke.says.part;
                        rest = spoke.says.rest;
                        whole = spoke.says.whole;
                        said = spoke.says.said ∙ ap (λ (l : List ℕ). l ++ spoke.says.part) quiet;
                      };
                    },
                  ))

-- What `load` answers when it loaded nothing.
pub unloaded_outcome : {T : Type 0} (asked : AskedReplica) (start : Start) (s : Shape) (a b : View) (from to : Stream) (result : Result T ReplicaFault) (why : ReplicaFault) → IsLawful a
    → first_broken_in asked start.seq ≡ None → HasAskedNumbers asked s → result ≡ Err why
    → ((result ≡ Err (Exists 17)) ↔ (a.sizes 17 ≢ None)) → (a.sizes 17 ≢ None → (b ≡ a) × (to ≡ from)) → (why ≡ OutOfMemory → (b ≡ a) × (to ≡ from))
    → MakesDisk s result a b → (a.sizes 17 ≡ None → CalledAtMost (s.volume + 10) a b)
    → (a.sizes 17 ≡ None → (bytes : List ℕ) × Loads {T = T} s start.seq start.time bytes (Err why) a b from to)
    → LoadOutcome asked start (NotMade why) a b from to
unloaded_outcome {T} asked start s a b from to result why lawful kept is_asked is exists untouched memory disk calls loads = by_size (a.sizes 17) refl
  where
    why_same : (x y : ReplicaFault) → ◌≡◌ {A = Result T ReplicaFault} (Err x) (Err y) → x ≡ y
    why_same x y e = cc

    unchanged : (w : ReplicaFault) → (b ≡ a) × (to ≡ from) → LoadOutcome asked start (NotMade w) a a from from → LoadOutcome asked start (NotMade w) a b from to
    unchanged w still outcome = subst (λ (v : View). LoadOutcome asked start (NotMade w) a v from to) (sym still.0)
        (subst (λ (t : Stream). LoadOutcome asked start (NotMade w) a a from t) (sym still.1) outcome)

    by_size : (size : Option ℕ) → a.sizes 17 ≡ size → LoadOutcome asked start (NotMade why) a b from to
    by_size None none = by_why why refl
      where
        fails : (w : ReplicaFault) → why ≡ w → makes_nothing w ≡ false → LoadOutcome asked start (NotMade why) a b from to
        fails w same changed =
            let some = loads none in
            failed_loads asked start a lawful from kept s is_asked none b to some.0 some.1.took why result disk
            (ap makes_nothing same ∙ changed) some.1.refused
            (λ other. ⊎_elim (λ moves. stays_off s start.seq start.time a from lawful none b moves) (λ gate. absurd (other gate.0)) some.1.shut)
            (fails_whole asked start a lawful from kept s is_asked none b to some.0 some.1.took why some.1.shut some.1.any_moment) (calls none)

        by_why : (w : ReplicaFault) → why ≡ w → LoadOutcome asked start (NotMade why) a b from to
        by_why (Exists d) same = absurd (subst (λ (w : ReplicaFault). IsLoadFault s (length (loads none).0) a b from to w) same (loads none).1.refused)
        by_why OutOfMemory same = subst (λ (w : ReplicaFault). LoadOutcome asked start (NotMade w) a b from to) (sym same)
            (unchanged OutOfMemory (memory same) (memory_loads asked start a lawful from kept s is_asked none))
        by_why w same = fails _ same refl
    by_size (Some n) size =
        let there : a.sizes 17 ≢ None = λ none. let both : None ≡ Some n = sym none ∙ size in cc in
        subst (λ (w : ReplicaFault). LoadOutcome asked start (NotMade w) a b from to) (why_same (Exists 17) why (sym (exists.1 there) ∙ is))
        (unchanged (Exists 17) (untouched there) (exists_loads asked start a lawful from kept there))

-- Where disk 17 was there, or memory was wanting, nothing was called.
pub unloaded_still : {B S : Type 0} (size : Option ℕ) (why : ReplicaFault) (first last : B) (from to : S) → (size ≢ None → (last ≡ first) × (to ≡ from))
    → (why ≡ OutOfMemory → (last ≡ first) × (to ≡ from)) → ((disk : ℕ) → size ≡ None → why ≡ Exists disk → ⊥) → makes_nothing why ≡ true
    → (last ≡ first) × (to ≡ from)
unloaded_still (Some n) why first last from to untouched memory absent still = untouched (λ none. cc)
unloaded_still None (Exists disk) first last from to untouched memory absent still = absurd (absent disk refl refl)
unloaded_still None OutOfMemory first last from to untouched memory absent still = memory refl
unloaded_still None why first last from to untouched memory absent still = let both : false ≡ true = still in absurd (cc both)

-- numbers that keep their limits have a number of at most 2^40
pub seq_most : (block volume seq : ℕ) → first_broken_shape block volume seq ≡ None → seq ≤ 2 ^ 40
seq_most block volume seq kept = grind (arith, nat_tests, last_test (is_block_size block) (is_between 1 (2 ^ 20) volume) (nat_le seq (2 ^ 40)) kept)
  where
    last_test : (p q r : Bool) → (if not p then Some Block else (if not q then Some Volume else (if not r then Some Seq else None))) ≡ None → r ≡ true
    last_test false q r kept = cc
    last_test true false r kept = cc
    last_test true true false kept = cc
    last_test true true true kept = refl
