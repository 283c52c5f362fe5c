-- What mounting leaves, from what it found and the put of its head.
use Rattle.std.proofs.Common.{◌≡◌, ◌≢◌, ℕ, ◌+◌, ◌<◌, ◌≤◌, List, length, Some, None, true, false, IsTrue, inl, inr, ⊎_elim, refl, sym, ap, subst, ◌∙◌, arith}
use Rattle.std.proofs.lemmas.Option.{same_Some}
use Rattle.trap_bank.specs.Disks.{Contents, View, Disks, Quiet, Differs, size_of}
use Rattle.trap_bank.specs.Calls.{MayLeave, IsLawful}
use Rattle.trap_bank.specs.Faults.{Rose}
use Rattle.trap_bank.specs.Steps.{Moves, Same, Always, OnlyReads}
use Rattle.trap_bank.proofs.Regions.{disk_apart, absent_disk}
use Rattle.trap_bank.proofs.Moves.{moves_then, moves_weaken, always_same, read_is_left}
use Rattle.trap_bank.proofs.OnlyReads.{reads_then, told_after, disks_same}
use Rattle.trap_bank.proofs.Rising.{rose_since, rose_later}
use Rattle.trap_cell.proofs.Keeping.{value_on_disk}
use Rattle.trap_cell.specs.Slots.{Place, Slots, Stands, current_slot, cell_value, other_slot}
use Rattle.trap_cell.specs.Steps.{PutsIn, IsPut}
use Rattle.trap_format.specs.LogDisk.{log_size}
use Rattle.trap_format.specs.MemberDisk.{member_size}
use Rattle.trap_format.specs.HeadValue.{IsHead, head_value}
use Rattle.trap_format.specs.declared.head.Head.{Head}
use Rattle.trap_format.proofs.Spellings.{heads_same}
use Rattle.trap_index.specs.Indexed.{Indexed}
use Rattle.trap_model.specs.State.{last}
use Rattle.trap_model.specs.declared.numbers.Geometry.{Geometry}
use Rattle.trap_model.specs.declared.history.State.{State}
use Rattle.trap_pool.specs.Pooled.{free_of}
use Rattle.trap_raid.specs.Members.{Counts, IsMember, IsOut}
use Rattle.trap_stage.specs.Slots.{Stage, SlotsAre}
use Rattle.trap_stage.specs.Pending.{pending}
use Rattle.trap_stage.specs.Found.{IsFound}
use Rattle.trap_stage.proofs.FurtherSlots.{found_pending}
use Rattle.trap_mount.specs.Holding.{head_place, MatchesHead, Holds, HoldsBy}
use Rattle.trap_mount.specs.Memory.{Buffers, HaveBlocksOf}
use Rattle.trap_mount.specs.Mounted.{Mounted, StandsFor, HasExactSizes, IsReady}
use Rattle.trap_mount.specs.Mounting.{KeepsWhoIsLost, Mounts, KeepsEachState, HasRecords, HasMembers, FoundLost, HasFound, IsFailing, Refuses, MountFails, is_refusal, PutsHead, MayPutHead, HasPutHead}
use Rattle.trap_mount.specs.Mounting.{WritesHead}
use Rattle.trap_mount.specs.MountSteps.{ReadsLog, ReadsStage, ReadsMember, FindsMembers, MayPut, HasPut}
use Rattle.trap_mount.specs.Reading.{ReadsIndex}
use Rattle.trap_mount.specs.declared.fault.MountFault.{MountFault}
use Rattle.trap_mount.specs.declared.fault.MountFault.TheVariants.{NotAnArray, BadVersion, WrongMember, TooManyLost, Damaged, LogFault, MemberFault, OutOfMemory}
use Rattle.trap_mount.proofs.MountRecords.{read_described}
use Rattle.trap_mount.proofs.Puts.{put_in_cell, fits_put, held_by_read}
use Rattle.trap_raid.proofs.OwnDisks.{stable_reads}
use Rattle.trap_mount.proofs.MountReads.{told_before, refused_before}
use Rattle.trap_mount.proofs.MountRefusals.{never_refused}
use Rattle.trap_mount.proofs.MountMembers.{is_some_or_not, finds_only, finds_one}
use Rattle.trap_mount.proofs.MountStands.{one_array, fits_agree, fits_changed}

-- what is refused of the members
pub members_refused : (g : Geometry) (h : Head) (cell : Slots) (stage : Stage) (a b : View) (why : MountFault) → OnlyReads a b → ReadsLog g h cell stage a b
    → (IsTrue b.tells → HasRecords g h b.now.disks → Refuses b why) → IsTrue a.tells → Refuses a why
members_refused g h cell stage a b why reads log refused told =
    refused_before a b why reads (λ later. refused later (subst (λ (x : Disks). HasRecords g h x) (sym (disks_same a b reads told)) (log.records told))) told

-- a put that failed
pub put_failed : (a c d : View) (why : MountFault) → OnlyReads a c → Rose (c.faults 0) (d.faults 0) → ◌≡◌ {A = MountFault} LogFault why → MountFails why a d
put_failed a c d why reads rose is = subst (λ (w : MountFault). MountFails w a d) is (rose_since _ _ _ (reads.moves.faults 0) rose)

-- one value of the head's cell is that of one head
one_head : (g : Geometry) (h k : Head) (s t : State) (x y : Disks) → HoldsBy g h s x → HoldsBy g k t y → cell_value head_place y ≡ cell_value head_place x → h ≡ k
one_head g h k s t x y by also same = heads_same g h k (head_value h) (record { head = by.fits.head.head; spelled = refl })
    (record { head = also.fits.head.head; spelled = same_Some (head_value h) (head_value k) (sym by.value ∙ sym same ∙ also.value) })

-- over disks that hold a state nothing is refused, and a member that fails is one that isn't out
module _ (a b : View) (g : Geometry) (h : Head) (s : State) (told : IsTrue a.tells) (by : HoldsBy g h s a.now.disks) (log : Rose (a.faults 0) (b.faults 0) → ⊥)
    (members : (m : ℕ) → m < g.members → Rose (a.faults (m + 1)) (b.faults (m + 1)) → IsOut h.lost a.now.disks m) where
  holds : Holds g s a.now.disks
  holds = record { head = h; by = by }

  never : (why : MountFault) → Refuses a why → is_refusal why ≡ true → ⊥
  never why refused is = two (sym is ∙ never_refused g s a.now.disks holds why refused)
    where
      two : true ≡ false → ⊥
      two same = cc

  never_fails : (k : Geometry) (l : Head) (m : ℕ) → HasMembers k l a.now.disks → IsFailing k l a.now.disks m → Rose (a.faults (m + 1)) (b.faults (m + 1)) → ⊥
  never_fails k l m has failing rose =
      let head = has.records.slots.head in
      let one : g ≡ k = one_array k g s a.now.disks head.header holds in
      let here = subst (λ (n : Geometry). HoldsBy n h s a.now.disks) one by in
      let there = held_by_read k l s a.now.disks (subst (λ (n : Geometry). Holds n s a.now.disks) one holds) head.value head.head in
      let same : h ≡ l = one_head k h l s s a.now.disks a.now.disks here there refl in
      failing.counts (subst (λ (t : Head). IsOut t.lost a.now.disks m) same (members m (subst (λ (n : Geometry). m < n.members) (sym one) failing.inside) rose))

  pub complete : (why : MountFault) → (IsTrue a.tells → Refuses a why) → MountFails why a b → why ≡ OutOfMemory
  complete NotAnArray refused fails = absurd (never NotAnArray (refused told) refl)
  complete (BadVersion version) refused fails = absurd (never (BadVersion version) (refused told) refl)
  complete (WrongMember member) refused fails = absurd (never (WrongMember member) (refused told) refl)
  complete (TooManyLost first second) refused fails = absurd (never (TooManyLost first second) (refused told) refl)
  complete (Damaged offset) refused fails = absurd (never (Damaged offset) (refused told) refl)
  complete LogFault refused fails = absurd (log fails)
  complete (MemberFault first second) refused fails = let named = refused told in absurd (never_fails named.0 named.1 second named.2 named.3 fails.2)
  complete OutOfMemory refused fails = refl

-- the same head has the same lost member
same_lost : (g : Geometry) (h k : Head) (old new : View) → h ≡ k → FoundLost g h k old new
same_lost g h k old new same = subst (λ (t : Head). FoundLost g h t old new) same (record { same = refl; lost = λ m is. inl is; still = λ m is. is; mark = inl refl })

-- where nothing was written, the head is the same
read_lost : (a b : View) → OnlyReads a b → (g : Geometry) (h k : Head) (s t : State) → IsTrue a.tells → HoldsBy g h s a.now.disks → HoldsBy g k t b.now.disks → FoundLost g h k a b
read_lost a b reads g h k s t told by also =
    same_lost g h k a b (one_head g h k s t a.now.disks b.now.disks by also (ap (cell_value head_place) (disks_same a b reads told)))

-- a run that ends before the put keeps each state
pub keeps_read : (a b : View) → OnlyReads a b → KeepsEachState a b
keeps_read a b reads = record {
  contents = λ told. record { disks = inl (disks_same a b reads told); said = ap (λ (n : Contents). n.said) (reads.same told) };
  any_moment = moves_weaken a b Same Same (Mounts a b) (Mounts a b) reads.moves (λ x y was same. inl same) (λ x y was left same. inl same);
  lost = read_lost a b reads;
}

-- no disk but the log changes
pub read_others : (a b : View) → OnlyReads a b → IsTrue a.tells → (e : ℕ) → e ≢ 0 → b.now.disks e ≡ a.now.disks e
read_others a b reads told e other = ap (λ (x : Disks). x e) (disks_same a b reads told)

-- a put of these bytes is one of the head that they spell, which isn't the one that was found
module _ (a b : View) (cell : Slots) (h k : Head) (other : k ≢ h) (bytes : List ℕ) (is : bytes ≡ head_value k) where
  put_of : (x y : Disks) → PutsIn cell bytes x y → MayPut cell h k x y
  put_of x y step = inr (other, subst (λ (value : List ℕ). PutsIn cell value x y) is step)

  pub may_put : Moves a b (PutsIn cell bytes) (PutsIn cell bytes) → Moves a b (MayPut cell h k) (MayPut cell h k)
  may_put put = moves_weaken a b (PutsIn cell bytes) (PutsIn cell bytes) (MayPut cell h k) (MayPut cell h k) put
      (λ x y was step. put_of x.disks y.disks step)
      (λ x y was left step. put_of x.disks y.disks step)

  pub may_put_now : Quiet (PutsIn cell bytes) a.now b.now → Quiet (MayPut cell h k) a.now b.now
  may_put_now put = record { disks = put_of a.now.disks b.now.disks put.disks; said = put.said }

  pub has_put : (after : Slots) → Moves a b (PutsIn cell bytes) (IsPut b cell after bytes) → Moves a b (MayPut cell h k) (HasPut b cell after h k)
  has_put after put = moves_weaken a b (PutsIn cell bytes) (IsPut b cell after bytes) (MayPut cell h k) (HasPut b cell after h k) put
      (λ x y was step. put_of x.disks y.disks step)
      (λ x y was left step. inr (other, subst (λ (value : List ℕ). IsPut b cell after value x.disks y.disks) is step))

-- a run that writes nothing
pub head_read : (a b : View) → OnlyReads a b → WritesHead a b
head_read a b reads = record {
  contents = λ told. record { disks = inl (disks_same a b reads told); said = ap (λ (n : Contents). n.said) (reads.same told) };
  any_moment = moves_weaken a b Same Same (MayPutHead a b) (MayPutHead a b) reads.moves (λ x y was same. inl same) (λ x y was left same. inl same);
}

-- the array that was mounted
abbrev pub mounted_by : Geometry → Head → Slots → Stage → Indexed → Buffers → Mounted
mounted_by g k after stage index room = record {
  g = g;
  head = k;
  cell = after;
  pending = stage.pending;
  index = index;
  blocks = length room.pool.blocks;
  free = free_of room.pool;
  is_stopped = false;
}

module _ (g : Geometry) (h k : Head) (cell : Slots) (stage : Stage) (a b c : View) (to_b : OnlyReads a b) (to_c : OnlyReads b c) (lawful : IsLawful b)
    (log : ReadsLog g h cell stage a b) (members : FindsMembers g h k b c) where
  reads : OnlyReads a c
  reads = reads_then a b c to_b to_c

  -- the disk of which some row counts was read, and is stable
  member_read : (m : ℕ) → m < g.members → Counts k.lost k.rebuilt 0 m → ReadsMember g m b c
  member_read m inside counts = ⊎_elim (λ (is : k.lost ≡ Some m). members.own m is (counts is)) (λ (other : k.lost ≢ Some m). members.others m inside other) (is_some_or_not k.lost m)

  pub stands_still : Always c (Stands cell)
  stands_still = always_same b c (Stands cell) to_c.moves log.head.stands

  pub put_room : (n : ℕ) × (c.sizes 0 ≡ Some n) × (192 ≤ n)
  put_room = (log_size g, to_c.sizes 0 ∙ to_b.sizes 0 ∙ log.header.size, omega arith)

  -- the pending writes and the index are those of the head that is put
  pub stage_put : ReadsStage g k stage a
  stage_put = subst (λ (t : Head). ReadsStage g t stage a) (sym members.same)
      (record { same = log.slots.same; drained = log.slots.drained; last = log.slots.last; is = log.slots.is; slots = log.slots.slots })

  pub index_put : (index : Indexed) → ReadsIndex g h index a → ReadsIndex g k index a
  index_put index known = subst (λ (t : Head). ReadsIndex g t index a) (sym members.same)
      (record { of = known.of; first = known.first; base_time = known.base_time; offset = known.offset; end = known.end; time = known.time; read = known.read })

  -- what was found, over the disks on entry
  found_entry : IsTrue a.tells → FoundLost g h k a c
  found_entry told =
      let found = members.found (told_after a b to_b told) in
      let same = disks_same a b to_b told in
      record {
        same = found.same;
        lost = λ m is. ⊎_elim inl (λ absent. inr (absent.0, sym (to_b.sizes (m + 1)) ∙ absent.1)) (found.lost m is);
        still = found.still;
        mark = ⊎_elim inl
            (λ rest. inr (
              rest.0,
              λ m is. ⊎_elim (λ rose. inl (rose_since _ _ _ (to_b.moves.faults (m + 1)) rose))
                  (λ not. inr (subst (λ (x : Disks). IsMember g x m → ⊥) same not)) (rest.1 m is),
            )) found.mark;
      }

  -- and until a later moment
  found_until : (w : View) → ((e : ℕ) → c.faults e ≤ w.faults e) → IsTrue a.tells → FoundLost g h k a w
  found_until w later told =
      let found = found_entry told in
      record {
        same = found.same;
        lost = found.lost;
        still = found.still;
        mark = ⊎_elim inl (λ rest. inr (rest.0, λ m is. ⊎_elim (λ rose. inl (rose_later _ _ _ rose (later (m + 1)))) inr (rest.1 m is))) found.mark;
      }

  -- every step passed
  all_passed : IsTrue a.tells → HasMembers g h a.now.disks
  all_passed told =
      let later = told_after a b to_b told in
      let same = disks_same a b to_b told in
      subst (λ (x : Disks). HasMembers g h x) same (finds_one g h k.lost b lawful later members.lost (subst (λ (x : Disks). HasRecords g h x) (sym same) (log.records told)))

  -- each member that isn't out has its own disk
  others_own : IsTrue a.tells → (m : ℕ) → m < g.members → (IsOut h.lost a.now.disks m → ⊥) → IsMember g a.now.disks m
  others_own told m inside counts =
      let later = told_after a b to_b told in
      let same = disks_same a b to_b told in
      subst (λ (x : Disks). IsMember g x m) same
      ((members.others m inside (λ is. counts (subst (λ (x : Disks). IsOut h.lost x m) same ((finds_only g h k.lost b lawful later members.lost).out m is)))).own later)

  -- a state that was held on entry fits the head that is put
  fits_entry : IsTrue a.tells → (s : State) → Holds g s a.now.disks → MatchesHead g k s a.now.disks
  fits_entry told s holds =
      let found = found_entry told in
      let by = held_by_read g h s a.now.disks holds (log.head.value told) log.head.head in
      fits_changed g h k s a.now.disks log.head.head members.head found.same found.still members.lost.inside
      (λ m is. ⊎_elim inl
      (λ absent. inr (
        absent.0,
        subst
            (λ (x : Disks). x (m + 1) ≡ None) (disks_same a b to_b told) (absent_disk _ (lawful.sized (told_after a b to_b told) (m + 1) ∙ to_b.sizes (m + 1) ∙ absent.1)),
      )) (found.lost m is))
      (⊎_elim inl (λ rest. inr rest.0) found.mark) by.fits

  -- and so it does whatever a crash leaves before the put
  log_left : (y : Contents) → MayLeave c y → y.disks 0 ≡ a.now.disks 0
  log_left y left = stable_reads b c 0 to_c log.header.stable y left ∙ ap (λ (x : Disks). x 0) (disks_same a c reads (told_before a c reads left.told))

  fits_left : (y : Contents) → MayLeave c y → (s : State) → Holds g s a.now.disks → MatchesHead g k s y.disks
  fits_left y left s holds =
      let told = told_before a c reads left.told in
      let same = disks_same a c reads told in
      fits_agree g a.now.disks y.disks (λ e. left.torn.disks.sizes e ∙ ap (λ (x : Disks). size_of (x e)) same) k s (log_left y left)
      (λ m inside counts. (member_read m inside counts).stable y left ∙ ap (λ (x : Disks). x (m + 1)) same) (fits_entry told s holds)

  header_entry : IsTrue a.tells → (g' : Geometry) (s : State) → Holds g' s a.now.disks → g' ≡ g
  header_entry told g' s holds = one_array g g' s a.now.disks (log.header.header told) holds

  -- the head that was found is that of a state held on entry
  found_is : IsTrue a.tells → (t : Head) (s : State) → HoldsBy g t s a.now.disks → h ≡ t
  found_is told t s by = heads_same g h t (head_value h) (record { head = log.head.head; spelled = refl })
      (record { head = by.fits.head.head; spelled = same_Some (head_value h) (head_value t) (sym (log.head.value told) ∙ by.value) })

  -- the new head holds each state
  put_keeps : (w : View) → ((e : ℕ) → c.faults e ≤ w.faults e) → (y : Contents) (z : Disks) → MayLeave c y → Differs (other_slot cell) y.disks z
      → cell_value cell.place z ≡ Some (head_value k) → KeepsWhoIsLost a w z
  put_keeps w later y z left differs fresh n t s by =
      let told = told_before a c reads left.told in
      let one : n ≡ g = header_entry told n s (record { head = t; by = by }) in
      let here = subst (λ (q : Geometry). HoldsBy q t s a.now.disks) one by in (
        k,
        subst (λ (q : Geometry). HoldsBy q k s z) (sym one) (record {
          value = subst (λ (p : Place). cell_value p z ≡ Some (head_value k)) log.head.place fresh;
          fits = fits_put g k s y.disks z (put_in_cell cell y.disks z log.head.place differs) (fits_left y left s (record { head = t; by = here }));
        }),
        subst (λ (q : Geometry). FoundLost q t k a w) (sym one) (subst (λ (q : Head). FoundLost g q k a w) (found_is told t s here) (found_until w later told)),
      )

  -- at any moment of the put
  put_mounts : (w : View) → ((e : ℕ) → c.faults e ≤ w.faults e) → (y : Contents) (z : Disks) → MayLeave c y → MayPut cell h k y.disks z → Mounts a w y.disks z
  put_mounts w later y z left put = ⊎_elim inl (λ putting. let puts = putting.1 in inr (⊎_elim
      (λ same. inl (record {
        cell = cell;
        place = log.head.place;
        current = subst (λ (p : Place). current_slot p y.disks ≡ Some cell.second) log.head.place (stands_still y left).current;
        differs = puts.differs;
        value = subst (λ (p : Place). cell_value p z ≡ cell_value p y.disks) log.head.place same;
      }))
      (λ fresh. inr (put_keeps w later y z left puts.differs fresh))
      puts.either)) put

  -- the head that is put, whatever the disks hold
  puts_head : (w : View) → ((e : ℕ) → c.faults e ≤ w.faults e) → (y : Contents) (z : Disks) → MayLeave c y → k ≢ h → PutsIn cell (head_value k) y.disks z → PutsHead a w k y.disks z
  puts_head w later y z left other puts =
      let told = told_before a c reads left.told in
      record {
        g = g;
        found = h;
        passed = all_passed told;
        own = others_own told;
        head = members.head;
        lost = found_until w later told;
        changed = other;
        synced = log_left y left;
        slot = record {
          cell = cell;
          place = log.head.place;
          current = subst (λ (p : Place). current_slot p y.disks ≡ Some cell.second) log.head.place (stands_still y left).current;
          differs = puts.differs;
        };
        value = ⊎_elim
            (λ same. inl (subst (λ (p : Place). cell_value p z ≡ cell_value p y.disks) log.head.place same ∙ value_still y left))
            (λ fresh. inr (subst (λ (p : Place). cell_value p z ≡ Some (head_value k)) log.head.place fresh))
            puts.either;
      }
    where
      value_still : (y : Contents) → MayLeave c y → cell_value head_place y.disks ≡ Some (head_value h)
      value_still y left = value_on_disk head_place a.now.disks y.disks (log_left y left) ∙ log.head.value (told_before a c reads left.told)

  -- at any moment
  put_head : (w : View) → ((e : ℕ) → c.faults e ≤ w.faults e) → (y : Contents) (z : Disks) → MayLeave c y → MayPut cell h k y.disks z → MayPutHead a w y.disks z
  put_head w later y z left put = ⊎_elim inl (λ puts. inr (k, puts_head w later y z left puts.0 puts.1)) put

  module _ (d : View) where
    pub writes_head : Moves c d (MayPut cell h k) (MayPut cell h k) → (IsTrue c.tells → Quiet (MayPut cell h k) c.now d.now) → WritesHead a d
    writes_head put now = record { contents = contents; any_moment = moves }
      where
        moves : Moves a d (MayPutHead a d) (MayPutHead a d)
        moves = moves_then a c d Same Same (MayPut cell h k) (MayPut cell h k) (MayPutHead a d) (MayPutHead a d) reads.moves put
            (λ x y was same. inl same)
            (λ x y z was same mid step. subst (λ (q : Disks). MayPutHead a d q z.disks) same (put_head d put.faults y z.disks mid step))
            (λ x y z was same mid step. subst (λ (q : Disks). MayPutHead a d q z.disks) same (put_head d put.faults y z.disks mid step))

        contents : IsTrue a.tells → Quiet (MayPutHead a d) a.now d.now
        contents told =
            let later = told_after a c reads told in
            let step = now later in
            record {
              disks = subst (λ (q : Disks). MayPutHead a d q d.now.disks) (disks_same a c reads told) (put_head d put.faults c.now d.now.disks (read_is_left c later) step.disks);
              said = step.said ∙ ap (λ (n : Contents). n.said) (reads.same told);
            }

    -- no disk but the log changes
    pub put_others : (IsTrue c.tells → Quiet (MayPut cell h k) c.now d.now) → IsTrue a.tells → (e : ℕ) → e ≢ 0 → d.now.disks e ≡ a.now.disks e
    put_others put told e other = ⊎_elim (λ same. ap (λ (x : Disks). x e) same)
        (λ puts. disk_apart (other_slot cell) c.now.disks d.now.disks e puts.1.differs (λ i within. other (within.disk ∙ ap (λ (p : Place). p.disk) log.head.place)))
        (put (told_after a c reads told)).disks
        ∙ ap (λ (x : Disks). x e) (disks_same a c reads told)

    -- and the lost member is the one that was found, or the one before
    put_lost : ((e : ℕ) → c.faults e ≤ d.faults e) → (IsTrue c.tells → Quiet (MayPut cell h k) c.now d.now) → (n : Geometry) (l t : Head) (s u : State) → IsTrue a.tells
        → HoldsBy n l s a.now.disks → HoldsBy n t u d.now.disks → FoundLost n l t a d
    put_lost later put n l t s u told by also = ⊎_elim
        (λ same. same_lost n l t a d (one_head n l t s u a.now.disks d.now.disks by also (ap (cell_value head_place) (same ∙ disks_same a c reads told))))
        (λ putting. let puts = putting.1 in ⊎_elim
        (λ same. same_lost n l t a d (one_head n l t s u a.now.disks d.now.disks by also
        (subst (λ (p : Place). cell_value p d.now.disks ≡ cell_value p c.now.disks) log.head.place same ∙ ap (cell_value head_place) (disks_same a c reads told))))
        (λ fresh. put_it (subst (λ (p : Place). cell_value p d.now.disks ≡ Some (head_value k)) log.head.place fresh))
        puts.either)
        (put (told_after a c reads told)).disks
      where
        put_it : cell_value head_place d.now.disks ≡ Some (head_value k) → FoundLost n l t a d
        put_it value =
            let one : n ≡ g = header_entry told n s (record { head = l; by = by }) in
            let before : h ≡ l = found_is told l s (subst (λ (q : Geometry). HoldsBy q l s a.now.disks) one by) in
            let now : k ≡ t = heads_same g k t (head_value k) (record { head = members.head; spelled = refl })
            (record { head = subst (λ (q : Geometry). IsHead q t) one also.fits.head.head; spelled = same_Some (head_value k) (head_value t) (sym value ∙ also.value) }) in
            subst (λ (q : Geometry). FoundLost q l t a d) (sym one)
            (subst (λ (q : Head). FoundLost g q t a d) before (subst (λ (q : Head). FoundLost g h q a d) now (found_until d later told)))

    -- so each state is kept
    pub keeps_put : Moves c d (MayPut cell h k) (MayPut cell h k) → (IsTrue c.tells → Quiet (MayPut cell h k) c.now d.now) → KeepsEachState a d
    keeps_put put now = record {
      contents = λ told.
          let later = told_after a c reads told in
          let step = now later in
          record {
            disks = subst (λ (q : Disks). Mounts a d q d.now.disks) (disks_same a c reads told) (put_mounts d put.faults c.now d.now.disks (read_is_left c later) step.disks);
            said = step.said ∙ ap (λ (n : Contents). n.said) (reads.same told);
          };
      any_moment = moves_then a c d Same Same (MayPut cell h k) (MayPut cell h k) (Mounts a d) (Mounts a d) reads.moves put
          (λ x y was same. inl same)
          (λ x y z was same mid step. subst (λ (q : Disks). Mounts a d q z.disks) same (put_mounts d put.faults y z.disks mid step))
          (λ x y z was same mid step. subst (λ (q : Disks). Mounts a d q z.disks) same (put_mounts d put.faults y z.disks mid step));
      lost = put_lost put.faults now;
    }

    module _ (after : Slots) (index : Indexed) (room : Buffers) (known : ReadsIndex g h index a)
        (put : Moves c d (MayPut cell h k) (HasPut d cell after h k)) (sizes : (e : ℕ) → d.sizes e ≡ c.sizes e) where
      cell_after : Always d (Stands after)
      cell_after w left =
          let from = put.now w left in
          ⊎_elim (λ none. subst (λ (q : Disks). Stands after q) (sym none.0) (subst (λ (t : Slots). Stands t from.origin.disks) (sym none.2) (stands_still from.origin from.was)))
          (λ done. done.1.stands) from.by.disks

      pending_is : IsTrue a.tells → (s : State) → Holds g s a.now.disks → stage.pending ≡ pending g s k.drained
      pending_is told s holds =
          let by = held_by_read g h s a.now.disks holds (log.head.value told) log.head.head in
          let is = by.fits.head in
          let numbers = log.head.head.numbers in
          let found = subst (λ (n : ℕ). IsFound g h.drained n a.now.disks stage) is.last (log.slots.slots told) in
          let same : k.drained ≡ h.drained = ap (λ (t : Head). t.drained) (found_entry told).same in
          found_pending g s h.drained a.now.disks stage by.fits.valid (low is.first numbers.dropped) (high is.last numbers.drained) by.fits.slots log.slots.is found
          ∙ ap (pending g s) (sym same)
        where
          low : h.first ≡ s.first → h.first ≤ h.drained → s.first ≤ h.drained
          low first dropped = omega arith

          high : h.last ≡ last s → h.drained ≤ h.last → h.drained ≤ last s
          high end drained = omega arith

      pub mount_stands : (g' : Geometry) (s : State) → IsTrue a.tells → Holds g' s a.now.disks → (g ≡ g') × Always d (StandsFor (mounted_by g k after stage index room) s)
      mount_stands g' s told holds =
          let one = header_entry told g' s holds in
          let here = subst (λ (n : Geometry). Holds n s a.now.disks) one holds in (
            sym one,
            λ w left.
                let from = put.now w left in
                let fits = fits_left from.origin from.was s here in
                record {
                  by = ⊎_elim
                      (λ none. record {
                        value = subst (λ (q : Disks). cell_value head_place q ≡ Some (head_value k)) (sym none.0)
                            (value_on_disk head_place a.now.disks from.origin.disks (log_left from.origin from.was) ∙ log.head.value told ∙ ap (λ (t : Head). Some (head_value t)) (sym none.1));
                        fits = subst (λ (q : Disks). MatchesHead g k s q) (sym none.0) fits;
                      })
                      (λ done. record {
                        value = subst (λ (p : Place). cell_value p w.disks ≡ Some (head_value k)) log.head.place done.1.value;
                        fits = fits_put g k s from.origin.disks w.disks (put_in_cell cell from.origin.disks w.disks log.head.place done.1.differs) fits;
                      })
                      from.by.disks;
                  cell = cell_after w left;
                  pending = pending_is told s here;
                  index = read_described g h s index a (held_by_read g h s a.now.disks here (log.head.value told) log.head.head) known told;
                },
          )

      -- the cell's value is the array's head
      done_head : (y : Contents) (z : Disks) → MayLeave c y → HasPut d cell after h k y.disks z → HasPutHead a d k y.disks z
      done_head y z left done = ⊎_elim
          (λ none. (
            inl none.0,
            subst (λ (q : Disks). cell_value head_place q ≡ Some (head_value k)) (sym none.0)
                (value_on_disk head_place a.now.disks y.disks (log_left y left) ∙ log.head.value (told_before a c reads left.told) ∙ ap (λ (t : Head). Some (head_value t)) (sym none.1)),
          ))
          (λ was. (
            inr (puts_head d put.faults y z left was.0 (record { differs = was.1.differs; either = inr was.1.value })),
            subst (λ (p : Place). cell_value p z ≡ Some (head_value k)) log.head.place was.1.value,
          ))
          done

      pub mount_head : Moves a d (MayPutHead a d) (HasPutHead a d k)
      mount_head = moves_then a c d Same Same (MayPut cell h k) (HasPut d cell after h k) (MayPutHead a d) (HasPutHead a d k) reads.moves put
          (λ x y was same. inl same)
          (λ x y z was same mid step. subst (λ (q : Disks). MayPutHead a d q z.disks) same (put_head d put.faults y z.disks mid step))
          (λ x y z was same mid step. subst (λ (q : Disks). HasPutHead a d k q z.disks) same (done_head y z.disks mid step))

      -- what the array knows is what was read
      mount_count : k.drained + length stage.pending ≡ k.last
      mount_count = let slots = stage_put in ap (λ (n : ℕ). n + length stage.pending) (sym slots.drained) ∙ slots.last

      pub mount_slots : IsTrue a.tells → SlotsAre g k.drained stage.pending a.now.disks
      mount_slots told = subst (λ (n : ℕ). SlotsAre g n stage.pending a.now.disks) (sym (ap (λ (t : Head). t.drained) members.same)) ((log.slots.slots told).slots)

      pub mount_exact : HasExactSizes g k.lost k.rebuilt a
      mount_exact = record { log = log.header.size; members = λ m inside counts. sym (to_b.sizes (m + 1)) ∙ (member_read m inside counts).size }

      pub mount_ready : HaveBlocksOf g.block room → IsReady (mounted_by g k after stage index room) d
      mount_ready own = record {
        sizes = λ running. record {
          log = (log_size g, sizes 0 ∙ reads.sizes 0 ∙ log.header.size, omega arith);
          members = λ m inside counts. (member_size g, sizes (m + 1) ∙ to_c.sizes (m + 1) ∙ (member_read m inside counts).size, omega arith);
        };
        stands = λ running. cell_after;
        value = λ running w left. let from = put.now w left in (done_head from.origin w.disks from.was from.by.disks).1;
        count = λ running. mount_count;
        room = (own.blocks, own.free);
      }

      pub mount_found : HasFound (mounted_by g k after stage index room) a d
      mount_found = record {
        passed = λ told.
            let later = told_after a b to_b told in
            let same = disks_same a b to_b told in (
              h,
              all_passed told,
              found_until d put.faults told,
              others_own told,
              λ m is more. subst (λ (x : Disks). IsMember g x m) same ((members.own m is more).own later),
            );
      }
