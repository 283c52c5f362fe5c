-- The log as a source: what its calls leave, and how many reads they take.
use Rattle.std.proofs.Common.{◌≡◌, ◌⊎◌, List, ℕ, ◌+◌, ◌-◌, ◌*◌, ◌<◌, ◌≤◌, Option, Some, None, Bool, true, false, nat_le, if◌then◌else◌, ◌%◌, Result, Ok, Err, IfErr, IsErrOf, IsTrue, ⊎_elim, refl, ap, sym, subst, ◌∙◌, arith}
use Rattle.std.proofs.Math.Nat.{lt_of_not-le}
use Rattle.std.proofs.lemmas.Bool.{le-leb, leb-true, false≢true}
use Rattle.trap_bank.specs.Steps.{OnlyReads}
use Rattle.trap_bank.specs.Disks.{View}
use Rattle.trap_bank.specs.Calls.{Fits}
use Rattle.trap_format.specs.LogDisk.{log_size}
use Rattle.trap_format.specs.MemberDisk.{member_size}
use Rattle.trap_index.specs.Indexed.{Indexed, IsLastBy, path_to}
use Rattle.trap_model.specs.declared.numbers.Geometry.{Geometry}
use Rattle.trap_model.specs.Image.{volume}
use Rattle.trap_model.specs.State.{IsValid}
use Rattle.trap_past.specs.Asking.{IsLater, nth_newest, last_looked}
use Rattle.trap_past.specs.Past.{IsIndexOf}
use Rattle.trap_past.proofs.Telling.{of_described}
use Rattle.trap_past.proofs.Tracing.{IsLawful}
use Rattle.trap_raid.specs.Standing.{reads_of}
use Rattle.trap_raid.proofs.StandingLemmas.{reads_with_all, reads_with_one_lost}
use Rattle.trap_bank.specs.Called.{CalledTimes, CalledAtMost, TakesCalls}
use Rattle.trap_bank.proofs.Called.{not_called, called_at_most}
use Rattle.trap_map.specs.Layout.{block_place}
use Rattle.trap_map.specs.declared.places.Place.{Place}
use Rattle.trap_ring.specs.Ring.{RingPlace, ring_calls}
use Rattle.trap_stage.specs.Staged.{Staged}
use Rattle.trap_model.specs.declared.history.State.{State}
use Rattle.trap_array.specs.Calling.{CallsInRead, present_until}
use Rattle.trap_array.specs.Calls.{Mounted, StandsFor, running}
use Rattle.trap_array.specs.Instants.{CanLookBack, FailsLooking}
use Rattle.trap_array.specs.Log.{IndexedLog}
use Rattle.trap_array.specs.Sources.{CallCounts, is_long, IsFor, past_of_log, CallsAtMost, ReadsPresent, CallsBeside, record_reads, present_of, present_reads, OnlyLooked, LookFailed, LooksDamaged}
use Rattle.trap_array.proofs.Sources.{look_fails}
use Rattle.trap_array.proofs.WriteSteps.{mounted}
use Rattle.trap_array.specs.declared.fault.Denied.{Denied}
use Rattle.trap_array.specs.declared.fault.Denied.TheVariants.{MemberFault, Damaged}

-- ---- the disks are long enough
long_of : (v : View) (d end : ℕ) → Fits v d end → IsTrue (is_long (v.sizes d) end)
long_of v d end fits = subst (λ (o : Option ℕ). IsTrue (is_long o end)) (sym fits.1) (le-leb end fits.0 fits.2)

fits_of : (v : View) (d end : ℕ) → IsTrue (is_long (v.sizes d) end) → Fits v d end
fits_of v d end long = by_size (v.sizes d) refl
  where
    by_size : (o : Option ℕ) → v.sizes d ≡ o → Fits v d end
    by_size None is = absurd (false≢true (subst (λ (o : Option ℕ). IsTrue (is_long o end)) is long))
    by_size (Some size) is = (size, is, leb-true end size (subst (λ (o : Option ℕ). IsTrue (is_long o end)) is long))

pub is_for : (log : IndexedLog) (v : View) → CanLookBack log v → IsFor log v
is_for log v can = record {
  in_step = can.in_step;
  same = can.same;
  log_disk = long_of v 0 (log_size log.g) can.sizes.log;
  members = λ m inside counts. long_of v (m + 1) (member_size log.g) (can.sizes.members m inside counts);
}

pub can_look : (log : IndexedLog) (v : View) → IsFor log v → CanLookBack log v
can_look log v is = record {
  in_step = is.in_step;
  same = is.same;
  sizes = record {
    log = fits_of v 0 (log_size log.g) is.log_disk;
    members = λ m inside counts. fits_of v (m + 1) (member_size log.g) (is.members m inside counts);
  };
}

-- and they are so still
pub is_for_still : (log : IndexedLog) (old new : View) → IsFor log old → OnlyReads old new → IsFor log new
is_for_still log old new is reads = record {
  in_step = is.in_step;
  same = is.same;
  log_disk = subst (λ (o : Option ℕ). IsTrue (is_long o (log_size log.g))) (sym (reads.sizes 0)) is.log_disk;
  members = λ m inside counts. subst (λ (o : Option ℕ). IsTrue (is_long o (member_size log.g))) (sym (reads.sizes (m + 1))) (is.members m inside counts);
}

module _ (log : IndexedLog) (v : View) (n : CallCounts) (same : log.index.g ≡ log.g) where
  pub index_is : IsIndexOf log.index (past_of_log log v n).has
  index_is = record {
    first = refl;
    last = refl;
    items = λ q low high. refl;
    volume = (let is = ap volume same in omega arith);
  }

  pub lawful : IsLawful (past_of_log log v n)
  lawful s stands =
      of_described log.index s (past_of_log log v n).has stands.1.index
      (subst (λ (g : Geometry). IsValid g s) (sym same) stands.1.by.fits.valid) index_is (ap volume (sym same)) (ap (λ (g : Geometry). g.block) (sym same))

-- ---- how many reads
none_called : (calls : ℕ) (v : View) → CallsAtMost calls v v
none_called calls v = record { by_one = refl; moment = λ told one. omega arith }

few_calls : (few calls : ℕ) (old new : View) → few ≤ calls → CalledAtMost few old new → CallsAtMost calls old new
few_calls few calls old new most called = record {
  by_one = called.by_one;
  moment = λ told one. (let at = called.moment told one in omega arith);
}

-- a record takes two at most
pub ring_reads : {T E : Type 0} (r : RingPlace) (at len : ℕ) (result : Result T E) (old new : View) → TakesCalls (ring_calls r at len) result old new → CallsAtMost 2 old new
ring_reads r at len result old new takes = few_calls (ring_calls r at len) 2 old new (two (nat_le (at % r.len + len) r.len)) takes.most
  where
    two : (b : Bool) → (if b then 1 else 2) ≤ 2
    two true = omega arith
    two false = omega arith

-- a read of a place takes as many as the present contents of a block
pub place_calls : {T E : Type 0} (result : Result T E) (g : Geometry) (lost : Option ℕ) (writes : List Staged) (row member : ℕ) (old new : View) → member < g.members
    → TakesCalls (reads_of g lost writes row member) result old new → CallsAtMost (present_reads g lost) old new
place_calls result g (Some gone) writes row member old new inside takes =
    few_calls (reads_of g (Some gone) writes row member) (g.members - 1) old new (reads_with_one_lost g gone writes row member inside) takes.most
place_calls result g None writes row member old new inside takes =
    few_calls (reads_of g None writes row member) 1 old new (reads_with_all g writes row member) takes.most

-- a read of a block's place is one of its present contents
pub present_calls : {T E : Type 0} (result : Result T E) (a : Mounted) (block : ℕ) (place : Place) (old new : View) → place ≡ block_place a.g block → place.member < a.g.members
    → TakesCalls (reads_of a.g a.head.lost a.pending place.row place.member) result old new → ReadsPresent a block result old new
present_calls {T = T} {E = E} result a block place old new is inside takes = record {
  exact = subst (λ (p : Place). TakesCalls {T = T} {E = E} (reads_of a.g a.head.lost a.pending p.row p.member) result old new) is takes;
  most = place_calls result a.g a.head.lost a.pending place.row place.member old new inside takes;
}

-- no call, where nothing is read
pub reads_no_present : {T : Type 0} (a : Mounted) (block : ℕ) (why : Denied) (v : View) → ((first second : ℕ) → why ≡ MemberFault first second → ⊥) → CallsInRead {T = T} a block (Err why) v v
reads_no_present a block why v other = record {
  exact = record { ok = tt; most = called_at_most 0 (present_of a block) v v (omega arith) (not_called v) };
  most = none_called (present_reads a.g a.head.lost) v;
  failed = λ first second is. absurd (other first second (cc is));
}

-- the same of an array, stopped or not, and with another name for a fault
pub reads_mounted : {T E : Type 0} (log : IndexedLog) (stopped : Bool) (block : ℕ) (value : T) (old new : View) → ReadsPresent {T = T} {E = E} (running log) block (Ok value) old new
    → CallsInRead {T = T} (mounted log stopped) block (Ok value) old new
reads_mounted log stopped block value old new reads = record {
  exact = record { ok = reads.exact.ok; most = reads.exact.most };
  most = reads.most;
  failed = λ first second is. absurd (cc is);
}

pub reads_failed : {T E : Type 0} (log : IndexedLog) (stopped : Bool) (block member : ℕ) (why : E) (other : Denied) (old new : View) → other ≡ MemberFault member member
    → ReadsPresent {T = T} {E = E} (running log) block (Err why) old new → CalledTimes (present_until (running log) block member) old new
    → CallsInRead {T = T} (mounted log stopped) block (Err other) old new
reads_failed log stopped block member why other old new is reads until = record {
  exact = record { ok = tt; most = reads.exact.most };
  most = reads.most;
  failed = λ first second at.
      let same : member ≡ second = cc (is, at) in
      subst (λ (m : ℕ). CalledTimes (present_until (running log) block m) old new) same until;
}

-- as a call of the source
pub present_goes : (log : IndexedLog) (p a b f t was block n : ℕ) (old new : View) → OnlyReads old new → CalledAtMost (present_of (running log) block) old new
    → OnlyLooked log (record { presents = p; parities = a; snapshots = b; faults = f; asked = was; looked = n })
    (record { presents = p + 1; parities = a; snapshots = b; faults = t; asked = block; looked = n }) old new
present_goes log p a b f t was block n old new reads calls = record {
  reads = reads;
  presents = omega arith;
  by_one = calls.by_one;
  none = λ same. absurd (more p same);
  one = λ is told by_one. (let most = calls.moment told by_one in omega arith);
}
  where
    more : (p : ℕ) → p + 1 ≡ p → ⊥
    more p is = omega (arith, is)

-- and one that reads a record
pub record_goes : (log : IndexedLog) (was now : CallCounts) (old new : View) → now.presents ≡ was.presents → now.asked ≡ was.asked
    → record_reads now ≡ record_reads was + 2 → OnlyReads old new → CallsAtMost 2 old new
    → OnlyLooked log was now old new
record_goes log was now old new same asked more reads calls = record {
  reads = reads;
  presents = omega (arith, same);
  by_one = calls.by_one;
  none = λ _. (asked, λ told by_one. (let most = calls.moment told by_one in omega (arith, more, most)));
  one = λ is. absurd (other was.presents (sym same ∙ is));
}
  where
    other : (p : ℕ) → p ≡ p + 1 → ⊥
    other p is = omega (arith, is)

pub parity_goes : (log : IndexedLog) (p a b f t asked n k : ℕ) (old new : View) → OnlyReads old new → CallsAtMost 2 old new
    → OnlyLooked log (record { presents = p; parities = a; snapshots = b; faults = f; asked = asked; looked = n })
    (record { presents = p; parities = a + 1; snapshots = b; faults = t; asked = asked; looked = k }) old new
parity_goes log p a b f t asked n k old new reads calls = record_goes log _ _ old new refl refl (two a b) reads calls
  where
    two : (a b : ℕ) → 2 * (a + 1) + 2 * b ≡ 2 * a + 2 * b + 2
    two a b = omega arith

pub snapshot_goes : (log : IndexedLog) (p a b f t asked n k : ℕ) (old new : View) → OnlyReads old new → CallsAtMost 2 old new
    → OnlyLooked log (record { presents = p; parities = a; snapshots = b; faults = f; asked = asked; looked = n })
    (record { presents = p; parities = a; snapshots = b + 1; faults = t; asked = asked; looked = k }) old new
snapshot_goes log p a b f t asked n k old new reads calls = record_goes log _ _ old new refl refl (two a b) reads calls
  where
    two : (a b : ℕ) → 2 * a + 2 * (b + 1) ≡ 2 * a + 2 * b + 2
    two a b = omega arith

-- no calls yet
abbrev pub no_counts : ℕ → CallCounts
no_counts asked = record { presents = 0; parities = 0; snapshots = 0; faults = 0; asked = asked; looked = 0 }

-- the present contents of one block at most, and that many parities
pub look_calls : (log : IndexedLog) (first : ℕ) (n : CallCounts) (block turns : ℕ) (old new : View) → (n.presents ≡ 0) ⊎ ((n.presents ≡ 0 + 1) × (n.asked ≡ block)) → n.parities ≤ 0 + turns
    → n.snapshots ≡ 0 → OnlyLooked log (no_counts first) n old new → CallsAtMost (present_of (running log) block + 2 * turns) old new
look_calls log first n block turns old new present few none looks = record {
  by_one = looks.by_one;
  moment = λ told by_one. ⊎_elim
      (λ kept. (let calls = (looks.none kept).1 told by_one in omega arith))
      (λ once. (let calls = (subst (λ (k : ℕ). CallsBeside (present_of (running log) k) (no_counts first) n old new) once.1 (looks.one once.0)) told by_one in omega arith))
      present;
}

-- a record isn't damaged where the log stands for a state
pub look_damaged : (log same : IndexedLog) (was now : CallCounts) (old new : View) (result : Result (Unit {0}) Denied) (offset : ℕ)
    → IfErr result (λ fault. (log ≡ same) × LookFailed log was now old new fault) → IsErrOf result (Damaged offset) → IsTrue old.tells → (s : State) → StandsFor (running log) s old.now.disks → ⊥
look_damaged log same was now old new result offset caused is told s stands =
    (subst (λ (r : Result (Unit {0}) Denied). IfErr r (λ fault. (log ≡ same) × LookFailed log was now old new fault)) is caused).1.damaged offset refl told s stands

-- a look back fails by a disk or by the record of a later write of the block
pub undo_fails : (log same : IndexedLog) (block q taken looked : ℕ) (was now : CallCounts) (old new : View) (result : Result (Unit {0}) Denied)
    → ((k : ℕ) → k < (path_to log.index block q).turns → IsLater log.index block q (nth_newest log.index block k))
    → taken ≤ (path_to log.index block q).turns → looked ≡ last_looked log.index block taken 0 → log ≡ same → OnlyReads old new
    → IfErr result (λ fault. (log ≡ same) × LookFailed log was now old new fault) → IfErr result (λ fault. LooksDamaged same looked new fault)
    → IfErr result (FailsLooking (running log) block q old new)
undo_fails log same block q taken looked was now old new (Ok value) later few is keeps reads failed after = tt
undo_fails log same block q taken looked was now old new (Err e) later few is keeps reads failed after =
    look_fails log block q taken looked old new e later few is reads failed.1.fails (subst (λ (l : IndexedLog). LooksDamaged l looked new e) (sym keeps) after)

-- ---- there is one last number by a time
none_later : (i : Indexed) (time p q : ℕ) → IsLastBy i time p → IsLastBy i time q → p < q → ⊥
none_later i time p q one other less =
    let low = one.low in
    let after = one.later q less other.high in
    let by = other.by q (omega arith) (omega arith) in
    omega arith

pub one_last_by : (i : Indexed) (time p q : ℕ) → IsLastBy i time p → IsLastBy i time q → p ≡ q
one_last_by i time p q one other =
    let not_above : p < q + 1 = lt_of_not-le (λ (above : q + 1 ≤ p). none_later i time q p other one (omega arith)) in
    let not_below : q < p + 1 = lt_of_not-le (λ (below : p + 1 ≤ q). none_later i time p q one other (omega arith)) in
    omega arith
