-- What mounting reads of the head, the pending writes and the records.
use Rattle.std.proofs.Common.{◌≡◌, ℕ, ◌+◌, ◌-◌, List, slice_index, Some, None, All, IsTrue, Result, Ok, Err, IfErr, IsErrAnd, inl, inr, refl, sym, ap, subst, ◌∙◌, arith}
use Rattle.trap_bank.specs.Disks.{View, Disks}
use Rattle.trap_bank.proofs.Moves.{always_same}
use Rattle.trap_bank.specs.Steps.{OnlyReads}
use Rattle.trap_bank.proofs.OnlyReads.{reads_then, told_after, disks_same}
use Rattle.trap_cell.specs.Slots.{Slots, Stands, cell_value}
use Rattle.trap_format.specs.HeadValue.{IsHead, IsHeadValue, head_value}
use Rattle.trap_format.specs.declared.head.Head.{Head}
use Rattle.trap_index.specs.Indexed.{Indexed, nothing_indexed}
use Rattle.trap_model.specs.Image.{volume}
use Rattle.trap_model.specs.declared.numbers.Geometry.{Geometry}
use Rattle.trap_ring.specs.Ring.{RingPlace, ring_pos}
use Rattle.trap_scan.specs.Chain.{AreRecords}
use Rattle.trap_scan.specs.Scan.{AreExpected, BreaksAt}
use Rattle.trap_scan.specs.Window.{IsWindow}
use Rattle.trap_scan.proofs.Windows.{window_some}
use Rattle.trap_scan.specs.declared.expected.Expected.{Expected}
use Rattle.trap_stage.specs.Staged.{IsStaged}
use Rattle.trap_stage.specs.Slots.{Stage, last_of}
use Rattle.trap_stage.specs.Found.{IsFound, IsStage, IsDamagedSlot}
use Rattle.trap_stage.proofs.OneAnswer.{each_is_slot}
use Rattle.trap_mount.specs.Holding.{head_place, log_ring}
use Rattle.trap_mount.specs.Mounting.{HasHeader, HasHead, HasSlots, HasRecords, IsDamage, Refuses, head_history}
use Rattle.trap_mount.specs.MountSteps.{ReadsHeader, ReadsHead, ReadsStage, ReadsLog}
use Rattle.trap_mount.specs.Reading.{AreRecordsRead, HasTaken, ReadsIndex}
use Rattle.trap_mount.specs.declared.fault.MountFault.{MountFault}
use Rattle.trap_raid.proofs.OwnDisks.{stable_reads}
use Rattle.trap_mount.proofs.MountReads.{refused_before}

-- what a call left open at the exit of a `?`
pub exit : {T E : Type 0} (P : E → Type 0) (r : Result T E) (e : E) → IsErrAnd r (λ y. y ≡ e) → P e → IfErr r P
exit P (Ok x) e is holds = absurd is
exit P (Err y) e is holds = subst P (sym is) holds

-- ---- the head

-- a cell with no value
pub no_value : (g : Geometry) (disks : Disks) → HasHeader g disks → cell_value head_place disks ≡ None → IsDamage disks 64
no_value g disks header none = inr (inl (g, header, refl, λ bytes value. absurd (two bytes (sym none ∙ value))))
  where
    two : (bytes : List ℕ) → None ≡ Some bytes → ⊥
    two bytes e = cc

-- a value that is no head's
pub no_head : (g : Geometry) (disks : Disks) (value : List ℕ) → HasHeader g disks → cell_value head_place disks ≡ Some value
    → slice_index value 0 ≡ 1 → ((h : Head) → IsHeadValue g h value → ⊥) → IsDamage disks 64
no_head g disks value header there version none = inr (inl (
  g,
  header,
  refl,
  λ bytes is.
      let same : value ≡ bytes = one bytes (sym there ∙ is) in
      subst (λ (xs : List ℕ). (slice_index xs 0 ≡ 1) × ((h : Head) → IsHeadValue g h xs → ⊥)) same (version, none),
))
  where
    one : (bytes : List ℕ) → Some value ≡ Some bytes → value ≡ bytes
    one bytes e = cc

-- ---- the pending writes and the records

pub bad_slot : (g : Geometry) (h : Head) (disks : Disks) (offset : ℕ) → HasHead g h disks → IsDamagedSlot g h.drained h.last disks offset → IsDamage disks offset
bad_slot g h disks offset head damaged = inr (inr (inl (g, h, head, damaged)))

-- these are the numbers of a log's records
pub record AsksFor (g : Geometry) (h : Head) (e : Expected) : Type 0 where
  pub size : e.size ≡ g.block
  pub volume_ : e.volume ≡ volume g
  pub first : e.first ≡ h.first
  pub base_time : e.base_time ≡ h.base_time
  pub first_off : e.first_off ≡ h.first_off
  pub last : e.last ≡ h.last
  pub last_time : e.last_time ≡ h.last_time
  pub end_off : e.end_off ≡ h.end_off

-- the same numbers as one value
abbrev asked : Geometry → Head → Expected
asked g h = record { size = g.block; volume = volume g; first = h.first; base_time = h.base_time; first_off = h.first_off; last = h.last; last_time = h.last_time; end_off = h.end_off }

asked_is : (g : Geometry) (h : Head) (e : Expected) → AsksFor g h e → e ≡ asked g h
asked_is g h e asks =
    same e.size e.volume e.first e.base_time e.first_off e.last e.last_time e.end_off asks.size asks.volume_ asks.first asks.base_time asks.first_off asks.last asks.last_time asks.end_off
  where
    same : (a b c d e f i j : ℕ) → a ≡ g.block → b ≡ volume g → c ≡ h.first → d ≡ h.base_time → e ≡ h.first_off → f ≡ h.last → i ≡ h.last_time → j ≡ h.end_off
        → ◌≡◌ {A = Expected} (record { size = a; volume = b; first = c; base_time = d; first_off = e; last = f; last_time = i; end_off = j }) (asked g h)
    same a b c d e f i j p1 p2 p3 p4 p5 p6 p7 p8 = cc

module _ (g : Geometry) (h : Head) (e : Expected) (r : RingPlace) (disks : Disks) (head : IsHead g h) (asks : AsksFor g h e) (ring : r ≡ log_ring g)
    (slots : HasSlots g h disks) where
  -- the window of the retained records
  there : (bytes : List ℕ) × IsWindow (log_ring g) h.first_off h.end_off bytes disks
  there =
      let order = head.offsets.order in
      let end : h.first_off + (h.end_off - h.first_off) ≡ h.end_off = omega arith in
      let some = window_some (log_ring g) h.first_off (h.end_off - h.first_off) disks in
      (some.0, subst (λ (to : ℕ). IsWindow (log_ring g) h.first_off to some.0 disks) end some.1)

  -- all records are right
  pub records_right : ((bytes : List ℕ) → IsWindow r e.first_off e.end_off bytes disks → AreExpected e bytes) → HasRecords g h disks
  records_right right = record {
    slots = slots;
    window = there.0;
    is = there.1;
    records = here there.0 there.1;
  }
    where
      by_ring : (bytes : List ℕ) → IsWindow (log_ring g) e.first_off e.end_off bytes disks → AreExpected e bytes
      by_ring = subst (λ (q : RingPlace). (bytes : List ℕ) → IsWindow q e.first_off e.end_off bytes disks → AreExpected e bytes) ring right

      here : (bytes : List ℕ) → IsWindow (log_ring g) h.first_off h.end_off bytes disks → AreRecords (head_history g h) h.first h.base_time (h.last - h.first) bytes
      here = subst (λ (x : Expected). (bytes : List ℕ) → IsWindow (log_ring g) x.first_off x.end_off bytes disks → AreExpected x bytes) (asked_is g h e asks) by_ring

  -- one of them isn't
  pub record_wrong : (at offset : ℕ) → ((bytes : List ℕ) → IsWindow r e.first_off e.end_off bytes disks → BreaksAt e bytes at)
      → offset ≡ ring_pos (log_ring g) at → IsDamage disks offset
  record_wrong at offset breaks place =
      let broken = here there.0 there.1 in
      let least = broken.least in
      let same : at ≡ h.first_off + (at - h.first_off) = omega arith in
      inr (inr (inr (
        g,
        h,
        there.0,
        at - h.first_off,
        slots,
        there.1,
        broken.broken,
        place ∙ ap (ring_pos (log_ring g)) same,
      )))
    where
      by_ring : (bytes : List ℕ) → IsWindow (log_ring g) e.first_off e.end_off bytes disks → BreaksAt e bytes at
      by_ring = subst (λ (q : RingPlace). (bytes : List ℕ) → IsWindow q e.first_off e.end_off bytes disks → BreaksAt e bytes at) ring breaks

      here : (bytes : List ℕ) → IsWindow (log_ring g) h.first_off h.end_off bytes disks → BreaksAt (asked g h) bytes at
      here = subst (λ (x : Expected). (bytes : List ℕ) → IsWindow (log_ring g) x.first_off x.end_off bytes disks → BreaksAt x bytes at) (asked_is g h e asks) by_ring

-- the index of the records that were read is that of the head's
pub index_read : (g : Geometry) (h : Head) (e : Expected) (r : RingPlace) (i j : Indexed) (v : View) → AsksFor g h e → r ≡ log_ring g
    → i ≡ nothing_indexed g h.first h.base_time h.first_off → HasTaken i j e.last e.last_time
    → (IsTrue v.tells → (bytes : List ℕ) → IsWindow r e.first_off e.end_off bytes v.now.disks → AreRecordsRead i.g.block j.recs bytes) → ReadsIndex g h j v
index_read g h e r i j v asks ring none taken read = record {
  of = ap (λ (k : Indexed). k.g) taken.same ∙ ap (λ (k : Indexed). k.g) none;
  first = ap (λ (k : Indexed). k.first) taken.same ∙ ap (λ (k : Indexed). k.first) none;
  base_time = ap (λ (k : Indexed). k.base_time) taken.same ∙ ap (λ (k : Indexed). k.base_time) none;
  offset = ap (λ (k : Indexed). k.first_off) taken.same ∙ ap (λ (k : Indexed). k.first_off) none;
  end = taken.end ∙ asks.last;
  time = taken.time_ ∙ asks.last_time;
  read = λ told bytes window.
      let P : RingPlace → Type 0 = λ (q : RingPlace). IsWindow q e.first_off e.end_off bytes v.now.disks in
      let Q : Expected → Type 0 = λ (x : Expected). IsWindow (log_ring g) x.first_off x.end_off bytes v.now.disks in
      subst (λ (k : Indexed). AreRecordsRead k.g.block j.recs bytes) none (read told bytes (subst P (sym ring) (subst Q (sym (asked_is g h e asks)) window)));
}

-- read over the disks as they were before
pub index_before : (g : Geometry) (h : Head) (i : Indexed) (a b : View) → OnlyReads a b → ReadsIndex g h i b → ReadsIndex g h i a
index_before g h i a b reads known = record {
  of = known.of;
  first = known.first;
  base_time = known.base_time;
  offset = known.offset;
  end = known.end;
  time = known.time;
  read = λ told bytes window. known.read (told_after a b reads told) bytes
      (subst (λ (x : Disks). IsWindow (log_ring g) h.first_off h.end_off bytes x) (sym (disks_same a b reads told)) window);
}

-- ---- all that stands on the log's disk

-- the slots hold what the stage has
pub slots_found : (g : Geometry) (h : Head) (stage : Stage) (disks : Disks) → HasHead g h disks → IsHead g h → last_of stage ≡ h.last → stage.drained ≡ h.drained → IsStage stage
    → IsFound g h.drained h.last disks stage → HasSlots g h disks
slots_found g h stage disks head is last drained sound found = record {
  head = head;
  slots = λ q low high. each_is_slot g h.drained stage.pending disks (subst (λ (k : Geometry). All (IsStaged k) stage.pending) found.g_ sound.writes) found.slots q low (omega (arith, high));
}

-- the header and the head, over the disks as they were on entry
module _ (g : Geometry) (h : Head) (cell : Slots) (a b c : View) (to_b : OnlyReads a b) (to_c : OnlyReads b c)
    (header : ReadsHeader g a b) (head : ReadsHead h g cell b c) where
  pub head_there : IsTrue a.tells → HasHead g h a.now.disks
  head_there told = record {
    header = header.header told;
    value = subst (λ (x : Disks). cell_value head_place x ≡ Some (head_value h)) (disks_same a b to_b told) (head.value (told_after a b to_b told));
    head = head.head;
  }

  pub stage_refused : (why : MountFault) → (IsTrue c.tells → HasHead g h c.now.disks → Refuses c why) → IsTrue a.tells → Refuses a why
  stage_refused why refused told =
      let reads = reads_then a b c to_b to_c in
      refused_before a c why reads (λ later. refused later (subst (λ (x : Disks). HasHead g h x) (sym (disks_same a c reads told)) (head_there told))) told

module _ (g : Geometry) (h : Head) (cell : Slots) (stage : Stage) (a b c d e : View) (to_b : OnlyReads a b) (to_c : OnlyReads b c) (to_d : OnlyReads c d) (to_e : OnlyReads d e)
    (header : ReadsHeader g a b) (head : ReadsHead h g cell b c) (staged : ReadsStage g h stage c) where
  slots_there : IsTrue a.tells → HasSlots g h a.now.disks
  slots_there told =
      let reads = reads_then a b c to_b to_c in
      slots_found g h stage a.now.disks (head_there g h cell a b c to_b to_c header head told) head.head staged.last staged.drained staged.is
      (subst (λ (x : Disks). IsFound g h.drained h.last x stage) (disks_same a c reads told) (staged.slots (told_after a c reads told)))

  pub records_refused : (why : MountFault) → (IsTrue d.tells → HasSlots g h d.now.disks → Refuses d why) → IsTrue a.tells → Refuses a why
  records_refused why refused told =
      let reads = reads_then a c d (reads_then a b c to_b to_c) to_d in
      refused_before a d why reads (λ later. refused later (subst (λ (x : Disks). HasSlots g h x) (sym (disks_same a d reads told)) (slots_there told))) told

  pub log_read : (IsTrue d.tells → HasSlots g h d.now.disks → HasRecords g h d.now.disks) → ReadsLog g h cell stage a e
  log_read records = record {
    header = record { size = header.size; one_slot = header.one_slot; header = header.header; stable = stable_reads b e 0 (reads_then b d e (reads_then b c d to_c to_d) to_e) header.stable };
    head = record {
      head = head.head;
      value = λ told. (head_there g h cell a b c to_b to_c header head told).value;
      place = head.place;
      stands = always_same c e (Stands cell) (reads_then c d e to_d to_e).moves head.stands;
    };
    slots = record {
      same = staged.same;
      drained = staged.drained;
      last = staged.last;
      is = staged.is;
      slots = λ told. let reads = reads_then a b c to_b to_c in subst (λ (x : Disks). IsFound g h.drained h.last x stage) (disks_same a c reads told) (staged.slots (told_after a c reads told));
    };
    records = λ told. let reads = reads_then a c d (reads_then a b c to_b to_c) to_d in
        subst (λ (x : Disks). HasRecords g h x) (disks_same a d reads told)
        (records (told_after a d reads told) (subst (λ (x : Disks). HasSlots g h x) (sym (disks_same a d reads told)) (slots_there told)));
  }
