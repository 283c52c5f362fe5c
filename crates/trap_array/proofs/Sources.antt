-- The records of a state's entries, as they are read again.
use Rattle.std.proofs.Common.{◌≡◌, ℕ, zero, suc, ◌+◌, ◌-◌, ◌^◌, ◌<◌, ◌≤◌, List, [], ◌++◌, length, take, drop, refl, ap, sym, ◌∙◌, subst, arith, length-take, take_all, take_at, append-nil, Bool, true, IsTrue, Result, Ok, Err, IfErr, IsErrOf, if◌then◌else◌}
use Rattle.trap_bank.specs.Disks.{Disks, Contents, View}
use Rattle.trap_bank.specs.Steps.{OnlyReads}
use Rattle.trap_block.specs.Xor.{xor}
use Rattle.trap_block.proofs.XorLemmas.{length-xor}
use Rattle.trap_index.specs.declared.item.Item.{Item}
use Rattle.trap_index.specs.Describes.{Describes, block_before}
use Rattle.trap_index.specs.Indexed.{Indexed, last_seq, rec_at, rec_len, item_at, path_to}
use Rattle.trap_index.specs.Keeping as keeping
use Rattle.trap_index.proofs.Describing.{last_told, rec_told, item_told, record_told}
use Rattle.trap_model.specs.declared.history.Entry.{Entry}
use Rattle.trap_model.specs.declared.history.State.{State}
use Rattle.trap_model.specs.declared.log_record.LogRec.{LogRec}
use Rattle.trap_model.specs.declared.numbers.Geometry.{Geometry}
use Rattle.trap_model.specs.Limits.{greatest_record}
use Rattle.trap_model.specs.LogRecord.{LogRecord}
use Rattle.trap_model.specs.Records.{rec_of, record_of, records, entry_at, change_code, snapshot_code}
use Rattle.trap_model.specs.Size.{code_of}
use Rattle.trap_model.specs.State.{last, IsEntry, IsValid}
use Rattle.trap_model.specs.ZeroRun.{ZeroRun}
use Rattle.trap_model.proofs.CodeOf.{code_of_spells}
use Rattle.trap_model.proofs.Further.{image_at_is_image, entry_at_is_entry}
use Rattle.trap_model.proofs.LogRecords.{same_rec, LogRecord-apart}
use Rattle.trap_model.proofs.Records.{record_is_log_record, record_short}
use Rattle.trap_model.proofs.ZeroRuns.{ZeroRun-apart}
use Rattle.trap_past.specs.Asking.{IsLater, nth_newest, last_looked}
use Rattle.trap_past.specs.Undo.{parity_at}
use Rattle.trap_record.specs.declared.parts.Part.{Part}
use Rattle.trap_record.specs.declared.parts.Part.TheVariants.{Parity, Snapshot}
use Rattle.trap_record.specs.Parts.{part_of}
use Rattle.trap_record.specs.Reading.{record_len, parity_of, snapshot_of, IsWhole}
use Rattle.trap_record.proofs.Getting.{written-whole}
use Rattle.trap_ring.specs.Ring.{RingPlace, RingHas, ring_pos}
use Rattle.trap_scan.proofs.Fronts.{ring_front, snapshot_most}
use Rattle.trap_scan.proofs.Taking.{ring_after}
use Rattle.trap_array.specs.Calls.{Mounted, StandsFor, running}
use Rattle.trap_array.specs.Holding.{log_ring}
use Rattle.trap_array.specs.Instants.{HasEntry, IsBadRecord, IsDamagedAfter, FailsRecord, FailsByDisk, FailsLooking, DeniesInstant}
use Rattle.trap_array.specs.Log.{IndexedLog}
use Rattle.trap_array.specs.Sources.{part_block, LooksDamaged}
use Rattle.trap_array.specs.declared.fault.Denied.{Denied}
use Rattle.trap_array.specs.declared.fault.Denied.TheVariants.{Refused, LogFault, MemberFault, Damaged, Stopped}

module _ (g : Geometry) (i : Indexed) (s : State) (q : ℕ) (valid : IsValid g s) (describes : Describes i s) (low : i.first < q) (high : q ≤ last_seq i) (time : (item_at i q).time < 2 ^ 64) where
  entry : Entry
  entry = entry_at s q

  old : List ℕ
  old = block_before s q

  -- the header that its item tells
  header_told : LogRec
  header_told = keeping.rec_of_item q (item_at i q)

  low_in : s.first < q
  low_in = let first = describes.first in omega arith

  high_in : q ≤ last s
  high_in = let ends = last_told i s describes in omega arith

  is_entry : IsEntry g (entry_at s q)
  is_entry = entry_at_is_entry g s q valid low_in high_in

  long : length (block_before s q) ≡ g.block
  long = (image_at_is_image g s (q - 1) valid).sized (entry_at s q).block is_entry.block

  told_is : keeping.rec_of_item q (item_at i q) ≡ rec_of q (block_before s q) (entry_at s q)
  told_is =
      let told = item_told i s q describes low_in high_in in
      same_rec (keeping.rec_of_item q (item_at i q)) (rec_of q (block_before s q) (entry_at s q)) told.snap refl told.time told.block told.plen told.slen

  is_record : LogRecord g.block (keeping.rec_of_item q (item_at i q)) (change_code (block_before s q) (entry_at s q)) (snapshot_code (entry_at s q)) (record_of q (block_before s q) (entry_at s q))
  is_record =
      let told = item_told i s q describes low_in high_in in
      let same : (item_at i q).time ≡ (entry_at s q).time = told.time in
      let below = low_in in
      let most = valid.last_most in
      let within = high_in in
      subst (λ (r : LogRec). LogRecord g.block r (change_code (block_before s q) (entry_at s q)) (snapshot_code (entry_at s q)) (record_of q (block_before s q) (entry_at s q))) (sym told_is)
      (record_is_log_record g q (block_before s q) (entry_at s q) is_entry long (omega arith) (omega arith) (omega arith))

  record_long : length (record_of q (block_before s q) (entry_at s q)) ≡ record_len (keeping.rec_of_item q (item_at i q))
  record_long =
      let whole = written-whole g.block (keeping.rec_of_item q (item_at i q)) (change_code (block_before s q) (entry_at s q)) (snapshot_code (entry_at s q))
      (record_of q (block_before s q) (entry_at s q)) [] is_record in
      whole.len

  -- its record is no longer than the greatest one
  pub told_short : record_len (keeping.rec_of_item q (item_at i q)) ≤ greatest_record g.block
  told_short =
      let short = record_short g q (block_before s q) (entry_at s q) is_entry long in
      let most = short.1 in
      let same = record_long in
      omega arith

  -- what stands at its place in the ring is its record
  bytes_are : (r : RingPlace) (bytes : List ℕ) (disks : Disks) → RingHas r i.first_off (records s) disks → RingHas r (item_at i q).off bytes disks
      → length bytes ≡ record_len (keeping.rec_of_item q (item_at i q)) → bytes ≡ record_of q (block_before s q) (entry_at s q)
  bytes_are r bytes disks ring has size =
      let told = item_told i s q describes low_in high_in in
      let off = told.off in
      let at : i.first_off + ((item_at i q).off - i.first_off) ≡ (item_at i q).off = omega arith in
      let rest = drop ((item_at i q).off - i.first_off) (records s) in
      let behind : RingHas r (item_at i q).off rest disks = subst (λ (n : ℕ). RingHas r n rest disks) at (ring_after r i.first_off ((item_at i q).off - i.first_off) (records s) disks ring) in
      let there : take (rec_len (rec_at i q)) rest ≡ record_of q (block_before s q) (entry_at s q) = record_told i s q describes low_in high_in in
      let len : rec_len (rec_at i q) ≡ record_len (keeping.rec_of_item q (item_at i q)) = ap rec_len (rec_told i s q describes low_in high_in) ∙ ap rec_len (sym told_is) in
      let cut = length-take (rec_len (rec_at i q)) rest in
      let full : length (take (rec_len (rec_at i q)) rest) ≡ record_len (keeping.rec_of_item q (item_at i q)) = ap (λ (l : List ℕ). length l) there ∙ record_long in
      let within : length bytes ≤ length rest = omega arith in
      let front = ring_front r (item_at i q).off bytes rest disks has behind within in
      let same : rec_len (rec_at i q) ≡ length bytes = len ∙ sym size in
      sym (take_at bytes (drop (length bytes) rest) (length bytes) refl)
      ∙ ap (λ (l : List ℕ). take (length bytes) l) (sym front)
      ∙ ap (λ (n : ℕ). take n rest) (sym same)
      ∙ there

  pub told_whole : (r : RingPlace) (bytes : List ℕ) (disks : Disks) → RingHas r i.first_off (records s) disks → RingHas r (item_at i q).off bytes disks
      → length bytes ≡ record_len (keeping.rec_of_item q (item_at i q)) → IsWhole g.block (keeping.rec_of_item q (item_at i q)) (length bytes) bytes
  told_whole r bytes disks ring has size =
      let is = bytes_are r bytes disks ring has size in
      let whole = written-whole g.block (keeping.rec_of_item q (item_at i q)) (change_code (block_before s q) (entry_at s q)) (snapshot_code (entry_at s q))
      (record_of q (block_before s q) (entry_at s q)) [] is_record in
      let P : List ℕ → Type 0 = λ (l : List ℕ). IsWhole g.block (keeping.rec_of_item q (item_at i q)) (length l) l in
      subst P (sym is)
      (subst (λ (l : List ℕ). IsWhole g.block (keeping.rec_of_item q (item_at i q)) (length (record_of q (block_before s q) (entry_at s q))) l)
      (append-nil (record_of q (block_before s q) (entry_at s q))) whole)

  -- and its parity is the entry's
  pub told_parity : (r : RingPlace) (bytes into : List ℕ) (disks : Disks) → RingHas r i.first_off (records s) disks → RingHas r (item_at i q).off bytes disks
      → length bytes ≡ record_len (keeping.rec_of_item q (item_at i q)) → length into ≡ g.block → ZeroRun into (parity_of (keeping.rec_of_item q (item_at i q)) bytes) → into ≡ parity_at s q
  told_parity r bytes into disks ring has size block spells =
      let is = bytes_are r bytes disks ring has size in
      let whole = told_whole r bytes disks ring has size in
      let small : g.block < 2 ^ 15 = omega (arith, g.within.block_most) in
      let all : take (length bytes) bytes ≡ bytes = take_all (length bytes) bytes (omega arith) in
      let apart = LogRecord-apart g.block (keeping.rec_of_item q (item_at i q)) (keeping.rec_of_item q (item_at i q)) (parity_of (keeping.rec_of_item q (item_at i q)) bytes)
      (change_code (block_before s q) (entry_at s q)) (snapshot_of (keeping.rec_of_item q (item_at i q)) bytes) (snapshot_code (entry_at s q)) (take (length bytes) bytes)
      (record_of q (block_before s q) (entry_at s q)) [] [] small whole.is is_record (ap (λ (l : List ℕ). l ++ []) (all ∙ is)) in
      let change : length (xor (block_before s q) (entry_at s q).bytes) ≡ g.block = length-xor (block_before s q) (entry_at s q).bytes (is_entry.size ∙ sym long) ∙ long in
      (ZeroRun-apart into (xor (block_before s q) (entry_at s q).bytes) (parity_of (keeping.rec_of_item q (item_at i q)) bytes) (change_code (block_before s q) (entry_at s q))
      [] [] (block ∙ sym change) (omega arith) spells (code_of_spells (xor (block_before s q) (entry_at s q).bytes)) (ap (λ (l : List ℕ). l ++ []) apart.1)).0

  -- and what it holds of a marked entry is what that writes
  pub told_snapshot : (r : RingPlace) (bytes into : List ℕ) (disks : Disks) → RingHas r i.first_off (records s) disks → RingHas r (item_at i q).off bytes disks
      → length bytes ≡ record_len (keeping.rec_of_item q (item_at i q)) → length into ≡ g.block → IsTrue (item_at i q).snap
      → ZeroRun into (snapshot_of (keeping.rec_of_item q (item_at i q)) bytes) → into ≡ (entry_at s q).bytes
  told_snapshot r bytes into disks ring has size block marked spells =
      let is = bytes_are r bytes disks ring has size in
      let whole = told_whole r bytes disks ring has size in
      let small : g.block < 2 ^ 15 = omega (arith, g.within.block_most) in
      let all : take (length bytes) bytes ≡ bytes = take_all (length bytes) bytes (omega arith) in
      let apart = LogRecord-apart g.block (keeping.rec_of_item q (item_at i q)) (keeping.rec_of_item q (item_at i q)) (parity_of (keeping.rec_of_item q (item_at i q)) bytes)
      (change_code (block_before s q) (entry_at s q)) (snapshot_of (keeping.rec_of_item q (item_at i q)) bytes) (snapshot_code (entry_at s q)) (take (length bytes) bytes)
      (record_of q (block_before s q) (entry_at s q)) [] [] small whole.is is_record (ap (λ (l : List ℕ). l ++ []) (all ∙ is)) in
      let told = item_told i s q describes low_in high_in in
      let snap : (entry_at s q).snap ≡ true = sym told.snap ∙ marked in
      let code : snapshot_code (entry_at s q) ≡ code_of (entry_at s q).bytes = ap (λ (b : Bool). if b then code_of (entry_at s q).bytes else []) snap in
      let long_bytes : length (entry_at s q).bytes ≡ g.block = is_entry.size in
      (ZeroRun-apart into (entry_at s q).bytes (snapshot_of (keeping.rec_of_item q (item_at i q)) bytes) (code_of (entry_at s q).bytes) [] [] (block ∙ sym long_bytes)
      (omega arith) spells (code_of_spells (entry_at s q).bytes) (ap (λ (l : List ℕ). l ++ []) (apart.2 ∙ code))).0

-- the same, of the log's array and an item that was taken from its index
module _ (log : IndexedLog) (s : State) (disks : Disks) (q : ℕ) (item : Item) (stands : StandsFor (running log) s disks) (has : HasEntry log.index q)
    (is : item ≡ item_at log.index q) (time : item.time < 2 ^ 64) where
  time_of : (item_at log.index q).time < 2 ^ 64
  time_of = subst (λ (x : Item). x.time < 2 ^ 64) is time

  pub not_short : 26 + item.plen + item.slen ≤ greatest_record log.g.block
  not_short = subst (λ (x : Item). 26 + x.plen + x.slen ≤ greatest_record log.g.block) (sym is)
      (told_short log.g log.index s q stands.by.fits.valid stands.index has.low has.high time_of)

  module _ (rec : LogRec) (bytes : List ℕ) (offset : log.index.first_off ≡ log.head.first_off) (there : RingHas (log_ring log.g) item.off bytes disks)
      (long : length bytes ≡ 26 + item.plen + item.slen) (header : rec ≡ keeping.rec_of_item q item) where
    ring_there : RingHas (log_ring log.g) log.index.first_off (records s) disks
    ring_there = subst (λ (n : ℕ). RingHas (log_ring log.g) n (records s) disks) (sym offset) stands.by.fits.ring

    bytes_there : RingHas (log_ring log.g) (item_at log.index q).off bytes disks
    bytes_there = subst (λ (x : Item). RingHas (log_ring log.g) x.off bytes disks) is there

    long_is : length bytes ≡ record_len (keeping.rec_of_item q (item_at log.index q))
    long_is = subst (λ (x : Item). length bytes ≡ 26 + x.plen + x.slen) is long

    header_is : keeping.rec_of_item q (item_at log.index q) ≡ rec
    header_is = ap (keeping.rec_of_item q) (sym is) ∙ sym header

    pub is_whole : IsWhole log.g.block rec (length bytes) bytes
    is_whole = subst (λ (r : LogRec). IsWhole log.g.block r (length bytes) bytes) header_is
        (told_whole log.g log.index s q stands.by.fits.valid stands.index has.low has.high time_of (log_ring log.g) bytes disks ring_there bytes_there long_is)

    is_parity : (into : List ℕ) → length into ≡ log.g.block → ZeroRun into (parity_of rec bytes) → into ≡ parity_at s q
    is_parity into block spells =
        told_parity log.g log.index s q stands.by.fits.valid stands.index has.low has.high time_of (log_ring log.g) bytes into disks ring_there bytes_there long_is block
        (subst (λ (r : LogRec). ZeroRun into (parity_of r bytes)) (sym header_is) spells)

    is_snapshot : (into : List ℕ) → length into ≡ log.g.block → IsTrue (item_at log.index q).snap → ZeroRun into (snapshot_of rec bytes) → into ≡ (entry_at s q).bytes
    is_snapshot into block marked spells =
        told_snapshot log.g log.index s q stands.by.fits.valid stands.index has.low has.high time_of (log_ring log.g) bytes into disks ring_there bytes_there long_is block marked
        (subst (λ (r : LogRec). ZeroRun into (snapshot_of r bytes)) (sym header_is) spells)

    -- what was decoded is what the part stands for
    pub is_part : (part : Part) (into : List ℕ) → length into ≡ log.g.block → (part ≡ Snapshot → IsTrue (item_at log.index q).snap) → ZeroRun into (part_of part rec bytes) → into ≡ part_block part s q
    is_part Parity into block marked spells = is_parity into block spells
    is_part Snapshot into block marked spells = is_snapshot into block (marked refl) spells

-- bytes that are as long and stand at the same place are the same
same_there : (r : RingPlace) (at : ℕ) (x y : List ℕ) (disks : Disks) → RingHas r at x disks → RingHas r at y disks → length x ≡ length y → y ≡ x
same_there r at x y disks one other long =
    sym (take_all (length x) y (omega arith)) ∙ ap (λ (l : List ℕ). take (length x) l) (ring_front r at x y disks one other (omega arith))
    ∙ take_at x (drop (length x) y) (length x) refl

-- no record is longer than the longest
record_most : (size : ℕ) (r : LogRec) (parity snapshot bytes : List ℕ) → LogRecord size r parity snapshot bytes → record_len r ≤ greatest_record size
record_most size r parity snapshot bytes is =
    let first = is.ranges.parity.1 in
    let second = snapshot_most size r.snap r.slen is.ranges.snapshot in
    omega arith

-- where what is read again isn't the record that the index knows
module _ (log : IndexedLog) (disks : Disks) (q : ℕ) (item : Item) (has : HasEntry log.index q) (is : item ≡ item_at log.index q) (offset : ℕ) (at : offset ≡ ring_pos (log_ring log.g) item.off) where
  bad_where : ((parity snapshot bytes : List ℕ) → LogRecord log.g.block (keeping.rec_of_item q item) parity snapshot bytes → RingHas (log_ring log.g) item.off bytes disks → ⊥)
      → IsBadRecord log.g log.index q disks offset
  bad_where none = record {
    entry = has;
    place = subst (λ (x : Item). offset ≡ ring_pos (log_ring log.g) x.off) is at;
    none = subst (λ (x : Item). (parity snapshot bytes : List ℕ) → LogRecord log.g.block (keeping.rec_of_item q x) parity snapshot bytes → RingHas (log_ring log.g) x.off bytes disks → ⊥) is none;
  }

  pub bad_long : greatest_record log.g.block < 26 + item.plen + item.slen → IsBadRecord log.g log.index q disks offset
  bad_long long = bad_where (λ parity snapshot bytes record_ there.
      let most = record_most log.g.block (keeping.rec_of_item q item) parity snapshot bytes record_ in
      omega (arith, long, most))

  pub bad_other : (rec : LogRec) (bytes : List ℕ) → RingHas (log_ring log.g) item.off bytes disks → length bytes ≡ 26 + item.plen + item.slen → rec ≡ keeping.rec_of_item q item
      → (IsWhole log.g.block rec (length bytes) bytes → ⊥) → IsBadRecord log.g log.index q disks offset
  bad_other rec bytes there long header none = bad_where (λ parity snapshot other record_ other_there.
      let whole = written-whole log.g.block (keeping.rec_of_item q item) parity snapshot other [] record_ in
      let same : other ≡ bytes = same_there (log_ring log.g) item.off bytes other disks there other_there (long ∙ sym whole.len) in
      let whole_ : IsWhole log.g.block (keeping.rec_of_item q item) (length other) other =
      subst (λ (l : List ℕ). IsWhole log.g.block (keeping.rec_of_item q item) (length other) l) (append-nil other) whole in
      none (subst (λ (r : LogRec). IsWhole log.g.block r (length bytes) bytes) (sym header)
      (subst (λ (l : List ℕ). IsWhole log.g.block (keeping.rec_of_item q item) (length l) l) same whole_)))

-- why an instant is denied names a record that isn't right
pub bad_by : {T : Type 0} (a : Mounted) (damages : ℕ → Type 0) (v w : View) (result : Result T Denied) (offset : ℕ) → IfErr result (DeniesInstant a damages v w)
    → IsErrOf result (Damaged offset) → damages offset
bad_by {T = T} a damages v w result offset cause is = subst (λ (r : Result T Denied). IfErr r (DeniesInstant a damages v w)) is cause

-- what fails a look back denies the instant
pub looking_denies : (a : Mounted) (block q : ℕ) (damages : ℕ → Type 0) (v w : View) (e : Denied) → ((at : ℕ) → IsDamagedAfter a block q v at → damages at)
    → FailsLooking a block q v w e → DeniesInstant a damages v w e
looking_denies a block q damages v w (Refused why) more fails = absurd fails
looking_denies a block q damages v w LogFault more fails = fails
looking_denies a block q damages v w (MemberFault first second) more fails = fails
looking_denies a block q damages v w (Damaged offset) more fails = more offset fails
looking_denies a block q damages v w Stopped more fails = fails

pub looks_deny : {T : Type 0} (a : Mounted) (block q : ℕ) (damages : ℕ → Type 0) (v w : View) (result : Result T Denied) → ((at : ℕ) → IsDamagedAfter a block q v at → damages at)
    → IfErr result (FailsLooking a block q v w) → IfErr result (DeniesInstant a damages v w)
looks_deny a block q damages v w (Ok value) more fails = tt
looks_deny a block q damages v w (Err e) more fails = looking_denies a block q damages v w e more fails

-- a record that can't be read fails a look back, and no member did
pub record_looks : (a : Mounted) (seq : ℕ) (v w : View) (e : Denied) → FailsRecord a seq v w e → FailsByDisk a v w e
record_looks a seq v w (Refused why) fails = fails
record_looks a seq v w LogFault fails = fails
record_looks a seq v w (MemberFault first second) fails = absurd fails
record_looks a seq v w (Damaged offset) fails = tt
record_looks a seq v w Stopped fails = fails

pub record_alone : (a : Mounted) (seq : ℕ) (v w : View) (e : Denied) → FailsRecord a seq v w e → (first second : ℕ) → e ≡ MemberFault first second → ⊥
record_alone a seq v w e fails first second is = subst (FailsRecord a seq v w) is fails

-- a record that is damaged is the one that was asked for
pub record_damaged : (log : IndexedLog) (seq : ℕ) (v w : View) (e : Denied) → OnlyReads v w → FailsRecord (running log) seq v w e → LooksDamaged log seq w e
record_damaged log seq v w e reads fails offset is told =
    let before : IsTrue v.tells = subst IsTrue reads.moves.tells told in
    subst (λ (x : Contents). IsBadRecord log.g log.index seq x.disks offset) (sym (reads.same before)) ((subst (FailsRecord (running log) seq v w) is fails) before)

-- a look back over a block's later entries fails by a disk or by one of their records
pub look_fails : (log : IndexedLog) (block q taken looked : ℕ) (v w : View) (e : Denied) → ((k : ℕ) → k < (path_to log.index block q).turns → IsLater log.index block q (nth_newest log.index block k))
    → taken ≤ (path_to log.index block q).turns → looked ≡ last_looked log.index block taken 0 → OnlyReads v w → FailsByDisk (running log) v w e → LooksDamaged log looked w e
    → FailsLooking (running log) block q v w e
look_fails log block q taken looked v w (Refused why) later few is reads fails damaged = fails
look_fails log block q taken looked v w LogFault later few is reads fails damaged = fails
look_fails log block q taken looked v w (MemberFault first second) later few is reads fails damaged = fails
look_fails log block q zero looked v w (Damaged offset) later few is reads fails damaged = λ told.
    let bad = damaged offset refl (subst IsTrue (sym reads.moves.tells) told) in
    let low = bad.entry.low in
    absurd (omega arith)
look_fails log block q (suc k) looked v w (Damaged offset) later few is reads fails damaged = λ told.
    let bad = damaged offset refl (subst IsTrue (sym reads.moves.tells) told) in
    let here = subst (λ (x : Contents). IsBadRecord log.g log.index looked x.disks offset) (reads.same told) bad in
    let one = later k (omega arith) in
    record {
      seq = nth_newest log.index block k;
      above = one.above;
      own = one.own;
      bad = subst (λ (n : ℕ). IsBadRecord log.g log.index n v.now.disks offset) is here;
    }
look_fails log block q taken looked v w Stopped later few is reads fails damaged = fails
