-- Disks that hold a state are refused for nothing.
use Rattle.std.proofs.Common.{◌≡◌, ◌≢◌, ◌⊎◌, ℕ, ◌+◌, ◌-◌, ◌^◌, ◌<◌, ◌≤◌, List, length, take, slice_index, Some, None, false, inl, inr, ⊎_elim, refl, sym, ap, subst, ◌∙◌, arith}
use Rattle.std.proofs.lemmas.Option.{same_Some}
use Rattle.trap_bank.specs.Disks.{Disks}
use Rattle.trap_format.specs.LogDisk.{log_size}
use Rattle.trap_format.specs.HeadValue.{lost_byte, head_value}
use Rattle.trap_format.specs.declared.head.Head.{Head}
use Rattle.trap_model.specs.Image.{volume}
use Rattle.trap_model.specs.State.{IsValid, last, last_time}
use Rattle.trap_model.specs.Records.{records}
use Rattle.trap_model.specs.declared.numbers.Geometry.{Geometry}
use Rattle.trap_model.specs.declared.history.State.{State}
use Rattle.trap_model.proofs.Records.{length-records}
use Rattle.trap_raid.specs.Members.{IsOut}
use Rattle.trap_scan.specs.Chain.{AreRecords, IsBroken}
use Rattle.trap_scan.specs.Window.{IsWindow}
use Rattle.trap_scan.proofs.ChainLaws.{right_unbroken}
use Rattle.trap_scan.proofs.Standing.{records_stand}
use Rattle.trap_scan.proofs.Windows.{window_one}
use Rattle.trap_stage.specs.Found.{IsDamagedSlot}
use Rattle.trap_stage.specs.Pending.{staged_of}
use Rattle.trap_stage.proofs.FurtherSlots.{staged_of_sound}
use Rattle.trap_mount.specs.Holding.{log_ring, IsHeadOf, HasLog, Holds, HoldsBy}
use Rattle.trap_mount.specs.Creating.{BeginsLog}
use Rattle.trap_mount.specs.Mounting.{HasHeader, HasHead, HasSlots, HasRecords, AreOut, IsDamage, IsOtherVersion, RefusesAs, is_refusal, head_history}
use Rattle.trap_mount.specs.declared.fault.MountFault.{MountFault}
use Rattle.trap_mount.specs.declared.fault.MountFault.TheVariants.{NotAnArray, BadVersion, WrongMember, TooManyLost, Damaged, LogFault, MemberFault, OutOfMemory}
use Rattle.trap_mount.proofs.Puts.{held_by_read}
use Rattle.trap_mount.proofs.MountStands.{one_array}

-- the log's disk begins as one
log_begins : (g : Geometry) (x : Disks) → HasLog g x → BeginsLog x
log_begins g x log = record {
  bytes = log_size g;
  there = log.size;
  least = omega arith;
  start = ap (take 5) log.header.spelled;
}

log_header_there : (g : Geometry) (x : Disks) → HasLog g x → HasHeader g x
log_header_there g x log = record { begins = log_begins g x log; header = log.header; id = log.id; size = log.size }

-- the records of a state are those that its head asks for
records_asked : (g : Geometry) (h : Head) (s : State) → IsValid g s → IsHeadOf g s h → AreRecords (head_history g h) h.first h.base_time (h.last - h.first) (records s)
records_asked g h s valid is = at h.last_time h.first h.base_time (h.last - h.first) (sym is.last_time) (sym is.first) (sym is.base_time) (count is.first is.last)
  where
    count : h.first ≡ s.first → h.last ≡ last s → length s.entries ≡ h.last - h.first
    count first end = omega arith

    below : last_time s < 2 ^ 64
    below = let most = is.head.time_fits in let same = is.last_time in omega arith

    at : (t f b n : ℕ) → last_time s ≡ t → s.first ≡ f → s.base_time ≡ b → length s.entries ≡ n → AreRecords (record { size = g.block; volume = volume g; last_time = t }) f b n (records s)
    at t f b n e1 e2 e3 e4 =
        subst (λ (x : ℕ). AreRecords (record { size = g.block; volume = volume g; last_time = x }) f b n (records s)) e1
        (subst (λ (x : ℕ). AreRecords (record { size = g.block; volume = volume g; last_time = last_time s }) x b n (records s)) e2
        (subst (λ (x : ℕ). AreRecords (record { size = g.block; volume = volume g; last_time = last_time s }) s.first x n (records s)) e3
        (subst (λ (x : ℕ). AreRecords (record { size = g.block; volume = volume g; last_time = last_time s }) s.first s.base_time x (records s)) e4
        (records_stand g s valid below))))

records_window : (g : Geometry) (h : Head) (s : State) (x : Disks) → HoldsBy g h s x → IsWindow (log_ring g) h.first_off h.end_off (records s) x
records_window g h s x by =
    let long = length-records s in
    let window = by.fits.head.window in
    record { long = omega arith; there = by.fits.ring }

module _ (g : Geometry) (s : State) (x : Disks) (holds : Holds g s x) where
  -- the same array
  held_in : (k : Geometry) → HasHeader k x → Holds k s x
  held_in k header = subst (λ (n : Geometry). Holds n s x) (one_array k g s x header holds) holds

  -- by the same head
  held_at : (k : Geometry) (h : Head) → HasHead k h x → HoldsBy k h s x
  held_at k h head = held_by_read k h s x (held_in k head.header) head.value head.head

  other_version : (version : ℕ) → IsOtherVersion x version → ⊥
  other_version version other =
      let same : head_value holds.head ≡ other.bytes = same_Some (head_value holds.head) other.bytes (sym holds.by.value ∙ other.value) in
      other.other (sym other.is ∙ ap (λ (bytes : List ℕ). slice_index bytes 0) (sym same) ∙ holds.by.fits.head.head.version)

  two_out : (k : Geometry) (h : Head) (first second : ℕ) → HasRecords k h x → AreOut k h x first second → ⊥
  two_out k h first second records_ out =
      let by = held_at k h records_.slots.head in
      let members = by.fits.head.head.lost.member in
      out.apart (by.fits.members.one_out second first out.inside (inside members out.first_) (inr out.absent) (is_out out.first_))
    where
      inside : lost_byte h.lost ≤ k.members → (h.lost ≡ Some first) ⊎ ((h.lost ≡ None) × (first < k.members) × (x (first + 1) ≡ None) × ((m : ℕ) → m < first → x (m + 1) ≢ None)) → first < k.members
      inside most = ⊎_elim (λ is. let byte : lost_byte h.lost ≡ first + 1 = ap lost_byte is in omega arith) (λ none. none.1)

      is_out : (h.lost ≡ Some first) ⊎ ((h.lost ≡ None) × (first < k.members) × (x (first + 1) ≡ None) × ((m : ℕ) → m < first → x (m + 1) ≢ None)) → IsOut h.lost x first
      is_out = ⊎_elim inl (λ none. inr none.2)

  damage : (offset : ℕ) → IsDamage x offset → ⊥
  damage offset = ⊎_elim (λ none. none.2 g (log_header_there g x holds.by.fits.log)) (⊎_elim
      (λ value. let here = held_in value.0 value.1 in (value.3 (head_value here.head) here.by.value).1 here.head (record { head = here.by.fits.head.head; spelled = refl }))
      (⊎_elim
      (λ slot. bad_slot slot.0 slot.1 slot.2 slot.3)
      (λ bad. bad_record bad.0 bad.1 bad.2 bad.3 bad.4 bad.5 bad.6)))
    where
      bad_slot : (k : Geometry) (h : Head) → HasHead k h x → IsDamagedSlot k h.drained h.last x offset → ⊥
      bad_slot k h head damaged =
          let by = held_at k h head in
          damaged.broken (
            staged_of k s damaged.number,
            staged_of_sound k s damaged.number by.fits.valid (low by.fits.head.first by.fits.head.head.numbers.dropped damaged.low) (high by.fits.head.last damaged.high),
            by.fits.slots damaged.number damaged.low (high by.fits.head.last damaged.high),
          )
        where
          low : h.first ≡ s.first → h.first ≤ h.drained → h.drained < damaged.number → s.first < damaged.number
          low first dropped above = omega arith

          high : h.last ≡ last s → damaged.number ≤ h.last → damaged.number ≤ last s
          high end most = omega arith

      bad_record : (k : Geometry) (h : Head) (window : List ℕ) (at : ℕ) → HasSlots k h x → IsWindow (log_ring k) h.first_off h.end_off window x
          → IsBroken (head_history k h) h.first h.base_time (h.last - h.first) window at → ⊥
      bad_record k h window at slots is broken =
          let by = held_at k h slots.head in
          let same : window ≡ records s = window_one (log_ring k) h.first_off h.end_off window (records s) x is (records_window k h s x by) in
          let most = k.within.block_most in
          right_unbroken (head_history k h) h.first h.base_time (h.last - h.first) (records s) at (omega arith) (records_asked k h s by.fits.valid by.fits.head)
          (subst (λ (bytes : List ℕ). IsBroken (head_history k h) h.first h.base_time (h.last - h.first) bytes at) same broken)

  pub never_refused : (why : MountFault) → RefusesAs x why → is_refusal why ≡ false
  never_refused NotAnArray refused = absurd (refused (log_begins g x holds.by.fits.log))
  never_refused (BadVersion version) refused = absurd (other_version version refused)
  never_refused (WrongMember member) refused =
      let by = held_at refused.0 refused.1 refused.2.records.slots.head in
      absurd (refused.3.wrong (by.fits.members.made member refused.3.inside refused.3.counts))
  never_refused (TooManyLost first second) refused = absurd (two_out refused.0 refused.1 first second refused.2 refused.3)
  never_refused (Damaged offset) refused = absurd (damage offset refused)
  never_refused LogFault refused = refl
  never_refused (MemberFault first second) refused = refl
  never_refused OutOfMemory refused = refl
