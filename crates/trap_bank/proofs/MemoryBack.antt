-- The state before a change is got back from the one after it.
use Rattle.std.proofs.Common.{◌≡◌, ◌⊎◌, ℕ, ◌+◌, ◌-◌, ◌<◌, ◌≤◌, List, [], ◌∷◌, ◌++◌, length, take, get_or, slice_set, slice_range, slice_index, Option, Some, None, Bool, ◌≢◌, if◌then◌else◌, refl, sym, ◌∙◌, ap, subst, inl, inr, ⊎_elim, arith, length-append, length-take, length-drop, get_or-set_same, get_or-set_other, ext_get_or}
use Rattle.std.proofs.lemmas.Bool.Decides.{eqb_tells}
use Rattle.std.proofs.lemmas.Bool.{cases_lt}
use Rattle.std.proofs.Math.Seq.{take-append_seam}
use mathlib.Core.Path.{fun_ext}
use Rattle.trap_bank.specs.declared.disk.Range.{Range}
use Rattle.trap_bank.specs.declared.record.Change.TheVariants.{Made, Written, Synced, Said}
use Rattle.trap_bank.specs.Disks.{bytes_of}
use Rattle.trap_bank.specs.Kept.{Kept, overlaid, zero_disk}
use Rattle.trap_bank.specs.Record.{State, before, bytes_kept, ranges_kept, with_disk, option_overlaid}
use Rattle.trap_bank.specs.Memory.{Memory, disk_at, state_of}
use Rattle.trap_bank.specs.MemorySteps.{option_written, option_settled, option_range}
use Rattle.trap_bank.proofs.Ranges.{length-overlaid, overlaid-outside, copied_within, apart_before}
use Rattle.trap_bank.proofs.MemoryTime.{changed}

pub same_state : (s t : State) → s.disks ≡ t.disks → s.ranges ≡ t.ranges → s.said ≡ t.said → s ≡ t
same_state s t disks ranges said = λ i. record { disks = disks i; ranges = ranges i; said = said i }

-- a disk that was set, and the others
pub set_tells : (disks : List (Option Kept)) (d : ℕ) (other : Option Kept) (e : ℕ) → d < length disks
    → ((e ≡ d) × (get_or (slice_set disks d other) e None ≡ other)) ⊎ ((e ≢ d) × (get_or (slice_set disks d other) e None ≡ get_or disks e None))
set_tells disks d other e below = ⊎_elim
    (λ here. inl (here.1, subst (λ (k : ℕ). get_or (slice_set disks d other) k None ≡ other) (sym here.1) (get_or-set_same disks d other None below)))
    (λ apart. inr (apart.1, get_or-set_other disks d e other None apart.1))
    (eqb_tells e d)

-- what is said of each disk is the same again where it is put back for the one that was set
pub put_back : {A : Type 0} (f : Option Kept → A) (disks : List (Option Kept)) (d : ℕ) (other : Option Kept) (value : A) → value ≡ f (get_or disks d None)
    → with_disk (λ e. f (get_or (slice_set disks d other) e None)) d value ≡ (λ (e : ℕ). f (get_or disks e None))
put_back {A} f disks d other value is = fun_ext (λ e. ⊎_elim
    (λ here. ap (λ (b : Bool). if b then value else f (get_or (slice_set disks d other) e None)) here.0 ∙ is ∙ ap (λ (k : ℕ). f (get_or disks k None)) (sym here.1))
    (λ apart. ap (λ (b : Bool). if b then value else f (get_or (slice_set disks d other) e None)) apart.0
    ∙ ap f (get_or-set_other disks d e other None apart.1))
    (eqb_tells e d))

-- what is said of each disk is the same where it doesn't see what was set
pub not_seen : {A : Type 0} (f : Option Kept → A) (disks : List (Option Kept)) (d : ℕ) (other : Option Kept) → d < length disks → f other ≡ f (get_or disks d None)
    → ◌≡◌ {A = ℕ → A} (λ e. f (get_or (slice_set disks d other) e None)) (λ e. f (get_or disks e None))
not_seen {A} f disks d other below is = fun_ext (λ e. ⊎_elim
    (λ here. ap f here.1 ∙ is ∙ ap (λ (k : ℕ). f (get_or disks k None)) (sym here.0))
    (λ apart. ap f apart.1)
    (set_tells disks d other e below))

-- bytes that were laid over, and what stood there laid over them
pub overlaid_back : (old : List ℕ) (at : ℕ) (fresh : List ℕ) → at + length fresh ≤ length old → overlaid (overlaid old at fresh) at (slice_range old at (at + length fresh)) ≡ old
overlaid_back old at fresh fits =
    let new : List ℕ = overlaid old at fresh in
    let part : List ℕ = slice_range old at (at + length fresh) in
    let range : Range = record { at = at; len = length fresh } in
    let long : length new ≡ length old = length-overlaid old at fresh fits in
    let short : length part ≡ length fresh = simp (length-take, length-drop) (omega arith) in
    let room : at + length part ≤ length new = omega arith in
    let whole : length (overlaid new at part) ≡ length old = length-overlaid new at part room ∙ long in
    ext_get_or 0 (overlaid new at part) old whole (λ i below.
    let outside : (at ≤ i → i < at + length fresh → ⊥) → slice_index (overlaid new at part) i ≡ slice_index old i =
    λ apart. overlaid-outside new at part i room (λ a b. apart a (omega arith)) ∙ overlaid-outside old at fresh i fits apart in
    ⊎_elim (λ (front : i < at). outside (λ a b. absurd (apart_before i at front a)))
    (λ (behind : at ≤ i). ⊎_elim
    (λ (within : i < at + length fresh). copied_within new old range i part refl short room behind within)
    (λ (beyond : at + length fresh ≤ i). outside (λ a b. absurd (apart_before i (at + length fresh) b beyond)))
    (cases_lt i (at + length fresh)))
    (cases_lt i at))

pub bytes_back : (disk : Option Kept) (at : ℕ) (fresh : List ℕ) → at + length fresh ≤ length (bytes_of (bytes_kept disk))
    → option_overlaid (bytes_kept (option_written disk at fresh)) at (option_range disk at (at + length fresh)) ≡ bytes_kept disk
bytes_back None at fresh fits = refl
bytes_back (Some disk) at fresh fits = ap (λ (xs : List ℕ). Some xs) (overlaid_back disk.bytes at fresh fits)

all_but_last : (ranges : List Range) (range : Range) → take (length (ranges ++ range ∷ []) - 1) (ranges ++ range ∷ []) ≡ ranges
all_but_last ranges range =
    let long : length (ranges ++ range ∷ []) - 1 ≡ length ranges = simp length-append (omega arith) in
    ap (λ (n : ℕ). take n (ranges ++ range ∷ [])) long ∙ take-append_seam ranges (range ∷ [])

pub ranges_back : (disk : Option Kept) (at : ℕ) (fresh : List ℕ)
    → take (length (ranges_kept (option_written disk at fresh)) - 1) (ranges_kept (option_written disk at fresh)) ≡ ranges_kept disk
ranges_back None at fresh = refl
ranges_back (Some disk) at fresh = all_but_last disk.ranges (record { at = at; len = length fresh })

pub settled_bytes : (disk : Option Kept) → bytes_kept (option_settled disk) ≡ bytes_kept disk
settled_bytes None = refl
settled_bytes (Some disk) = refl

pub back_from_write : (m : Memory) (d at : ℕ) (fresh : List ℕ) (faults : List ℕ) (port : ℕ) → d < length m.disks → at + length fresh ≤ length (bytes_of (bytes_kept (disk_at m d)))
    → before (state_of (changed m (slice_set m.disks d (option_written (disk_at m d) at fresh)) m.said (Written d at (option_range (disk_at m d) at (at + length fresh))) faults port))
    (Written d at (option_range (disk_at m d) at (at + length fresh))) ≡ state_of m
back_from_write m d at fresh faults port below fits =
    let old : Option Kept = disk_at m d in
    let new : Option Kept = option_written old at fresh in
    let there : get_or (slice_set m.disks d new) d None ≡ new = get_or-set_same m.disks d new None below in
    same_state _ _
    (put_back bytes_kept m.disks d new _ (ap (λ (o : Option Kept). option_overlaid (bytes_kept o) at (option_range old at (at + length fresh))) there ∙ bytes_back old at fresh fits))
    (put_back ranges_kept m.disks d new _ (ap (λ (o : Option Kept). take (length (ranges_kept o) - 1) (ranges_kept o)) there ∙ ranges_back old at fresh))
    refl

pub back_from_sync : (m : Memory) (d : ℕ) (faults : List ℕ) (port : ℕ) → d < length m.disks
    → before (state_of (changed m (slice_set m.disks d (option_settled (disk_at m d))) m.said (Synced d (ranges_kept (disk_at m d))) faults port))
    (Synced d (ranges_kept (disk_at m d))) ≡ state_of m
back_from_sync m d faults port below = same_state _ _
    (not_seen bytes_kept m.disks d (option_settled (disk_at m d)) below (settled_bytes (disk_at m d)))
    (put_back ranges_kept m.disks d (option_settled (disk_at m d)) (ranges_kept (disk_at m d)) refl)
    refl

pub back_from_make : (m : Memory) (d len : ℕ) (faults : List ℕ) (port : ℕ)
    → before (state_of (changed m (slice_set m.disks d (Some (zero_disk len))) m.said (Made d len (disk_at m d)) faults port)) (Made d len (disk_at m d)) ≡ state_of m
back_from_make m d len faults port = same_state _ _
    (put_back bytes_kept m.disks d (Some (zero_disk len)) (bytes_kept (disk_at m d)) refl)
    (put_back ranges_kept m.disks d (Some (zero_disk len)) (ranges_kept (disk_at m d)) refl)
    refl

pub back_from_say : (m : Memory) (piece : List ℕ) (faults : List ℕ) (port : ℕ)
    → before (state_of (changed m m.disks (m.said ++ piece) (Said (length piece)) faults port)) (Said (length piece)) ≡ state_of m
back_from_say m piece faults port =
    let long : length (m.said ++ piece) - length piece ≡ length m.said = simp length-append (omega arith) in
    same_state _ _ refl refl (ap (λ (n : ℕ). take n (m.said ++ piece)) long ∙ take-append_seam m.said piece)
