-- What it does to a bank in memory to make a disk.
use Rattle.std.proofs.Common.{◌≡◌, ℕ, ◌-◌, ◌^◌, ◌<◌, ◌≤◌, List, length, replicate, slice_set, slice_index, Option, Some, None, Bool, ◌≢◌, if◌then◌else◌, ◌==◌, Ok, refl, sym, ◌∙◌, ap, subst, inl, inr, ⊎_elim, arith, le_refl, ext_get_or}
use Rattle.std.proofs.lemmas.Bool.Decides.{eqb_tells}
use Rattle.std.proofs.lemmas.List.{length-replicate}
use Rattle.trap_bank.specs.declared.record.Change.TheVariants.{Made}
use Rattle.trap_bank.specs.Disks.{Disks, Contents, bytes_of, size_of}
use Rattle.trap_bank.specs.Calls.{MayLeave, LeftMaking, Makes}
use Rattle.trap_bank.specs.Kept.{Kept, InRanges, zero_disk}
use Rattle.trap_bank.specs.Record.{still, area_of, bytes_kept, ranges_kept}
use Rattle.trap_bank.specs.Memory.{Memory, IsMemoryBank, disk_at, state_of, view_of}
use Rattle.trap_bank.proofs.MemoryTime.{changed, goes, recorded}
use Rattle.trap_bank.proofs.MemoryBack.{set_tells, back_from_make}
use Rattle.trap_bank.proofs.MemoryCalls.{on_disk}

-- the bank after a disk that was made
abbrev pub after_make : Memory → ℕ → ℕ → Memory
after_make m d len = changed m (slice_set m.disks d (Some (zero_disk len))) m.said (Made d len (disk_at m d)) m.faults m.port_faults

-- a disk is known by its size and its bytes
pub same_disk : (one other : Option (List ℕ)) → size_of one ≡ size_of other → ((i : ℕ) → slice_index (bytes_of one) i ≡ slice_index (bytes_of other) i) → one ≡ other
same_disk None None size bytes = refl
same_disk None (Some ys) size bytes = let none : ⊥ = cc in absurd none
same_disk (Some xs) None size bytes = let none : ⊥ = cc in absurd none
same_disk (Some xs) (Some ys) size bytes =
    let long : length xs ≡ length ys = cc in
    ap (λ (zs : List ℕ). Some zs) (ext_get_or 0 xs ys long (λ i below. bytes i))

disk_made : (m : Memory) (d len : ℕ) → d < length m.disks → disk_at (after_make m d len) d ≡ Some (zero_disk len)
disk_made m d len below = ⊎_elim (λ here. here.1) (λ apart. absurd (apart.0 refl)) (set_tells m.disks d (Some (zero_disk len)) d below)

disk_beside : (m : Memory) (d len e : ℕ) → d < length m.disks → e ≢ d → disk_at (after_make m d len) e ≡ disk_at m e
disk_beside m d len e below other = ⊎_elim (λ here. absurd (other here.0)) (λ apart. apart.1) (set_tells m.disks d (Some (zero_disk len)) e below)

made_unsynced : (m : Memory) (d len i : ℕ) → d < length m.disks → area_of (state_of (after_make m d len)) d i → ⊥
made_unsynced m d len i below u = subst (λ (o : Option Kept). InRanges (ranges_kept o) i) (disk_made m d len below) u

beside_unsynced : (m : Memory) (d len e i : ℕ) → d < length m.disks → e ≢ d → area_of (state_of (after_make m d len)) e i → area_of (state_of m) e i
beside_unsynced m d len e i below other u = subst (λ (o : Option Kept). InRanges (ranges_kept o) i) (disk_beside m d len e below other) u

-- the disks of a crash, with one of them as it was before it was made
abbrev before_made : Disks → Disks → ℕ → Disks
before_made old left d e = if e == d then old e else left e

here_before : (old left : Disks) (d e : ℕ) → e ≡ d → before_made old left d e ≡ old e
here_before old left d e is = ⊎_elim (λ here. ap (λ (b : Bool). if b then old e else left e) here.0) (λ apart. absurd (apart.1 is)) (eqb_tells e d)

beside_before : (old left : Disks) (d e : ℕ) → e ≢ d → before_made old left d e ≡ left e
beside_before old left d e other = ⊎_elim (λ here. absurd (other here.1)) (λ apart. ap (λ (b : Bool). if b then old e else left e) apart.0) (eqb_tells e d)

left_after_make : (m : Memory) (d len : ℕ) (c : Contents) → d < length m.disks → MayLeave (still (state_of (after_make m d len))) c → LeftMaking d len (view_of m) c
left_after_make m d len c below left =
    let old : Disks = (state_of m).disks in
    let from : Contents = record { disks = before_made old c.disks d; said = c.said } in
    let made : c.disks d ≡ Some (replicate len 0) =
    same_disk (c.disks d) (bytes_kept (disk_at (after_make m d len) d)) (left.torn.disks.sizes d) (λ i. left.torn.disks.bytes d i (made_unsynced m d len i below))
    ∙ ap bytes_kept (disk_made m d len below) in
    record {
      told = refl;
      from = from;
      before = record {
        disks = record {
          sizes = λ e. ⊎_elim
              (λ here. ap size_of (here_before old c.disks d e here.1))
              (λ apart. ap size_of (beside_before old c.disks d e apart.1) ∙ left.torn.disks.sizes e ∙ ap (λ (o : Option Kept). size_of (bytes_kept o)) (disk_beside m d len e below apart.1))
              (eqb_tells e d);
          bytes = λ e i out. ⊎_elim
              (λ here. ap (λ (o : Option (List ℕ)). slice_index (bytes_of o) i) (here_before old c.disks d e here.1))
              (λ apart. ap (λ (o : Option (List ℕ)). slice_index (bytes_of o) i) (beside_before old c.disks d e apart.1)
              ∙ left.torn.disks.bytes e i (λ u. out (beside_unsynced m d len e i below apart.1 u))
              ∙ ap (λ (o : Option Kept). slice_index (bytes_of (bytes_kept o)) i) (disk_beside m d len e below apart.1))
              (eqb_tells e d);
        };
        said = left.torn.said;
      };
      step = record {
        others = λ e other. sym (beside_before old c.disks d e other);
        said = refl;
        disk = inr (inr (len, le_refl len, made));
      };
    }

pub makes : {T E : Type 0} (value : T) (m : Memory) (d len : ℕ) → IsMemoryBank m → (m.moment ≡ 2 ^ 64 - 1 → ⊥) → d ≤ 20
    → Makes {E = E} d len (Ok value) (view_of m) (view_of (after_make m d len))
makes value m d len sound free le =
    let below : d < length m.disks = on_disk m d sound le in
    let bound : m.moment < 2 ^ 64 = sound.bound in
    let made : (state_of (after_make m d len)).disks d ≡ Some (replicate len 0) = ap bytes_kept (disk_made m d len below) in
    let sized : size_of ((state_of (after_make m d len)).disks d) ≡ Some len = ap size_of made ∙ ap (λ (n : ℕ). Some n) (length-replicate len 0) in
    record {
      goes = goes (Ok value) m (after_make m d len) (omega (arith, free)) (λ e. le_refl _) (le_refl m.port_faults) (omega arith);
      others = λ e other. ap (λ (o : Option Kept). size_of (bytes_kept o)) (disk_beside m d len e below other);
      sized = sized;
      resized = inr (inr (len, le_refl len, sized));
      cause = tt;
      time = recorded m (slice_set m.disks d (Some (zero_disk len))) m.said (Made d len (disk_at m d)) m.faults m.port_faults
          (LeftMaking d len (view_of m)) sound (back_from_make m d len m.faults m.port_faults)
          (λ c left. left_after_make m d len c below left)
          (λ c left. record { told = refl; from = left.from; before = left.before; step = left.step })
          (λ c left. record { told = refl; from = c; before = record { disks = left.torn.disks; said = left.torn.said }; step = record { others = λ e other. refl; said = refl; disk = inl refl } });
      step = λ told. record { others = λ e other. ap bytes_kept (disk_beside m d len e below other); said = refl; disk = inr (inr (len, le_refl len, made)) };
      zeros = λ told. made;
      fewer = λ told e i u. ⊎_elim
          (λ here. absurd (made_unsynced m d len i below (subst (λ (k : ℕ). area_of (state_of (after_make m d len)) k i) here.1 u)))
          (λ apart. beside_unsynced m d len e i below apart.1 u)
          (eqb_tells e d);
      stable = λ told. inr (λ i u. made_unsynced m d len i below u);
      settled = λ told i u. made_unsynced m d len i below u;
    }
