-- What a write to a bank in memory does.
use Rattle.std.proofs.Common.{◌≡◌, ◌⊎◌, ℕ, ◌+◌, ◌-◌, ◌^◌, ◌<◌, ◌≤◌, List, [], length, take, drop, get_or, slice_set, slice_index, Option, Some, None, Result, OnOk, OnErr, refl, sym, ◌∙◌, ap, subst, inl, inr, ⊎_elim, arith, le_refl, length-take, length-drop}
use Rattle.std.proofs.lemmas.List.{nil_from_length}
use Rattle.trap_bank.specs.declared.record.Change.TheVariants.{Written}
use Rattle.trap_bank.specs.Faults.{Rose}
use Rattle.trap_bank.specs.Disks.{Contents, Within, Either, Torn, bytes_of, size_of, region}
use Rattle.trap_bank.specs.Calls.{MayLeave, LeftOver, Writes}
use Rattle.trap_bank.specs.Kept.{Kept, InRanges}
use Rattle.trap_bank.specs.Record.{still, area_of, contents_of, bytes_kept, ranges_kept}
use Rattle.trap_bank.specs.Memory.{Memory, IsMemoryBank, disk_at, state_of, view_of}
use Rattle.trap_bank.specs.MemorySteps.{option_written, option_range}
use Rattle.trap_bank.proofs.Ranges.{length-overlaid, overlaid-outside, overlaid_there, in_split}
use Rattle.trap_bank.proofs.MemoryTime.{changed, goes, recorded}
use Rattle.trap_bank.proofs.MemoryBack.{set_tells, back_from_write}
use Rattle.trap_bank.proofs.MemoryCalls.{on_disk}

pub written_size : (disk : Option Kept) (at : ℕ) (fresh : List ℕ) → at + length fresh ≤ length (bytes_of (bytes_kept disk))
    → size_of (bytes_kept (option_written disk at fresh)) ≡ size_of (bytes_kept disk)
written_size None at fresh fits = refl
written_size (Some disk) at fresh fits = ap (λ (n : ℕ). Some n) (length-overlaid disk.bytes at fresh fits)

pub written_outside : (disk : Option Kept) (at : ℕ) (fresh : List ℕ) (i : ℕ) → at + length fresh ≤ length (bytes_of (bytes_kept disk)) → (at ≤ i → i < at + length fresh → ⊥)
    → slice_index (bytes_of (bytes_kept (option_written disk at fresh))) i ≡ slice_index (bytes_of (bytes_kept disk)) i
written_outside None at fresh i fits out = refl
written_outside (Some disk) at fresh i fits out = overlaid-outside disk.bytes at fresh i fits out

pub written_there : (disk : Option Kept) (at : ℕ) (fresh : List ℕ) → at + length fresh ≤ length (bytes_of (bytes_kept disk))
    → take (length fresh) (drop at (bytes_of (bytes_kept (option_written disk at fresh)))) ≡ fresh
written_there None at fresh fits =
    let short : length fresh ≡ 0 = omega arith in
    let none : fresh ≡ [] = nil_from_length fresh short in
    nil_from_length (take (length fresh) (drop at [])) (simp (length-take, length-drop) (omega arith)) ∙ sym none
written_there (Some disk) at fresh fits = overlaid_there disk.bytes at fresh fits

pub written_ranges : (disk : Option Kept) (at : ℕ) (fresh : List ℕ) (i : ℕ) → InRanges (ranges_kept (option_written disk at fresh)) i
    → InRanges (ranges_kept disk) i ⊎ ((at ≤ i) × (i < at + length fresh))
written_ranges None at fresh i h = absurd h
written_ranges (Some disk) at fresh i h = in_split disk.ranges (record { at = at; len = length fresh }) i h

pub range_length : (disk : Option Kept) (at : ℕ) (fresh : List ℕ) → at + length fresh ≤ length (bytes_of (bytes_kept disk))
    → length (option_range disk at (at + length fresh)) ≡ length fresh
range_length None at fresh fits = omega arith
range_length (Some disk) at fresh fits = simp (length-take, length-drop) (omega arith)

-- the bank after a write
abbrev pub after_write : Memory → ℕ → ℕ → List ℕ → List ℕ → Memory
after_write m d at fresh faults = changed m (slice_set m.disks d (option_written (disk_at m d) at fresh)) m.said
    (Written d at (option_range (disk_at m d) at (at + length fresh))) faults m.port_faults

pub torn_by_write : (m : Memory) (d at : ℕ) (fresh faults : List ℕ) → d < length m.disks → at + length fresh ≤ length (bytes_of (bytes_kept (disk_at m d)))
    → Torn (Within d at (length fresh)) (contents_of (state_of m)) (contents_of (state_of (after_write m d at fresh faults)))
torn_by_write m d at fresh faults below fits =
    let other : Option Kept = option_written (disk_at m d) at fresh in
    record {
      disks = record {
        sizes = λ e. ⊎_elim
            (λ here. ap (λ (o : Option Kept). size_of (bytes_kept o)) here.1 ∙ written_size (disk_at m d) at fresh fits ∙ ap (λ (k : ℕ). size_of (bytes_kept (disk_at m k))) (sym here.0))
            (λ apart. ap (λ (o : Option Kept). size_of (bytes_kept o)) apart.1)
            (set_tells m.disks d other e below);
        bytes = λ e i out. ⊎_elim
            (λ here. ap (λ (o : Option Kept). slice_index (bytes_of (bytes_kept o)) i) here.1
            ∙ written_outside (disk_at m d) at fresh i fits (λ from to. out (record { disk = here.0; from = from; to = to }))
            ∙ ap (λ (k : ℕ). slice_index (bytes_of (bytes_kept (disk_at m k))) i) (sym here.0))
            (λ apart. ap (λ (o : Option Kept). slice_index (bytes_of (bytes_kept o)) i) apart.1)
            (set_tells m.disks d other e below);
      };
      said = refl;
    }

pub unsynced_by_write : (m : Memory) (d at : ℕ) (fresh faults : List ℕ) (e i : ℕ) → d < length m.disks
    → area_of (state_of (after_write m d at fresh faults)) e i → Either (area_of (state_of m)) (Within d at (length fresh)) e i
unsynced_by_write m d at fresh faults e i below h = ⊎_elim
    (λ here. ⊎_elim
    (λ earlier. inl (subst (λ (k : ℕ). InRanges (ranges_kept (disk_at m k)) i) (sym here.0) earlier))
    (λ last. inr (record { disk = here.0; from = last.0; to = last.1 }))
    (written_ranges (disk_at m d) at fresh i (subst (λ (o : Option Kept). InRanges (ranges_kept o) i) here.1 h)))
    (λ apart. inl (subst (λ (o : Option Kept). InRanges (ranges_kept o) i) apart.1 h))
    (set_tells m.disks d (option_written (disk_at m d) at fresh) e below)

left_after_write : (m : Memory) (d at : ℕ) (fresh faults : List ℕ) (c : Contents) → d < length m.disks → at + length fresh ≤ length (bytes_of (bytes_kept (disk_at m d)))
    → MayLeave (still (state_of (after_write m d at fresh faults))) c → LeftOver (Either (view_of m).unsynced (Within d at (length fresh))) (view_of m) c
left_after_write m d at fresh faults c below fits left =
    let torn : Torn (Within d at (length fresh)) (contents_of (state_of m)) (contents_of (state_of (after_write m d at fresh faults))) = torn_by_write m d at fresh faults below fits in
    record {
      told = refl;
      torn = record {
        disks = record {
          sizes = λ e. left.torn.disks.sizes e ∙ torn.disks.sizes e;
          bytes = λ e i out. left.torn.disks.bytes e i (λ u. out (unsynced_by_write m d at fresh faults e i below u))
              ∙ torn.disks.bytes e i (λ within. out (inr within));
        };
        said = left.torn.said;
      };
    }

left_in_write : (m : Memory) (d at n : ℕ) (fresh replaced faults : List ℕ) (c : Contents) → n ≡ length fresh
    → LeftOver (Either (area_of (state_of m)) (Within d at n)) (still (state_of m)) c → LeftOver (Either (view_of m).unsynced (Within d at (length fresh))) (view_of m) c
left_in_write m d at n fresh replaced faults c is left = record {
  told = refl;
  torn = record {
    disks = record {
      sizes = left.torn.disks.sizes;
      bytes = λ e i out. left.torn.disks.bytes e i (λ u. out (⊎_elim (λ before. inl before) (λ within. inr (subst (λ (k : ℕ). Within d at k e i) is within)) u));
    };
    said = left.torn.said;
  };
}

left_before_write : (m : Memory) (d at n : ℕ) (c : Contents) → MayLeave (still (state_of m)) c → LeftOver (Either (area_of (state_of m)) (Within d at n)) (still (state_of m)) c
left_before_write m d at n c left = record {
  told = refl;
  torn = record {
    disks = record { sizes = left.torn.disks.sizes; bytes = λ e i out. left.torn.disks.bytes e i (λ u. out (inl u)) };
    said = left.torn.said;
  };
}

pub writes : {T E : Type 0} (result : Result T E) (m : Memory) (d at : ℕ) (fresh faults : List ℕ) → IsMemoryBank m → (m.moment ≡ 2 ^ 64 - 1 → ⊥) → d ≤ 20
    → at + length fresh ≤ length (bytes_of (bytes_kept (disk_at m d)))
    → OnOk result (m.moment < m.moment + 1) → ((e : ℕ) → get_or m.faults e 0 ≤ get_or faults e 0) → OnErr result (Rose (get_or m.faults d 0) (get_or faults d 0))
    → OnOk result (region (contents_of (state_of (after_write m d at fresh faults))).disks d at (length fresh) ≡ fresh)
    → Writes d at fresh result (view_of m) (view_of (after_write m d at fresh faults))
writes result m d at fresh faults sound free le fits rises grow cause there =
    let below : d < length m.disks = on_disk m d sound le in
    let bound : m.moment < 2 ^ 64 = sound.bound in
    record {
      goes = goes result m (after_write m d at fresh faults) (omega (arith, free)) grow (le_refl m.port_faults) rises;
      sizes = λ e. (torn_by_write m d at fresh faults below fits).disks.sizes e;
      cause = cause;
      time = recorded m (slice_set m.disks d (option_written (disk_at m d) at fresh)) m.said (Written d at (option_range (disk_at m d) at (at + length fresh))) faults m.port_faults
          (LeftOver (Either (view_of m).unsynced (Within d at (length fresh))) (view_of m)) sound
          (back_from_write m d at fresh faults m.port_faults below fits)
          (λ c left. left_after_write m d at fresh faults c below fits left)
          (λ c left. left_in_write m d at (length (option_range (disk_at m d) at (at + length fresh))) fresh (option_range (disk_at m d) at (at + length fresh)) faults c
          (range_length (disk_at m d) at fresh fits) left)
          (λ c left. left_before_write m d at (length (option_range (disk_at m d) at (at + length fresh))) c left);
      torn = λ told. torn_by_write m d at fresh faults below fits;
      written = λ told. there;
      unsynced = λ told e i u. unsynced_by_write m d at fresh faults e i below u;
    }

-- what was written is read
pub written_region : (m : Memory) (d at : ℕ) (fresh faults : List ℕ) → d < length m.disks → at + length fresh ≤ length (bytes_of (bytes_kept (disk_at m d)))
    → region (contents_of (state_of (after_write m d at fresh faults))).disks d at (length fresh) ≡ fresh
written_region m d at fresh faults below fits = ⊎_elim
    (λ here. ap (λ (o : Option Kept). take (length fresh) (drop at (bytes_of (bytes_kept o)))) here.1 ∙ written_there (disk_at m d) at fresh fits)
    (λ apart. absurd (apart.0 refl))
    (set_tells m.disks d (option_written (disk_at m d) at fresh) d below)
