-- What a sync of a bank in memory does, and what is said on it.
use Rattle.std.proofs.Common.{◌≡◌, ℕ, ◌-◌, ◌^◌, ◌<◌, ◌≤◌, List, [], ◌++◌, length, drop, slice_set, Option, Some, None, Ok, refl, sym, ◌∙◌, ap, subst, ⊎_elim, arith, le_refl, append-nil}
use Rattle.std.proofs.Math.Seq.{drop-append_seam}
use Rattle.trap_bank.specs.declared.record.Change.TheVariants.{Synced, Said}
use Rattle.trap_bank.specs.Disks.{Contents, Torn, size_of}
use Rattle.trap_bank.specs.Calls.{MayLeave, LeftSaying, Syncs, Says}
use Rattle.trap_bank.specs.Kept.{Kept, InRanges}
use Rattle.trap_bank.specs.Record.{still, area_of, contents_of, bytes_kept, ranges_kept}
use Rattle.trap_bank.specs.Memory.{Memory, IsMemoryBank, disk_at, state_of, view_of, as_shown}
use Rattle.trap_bank.specs.MemorySteps.{option_settled}
use Rattle.trap_bank.proofs.MemoryTime.{changed, goes, recorded}
use Rattle.trap_bank.proofs.MemoryBack.{set_tells, not_seen, settled_bytes, back_from_sync, back_from_say}
use Rattle.trap_bank.proofs.MemoryCalls.{on_disk}

-- the bank after a sync
abbrev pub after_sync : Memory → ℕ → Memory
after_sync m d = changed m (slice_set m.disks d (option_settled (disk_at m d))) m.said (Synced d (ranges_kept (disk_at m d))) m.faults m.port_faults

nothing_unsynced : (disk : Option Kept) (i : ℕ) → InRanges (ranges_kept (option_settled disk)) i → ⊥
nothing_unsynced None i h = h
nothing_unsynced (Some disk) i h = h

same_by_sync : (m : Memory) (d : ℕ) → d < length m.disks → contents_of (state_of (after_sync m d)) ≡ contents_of (state_of m)
same_by_sync m d below =
    let disks : (state_of (after_sync m d)).disks ≡ (state_of m).disks = not_seen bytes_kept m.disks d (option_settled (disk_at m d)) below (settled_bytes (disk_at m d)) in
    λ i. record { disks = disks i; said = m.said }

fewer_by_sync : (m : Memory) (d e i : ℕ) → d < length m.disks → area_of (state_of (after_sync m d)) e i → area_of (state_of m) e i
fewer_by_sync m d e i below h = ⊎_elim
    (λ here. absurd (nothing_unsynced (disk_at m d) i (subst (λ (o : Option Kept). InRanges (ranges_kept o) i) here.1 h)))
    (λ apart. subst (λ (o : Option Kept). InRanges (ranges_kept o) i) apart.1 h)
    (set_tells m.disks d (option_settled (disk_at m d)) e below)

left_after_sync : (m : Memory) (d : ℕ) (c : Contents) → d < length m.disks → MayLeave (still (state_of (after_sync m d))) c → MayLeave (view_of m) c
left_after_sync m d c below left =
    let same : contents_of (state_of (after_sync m d)) ≡ contents_of (state_of m) = same_by_sync m d below in
    let torn : Torn (area_of (state_of (after_sync m d))) (contents_of (state_of m)) c =
    subst (λ (now : Contents). Torn (area_of (state_of (after_sync m d))) now c) same (record { disks = left.torn.disks; said = left.torn.said }) in
    record {
      told = refl;
      torn = record {
        disks = record { sizes = torn.disks.sizes; bytes = λ e i out. torn.disks.bytes e i (λ u. out (fewer_by_sync m d e i below u)) };
        said = torn.said;
      };
    }

pub syncs : {T E : Type 0} (value : T) (m : Memory) (d : ℕ) → IsMemoryBank m → (m.moment ≡ 2 ^ 64 - 1 → ⊥) → d ≤ 20
    → Syncs {E = E} d (Ok value) (view_of m) (view_of (after_sync m d))
syncs value m d sound free le =
    let below : d < length m.disks = on_disk m d sound le in
    let bound : m.moment < 2 ^ 64 = sound.bound in
    let same : contents_of (state_of (after_sync m d)) ≡ contents_of (state_of m) = same_by_sync m d below in
    record {
      goes = goes (Ok value) m (after_sync m d) (omega (arith, free)) (λ e. le_refl _) (le_refl m.port_faults) (omega arith);
      sizes = λ e. ap (λ (now : Contents). size_of (now.disks e)) same;
      cause = tt;
      time = recorded m (slice_set m.disks d (option_settled (disk_at m d))) m.said (Synced d (ranges_kept (disk_at m d))) m.faults m.port_faults
          (MayLeave (view_of m)) sound (back_from_sync m d m.faults m.port_faults below)
          (λ c left. left_after_sync m d c below left)
          (λ c left. as_shown m c left)
          (λ c left. left);
      same = λ told. same;
      fewer = λ told e i u. fewer_by_sync m d e i below u;
      synced = λ told i u. ⊎_elim
          (λ here. nothing_unsynced (disk_at m d) i (subst (λ (o : Option Kept). InRanges (ranges_kept o) i) here.1 u))
          (λ apart. absurd (apart.0 refl))
          (set_tells m.disks d (option_settled (disk_at m d)) d below);
    }

-- the bank after a piece that was said
abbrev pub after_piece : Memory → List ℕ → Memory
after_piece m piece = changed m m.disks (m.said ++ piece) (Said (length piece)) m.faults m.port_faults

left_in_piece : (m : Memory) (piece other : List ℕ) (c : Contents) → other ≡ piece → LeftSaying other (still (state_of m)) c → LeftSaying piece (view_of m) c
left_in_piece m piece other c is left = subst (λ (xs : List ℕ). LeftSaying xs (view_of m) c) is
    (record { told = refl; disks = left.disks; says = record { part = left.says.part; rest = left.says.rest; whole = left.says.whole; said = left.says.said } })

pub says : {T E : Type 0} (value : T) (m : Memory) (piece : List ℕ) → IsMemoryBank m → (m.moment ≡ 2 ^ 64 - 1 → ⊥)
    → Says {E = E} piece (Ok value) (view_of m) (view_of (after_piece m piece))
says value m piece sound free =
    let bound : m.moment < 2 ^ 64 = sound.bound in
    record {
      goes = goes (Ok value) m (after_piece m piece) (omega (arith, free)) (λ e. le_refl _) (le_refl m.port_faults) (omega arith);
      sizes = λ e. refl;
      cause = tt;
      time = recorded m m.disks (m.said ++ piece) (Said (length piece)) m.faults m.port_faults
          (LeftSaying piece (view_of m)) sound (back_from_say m piece m.faults m.port_faults)
          (λ c left. record {
            told = refl;
            disks = record { sizes = left.torn.disks.sizes; bytes = left.torn.disks.bytes };
            says = record
                { part = piece; rest = []; whole = append-nil piece; said = left.torn.said };
          })
          (λ c left. left_in_piece m piece (drop (length m.said) (m.said ++ piece)) c (drop-append_seam m.said piece) left)
          (λ c left. record {
            told = refl;
            disks = record { sizes = left.torn.disks.sizes; bytes = left.torn.disks.bytes };
            says = record { part = []; rest = drop (length m.said) (m.said ++ piece); whole = refl; said = left.torn.said ∙ sym (append-nil m.said) };
          });
      disks = λ told. refl;
      fewer = λ told e i u. u;
      said = λ told. refl;
      part = λ told. record { part = piece; rest = []; whole = append-nil piece; said = refl };
    }
