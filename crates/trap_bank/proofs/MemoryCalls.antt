-- What the calls of a bank in memory do, by the views before and after them.
use Rattle.std.proofs.Common.{◌≡◌, ℕ, ◌-◌, ◌^◌, ◌<◌, ◌≤◌, List, [], length, Option, Some, None, Bool, true, false, Ok, Err, IsTrue, refl, sym, inl, inr, arith, append-nil, le_refl, subst}
use Rattle.trap_bank.specs.Disks.{bytes_of, size_of, region}
use Rattle.trap_bank.specs.Calls.{Fits, IsOneCall, Reads, Writes, Syncs, Says, Makes}
use Rattle.trap_bank.specs.Counts.{one_more, with_raised}
use Rattle.trap_bank.specs.Record.{bytes_kept}
use Rattle.trap_bank.specs.Memory.{Memory, IsMemoryBank, disk_at, view_of}
use Rattle.trap_bank.specs.MemorySteps.{IsStruck, IsStruckOn, IsWorn, counted_on}
use Rattle.trap_bank.proofs.MemoryTime.{recounted, goes, idle, raised, none_falls}

-- a disk with a number
pub on_disk : (m : Memory) (d : ℕ) → IsMemoryBank m → d ≤ 20 → d < length m.disks
on_disk m d sound le = let all : length m.disks ≡ 21 = sound.kept.disks in omega arith

pub counted : (m : Memory) (d : ℕ) → IsMemoryBank m → d ≤ 20 → d < length m.faults
counted m d sound le = let all : length m.faults ≡ 21 = sound.kept.faults in omega arith

fits_disk : (disk : Option (List ℕ)) (n end_ : ℕ) → size_of disk ≡ Some n → end_ ≤ n → end_ ≤ length (bytes_of disk)
fits_disk None n end_ is le = let none : ⊥ = cc in absurd none
fits_disk (Some bytes) n end_ is le = let long : length bytes ≡ n = cc in omega arith

pub fits_bytes : (m : Memory) (d end_ : ℕ) → Fits (view_of m) d end_ → end_ ≤ length (bytes_of (bytes_kept (disk_at m d)))
fits_bytes m d end_ fits = fits_disk (bytes_kept (disk_at m d)) fits.0 end_ fits.1 fits.2

-- a call that fails and changes counts alone
fails : {T E : Type 0} (error : E) (m : Memory) (d k s : ℕ) → IsMemoryBank m → d ≤ 20 → k ≡ one_more m.moment
    → IsOneCall {T = T} (Err error) (view_of m) (view_of (recounted m k (with_raised m.faults d) m.port_faults s))
fails error m d k s sound le passes = goes (Err error) m (recounted m k (with_raised m.faults d) m.port_faults s) passes
    (λ e. none_falls m.faults d e (counted m d sound le)) (le_refl m.port_faults) tt

pub fails_reading : {T E : Type 0} (error : E) (m : Memory) (d at : ℕ) (before after : List ℕ) (k s : ℕ) → IsMemoryBank m → d ≤ 20 → k ≡ one_more m.moment
    → Reads {T = T} d at before after (Err error) (view_of m) (view_of (recounted m k (with_raised m.faults d) m.port_faults s))
fails_reading error m d at before after k s sound le passes = record {
  goes = fails error m d k s sound le passes;
  sizes = λ e. refl;
  cause = raised m.faults d (counted m d sound le);
  time = idle m k (with_raised m.faults d) m.port_faults s _ sound (omega arith);
  same = λ told. refl;
  fewer = λ told e i unsynced. unsynced;
  bytes = λ told. tt;
}

pub reads : {T E : Type 0} (value : T) (m : Memory) (d at : ℕ) (before after : List ℕ) → IsMemoryBank m → (m.moment ≡ 2 ^ 64 - 1 → ⊥)
    → after ≡ region (view_of m).now.disks d at (length before)
    → Reads {E = E} d at before after (Ok value) (view_of m) (view_of (recounted m (one_more m.moment) m.faults m.port_faults m.starved))
reads value m d at before after sound fresh is =
    let bound : m.moment < 2 ^ 64 = sound.bound in
    record {
      goes = goes (Ok value) m (recounted m (one_more m.moment) m.faults m.port_faults m.starved) refl (λ e. le_refl _) (le_refl m.port_faults) (omega (arith, fresh));
      sizes = λ e. refl;
      cause = tt;
      time = idle m (one_more m.moment) m.faults m.port_faults m.starved _ sound (omega arith);
      same = λ told. refl;
      fewer = λ told e i unsynced. unsynced;
      bytes = λ told. is;
    }

pub fails_writing : {T E : Type 0} (error : E) (m : Memory) (d at : ℕ) (bytes : List ℕ) (k s : ℕ) → IsMemoryBank m → d ≤ 20 → k ≡ one_more m.moment
    → Writes {T = T} d at bytes (Err error) (view_of m) (view_of (recounted m k (with_raised m.faults d) m.port_faults s))
fails_writing error m d at bytes k s sound le passes = record {
  goes = fails error m d k s sound le passes;
  sizes = λ e. refl;
  cause = raised m.faults d (counted m d sound le);
  time = idle m k (with_raised m.faults d) m.port_faults s _ sound (omega arith);
  torn = λ told. record { disks = record { sizes = λ e. refl; bytes = λ e i out. refl }; said = refl };
  written = λ told. tt;
  unsynced = λ told e i unsynced. inl unsynced;
}

pub fails_syncing : {T E : Type 0} (error : E) (m : Memory) (d k s : ℕ) → IsMemoryBank m → d ≤ 20 → k ≡ one_more m.moment
    → Syncs {T = T} d (Err error) (view_of m) (view_of (recounted m k (with_raised m.faults d) m.port_faults s))
fails_syncing error m d k s sound le passes = record {
  goes = fails error m d k s sound le passes;
  sizes = λ e. refl;
  cause = raised m.faults d (counted m d sound le);
  time = idle m k (with_raised m.faults d) m.port_faults s _ sound (omega arith);
  same = λ told. refl;
  fewer = λ told e i unsynced. unsynced;
  synced = λ told. tt;
}

pub fails_making : {T E : Type 0} (error : E) (m : Memory) (d len k s : ℕ) → IsMemoryBank m → d ≤ 20 → k ≡ one_more m.moment
    → Makes {T = T} d len (Err error) (view_of m) (view_of (recounted m k (with_raised m.faults d) m.port_faults s))
fails_making error m d len k s sound le passes = record {
  goes = fails error m d k s sound le passes;
  others = λ e other. refl;
  sized = tt;
  resized = inl refl;
  cause = raised m.faults d (counted m d sound le);
  time = idle m k (with_raised m.faults d) m.port_faults s _ sound (omega arith);
  step = λ told. record { others = λ e other. refl; said = refl; disk = inl refl };
  zeros = λ told. tt;
  fewer = λ told e i unsynced. unsynced;
  stable = λ told. inl refl;
  settled = λ told. tt;
}

pub fails_saying : {T E : Type 0} (error : E) (m : Memory) (piece : List ℕ) (s : ℕ) → IsMemoryBank m
    → Says {T = T} piece (Err error) (view_of m) (view_of (recounted m (one_more m.moment) m.faults (one_more m.port_faults) s))
fails_saying error m piece s sound = record {
  goes = goes (Err error) m (recounted m (one_more m.moment) m.faults (one_more m.port_faults) s) refl (λ e. le_refl _) (omega arith) tt;
  sizes = λ e. refl;
  cause = omega arith;
  time = idle m (one_more m.moment) m.faults (one_more m.port_faults) s _ sound (omega arith);
  disks = λ told. refl;
  fewer = λ told e i unsynced. unsynced;
  said = λ told. tt;
  part = λ told. record { part = []; rest = piece; whole = refl; said = sym (append-nil m.said) };
}

-- a call that isn't to fail has a number
pub has_a_number : (m : Memory) (b : Bool) → b ≡ false → (IsStruck m → IsTrue b) → m.moment ≡ 2 ^ 64 - 1 → ⊥
has_a_number m b not_struck struck worn = let is : b ≡ true = struck (inr (inr worn)) in cc

-- nor does a call on a disk that isn't to fail lack one
pub has_one_on : (m : Memory) (d : ℕ) (b : Bool) → b ≡ false → (IsStruckOn m d → IsTrue b) → m.moment ≡ 2 ^ 64 - 1 → ⊥
has_one_on m d b not_struck struck worn = let is : b ≡ true = struck (inr (inr (inr worn))) in cc

-- so has a call where not all numbers are used up
pub not_used_up : (m : Memory) (b : Bool) → b ≡ false → (IsWorn m → IsTrue b) → m.moment ≡ 2 ^ 64 - 1 → ⊥
not_used_up m b not_worn worn is_worn = let is : b ≡ true = worn is_worn in cc

-- at the last moment no time goes by
pub used_up : (m : Memory) → IsWorn m → m.moment ≡ one_more m.moment
used_up m worn = omega arith

-- counting a call on a disk changes nothing of that
pub worn_before : (m : Memory) (d : ℕ) (n : Memory) → n ≡ counted_on m d → IsWorn n → IsWorn m
worn_before m d n is worn = subst IsWorn is worn

pub worn_after : (m : Memory) (d : ℕ) (n : Memory) → n ≡ counted_on m d → IsWorn m → IsWorn n
worn_after m d n is worn = subst IsWorn (sym is) worn
