-- A crash of a bank in memory.
use Rattle.std.specs.Prelude.{◌≡◌, ℕ, zero, suc, ◌%◌, ◌^◌, List, [], ◌∷◌, length, replicate, get_or}
use Rattle.std.specs.Prelude.{slice_set, Option, Some, None, if◌then◌else◌, ◌==◌, nat_lt}
use Rattle.trap_bank.specs.declared.disk.Range.{Range}
use Rattle.trap_bank.specs.Disks.{bytes_of, size_of}
use Rattle.trap_bank.specs.Calls.{MayLeave}
use Rattle.trap_bank.specs.Draws.{after_draws, drawn}
use Rattle.trap_bank.specs.Kept.{Kept, AgreeOutside, overlaid}
use Rattle.trap_bank.specs.Record.{bytes_kept, ranges_kept}
use Rattle.trap_bank.specs.Memory.{Memory, disk_at, view_of}

-- the bytes, with drawn ones in each range
abbrev pub filled : ℕ → List Range → List ℕ → List ℕ
filled x [] bytes = bytes
filled x (range ∷ ranges) bytes =
    filled (after_draws range.len x) ranges (overlaid bytes range.at (drawn range.len x))

-- the number after the draws for these ranges
abbrev pub after_ranges : ℕ → List Range → ℕ
after_ranges x [] = x
after_ranges x (range ∷ ranges) = after_ranges (after_draws range.len x) ranges

-- Seed 0 keeps what was written, seed 1 what was stable. Any other seed leaves drawn bytes where
-- was written since the last sync.
abbrev pub outcome : ℕ → ℕ → List ℕ → List ℕ → List Range → List ℕ
outcome seed x bytes stable ranges = if seed == 0 then bytes
    else (if seed == 1 then stable else filled x ranges bytes)

-- the last number that was drawn, which with seeds 0 and 1 is the one before
abbrev pub last_draw : ℕ → ℕ → List Range → ℕ
last_draw seed x ranges = if nat_lt seed 2 then x else after_ranges x ranges

-- a disk after a crash, of which all is stable
abbrev pub crashed_disk : ℕ → ℕ → Kept → Kept
crashed_disk seed x disk = record {
  bytes = outcome seed x disk.bytes disk.stable disk.ranges;
  stable = outcome seed x disk.bytes disk.stable disk.ranges;
  ranges = [];
}

abbrev pub option_crashed : ℕ → ℕ → Option Kept → Option Kept
option_crashed seed x None = None
option_crashed seed x (Some disk) = Some (crashed_disk seed x disk)

-- the number after which the bytes of a disk are drawn: they are drawn for one disk after another
abbrev pub first_draw : ℕ → List (Option Kept) → ℕ → ℕ
first_draw seed disks zero = seed % 2 ^ 31
first_draw seed disks (suc d) =
    last_draw seed (first_draw seed disks d) (ranges_kept (get_or disks d None))

-- one disk in a crash: nothing outside of what was written since the last sync has changed
pub record Crashed (seed x : ℕ) (old new : Option Kept) : Type 0 where
  pub exact : new ≡ option_crashed seed x old
  pub size : size_of (bytes_kept new) ≡ size_of (bytes_kept old)
  pub agree : AgreeOutside (ranges_kept old) (bytes_of (bytes_kept new)) (bytes_of (bytes_kept old))

-- each disk in a crash
pub record AllCrashed (seed : ℕ) (old new : List (Option Kept)) : Type 0 where
  pub count : length new ≡ length old
  pub each : (d : ℕ) → Crashed seed (first_draw seed old d) (get_or old d None) (get_or new d None)

abbrev pub stable_kept : Option Kept → Option (List ℕ)
stable_kept None = None
stable_kept (Some disk) = Some disk.stable

-- A crash with a seed. What it leaves is among what a crash on entry may leave, so that no size
-- changes and nothing said is lost. All of it is stable, and counts stay. From here on no call is
-- to fail, and of earlier moments nothing is known.
pub record Crashes (seed : ℕ) (old new : Memory) : Type 0 where
  pub left : MayLeave (view_of old) (view_of new).now
  pub kept : seed ≡ 0 → (view_of new).now ≡ (view_of old).now
  pub last_sync : seed ≡ 1 → (d : ℕ) → (view_of new).now.disks d ≡ stable_kept (disk_at old d)
  pub exact : (d : ℕ)
      → disk_at new d ≡ option_crashed seed (first_draw seed old.disks d) (disk_at old d)
  pub synced : (d i : ℕ) → (view_of new).unsynced d i → ⊥
  pub rest : new ≡ record old {
    disks = new.disks;
    past = [];
    since = old.moment;
    chosen = replicate 8 0;
    fuse = None;
    spared = replicate 21 None;
  }

-- the disk is absent, and of earlier moments nothing is known
abbrev pub removed : Memory → ℕ → Memory
removed m d = record m { disks = slice_set m.disks d None; past = []; since = m.moment }
