-- A bank in memory.
use Rattle.std.specs.Prelude.{◌≡◌, ◌⊎◌, ℕ, ◌^◌, ◌<◌, ◌≤◌, List, [], length, replicate, get_or}
use Rattle.std.specs.Prelude.{Option, None, true}
use Rattle.trap_bank.specs.declared.record.Entry.{Entry}
use Rattle.trap_bank.specs.Disks.{Contents, View, size_of}
use Rattle.std.proofs.Common.{refl, inl, ⊎_elim, lt_irrefl}
use Rattle.trap_bank.specs.Calls.{MayLeave, IsLawful}
use Rattle.trap_bank.specs.Kept.{Kept}
use Rattle.trap_bank.specs.Record.{State, still, contents_of, area_of, bytes_kept, ranges_kept}
use Rattle.trap_bank.specs.Record.{InCalls, BeganBefore}

pub record Memory : Type 0 where
  -- each disk, or that it is absent
  pub disks : List (Option Kept)
  -- all that was said
  pub said : List ℕ
  -- the calls that changed something since the last crash, the newest first
  pub past : List Entry
  -- when the last crash was
  pub since : ℕ
  -- how many calls were made of those that can fail
  pub moment : ℕ
  -- how often each disk has failed, and how often the port has
  pub faults : List ℕ
  pub port_faults : ℕ
  -- how many calls were refused because there was no memory
  pub starved : ℕ
  -- the numbers of calls that are to fail, the newest first
  pub chosen : List ℕ
  -- after how many calls every call fails
  pub fuse : Option ℕ
  -- after how many more calls on it each disk fails every call
  pub spared : List (Option ℕ)

-- there are twenty-one disks, and the record agrees with the counts
pub record IsMemory (m : Memory) : Type 0 where
  pub disks : length m.disks ≡ 21
  pub faults : length m.faults ≡ 21
  pub since : m.since ≤ m.moment
  pub began : BeganBefore m.past m.moment
  pub starved : m.starved ≤ m.moment
  pub spared : length m.spared ≡ 21

-- what holds of every bank in memory
pub record IsMemoryBank (m : Memory) : Type 0 where
  pub kept : IsMemory m
  pub bound : m.moment < 2 ^ 64

abbrev pub disk_at : Memory → ℕ → Option Kept
disk_at m d = get_or m.disks d None

abbrev pub state_of : Memory → State
state_of m = record {
  disks = λ d. bytes_kept (disk_at m d);
  ranges = λ d. ranges_kept (disk_at m d);
  said = m.said;
}

-- What contracts see. Of a moment before the last crash it isn't known what a crash may have left,
-- so it may be anything.
abbrev pub view_of : Memory → View
view_of m = record {
  tells = true;
  sizes = λ d. size_of (bytes_kept (disk_at m d));
  now = contents_of (state_of m);
  unsynced = area_of (state_of m);
  faults = λ d. get_or m.faults d 0;
  port_faults = m.port_faults;
  moment = m.moment;
  by_one = true;
  left = λ t c. MayLeave (still (state_of m)) c
      ⊎ ((t < m.moment) × ((t < m.since) ⊎ InCalls (state_of m) m.past t c));
}

-- a new bank
abbrev pub no_disks : Memory
no_disks = record {
  disks = replicate 21 None;
  said = [];
  past = [];
  since = 0;
  moment = 0;
  faults = replicate 21 0;
  port_faults = 0;
  starved = 0;
  chosen = replicate 8 0;
  fuse = None;
  spared = replicate 21 None;
}

-- seen under the bank's own view
pub as_shown : (m : Memory) (c : Contents) → MayLeave (still (state_of m)) c
    → MayLeave (view_of m) c
as_shown m c left = record {
  told = refl;
  torn = record {
    disks = left.torn.disks;
    said = left.torn.said;
  };
}

below_itself : (n : ℕ) → n < n → ⊥
below_itself n lt = lt_irrefl n lt

pub lawful_view : (m : Memory) → IsLawful (view_of m)
lawful_view m = record {
  sized = λ told d. refl;
  only_now = λ c left. ⊎_elim (as_shown m c) (λ past. absurd (below_itself m.moment past.0)) left;
  counts_now = λ t told le. inl (record {
    told = refl;
    torn = record {
      disks = record { sizes = λ e. refl; bytes = λ e i clean. refl };
      said = refl;
    };
  });
}
