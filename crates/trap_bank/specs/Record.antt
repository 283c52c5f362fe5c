-- What a bank in memory keeps of its calls, and what crashes in them may have left.
use Rattle.std.specs.Prelude.{◌⊎◌, ℕ, ◌-◌, ◌<◌, ◌≤◌, List, [], ◌∷◌, length, take, drop, ◌==◌}
use Rattle.std.specs.Prelude.{if◌then◌else◌, Option, Some, None, true}
use Rattle.trap_bank.specs.declared.disk.Range.{Range}
use Rattle.trap_bank.specs.declared.record.Change.{Change}
use Rattle.trap_bank.specs.declared.record.Change.TheVariants.{Made, Written, Synced, Said}
use Rattle.trap_bank.specs.declared.record.Entry.{Entry}
use Rattle.trap_bank.specs.Disks.{Disks, Contents, View, Area, Within, Either, size_of}
use Rattle.trap_bank.specs.Calls.{MayLeave, LeftOver, LeftSaying, LeftMaking}
use Rattle.trap_bank.specs.Kept.{Kept, InRanges, overlaid}

-- what a read gives and what was said, and where was written since the last sync of each disk
pub record State : Type 0 where
  pub disks : Disks
  pub ranges : ℕ → List Range
  pub said : List ℕ

abbrev pub bytes_kept : Option Kept → Option (List ℕ)
bytes_kept None = None
bytes_kept (Some disk) = Some disk.bytes

abbrev pub ranges_kept : Option Kept → List Range
ranges_kept None = []
ranges_kept (Some disk) = disk.ranges

-- the values of all disks, with another one for one of them
abbrev pub with_disk : {A : Type 0} → (ℕ → A) → ℕ → A → ℕ → A
with_disk values d other e = if e == d then other else values e

abbrev pub option_overlaid : Option (List ℕ) → ℕ → List ℕ → Option (List ℕ)
option_overlaid None at bytes = None
option_overlaid (Some old) at bytes = Some (overlaid old at bytes)

-- the state before a change, from the one after it
abbrev pub before : State → Change → State
before s (Made d len old) = record {
  disks = with_disk s.disks d (bytes_kept old);
  ranges = with_disk s.ranges d (ranges_kept old);
  said = s.said;
}
before s (Written d at replaced) = record {
  disks = with_disk s.disks d (option_overlaid (s.disks d) at replaced);
  ranges = with_disk s.ranges d (take (length (s.ranges d) - 1) (s.ranges d));
  said = s.said;
}
before s (Synced d ranges) = record {
  disks = s.disks;
  ranges = with_disk s.ranges d ranges;
  said = s.said;
}
before s (Said len) = record {
  disks = s.disks;
  ranges = s.ranges;
  said = take (length s.said - len) s.said;
}

abbrev pub area_of : State → Area
area_of s d i = InRanges (s.ranges d) i

abbrev pub contents_of : State → Contents
contents_of s = record { disks = s.disks; said = s.said }

-- the state as a view, in which nothing failed and no time went by
abbrev pub still : State → View
still s = record {
  tells = true;
  sizes = λ d. size_of (s.disks d);
  now = contents_of s;
  unsynced = area_of s;
  faults = λ d. 0;
  port_faults = 0;
  moment = 0;
  by_one = true;
  left = λ t c. ⊥;
}

-- what a crash inside a call may leave, by the states before and after it
abbrev pub InCall : State → State → Change → Contents → Type 0
InCall old new (Made d len disk) c = LeftMaking d len (still old) c
InCall old new (Written d at replaced) c =
    LeftOver (Either (area_of old) (Within d at (length replaced))) (still old) c
InCall old new (Synced d ranges) c = MayLeave (still old) c
InCall old new (Said len) c = LeftSaying (drop (length old.said) new.said) (still old) c

-- what a crash may have left in one of the calls since t, the newest first, where the state after
-- them is this
abbrev pub InCalls : State → List Entry → ℕ → Contents → Type 0
InCalls s [] t c = ⊥
InCalls s (e ∷ older) t c = (t ≤ e.moment) × (InCall (before s e.change) s e.change c
    ⊎ InCalls (before s e.change) older t c)

-- the newest call began before this moment
abbrev pub BeganBefore : List Entry → ℕ → Type 0
BeganBefore [] n = Unit {0}
BeganBefore (e ∷ older) n = e.moment < n
