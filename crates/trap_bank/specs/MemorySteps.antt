-- The steps of which the calls of a bank in memory are made.
use Rattle.std.specs.Prelude.{◌≡◌, ◌⊎◌, ℕ, ◌+◌, ◌-◌, ◌^◌, ◌≤◌, List, [], ◌∷◌, ◌++◌, length}
use Rattle.std.specs.Prelude.{slice_range, slice_set, Option, Some, None, get_or, MatchOption}
use Rattle.std.specs.Prelude.{Contains}
use Rattle.trap_bank.specs.declared.record.Change.TheVariants.{Made, Written, Synced, Said}
use Rattle.trap_bank.specs.Counts.{one_more, with_raised}
use Rattle.trap_bank.specs.Kept.{Kept, zero_disk, written_disk, settled_disk}
use Rattle.trap_bank.specs.Record.{ranges_kept}
use Rattle.trap_bank.specs.Memory.{Memory, disk_at}

-- that many calls were made, and the next has no number of 64 bits
abbrev pub IsWorn : Memory → Type 0
IsWorn m = m.moment ≡ 2 ^ 64 - 1

-- the fuse has burnt down
abbrev pub IsBurnt : Memory → Type 0
IsBurnt m = MatchOption m.fuse ⊥ (λ calls. calls ≤ m.moment)

-- the next call is to fail: its number was chosen, or the fuse has burnt down, or it has no number
abbrev pub IsStruck : Memory → Type 0
IsStruck m = Contains m.chosen (m.moment + 1) ⊎ (IsBurnt m ⊎ IsWorn m)

-- the calls on the disk that were spared have been made
abbrev pub IsSpent : Memory → ℕ → Type 0
IsSpent m d = get_or m.spared d None ≡ Some 0

-- the next call on the disk is to fail
abbrev pub IsStruckOn : Memory → ℕ → Type 0
IsStruckOn m d = IsSpent m d ⊎ IsStruck m

-- one call less is spared, where a number of them is
abbrev pub one_less : Option ℕ → Option ℕ
one_less None = None
one_less (Some calls) = Some (calls - 1)

-- a call on the disk counts, whatever becomes of it
abbrev pub counted_on : Memory → ℕ → Memory
counted_on m d = record m { spared = slice_set m.spared d (one_less (get_or m.spared d None)) }

-- a call was made, and nothing else
abbrev pub passed : Memory → Memory
passed m = record m { moment = one_more m.moment }

-- a call found no memory
abbrev pub found_no_memory : Memory → Memory
found_no_memory m = record m { moment = one_more m.moment; starved = m.starved + 1 }

-- the disk failed
abbrev pub blamed : Memory → ℕ → Memory
blamed m d = record m { faults = with_raised m.faults d }

-- the port failed
abbrev pub port_blamed : Memory → Memory
port_blamed m = record m { port_faults = one_more m.port_faults }

abbrev pub option_written : Option Kept → ℕ → List ℕ → Option Kept
option_written None at bytes = None
option_written (Some disk) at bytes = Some (written_disk disk at bytes)

abbrev pub option_settled : Option Kept → Option Kept
option_settled None = None
option_settled (Some disk) = Some (settled_disk disk)

abbrev pub option_range : Option Kept → ℕ → ℕ → List ℕ
option_range None from to = []
option_range (Some disk) from to = slice_range disk.bytes from to

-- bytes were laid over the disk's
abbrev pub overwritten : Memory → ℕ → ℕ → List ℕ → Memory
overwritten m d at bytes = record m {
  disks = slice_set m.disks d (option_written (disk_at m d) at bytes);
  past = record {
    moment = m.moment;
    change = Written d at (option_range (disk_at m d) at (at + length bytes));
  } ∷ m.past;
  moment = m.moment + 1;
}

-- all of the disk became stable
abbrev pub synced : Memory → ℕ → Memory
synced m d = record m {
  disks = slice_set m.disks d (option_settled (disk_at m d));
  past = record { moment = m.moment; change = Synced d (ranges_kept (disk_at m d)) } ∷ m.past;
  moment = m.moment + 1;
}

-- the disk got that many zero bytes
abbrev pub made : Memory → ℕ → ℕ → Memory
made m d len = record m {
  disks = slice_set m.disks d (Some (zero_disk len));
  past = record { moment = m.moment; change = Made d len (disk_at m d) } ∷ m.past;
  moment = m.moment + 1;
}

-- the bytes were said
abbrev pub spoken : Memory → List ℕ → Memory
spoken m bytes = record m {
  said = m.said ++ bytes;
  past = record { moment = m.moment; change = Said (length bytes) } ∷ m.past;
  moment = m.moment + 1;
}
