-- Counts of faults, one for each disk.
use Rattle.std.specs.Prelude.{◌≡◌, ◌≢◌, ℕ, ◌+◌, ◌-◌, ◌^◌, ◌≤◌, min, List, length, get_or}

-- the count of this disk rose by one, or stands at the greatest number of 64 bits; no other
-- changed, and none fell
pub record Blames (d : ℕ) (old new : List ℕ) : Type 0 where
  pub disks : length new ≡ length old
  pub one_more : get_or new d 0 ≡ min (get_or old d 0 + 1) (2 ^ 64 - 1)
  pub others : (e : ℕ) → e ≢ d → get_or new e 0 ≡ get_or old e 0
  pub later : (e : ℕ) → get_or old e 0 ≤ get_or new e 0
