-- The ranges from the index on may still differ.
use Rattle.std.proofs.Common.{◌≡◌, length, drop}
use Rattle.trap_bank.specs.Kept.{AgreeOutside}
use Rattle.trap_bank.proofs.disk.copy_ranges.Given as goal

abbrev pub invariant-loop-range : goal.invariant-loop-range
invariant-loop-range l = record { same : length l.to ≡ length l.from; agree : AgreeOutside (drop l.range-index l.ranges) l.to l.from }
