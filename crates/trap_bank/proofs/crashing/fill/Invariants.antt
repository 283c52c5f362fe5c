-- What is left to fill makes the rest of the whole.
use Rattle.std.proofs.Common.{◌≡◌, drop, length}
use Rattle.trap_bank.specs.Kept.{AgreeOutside}
use Rattle.trap_bank.specs.Crash.{filled, after_ranges}
use Rattle.trap_bank.proofs.crashing.fill.Given as goal

abbrev pub invariant-loop-range : goal.invariant-loop-range
invariant-loop-range l = record {
  long : length l.bytes ≡ length l.initial.bytes;
  rest : filled l.draws.number (drop l.range-index l.ranges) l.bytes ≡ filled l.initial.draws.number l.ranges l.initial.bytes;
  numbers : after_ranges l.draws.number (drop l.range-index l.ranges) ≡ after_ranges l.initial.draws.number l.ranges;
  agree : AgreeOutside l.ranges l.bytes l.initial.bytes;
}
