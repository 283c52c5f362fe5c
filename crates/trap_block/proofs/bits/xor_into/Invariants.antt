use Rattle.std.proofs.Common.{◌≡◌, ℕ, ◌-◌, ◌<◌, ◌≤◌, length, get_or}
use Rattle.std.specs.Int.Bits.{bit_xor}
use Rattle.trap_block.proofs.bits.xor_into.Given as goal

-- the bytes before `at` are done, and those from it on are as they were
abbrev pub invariant-loop-dst : goal.invariant-loop-dst
invariant-loop-dst l = record {
  inside : l.at ≤ length l.dst;
  done : (k : ℕ) → k < l.at → get_or l.dst k 0 ≡ bit_xor (get_or l.initial.dst k 0) (get_or l.src k 0);
  still : (k : ℕ) → l.at ≤ k → get_or l.dst k 0 ≡ get_or l.initial.dst k 0;
}

abbrev pub decreases-loop-dst : goal.decreases-loop-dst
decreases-loop-dst l = length l.dst - l.at
