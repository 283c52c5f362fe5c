use Rattle.std.proofs.Common.{◌≡◌, ℕ, ◌<◌, ◌≤◌, get_or}
use Rattle.std.specs.Int.Bits.{bit_xor}
use Rattle.trap_block.proofs.bits.xor_from.Given as goal

-- the bytes from `at` on and before i are done, and all others are as they were
abbrev pub invariant-loop-i : goal.invariant-loop-i
invariant-loop-i l = record {
  done : (k : ℕ) → l.at ≤ k → k < l.i → get_or l.dst k 0 ≡ bit_xor (get_or l.initial.dst k 0) (get_or l.src k 0);
  before : (k : ℕ) → k < l.at → get_or l.dst k 0 ≡ get_or l.initial.dst k 0;
  behind : (k : ℕ) → l.i ≤ k → get_or l.dst k 0 ≡ get_or l.initial.dst k 0;
}
