-- The first disks are after the crash, the others as before it.
use Rattle.std.proofs.Common.{◌≡◌, ℕ, ◌<◌, ◌≤◌, length, get_or, None}
use Rattle.trap_bank.specs.Crash.{Crashed, first_draw}
use Rattle.trap_bank.proofs.crashing.crash_all.Given as goal

abbrev pub invariant-loop-d : goal.invariant-loop-d
invariant-loop-d l = record {
  count : length l.disks ≡ length l.initial.disks;
  number : l.draws.number ≡ first_draw l.seed l.initial.disks l.d;
  done : (k : ℕ) → k < l.d → Crashed l.seed (first_draw l.seed l.initial.disks k) (get_or l.initial.disks k None) (get_or l.disks k None);
  left : (k : ℕ) → l.d ≤ k → get_or l.disks k None ≡ get_or l.initial.disks k None;
}
