-- The disks so far have no size.
use Rattle.std.proofs.Common.{◌≡◌, ◌<◌, ℕ, None}
use Rattle.trap_mount.proofs.creating.lowest.Given as goal

abbrev pub invariant-loop-d : goal.invariant-loop-d
invariant-loop-d g l = (e : ℕ) → e < l.d → (g.B.Bank.view l.bank).sizes e ≡ None
