use Rattle.std.proofs.Common.{◌≡◌, ℕ, ◌-◌, ◌≤◌, List, length, take}
use Rattle.trap_bank.specs.Filling.{CountsBytes}
use Rattle.trap_bank.proofs.filling.fill.Given as goal

-- What was taken since the call began stands at the front of the buffer.
abbrev pub invariant-pieces : goal.invariant-pieces
invariant-pieces g l =
    (front : List ℕ) × CountsBytes front l.fn.used l.used (g.S.Source.stream l.fn.source) (g.S.Source.stream l.source)
    × (take (length front) l.buf ≡ front) × (length front ≡ l.at) × (l.at ≤ length l.buf)

abbrev pub decreases-pieces : goal.decreases-pieces
decreases-pieces g l = length l.buf - l.at
