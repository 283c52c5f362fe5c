use Rattle.std.proofs.Common.{length}
use Rattle.trap_replica.specs.Standing.{HasAppliedHeld, AppliesHeld}
use Rattle.trap_replica.proofs.settling.settle.Given as goal

abbrev pub invariant-frames : goal.invariant-frames
invariant-frames g l = HasAppliedHeld l.fn.store l.store l.fn.held l.held (g.B.Bank.view l.fn.bank) (g.B.Bank.view l.bank)
    × AppliesHeld l.fn.store l.store l.fn.held (g.B.Bank.view l.fn.bank) (g.B.Bank.view l.bank)

abbrev pub decreases-frames : goal.decreases-frames
decreases-frames g l = length l.held.frames
