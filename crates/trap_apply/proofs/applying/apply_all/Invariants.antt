use Rattle.std.proofs.Common.{◌≡◌, ◌-◌, ◌^◌, List, None}
use Rattle.trap_model.specs.Frame.{Sent}
use Rattle.trap_apply.proofs.Running.{HasRun}
use Rattle.trap_apply.proofs.applying.apply_all.Given as goal

-- Some frames were taken, and the replica received them.
abbrev pub invariant-frames : goal.invariant-frames
invariant-frames g l =
    (frames : List Sent)
    × HasRun frames l.counts l.fn.replica l.replica (g.B.Bank.view l.fn.bank) (g.B.Bank.view l.bank) l.frames.used (g.S.Source.stream l.fn.source) (g.S.Source.stream l.source)
    × (l.frames.size ≡ l.fn.frames.size) × (l.frames.fault ≡ None)

abbrev pub decreases-frames : goal.decreases-frames
decreases-frames g l = 2 ^ 40 - l.frames.used
