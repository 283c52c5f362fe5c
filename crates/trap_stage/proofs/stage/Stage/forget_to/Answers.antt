use Rattle.std.proofs.Common.{◌≡◌, ◌-◌, take, subst}
use Rattle.trap_stage.specs.Slots.{last_of}
use Rattle.trap_stage.specs.Held.{writes_held}
use Rattle.trap_stage.proofs.HeldStages.{forgotten}
use Rattle.trap_stage.proofs.stage.Stage.forget_to.Goals as goal

pub returns-clause-pending : goal.returns-clause-pending
returns-clause-pending c =
    subst (λ t. writes_held c.self.inside.g c.self.inside.slots.items c.max-self-inside.result (c.max-self-inside-2.result - c.max-self-inside.result) ≡ take (last_of t - c.args.seq) t.pending)
    c.self.view_is
    (forgotten c.self.inside.g c.self.inside.drained c.self.inside.last c.max-self-inside.result c.max-self-inside-2.result c.args.seq c.self.inside.slots.items
    c.self.invariant.order c.max-self-inside.ensures c.max-self-inside-2.ensures)
