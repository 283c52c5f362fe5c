use Rattle.std.proofs.Common.{sym, ap, ◌∙◌, subst}
use Rattle.trap_stage.specs.Slots.{last_of}
use Rattle.trap_stage.specs.Found.{IsStage}
use Rattle.trap_stage.proofs.HeldStages.{last_held, stage_sound}
use Rattle.trap_stage.proofs.stage.Stage.last.Goals as goal

pub returns-clause-is : goal.returns-clause-is
returns-clause-is c =
    sym (last_held c.self.inside.g c.self.inside.drained c.self.inside.last c.self.inside.slots.items c.self.invariant.order) ∙ ap (λ t. last_of t) c.self.view_is

pub returns-clause-stage : goal.returns-clause-stage
returns-clause-stage c =
    subst IsStage c.self.view_is (stage_sound c.self.inside.g c.self.inside.drained c.self.inside.last c.self.inside.slots.items c.self.invariant)
