use Rattle.std.proofs.Common.{◌<◌, ◌≤◌, sym, ap, ◌∙◌, subst, arith}
use Rattle.trap_stage.specs.Staged.{Staged, IsStaged}
use Rattle.trap_stage.specs.Slots.{Stage, last_of}
use Rattle.trap_stage.specs.Held.{slot_held, staged_from}
use Rattle.trap_stage.specs.Found.{staged_numbered}
use Rattle.trap_stage.proofs.HeldSlots.{held_sound}
use Rattle.trap_stage.proofs.HeldStages.{last_held, numbered_held}
use Rattle.trap_stage.proofs.stage.Stage.slot.Goals as goal

-- the write that the slot in memory holds is the pending one with this number
pub returns-clause-is : goal.returns-clause-is
returns-clause-is c =
    let order = c.self.invariant.order in
    let end = last_held c.self.inside.g c.self.inside.drained c.self.inside.last c.self.inside.slots.items order in
    let low = subst (λ (t : Stage). t.drained < c.args.seq) (sym c.self.view_is) c.requires.low in
    let high = subst (λ (t : Stage). c.args.seq ≤ last_of t) (sym c.self.view_is) c.requires.high in
    c.parts.ensures.is
    ∙ ap (λ l. staged_from c.self.inside.g l) (c.held.ensures.is ∙ ap (λ l. slot_held c.self.inside.g l c.args.seq) c.as_slice.ensures.value)
    ∙ sym (numbered_held c.self.inside.g c.self.inside.drained c.self.inside.last c.self.inside.slots.items c.args.seq order low (omega arith))
    ∙ ap (λ t. staged_numbered t c.args.seq) c.self.view_is

pub returns-clause-staged : goal.returns-clause-staged
returns-clause-staged c =
    let order = c.self.invariant.order in
    let end = last_held c.self.inside.g c.self.inside.drained c.self.inside.last c.self.inside.slots.items order in
    let low = subst (λ (t : Stage). t.drained < c.args.seq) (sym c.self.view_is) c.requires.low in
    let high = subst (λ (t : Stage). c.args.seq ≤ last_of t) (sym c.self.view_is) c.requires.high in
    let most : c.args.seq ≤ c.self.inside.last = omega arith in
    let sound = held_sound c.self.inside.g c.self.inside.drained c.self.inside.last c.self.inside.slots.items c.args.seq c.self.invariant low most in
    let here = numbered_held c.self.inside.g c.self.inside.drained c.self.inside.last c.self.inside.slots.items c.args.seq order low most in
    subst (λ t. IsStaged t.g (staged_numbered t c.args.seq)) c.self.view_is (subst (λ w. IsStaged c.self.inside.g w) (sym here) sound)

pub returns-clause-block : goal.returns-clause-block
returns-clause-block c =
    let sound = returns-clause-staged c in
    let is = ap (λ (w : Staged). w.block) (returns-clause-is c) in
    let below = sound.block in
    omega arith
