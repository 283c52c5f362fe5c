use Rattle.std.proofs.Common.{refl, sym, subst, arith, rules}
use Rattle.std.proofs.lemmas.List.{with_items_is}
use Rattle.trap_stage.specs.Found.{IsFound, IsStage}
use Rattle.trap_stage.specs.Held.{HoldsWrites}
use Rattle.trap_stage.proofs.HeldStages.{stage_held, last_held, held_found, stage_sound}
use Rattle.trap_stage.proofs.stage.Stage.mount.Goals as goal

pub returns-clause-found : goal.returns-clause-found
returns-clause-found g c told =
    let is = with_items_is c.in_ok-slots.slots c.read_slots.new.slots (omega arith) in
    subst (λ items. IsFound c.args.g.now c.args.drained c.args.last (g.B.Bank.view c.args.bank.now).now.disks (stage_held c.args.g.now c.args.drained c.args.last items)) (sym is)
    (held_found c.args.g.now c.args.drained c.args.last c.read_slots.new.slots (g.B.Bank.view c.args.bank.now).now.disks c.requires.order
    c.in_ok-read_slots.ensures.spelled (c.in_ok-read_slots.ensures.read told))

pub returns-clause-numbers : goal.returns-clause-numbers
returns-clause-numbers g c = (refl, refl, last_held c.args.g.now c.args.drained c.args.last _ c.requires.order)

pub returns-clause-stage : goal.returns-clause-stage
returns-clause-stage g c =
    let is = with_items_is c.in_ok-slots.slots c.read_slots.new.slots (omega arith) in
    let held : HoldsWrites c.args.g.now c.args.drained c.args.last c.read_slots.new.slots = search rules in
    subst (λ items. IsStage (stage_held c.args.g.now c.args.drained c.args.last items)) (sym is)
    (stage_sound c.args.g.now c.args.drained c.args.last c.read_slots.new.slots held)
