use Rattle.std.proofs.Common.{ap, ◌∙◌}
use Rattle.trap_stage.specs.Held.{slot_held}
use Rattle.trap_stage.proofs.Looking.{found_here, looks_on}
use Rattle.trap_stage.proofs.stage.Stage.pending_at.Goals as goal

pub returns-in-Some-clause-some : goal.returns-in-Some-clause-some
returns-in-Some-clause-some c =
    let is = c.held-slot.ensures.is ∙ ap (λ l. slot_held c.self.inside.g l c.loop-seq.seq) c.as_slice.ensures.value in
    found_here c.self.inside.g c.self.inside.slots.items c.held-slot.result.now c.args.self.now c.self.inside.drained c.self.inside.last c.loop-seq.seq c.args.place.row
    c.args.place.member c.in-Some.bytes.now
    c.loop-seq.invariant c.loop-seq-test.true is c.in-Some.ensures.some

pub loop-seq-preserved : goal.loop-seq-preserved
loop-seq-preserved c =
    let is = c.held-slot.ensures.is ∙ ap (λ l. slot_held c.self.inside.g l c.loop-seq.seq) c.as_slice.ensures.value in
    looks_on c.self.inside.g c.self.inside.slots.items c.held-slot.result.now c.args.self.now c.self.inside.drained c.self.inside.last c.loop-seq.seq c.args.place.row c.args.place.member
    c.loop-seq.invariant c.loop-seq-test.true is c.in_default.ensures.none
