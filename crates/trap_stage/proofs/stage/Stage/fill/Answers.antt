use Rattle.std.proofs.Common.{◌≡◌, ◌+◌, ◌<◌, ◌∷◌, List, ℕ, length, sym, ap, ◌∙◌, subst, arith}
use Rattle.std.specs.Prelude.{OnErr}
use Rattle.std.specs.Vec.{with_items}
use Rattle.std.proofs.lemmas.List.{with_items_is}
use Rattle.std.proofs.lemmas.Result.{err_from_is_err_and}
use Rattle.trap_stage.specs.Staged.{Staged, IsStaged}
use Rattle.trap_stage.specs.Slots.{Stage, last_of}
use Rattle.trap_stage.specs.Held.{HoldsWrites}
use Rattle.trap_stage.specs.Mounting.{OthersStay}
use Rattle.trap_stage.proofs.SlotSpellings.{staged_with, stage_with}
use Rattle.trap_stage.proofs.Filling.{still_held, still_writes, more_held, more_writes}
use Rattle.trap_stage.proofs.HeldStages.{stage_held, fill_next}
use Rattle.trap_stage.proofs.stage.Stage.fill.Goals as goal

pub invariant_of-self : goal.invariant_of-self
invariant_of-self g c =
    let next = subst (λ (t : Stage). c.args.seq ≡ last_of t + 1) (sym c.self.view_is) c.requires.next in
    let free = subst (λ (t : Stage). length t.pending < t.g.slots) (sym c.self.view_is) c.requires.free in
    let room = fill_next c.self.inside.g c.self.inside.drained c.self.inside.last c.args.seq c.self.inside.slots.items c.self.invariant.order next free in
    let others : OthersStay c.self.inside.g c.args.seq c.self.inside.slots.items c.fill_slot.new.slots = subst
    (λ (l : List ℕ). OthersStay c.self.inside.g c.args.seq l c.fill_slot.new.slots) c.as_mut_slice-slots.ensures.value c.fill_slot.ensures.others in
    let is = with_items_is c.self.inside.slots c.fill_slot.new.slots (omega arith) in
    subst (λ items. HoldsWrites c.self.inside.g c.self.inside.drained c.self.inside.last items) (sym is)
    (still_held c.self.inside.g c.self.inside.drained c.self.inside.last c.args.seq c.self.inside.slots.items c.fill_slot.new.slots room.0 room.1 (omega arith) others c.self.invariant)

pub returns-in_err-fill_slot-clause-err : goal.returns-in_err-fill_slot-clause-err
returns-in_err-fill_slot-clause-err g c =
    let next = subst (λ (t : Stage). c.args.seq ≡ last_of t + 1) (sym c.self.view_is) c.requires.next in
    let free = subst (λ (t : Stage). length t.pending < t.g.slots) (sym c.self.view_is) c.requires.free in
    let room = fill_next c.self.inside.g c.self.inside.drained c.self.inside.last c.args.seq c.self.inside.slots.items c.self.invariant.order next free in
    let others : OthersStay c.self.inside.g c.args.seq c.self.inside.slots.items c.fill_slot.new.slots = subst
    (λ (l : List ℕ). OthersStay c.self.inside.g c.args.seq l c.fill_slot.new.slots) c.as_mut_slice-slots.ensures.value c.fill_slot.ensures.others in
    let is = with_items_is c.self.inside.slots c.fill_slot.new.slots (omega arith) in
    let same : stage_held c.self.inside.g c.self.inside.drained c.self.inside.last c.fill_slot.new.slots ≡ stage_held c.self.inside.g c.self.inside.drained
    c.self.inside.last c.self.inside.slots.items =
    ap (λ (ws : List Staged). stage_with c.self.inside.g c.self.inside.drained ws) (still_writes c.self.inside.g c.self.inside.drained c.self.inside.last c.args.seq
    c.self.inside.slots.items c.fill_slot.new.slots c.self.invariant.order room.0 room.1 others) in
    let out = err_from_is_err_and c.from_residual.result c.from_residual.ensures.1 in
    subst (λ r. OnErr r (stage_held c.self.inside.g c.self.inside.drained c.self.inside.last (with_items c.self.inside.slots c.fill_slot.new.slots).items ≡ c.args.self.now)) (sym out.1)
    (ap (λ items. stage_held c.self.inside.g c.self.inside.drained c.self.inside.last items) is ∙ same ∙ c.self.view_is)

pub invariant_of-self-2 : goal.invariant_of-self-2
invariant_of-self-2 g c =
    let next = subst (λ (t : Stage). c.args.seq ≡ last_of t + 1) (sym c.self.view_is) c.requires.next in
    let free = subst (λ (t : Stage). length t.pending < t.g.slots) (sym c.self.view_is) c.requires.free in
    let room = fill_next c.self.inside.g c.self.inside.drained c.self.inside.last c.args.seq c.self.inside.slots.items c.self.invariant.order next free in
    let others : OthersStay c.self.inside.g c.args.seq c.self.inside.slots.items c.fill_slot.new.slots = subst
    (λ (l : List ℕ). OthersStay c.self.inside.g c.args.seq l c.fill_slot.new.slots) c.as_mut_slice-slots.ensures.value c.fill_slot.ensures.others in
    let sound : IsStaged c.self.inside.g (staged_with c.args.block c.args.fresh.now c.args.parity.now) = subst
    (λ (t : Stage). IsStaged t.g (staged_with c.args.block c.args.fresh.now c.args.parity.now)) (sym c.self.view_is)
    (record { block = c.requires.block; bytes = c.requires.fresh; parity = c.requires.parity }) in
    let is = with_items_is c.self.inside.slots c.fill_slot.new.slots (omega arith) in
    subst (λ items. HoldsWrites c.self.inside.g c.self.inside.drained c.args.seq items) (sym is)
    (more_held c.self.inside.g c.self.inside.drained c.self.inside.last c.args.seq c.self.inside.slots.items c.fill_slot.new.slots
    (staged_with c.args.block c.args.fresh.now c.args.parity.now) room.0 c.ranges.seq.fits room.1 (omega arith) others c.fill_slot.ensures.held sound c.self.invariant)

pub returns-clause-ok : goal.returns-clause-ok
returns-clause-ok g c =
    let next = subst (λ (t : Stage). c.args.seq ≡ last_of t + 1) (sym c.self.view_is) c.requires.next in
    let free = subst (λ (t : Stage). length t.pending < t.g.slots) (sym c.self.view_is) c.requires.free in
    let room = fill_next c.self.inside.g c.self.inside.drained c.self.inside.last c.args.seq c.self.inside.slots.items c.self.invariant.order next free in
    let others : OthersStay c.self.inside.g c.args.seq c.self.inside.slots.items c.fill_slot.new.slots = subst
    (λ (l : List ℕ). OthersStay c.self.inside.g c.args.seq l c.fill_slot.new.slots) c.as_mut_slice-slots.ensures.value c.fill_slot.ensures.others in
    let staged : Staged = staged_with c.args.block c.args.fresh.now c.args.parity.now in
    let sound : IsStaged c.self.inside.g staged = subst (λ (t : Stage). IsStaged t.g staged) (sym c.self.view_is)
    (record { block = c.requires.block; bytes = c.requires.fresh; parity = c.requires.parity }) in
    let is = with_items_is c.self.inside.slots c.fill_slot.new.slots (omega arith) in
    ap (λ items. stage_held c.self.inside.g c.self.inside.drained c.args.seq items) is
    ∙ ap (λ (ws : List Staged). stage_with c.self.inside.g c.self.inside.drained ws)
    (more_writes c.self.inside.g c.self.inside.drained c.self.inside.last c.args.seq c.self.inside.slots.items c.fill_slot.new.slots staged c.self.invariant.order room.0
    room.1 others c.fill_slot.ensures.held sound)
    ∙ ap (λ (t : Stage). stage_with t.g t.drained (staged ∷ t.pending)) c.self.view_is
