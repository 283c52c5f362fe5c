use Rattle.std.proofs.Common.{◌≡◌, ◌∙◌, false, take, inl, inr, ap, sym}
use Rattle.trap_cache.specs.Slots.{pair_place, has_pair}
use Rattle.trap_cache.proofs.Hits.{passed, unlike}
use Rattle.trap_cache.proofs.slots.find.Goals.{else-slot-block-via-then-slot-block+else-slot-seq, else-slot-block-via-else-slot-block}
use Rattle.trap_cache.proofs.slots.find.Goals as goal

pub loop-place-preserved : goal.loop-place-preserved
loop-place-preserved c =
    let slot = c.in-Some.slot.now in
    let other : has_pair c.args.block c.args.seq slot ≡ false = elim c.else-slot-block.branch [
      | else-slot-block-via-then-slot-block+else-slot-seq w ↦ unlike slot c.args.block c.args.seq (inr w.if-slot-seq.false)
      | else-slot-block-via-else-slot-block w ↦ unlike slot c.args.block c.args.seq (inl w.if-slot-block.false)
    ] in
    passed c.loop-place.left (c.in-Some.place.now, slot) c.next.new.self c.args.block c.args.seq c.if-left-eq0.false other
    ∙ ap (λ es. pair_place c.args.block c.args.seq (take c.loop-place.left es)) (sym c.in-Some.ensures.steps)
    ∙ c.loop-place.invariant
