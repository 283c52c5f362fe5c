use Rattle.std.proofs.Common.{◌≡◌, ◌<◌, length, get_or, subst, sym, ◌∙◌, arith}
use Rattle.trap_model.proofs.Validity.{Sized, sized}
use Rattle.trap_model.proofs.history.State.kept.Goals as goal
use Rattle.trap_model.proofs.history.State.kept.Goals.{After-as_slice}

-- the entry that was read, over its block as it was before
step : (c : After-as_slice) → Sized c.requires.0 c.args.self.now c.loop-i.i c.entry-item.result c.as_slice.result.now
step c =
    let inside : c.loop-i.i < length c.args.self.now.entries = subst (λ xs. c.loop-i.i < length xs) c.as_slice-entry-items.ensures c.loop-i-test.true in
    let is : c.entry-item.result ≡ get_or c.args.self.now.entries c.loop-i.i c.entry-item.result =
    subst (λ xs. c.entry-item.result ≡ get_or xs c.loop-i.i c.entry-item.result) c.as_slice-entry-items.ensures c.entry-item.is in
    sized c.requires.0 c.args.self.now c.loop-i.i c.entry-item.result c.as_slice.result.now c.requires.1 inside is (c.as_slice.ensures ∙ c.block_after-old.ensures)

pub size-sum-requires-clause-same_size : goal.size-sum-requires-clause-same_size
size-sum-requires-clause-same_size c = (step c).before ∙ sym (step c).after

pub size-sum-requires-clause-small : goal.size-sum-requires-clause-small
size-sum-requires-clause-small c = omega (arith, (step c).before, c.requires.0.within.block_most)

pub overflow_add-sum : goal.overflow_add-sum
overflow_add-sum c = let s = step (goal.at.overflow_add-sum c).After-as_slice in omega (arith, s.more, s.most)

pub loop-i-preserved : goal.loop-i-preserved
loop-i-preserved c = let s = step (goal.at.loop-i-preserved c).After-as_slice in omega (arith, s.more)
