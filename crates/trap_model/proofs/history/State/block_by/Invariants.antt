use Rattle.std.proofs.Common.{◌≡◌, take, nat_le, filter}
use Rattle.trap_model.specs.Image.{block_of, image_after}
use Rattle.trap_model.proofs.history.State.block_by.Given as goal

abbrev pub invariant-loop-entry : goal.invariant-loop-entry
invariant-loop-entry l =
    l.found ≡ block_of (image_after l.self.base (filter (λ entry. nat_le entry.time l.time) (take l.entry-index l.entry-items))) l.number
