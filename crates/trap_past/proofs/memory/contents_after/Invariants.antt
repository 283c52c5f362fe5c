use Rattle.std.proofs.Common.{◌≡◌, take, map}
use Rattle.trap_model.specs.Image.{block_of, image_after}
use Rattle.trap_past.specs.Memory.{kept_entry}
use Rattle.trap_past.proofs.memory.contents_after.Given as goal

abbrev pub invariant-loop-kept : goal.invariant-loop-kept
invariant-loop-kept l = l.found ≡ block_of (image_after l.base (take l.kept-index (map kept_entry l.entries))) l.block
