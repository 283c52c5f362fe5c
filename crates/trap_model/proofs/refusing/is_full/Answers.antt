use Rattle.std.proofs.Common.{◌≡◌, length, sym, ◌∙◌, ap, arith}
use Rattle.trap_model.proofs.Validity.{image_after_is_image}
use Rattle.trap_model.proofs.refusing.is_full.Goals as goal
use Rattle.trap_model.proofs.refusing.is_full.Goals.{After-as_slice-2}

-- the block as it was has the array's size
sized_now : (c : After-as_slice-2) → length c.as_slice.result.now ≡ c.args.g.now.block
sized_now c =
    ap length (c.as_slice.ensures ∙ c.block_now-old.ensures)
    ∙ (image_after_is_image c.args.g.now c.args.s.now.base c.args.s.now.entries c.requires.valid.base c.requires.valid.entries).sized c.args.block c.requires.block

pub change_len-requires-clause-same_size : goal.change_len-requires-clause-same_size
change_len-requires-clause-same_size c = sized_now c ∙ sym (ap length c.as_slice-2.ensures ∙ c.requires.size)

pub change_len-requires-clause-small : goal.change_len-requires-clause-small
change_len-requires-clause-small c = omega (arith, sized_now c, c.args.g.now.within.block_most)
