use Rattle.std.proofs.Common.{take}
use Rattle.trap_model.proofs.Images.{block_more_same, block_more_other}
use Rattle.trap_model.proofs.history.State.block_after.Goals as goal
use Rattle.trap_model.proofs.history.State.block_after.Goals.{then-entry-number, else-entry-number}

pub loop-entry-preserved : goal.loop-entry-preserved
loop-entry-preserved c =
    let xs = take c.args.count c.as_slice.result.now in
    elim c.if-entry-number.branch [
      | then-entry-number w ↦
          let e = block_more_same c.args.self.now.base xs c.loop-entry.entry-index c.entry-item.result c.args.number c.loop-entry-test.true c.entry-item.is w.if-entry-number.true c.requires.number in
          cc
      | else-entry-number w ↦
          let e = block_more_other c.args.self.now.base xs c.loop-entry.entry-index c.entry-item.result c.args.number c.loop-entry-test.true c.entry-item.is w.if-entry-number.false in
          cc
    ]
