use Rattle.std.proofs.Common.{le-leb}
use Rattle.std.proofs.lemmas.Bool.{lt-leb}
use Rattle.trap_model.proofs.Histories.{block_by_same, block_by_other, block_by_later}
use Rattle.trap_model.proofs.history.State.block_by.Goals as goal
use Rattle.trap_model.proofs.history.State.block_by.Goals.{then-entry-time+then-entry-number, else-entry-time, else-entry-time-via-then-entry-time+else-entry-number, else-entry-time-via-else-entry-time}

pub loop-entry-preserved : goal.loop-entry-preserved
loop-entry-preserved c =
    let xs = c.as_slice-entry-items.result.now in
    let base = c.args.self.now.base in
    let i = c.loop-entry.entry-index in
    let x = c.entry-item.result in
    elim c.if-entry-time.branch [
      | then-entry-time+then-entry-number w ↦
          let e = block_by_same base xs c.args.time i x c.args.number c.loop-entry-test.true c.entry-item.is (le-leb x.time c.args.time w.if-entry-time.true) w.if-entry-number.true c.requires in
          cc
      | else-entry-time w ↦
          elim w.else-entry-time.branch [
            | else-entry-time-via-then-entry-time+else-entry-number v ↦
                let e = block_by_other base xs c.args.time i x c.args.number c.loop-entry-test.true c.entry-item.is v.if-entry-number.false in
                cc
            | else-entry-time-via-else-entry-time v ↦
                let e = block_by_later base xs c.args.time i x c.args.number c.loop-entry-test.true c.entry-item.is (lt-leb x.time c.args.time v.if-entry-time.false) in
                cc
          ]
    ]
