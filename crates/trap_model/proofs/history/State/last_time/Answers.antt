use Rattle.std.proofs.Common.{sym}
use Rattle.trap_model.proofs.Histories.{time_after_more}
use Rattle.trap_model.proofs.history.State.last_time.Goals as goal

pub loop-entry-preserved : goal.loop-entry-preserved
loop-entry-preserved c = sym (time_after_more c.args.self.now.base_time c.as_slice-entry-items.result.now c.loop-entry.entry-index c.entry-item.result c.loop-entry-test.true c.entry-item.is)
