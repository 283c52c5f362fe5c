-- What a write of the log asks.
use Rattle.std.specs.Prelude.{◌≡◌}
use Rattle.trap_bank.specs.Disks.{View}
use Rattle.trap_array.specs.Calls.{HasSizes}
use Rattle.trap_array.specs.Log.{IndexedLog, AreInStep}
pub use Rattle.trap_log.specs.Ready.{KnowsCell, CanCommit, CanDrain}

-- what a commit asks but for its entry: the index goes with the head, the disks have their sizes,
-- and every crash leaves the head's cell as it is known
pub record CanWrite (log : IndexedLog) (v : View) : Type 0 where
  pub in_step : AreInStep log.head log.stage log.index
  pub same : log.index.g ≡ log.g
  pub sizes : HasSizes log.g log.head.lost log.head.rebuilt v
  pub cell : KnowsCell log.cell log.head v
