-- What a mounted array keeps in memory.
use Rattle.std.specs.Prelude.{◌≡◌, Bool, false}
use Rattle.trap_index.specs.Indexed.{Indexed}
pub use Rattle.trap_log.specs.Log.{Log, IndexedLog, with_index, IsLog, StagesHead, IndexesHead}
pub use Rattle.trap_log.specs.Log.{AreInStep}
pub use Rattle.trap_mount.specs.Memory.{Buffers, HaveBlocksOf}

-- what holds of a mounted array: its index is of such an array, and unless a fault has stopped it,
-- its pending writes and its index are those of its head
pub record IsArray (log : Log) (index : Indexed) (buffers : Buffers)
    (is_stopped : Bool) : Type 0 where
  pub room : HaveBlocksOf log.g.block buffers
  pub same : index.g ≡ log.g
  pub in_step : is_stopped ≡ false → AreInStep log.head log.stage index
