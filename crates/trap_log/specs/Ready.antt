-- What a commit and a drain ask.
use Rattle.std.specs.Prelude.{◌≡◌, ℕ, ◌+◌, ◌≤◌, List, length, Some, IsTrue}
use Rattle.trap_bank.specs.Disks.{View}
use Rattle.trap_bank.specs.Steps.{Always}
use Rattle.trap_cell.specs.Slots.{Slots, Stands, cell_value}
use Rattle.trap_format.specs.HeadValue.{IsHead, head_value}
use Rattle.trap_format.specs.declared.head.Head.{Head}
use Rattle.trap_model.specs.State.{IsEntry}
use Rattle.trap_model.specs.declared.history.Entry.{Entry}
use Rattle.trap_model.specs.declared.history.State.{State}
use Rattle.trap_log.specs.Calls.{StandsFor, HasSizes, running}
use Rattle.trap_mount.specs.Holding.{head_place}
use Rattle.trap_log.specs.Log.{Log, IndexedLog, StagesHead, AreInStep}
use Rattle.trap_log.specs.NextHead.{committed, IsPlanned}

-- every crash leaves the head's cell as it is known, and that head in it
pub record KnowsCell (cell : Slots) (head : Head) (v : View) : Type 0 where
  pub stands : Always v (Stands cell)
  pub value : Always v (λ disks. cell_value head_place disks ≡ Some (head_value head))

-- There is room for the entry, and these are its record and the parity of its row, for whatever
-- state the disks hold.
pub record CanCommit (log : IndexedLog) (v : View) (entry : Entry)
    (parity spelled : List ℕ) : Type 0 where
  pub in_step : AreInStep log.head log.stage log.index
  pub same : log.index.g ≡ log.g
  pub sizes : HasSizes log.g log.head.lost log.head.rebuilt v
  pub cell : KnowsCell log.cell log.head v
  pub next : IsHead log.g (committed log.head entry.time (length spelled))
  pub later : log.head.last_time ≤ entry.time
  pub is_entry : IsEntry log.g entry
  pub parity_size : length parity ≡ log.g.block
  pub code : (30 ≤ length spelled) × (length spelled ≤ log.g.block + 33)
  pub planned : (s : State) → IsTrue v.tells → Always v (StandsFor (running log) s)
      → IsPlanned log.g s entry parity spelled

-- the disks have their sizes, and every crash leaves the head's cell as it is known
pub record CanDrain (log : Log) (v : View) : Type 0 where
  pub staged : StagesHead log.head log.stage
  pub sizes : HasSizes log.g log.head.lost log.head.rebuilt v
  pub cell : KnowsCell log.cell log.head v
