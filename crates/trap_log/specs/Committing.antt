-- What a commit leaves, and how often it calls the bank.
use Rattle.std.specs.Prelude.{◌≡◌, ℕ, ◌+◌, List, ◌∷◌}
use Rattle.trap_bank.specs.Disks.{View}
use Rattle.trap_bank.specs.Steps.{Moves}
use Rattle.trap_cell.specs.Slots.{turned}
use Rattle.trap_cell.specs.Steps.{put_calls}
use Rattle.trap_index.specs.Indexed.{with_record}
use Rattle.trap_model.specs.ArrayStep.{added}
use Rattle.trap_model.specs.declared.log_record.LogRec.{LogRec}
use Rattle.trap_mount.specs.Holding.{log_ring}
use Rattle.trap_ring.specs.Ring.{ring_calls}
use Rattle.trap_log.specs.Calls.{AtAnyMoment, StandsAfterCall, running}
use Rattle.trap_log.specs.Log.{Log, IndexedLog, AreInStep}
use Rattle.trap_log.specs.NextHead.{committed, entry_for}
use Rattle.trap_log.specs.Ready.{KnowsCell}

-- The log stands for the state with the entry, and knows it: its head, its pending writes and its
-- index have one entry more, whose record has that many bytes.
pub record CommitsEntry (a b : IndexedLog) (rec : LogRec) (bytes parity : List ℕ) (size : ℕ)
    (old new : View) : Type 0 where
  pub moves : Moves old new
      (AtAnyMoment (running a) old (λ s. added s (entry_for rec.time rec.block bytes)))
      (StandsAfterCall (running a) (running b) old
      (λ s. added s (entry_for rec.time rec.block bytes)))
  pub head : b.head ≡ committed a.head rec.time size
  pub pending : b.stage.pending
      ≡ (record { block = rec.block; bytes = bytes; parity = parity }) ∷ a.stage.pending
  pub index : b.index ≡ with_record a.index rec
  pub in_step : AreInStep b.head b.stage b.index
  pub knows : KnowsCell b.cell b.head new
  pub cell : b.cell ≡ turned a.cell

-- a commit that failed leaves head and index
pub record KeepsEntries (a b : IndexedLog) : Type 0 where
  pub head : b.head ≡ a.head
  pub index : b.index ≡ a.index

-- the calls for a record of that many bytes: those of the ring, one for the slot, the sync of both,
-- and those of the put
abbrev pub commit_calls : Log → ℕ → ℕ
commit_calls log size =
    ring_calls (log_ring log.g) log.head.end_off size + (1 + (1 + put_calls log.cell))
