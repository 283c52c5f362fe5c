-- The pending writes of a state: those that aren't on the members.
use Rattle.std.specs.Prelude.{ℕ, zero, suc, ◌+◌, ◌-◌, List, [], ◌∷◌}
use Rattle.trap_model.specs.State.{last, image_at}
use Rattle.trap_model.specs.Records.{entry_at}
use Rattle.trap_model.specs.declared.numbers.Geometry.{Geometry}
use Rattle.trap_model.specs.declared.history.Entry.{Entry}
use Rattle.trap_model.specs.declared.history.State.{State}
use Rattle.trap_map.specs.Layout.{block_place}
use Rattle.trap_map.specs.Table.{row_parity}
use Rattle.trap_stage.specs.Staged.{Staged}

-- what an entry's write stages, where this is the image after it
abbrev pub staged_in : Geometry → List (List ℕ) → Entry → Staged
staged_in g image entry = record {
  block = entry.block;
  bytes = entry.bytes;
  parity = row_parity g image (block_place g entry.block).row;
}

-- what the write with number q stages
abbrev pub staged_of : Geometry → State → ℕ → Staged
staged_of g s q = staged_in g (image_at s q) (entry_at s q)

-- of that many writes above a number, the newest first
abbrev pub staged_above : Geometry → State → ℕ → ℕ → List Staged
staged_above g s drained zero = []
staged_above g s drained (suc k) = staged_of g s (drained + suc k) ∷ staged_above g s drained k

-- the pending writes, where those up to a number are drained, the newest first
abbrev pub pending : Geometry → State → ℕ → List Staged
pending g s drained = staged_above g s drained (last s - drained)
