-- How a block's contents at an instant are reached, while no entry is marked.
use Rattle.std.specs.Prelude.{ℕ, List, length, filter, ◌==◌}
use Rattle.trap_model.specs.declared.history.Entry.{Entry}
use Rattle.trap_model.specs.declared.history.State.{State}
use Rattle.trap_model.specs.declared.known.Known.TheVariants.{Present}
use Rattle.trap_model.specs.declared.known.Path.{Path}
use Rattle.trap_model.specs.declared.known.Way.TheVariants.{Back}
use Rattle.trap_model.specs.State.{above}

-- those that write a block
abbrev pub entries_of_block : ℕ → List Entry → List Entry
entries_of_block block entries = filter (λ entry. entry.block == block) entries

-- From the present back to the instant after entry number q: over each of the block's entries above
-- q.
abbrev pub path : State → ℕ → ℕ → Path
path s block q = record {
  from = Present;
  turns = length (entries_of_block block (above s q));
  way = Back;
}
