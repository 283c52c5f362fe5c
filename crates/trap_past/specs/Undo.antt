-- A block as it was, by its present contents and the parities of the writes since.
use Rattle.std.specs.Prelude.{ℕ, ◌-◌, List, [], ◌∷◌, ◌++◌, ◌==◌, if◌then◌else◌}
use Rattle.trap_block.specs.Xor.{xor}
use Rattle.trap_model.specs.declared.history.Entry.{Entry}
use Rattle.trap_model.specs.declared.history.State.{State}
use Rattle.trap_model.specs.Image.{written, entry_parity}
use Rattle.trap_model.specs.Records.{entry_at}
use Rattle.trap_model.specs.State.{image_at, above}

-- the parity of entry number q, for first < q ≤ last
abbrev pub parity_at : State → ℕ → List ℕ
parity_at s q = entry_parity (image_at s (q - 1)) (entry_at s q)

-- the parities of a block's writes among these entries, the first of them over this image, the
-- newest write first
abbrev pub parities_over : ℕ → List (List ℕ) → List Entry → List (List ℕ)
parities_over block image [] = []
parities_over block image (entry ∷ later) =
    parities_over block (written image entry) later ++
    (if entry.block == block then entry_parity image entry ∷ [] else [])

-- the parities of a block's entries above number q, the newest first
abbrev pub parities_above : State → ℕ → ℕ → List (List ℕ)
parities_above s block q = parities_over block (image_at s q) (above s q)

-- contents before these writes, by their parities, the newest first
abbrev pub contents_before : List ℕ → List (List ℕ) → List ℕ
contents_before contents [] = contents
contents_before contents (parity ∷ older) = contents_before (xor contents parity) older
