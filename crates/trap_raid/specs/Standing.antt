-- What stands at a place, and how many places are read for it.
use Rattle.std.specs.Prelude.{ℕ, ◌+◌, ◌*◌, zero, suc, List, Option, Some, None, Bool, false}
use Rattle.std.specs.Prelude.{unwrap_or, ◌==◌, if◌then◌else◌}
use Rattle.trap_model.specs.declared.numbers.Geometry.{Geometry}
use Rattle.trap_block.specs.Xor.{xor_but}
use Rattle.trap_map.specs.Layout.{parity_member, block_place}
use Rattle.trap_stage.specs.Staged.{Staged, newest_at, laid_over}

-- whether a member is the lost one
abbrev pub is_lost : Option ℕ → ℕ → Bool
is_lost None member = false
is_lost (Some gone) member = gone == member

-- what stands at a place: the newest pending bytes, else its member's, or where that member is
-- lost, the exclusive-or of what stands at the other members' places of the row
abbrev pub standing_at : Geometry → Option ℕ → List Staged → (ℕ → ℕ → List ℕ) → ℕ → ℕ → List ℕ
standing_at g lost writes place row member = unwrap_or (newest_at g writes row member)
    (if is_lost lost member
    then xor_but g.block member (laid_over g writes place row) g.members
    else place row member)

-- pending bytes need no read, a member's own bytes one
abbrev pub calls_for : Option (List ℕ) → ℕ
calls_for None = 1
calls_for (Some bytes) = 0

-- how many members below a number, but for one, have nothing pending in the row
abbrev pub bare_others : Geometry → List Staged → ℕ → ℕ → ℕ → ℕ
bare_others g writes row one zero = 0
bare_others g writes row one (suc m) =
    bare_others g writes row one m + (if m == one then 0 else calls_for (newest_at g writes row m))

-- how many places are read for one: none where bytes are pending for it, else itself, or where its
-- member is lost, each other one of the row for which nothing is pending
abbrev pub reads_of : Geometry → Option ℕ → List Staged → ℕ → ℕ → ℕ
reads_of g lost writes row member = calls_for (newest_at g writes row member)
    * (if is_lost lost member then bare_others g writes row member g.members else 1)

-- How many are read for one where a member failed: itself alone, or where its member is lost, the
-- failed one and those below it.
abbrev pub reads_until : Geometry → Option ℕ → List Staged → ℕ → ℕ → ℕ → ℕ
reads_until g lost writes row member failed =
    if is_lost lost member then bare_others g writes row member failed + 1 else 1

-- how many are read for a block's place and for the parity of its row
abbrev pub plan_reads : Geometry → Option ℕ → List Staged → ℕ → ℕ
plan_reads g lost writes block =
    let place = block_place g block in
    reads_of g lost writes place.row place.member
    + reads_of g lost writes place.row (parity_member g place.row)
