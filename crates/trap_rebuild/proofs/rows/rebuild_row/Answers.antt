use Rattle.std.proofs.Common.{◌≡◌, ◌+◌, length, ap, ◌∙◌, arith}
use Rattle.trap_bank.specs.Disks.{Differs}
use Rattle.trap_bank.specs.Steps.{Moves}
use Rattle.trap_bank.proofs.Moves.{moves_same, write_steps}
use Rattle.trap_format.specs.MemberDisk.{row_at}
use Rattle.trap_model.specs.declared.numbers.Geometry.{Geometry}
use Rattle.trap_raid.specs.Draining.{place_area}
use Rattle.trap_rebuild.proofs.RowLemmas.{place_of_all, row_of_all}
use Rattle.trap_rebuild.proofs.RowSteps.{read_then_write}
use Rattle.trap_rebuild.proofs.rows.rebuild_row.Goals as goal
use Rattle.trap_rebuild.proofs.rows.rebuild_row.Goals.{After-write}

pub read_place-requires-clause-disks : goal.read_place-requires-clause-disks
read_place-requires-clause-disks g c =
    place_of_all c.args.raid.now.g c.args.raid.now.lost c.args.stage.now.pending (g.B.Bank.view c.args.bank.now) c.args.place.row c.args.place.member
    c.requires.disks c.requires.place.row c.requires.place.member

pub returns-in_err-read_place-clause-any_moment : goal.returns-in_err-read_place-clause-any_moment
returns-in_err-read_place-clause-any_moment g c =
    moves_same (place_area c.args.raid.now.g c.args.place.row c.args.place.member) _ _ c.read_place.ensures.any_moment.moves

pub write-requires-clause-room : goal.write-requires-clause-room
write-requires-clause-room g c =
    let there = row_of_all c.args.raid.now.g (g.B.Bank.view c.args.bank.now) c.args.place.row c.args.place.member c.requires.disks c.requires.place.row c.requires.place.member in
    let at : c.row_offset-at.result ≡ row_at c.args.raid.now.g c.args.place.row = c.row_offset-at.ensures ∙ ap (λ (h : Geometry). row_at h c.args.place.row) c.geometry.ensures in
    let size : length c.bytes.result.now ≡ c.args.raid.now.g.block = c.bytes.ensures.size ∙ c.read_place.ensures.rest.size ∙ c.requires.size in
    (there.0, c.read_place.ensures.any_moment.sizes (c.args.place.member + 1) ∙ there.1, omega (arith, there.2, at, size))

-- ---- the place is written, whether or not that failed
moved : (g : _) (c : After-write g) → Moves (g.B.Bank.view c.args.bank.now) (g.B.Bank.view c.write.new.self)
    (Differs (place_area c.args.raid.now.g c.args.place.row c.args.place.member)) (Differs (place_area c.args.raid.now.g c.args.place.row c.args.place.member))
moved g c =
    read_then_write c.args.raid.now.g c.args.place.row c.args.place.member c.row_offset-at.result c.bytes.result.now (g.B.Bank.view c.args.bank.now) (g.B.Bank.view c.read_place.new.bank) _
    (c.row_offset-at.ensures ∙ ap (λ (h : Geometry). row_at h c.args.place.row) c.geometry.ensures)
    (c.bytes.ensures.size ∙ c.read_place.ensures.rest.size ∙ c.requires.size)
    c.read_place.ensures.any_moment (write_steps _ _ _ _ _ _ c.write.ensures.call)

pub returns-in-Ok-clause-any_moment : goal.returns-in-Ok-clause-any_moment
returns-in-Ok-clause-any_moment g c = moved g (goal.at.returns-in-Ok-clause-any_moment g c).After-write

pub returns-in-Err-clause-any_moment : goal.returns-in-Err-clause-any_moment
returns-in-Err-clause-any_moment g c = moved g (goal.at.returns-in-Err-clause-any_moment g c).After-write
