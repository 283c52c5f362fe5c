use Rattle.std.proofs.Common.{◌+◌, ◌∙◌, arith}
use Rattle.trap_bank.proofs.Moves.{synced_steps}
use Rattle.trap_rebuild.proofs.RowSteps.{rows_rebuilt}
use Rattle.trap_rebuild.proofs.rows.rebuild_rows.Goals as goal

pub sync-requires-clause-there : goal.sync-requires-clause-there
sync-requires-clause-there g c =
    let there = c.requires.disks c.args.member c.requires.lost.1 in
    (there.0, c.write_rows.ensures.sizes (c.args.member + 1) ∙ there.1, omega arith)

-- the sync makes them stable
pub returns-in-Ok-clause-rebuilt : goal.returns-in-Ok-clause-rebuilt
returns-in-Ok-clause-rebuilt g c =
    rows_rebuilt c.args.raid.now c.args.stage.now.pending c.args.member c.requires.lost.0 c.args.upto (g.B.Bank.view c.args.bank.now) (g.B.Bank.view c.write_rows.new.bank)
    (g.B.Bank.view c.sync.new.self) c.requires.upto.1 c.requires.lost.1 c.write_rows.ensures.any_moment c.in_ok-write_rows.ensures.written
    (synced_steps _ _ _ _ c.in-Ok.ensures.call) c.sync.ensures.call.same
