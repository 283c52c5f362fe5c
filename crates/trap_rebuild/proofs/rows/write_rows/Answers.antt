use Rattle.std.proofs.Common.{◌≡◌, [], ◌∷◌, IsTrue, Err, sym, subst, ◌∙◌, arith, rules}
use Rattle.trap_raid.proofs.PoolLemmas.{only_then}
use Rattle.trap_rebuild.proofs.RowLemmas.{all_fit_along, one_more}
use Rattle.trap_rebuild.proofs.RowSteps.{rows_then, rows_torn, rows_called, rows_failed}
use Rattle.trap_rebuild.proofs.rows.write_rows.Goals as goal

pub rebuild_row-requires-clause-place : goal.rebuild_row-requires-clause-place
rebuild_row-requires-clause-place g c = record { member = c.requires.lost.1; row = omega (arith, c.loop-row-test.true, c.requires.upto.1) }

pub rebuild_row-requires-clause-disks : goal.rebuild_row-requires-clause-disks
rebuild_row-requires-clause-disks g c =
    all_fit_along c.args.raid.now.g (g.B.Bank.view c.args.bank.now) (g.B.Bank.view c.loop-row.bank) c.loop-row.invariant.sizes c.requires.disks

-- the next row is written
pub loop-row-preserved : goal.loop-row-preserved
loop-row-preserved g c =
    let old = g.B.Bank.view c.args.bank.now in
    let mid = g.B.Bank.view c.loop-row.bank in
    let new = g.B.Bank.view c.rebuild_row.new.bank in
    let here = c.args.raid.now in
    let writes = c.args.stage.now.pending in
    let m = c.args.member in
    let row = c.loop-row.row in
    let so_far = c.loop-row.invariant in
    let these = c.args.into.now ∷ c.args.scratch.now ∷ [] in
    record {
      written = λ told. one_more here writes m c.requires.lost.0 c.args.upto row old.now.disks mid.now.disks new.now.disks so_far.low (so_far.contents told).disks
          (c.rebuild_row.ensures.contents (subst IsTrue (sym so_far.moves.tells) told)).disks (c.in_ok-rebuild_row.ensures.written (subst IsTrue (sym so_far.moves.tells) told)) (so_far.written told);
      low = omega (arith, so_far.low);
      high = omega (arith, c.loop-row-test.true);
      rest = only_then these c.args.pool.now c.loop-row.pool c.rebuild_row.new.pool so_far.rest c.rebuild_row.ensures.rest;
      contents = rows_torn here writes m c.requires.lost.0 c.args.upto row old mid new so_far.low c.loop-row-test.true so_far.moves.tells so_far.contents c.rebuild_row.ensures.contents;
      sizes = λ e. c.rebuild_row.ensures.sizes e ∙ so_far.sizes e;
      calls = rows_called here writes m c.requires.lost.0 row old mid new so_far.low so_far.calls c.in_ok-rebuild_row.ensures.calls.ok;
      moves = rows_then here writes m c.requires.lost.0 c.args.upto row old mid new so_far.low c.loop-row-test.true so_far.moves c.rebuild_row.ensures.any_moment;
    }

-- stopped within a row, after those before it
pub returns-in_err-rebuild_row-clause-any_moment : goal.returns-in_err-rebuild_row-clause-any_moment
returns-in_err-rebuild_row-clause-any_moment g c =
    rows_then c.args.raid.now c.args.stage.now.pending c.args.member c.requires.lost.0 c.args.upto c.loop-row.row (g.B.Bank.view c.args.bank.now) (g.B.Bank.view c.loop-row.bank)
    (g.B.Bank.view c.rebuild_row.new.bank) c.loop-row.invariant.low c.loop-row-test.true c.loop-row.invariant.moves c.rebuild_row.ensures.any_moment

pub returns-in_err-rebuild_row-clause-calls : goal.returns-in_err-rebuild_row-clause-calls
returns-in_err-rebuild_row-clause-calls g c =
    let is : Err c.in_err-rebuild_row.field-0.0 ≡ c.from_residual.result = search rules in
    rows_failed c.args.raid.now c.args.stage.now.pending c.args.member c.requires.lost.0 c.args.upto c.loop-row.row c.rebuild_row.result c.from_residual.result c.in_err-rebuild_row.field-0.0
    (g.B.Bank.view c.args.bank.now) (g.B.Bank.view c.loop-row.bank) (g.B.Bank.view c.rebuild_row.new.bank) c.loop-row.invariant.low c.loop-row-test.true is
    c.loop-row.invariant.calls c.rebuild_row.ensures.calls
