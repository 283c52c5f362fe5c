use Rattle.std.proofs.Common.{rules, ◌+◌, ◌≤◌, arith}
use Rattle.trap_index.specs.Indexed.{path_to}
use Rattle.trap_array.specs.Log.{with_index}
use Rattle.trap_array.proofs.LookingBack.{is_for, look_calls, look_damaged, undo_fails}
use Rattle.trap_array.proofs.source.undo.Goals as goal

pub invariant_of-past : goal.invariant_of-past
invariant_of-past g c = record {
  for_log = is_for (with_index c.args.log.now c.args.index.now) (g.B.Bank.view c.args.bank.now) c.requires.can;
  room = c.requires.spelled;
}

pub returns-clause-damaged : goal.returns-clause-damaged
returns-clause-damaged g c offset is told s stands =
    look_damaged (with_index c.args.log.now c.args.index.now) _ _ _ _ _ c.block_at.result offset c.block_at.ensures.blame.reason is told s stands

pub returns-clause-calls : goal.returns-clause-calls
returns-clause-calls g c =
    let calls = c.block_at.ensures.at_most in
    let here = with_index c.args.log.now c.args.index.now in
    let few : c.block_at.new.source.parities ≤ 0 + (path_to c.args.index.now c.args.block c.args.seq).turns = omega (arith, calls.parities, calls.few) in
    let looked = look_calls here _ _ c.args.block _ _ _ calls.present few calls.snapshots c.block_at.ensures.acts.1.1 in
    search rules

pub returns-clause-cause : goal.returns-clause-cause
returns-clause-cause g c =
    let here = with_index c.args.log.now c.args.index.now in
    let most = c.block_at.ensures.at_most in
    let failed = undo_fails here _ c.args.block c.args.seq most.taken _ _ _ _ _ c.block_at.result c.block_at.ensures.later most.few most.looked
    c.block_at.ensures.acts.1.0 c.block_at.ensures.acts.1.1.reads
    c.block_at.ensures.blame.reason c.block_at.ensures.blame.after in
    search rules
