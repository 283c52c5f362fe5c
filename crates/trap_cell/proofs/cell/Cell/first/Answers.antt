use Rattle.std.proofs.Common.{length, refl, arith, rules}
use Rattle.trap_bank.proofs.Called.{called_once, called_then, called_at_most, took_calls}
use Rattle.trap_bank.proofs.Moves.{moves_again}
use Rattle.trap_cell.proofs.Beginning.{part_torn, two_torn, three_torn, all_torn, begin_part, begin_three, begin_last, begin_still, begin_done, called_four}
use Rattle.trap_cell.proofs.cell.Cell.first.Goals as goal

pub returns-in_err-write-clause-any_moment : goal.returns-in_err-write-clause-any_moment
returns-in_err-write-clause-any_moment g c = begin_part _ _ _ _ _ _ _ _ c.write.ensures.call (omega arith) (omega arith)

pub returns-in_err-write-2-clause-any_moment : goal.returns-in_err-write-2-clause-any_moment
returns-in_err-write-2-clause-any_moment g c = moves_again _ _ _ _ (begin_part _ _ c.args.at _ (length c.args.value.now) _ _ _ c.write.ensures.call (omega arith)
    (omega arith)) (begin_part _ _ _ _ _ _ _ _ c.write-2.ensures.call (omega arith) (omega arith))

pub returns-in_err-write-3-clause-any_moment : goal.returns-in_err-write-3-clause-any_moment
returns-in_err-write-3-clause-any_moment g c = begin_three c.args.disk c.args.at (length c.args.value.now) _ _ _ _
    (begin_part _ _ _ _ _ _ _ _ c.write.ensures.call (omega arith) (omega arith)) (begin_part _ _ _ _ _ _ _ _ c.write-2.ensures.call (omega arith) (omega arith))
    (begin_part _ _ _ _ _ _ _ _ c.write-3.ensures.call (omega arith) (omega arith))

pub returns-in_err-sync-clause-any_moment : goal.returns-in_err-sync-clause-any_moment
returns-in_err-sync-clause-any_moment g c = begin_last c.args.disk c.args.at (length c.args.value.now) _ _ _ _ _ (begin_still _ _ _ _ _ _ c.sync.ensures.call)
    (begin_part _ _ _ _ _ _ _ _ c.write.ensures.call (omega arith) (omega arith))
    (begin_part _ _ _ _ _ _ _ _ c.write-2.ensures.call (omega arith) (omega arith))
    (begin_part _ _ _ _ _ _ _ _ c.write-3.ensures.call (omega arith) (omega arith))

pub returns-clause-any_moment : goal.returns-clause-any_moment
returns-clause-any_moment g c = begin_last c.args.disk c.args.at (length c.args.value.now) _ _ _ _ _ (begin_still _ _ _ _ _ _ c.sync.ensures.call)
    (begin_part _ _ _ _ _ _ _ _ c.write.ensures.call (omega arith) (omega arith))
    (begin_part _ _ _ _ _ _ _ _ c.write-2.ensures.call (omega arith) (omega arith))
    (begin_part _ _ _ _ _ _ _ _ c.write-3.ensures.call (omega arith) (omega arith))

pub returns-clause-ok : goal.returns-clause-ok
returns-clause-ok g c = begin_done _ _ _ _ c.args.disk c.args.at _ c.args.value.now _ _ _ _ _ (omega arith) c.in_ok-write.ensures.call
    c.in_ok-write-2.ensures.call c.in_ok-write-3.ensures.call c.in_ok-sync.ensures.call

pub returns-in_err-write-clause-contents : goal.returns-in_err-write-clause-contents
returns-in_err-write-clause-contents g c = part_torn _ _ _ _ _ _ _ _ c.write.ensures.call (omega arith) (omega arith)

pub returns-in_err-write-2-clause-contents : goal.returns-in_err-write-2-clause-contents
returns-in_err-write-2-clause-contents g c = two_torn _ _ _ _ _ _ _ _ _ _ refl c.write.ensures.call c.write-2.ensures.call

pub returns-in_err-write-3-clause-contents : goal.returns-in_err-write-3-clause-contents
returns-in_err-write-3-clause-contents g c = three_torn _ _ _ _ _ _ _ _ _ _ _ _ refl c.write.ensures.call c.write-2.ensures.call c.write-3.ensures.call

pub returns-in_err-sync-clause-contents : goal.returns-in_err-sync-clause-contents
returns-in_err-sync-clause-contents g c = all_torn _ _ _ _ _ _ _ _ _ _ _ _ _ _ refl c.write.ensures.call c.write-2.ensures.call c.write-3.ensures.call c.sync.ensures.call

pub returns-clause-contents : goal.returns-clause-contents
returns-clause-contents g c = all_torn _ _ _ _ _ _ _ _ _ _ _ _ _ _ refl c.write.ensures.call c.write-2.ensures.call c.write-3.ensures.call c.sync.ensures.call

pub returns-in_err-write-clause-calls : goal.returns-in_err-write-clause-calls
returns-in_err-write-clause-calls g c = record { ok = search rules; most = called_at_most 1 4 _ _ (omega arith) (called_once _ _ _ c.write.ensures.call.goes) }

pub returns-in_err-write-2-clause-calls : goal.returns-in_err-write-2-clause-calls
returns-in_err-write-2-clause-calls g c = record {
  ok = search rules;
  most = called_at_most 2 4 _ _ (omega arith)
      (called_then 1 1 _ _ _ (called_once _ _ _ c.write.ensures.call.goes) (called_once _ _ _ c.write-2.ensures.call.goes));
}

pub returns-in_err-write-3-clause-calls : goal.returns-in_err-write-3-clause-calls
returns-in_err-write-3-clause-calls g c = record {
  ok = search rules;
  most = called_at_most 3 4 _ _ (omega arith)
      (called_then 2 1 _ _ _ (called_then 1 1 _ _ _ (called_once _ _ _ c.write.ensures.call.goes) (called_once _ _ _ c.write-2.ensures.call.goes)) (called_once _ _ _ c.write-3.ensures.call.goes));
}

pub returns-in_err-sync-clause-calls : goal.returns-in_err-sync-clause-calls
returns-in_err-sync-clause-calls g c = record {
  ok = search rules;
  most = called_at_most 4 4 _ _ (omega arith) (called_four _ _ _ _ _ (called_once _ _ _ c.sync.ensures.call.goes)
      (called_once _ _ _ c.write.ensures.call.goes) (called_once _ _ _ c.write-2.ensures.call.goes) (called_once _ _ _ c.write-3.ensures.call.goes));
}

pub returns-clause-calls : goal.returns-clause-calls
returns-clause-calls g c = took_calls _ 4 _ _ (called_four _ _ _ _ _ (called_once _ _ _ c.sync.ensures.call.goes)
    (called_once _ _ _ c.write.ensures.call.goes) (called_once _ _ _ c.write-2.ensures.call.goes) (called_once _ _ _ c.write-3.ensures.call.goes))
