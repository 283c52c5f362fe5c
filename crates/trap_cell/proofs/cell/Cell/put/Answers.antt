use Rattle.std.proofs.Common.{rules, arith, ◌+◌}
use Rattle.trap_bank.proofs.Called.{at_most_more, at_most_then, called_then, took_calls}
use Rattle.trap_cell.proofs.Putting.{put_shut_contents, put_fill_contents, put_open_contents, put_shut, put_fill, put_open, put_done, stands_shut, ready_after}
use Rattle.trap_cell.proofs.Stages.{stage_shut, stage_fill, stage_open}
use Rattle.trap_cell.proofs.cell.Cell.put.Goals as goal

pub returns-in_err-shut-clause-any_moment : goal.returns-in_err-shut-clause-any_moment
returns-in_err-shut-clause-any_moment g c = put_shut _ _ _ _ c.requires.stands c.shut.ensures.any_moment

pub fill-requires-clause-stands : goal.fill-requires-clause-stands
fill-requires-clause-stands g c = stands_shut _ _ _ c.requires.stands c.in_ok-shut.ensures.ok

pub returns-in_err-fill-clause-any_moment : goal.returns-in_err-fill-clause-any_moment
returns-in_err-fill-clause-any_moment g c = put_fill _ _ _ _ _ c.requires.stands c.in_ok-shut.ensures.ok c.fill.ensures.any_moment

pub open-requires-clause-ready : goal.open-requires-clause-ready
open-requires-clause-ready g c = ready_after _ _ _ _ (stands_shut _ _ _ c.requires.stands c.in_ok-shut.ensures.ok) c.in_ok-fill.ensures.ok

pub returns-in_err-open-clause-any_moment : goal.returns-in_err-open-clause-any_moment
returns-in_err-open-clause-any_moment g c = put_open _ _ _ _ _ _ c.requires.stands c.in_ok-shut.ensures.ok c.in_ok-fill.ensures.ok c.open.ensures.any_moment

pub returns-clause-any_moment : goal.returns-clause-any_moment
returns-clause-any_moment g c = put_open _ _ _ _ _ _ c.requires.stands c.in_ok-shut.ensures.ok c.in_ok-fill.ensures.ok c.open.ensures.any_moment

pub returns-clause-ok : goal.returns-clause-ok
returns-clause-ok g c = put_done _ _ _ _ _ _ _ c.turn_over.ensures c.requires.stands c.in_ok-shut.ensures.ok c.in_ok-fill.ensures.ok c.in_ok-open.ensures.ok

pub returns-in_err-shut-clause-contents : goal.returns-in_err-shut-clause-contents
returns-in_err-shut-clause-contents g c = put_shut_contents _ _ (g.B.Bank.view c.args.bank.now) (g.B.Bank.view c.shut.new.bank) c.requires.stands c.shut.ensures.contents

pub returns-in_err-fill-clause-contents : goal.returns-in_err-fill-clause-contents
returns-in_err-fill-clause-contents g c = put_fill_contents _ _ (g.B.Bank.view c.args.bank.now) (g.B.Bank.view c.shut.new.bank) (g.B.Bank.view c.fill.new.bank)
    c.requires.stands c.shut.ensures.any_moment.tells c.shut.ensures.contents c.fill.ensures.contents

pub returns-in_err-open-clause-contents : goal.returns-in_err-open-clause-contents
returns-in_err-open-clause-contents g c = put_open_contents _ _ (g.B.Bank.view c.args.bank.now) (g.B.Bank.view c.shut.new.bank) (g.B.Bank.view c.fill.new.bank)
    (g.B.Bank.view c.open.new.bank) c.requires.stands c.shut.ensures.any_moment.tells c.fill.ensures.any_moment.tells c.shut.ensures.contents c.fill.ensures.contents c.open.ensures.contents

pub returns-clause-contents : goal.returns-clause-contents
returns-clause-contents g c = put_open_contents _ _ (g.B.Bank.view c.args.bank.now) (g.B.Bank.view c.shut.new.bank) (g.B.Bank.view c.fill.new.bank)
    (g.B.Bank.view c.open.new.bank) c.requires.stands c.shut.ensures.any_moment.tells c.fill.ensures.any_moment.tells c.shut.ensures.contents c.fill.ensures.contents c.open.ensures.contents

pub returns-in_err-shut-clause-stages : goal.returns-in_err-shut-clause-stages
returns-in_err-shut-clause-stages g c = stage_shut _ _ _ _ _ c.shut.ensures.gate

pub returns-in_err-fill-clause-stages : goal.returns-in_err-fill-clause-stages
returns-in_err-fill-clause-stages g c = stage_fill _ _ _ _ _ _ c.shut.ensures.gate c.in_ok-shut.ensures.ok c.fill.ensures.any_moment

pub returns-in_err-open-clause-stages : goal.returns-in_err-open-clause-stages
returns-in_err-open-clause-stages g c = stage_open _ _ _ _ _ _ c.shut.ensures.gate c.in_ok-shut.ensures.ok c.in_ok-fill.ensures.ok c.in_ok-fill.ensures.stable
    c.shut.ensures.contents c.fill.ensures.contents c.open.ensures.gate

pub returns-clause-stages : goal.returns-clause-stages
returns-clause-stages g c = stage_open _ _ _ _ _ _ c.shut.ensures.gate c.in_ok-shut.ensures.ok c.in_ok-fill.ensures.ok c.in_ok-fill.ensures.stable c.shut.ensures.contents
    c.fill.ensures.contents c.open.ensures.gate

pub returns-in_err-shut-clause-cell : goal.returns-in_err-shut-clause-cell
returns-in_err-shut-clause-cell g c = record { ok = search rules; err = search rules; calls = record { ok = search rules; most = at_most_more _ _ _ _ (omega arith) c.shut.ensures.calls.most } }

pub returns-in_err-fill-clause-cell : goal.returns-in_err-fill-clause-cell
returns-in_err-fill-clause-cell g c = record {
  ok = search rules;
  err = search rules;
  calls = record
      { ok = search rules; most = at_most_then _ 3 _ _ _ _ (omega arith) c.shut.ensures.calls.most c.fill.ensures.calls.most };
}

pub returns-in_err-open-clause-cell : goal.returns-in_err-open-clause-cell
returns-in_err-open-clause-cell g c = record {
  ok = search rules;
  err = search rules;
  calls = record {
    ok = search rules;
    most = at_most_then _ (3 + 2) _ _ _ _ (omega arith) c.shut.ensures.calls.most
        (at_most_then 3 2 (3 + 2) _ _ _ (omega arith) c.fill.ensures.calls.most c.open.ensures.calls.most);
  };
}

pub returns-clause-cell : goal.returns-clause-cell
returns-clause-cell g c = record {
  ok = c.turn_over.ensures;
  err = tt;
  calls = took_calls _ _ _ _ (called_then _ (3 + 2) _ _ _ c.in_ok-shut.ensures.calls.ok (called_then 3 2 _ _ _ c.in_ok-fill.ensures.calls.ok c.in_ok-open.ensures.calls.ok));
}
