use Rattle.std.proofs.Common.{IsTrue, subst, sym, ap, ◌∙◌, arith, rules}
use Rattle.std.proofs.lemmas.Grind.{common_steps}
use Rattle.trap_bank.proofs.Moves.{make_steps, made_steps}
use Rattle.trap_replica.specs.Creating.{zero_blocks}
use Rattle.trap_replica.specs.OnDisk.{value_bytes}
use Rattle.trap_replica.proofs.OneFrame.{touch_then}
use Rattle.trap_replica.proofs.NewReplica.{make_part, make_blank, made_homes, zero_block, shut_begun, shut_done, touch_made, touch_front}
use Rattle.trap_replica.proofs.creating.shut_replica.Goals as goal

pub returns-in_err-make-clause-any_moment : goal.returns-in_err-make-clause-any_moment
returns-in_err-make-clause-any_moment g c = make_part _ _ _ (make_steps _ _ _ _ _ c.make.ensures.call)

pub returns-in_err-begin_shut-clause-any_moment : goal.returns-in_err-begin_shut-clause-any_moment
returns-in_err-begin_shut-clause-any_moment g c = shut_begun c.args.s.now (g.B.Bank.view c.args.bank.now) (g.B.Bank.view c.make.new.self) (g.B.Bank.view c.begin_shut.new.bank)
    (make_blank c.args.s.now _ _ _ c.replica_len.ensures (made_steps _ _ _ _ _ c.in_ok-make.ensures.call)) c.begin_shut.ensures.any_moment

pub returns-clause-any_moment : goal.returns-clause-any_moment
returns-clause-any_moment g c = shut_begun c.args.s.now (g.B.Bank.view c.args.bank.now) (g.B.Bank.view c.make.new.self) (g.B.Bank.view c.begin_shut.new.bank)
    (make_blank c.args.s.now _ _ _ c.replica_len.ensures (made_steps _ _ _ _ _ c.in_ok-make.ensures.call)) c.begin_shut.ensures.any_moment

pub returns-clause-ok : goal.returns-clause-ok
returns-clause-ok g c = shut_done c.args.s.now 0 0 (zero_blocks c.args.s.now) c.fresh_value-value.result.now (g.B.Bank.view c.args.bank.now) (g.B.Bank.view c.make.new.self)
    (g.B.Bank.view c.begin_shut.new.bank)
    (λ told. c.fresh_value-value.ensures ∙ ap (value_bytes 0 0 0) (sym (zero_block c.args.s.now 0 (omega (arith, c.args.s.now.within.volume_least)))))
    (make_blank c.args.s.now _ _ _ c.replica_len.ensures (made_steps _ _ _ _ _ c.in_ok-make.ensures.call)) c.in_ok-begin_shut.ensures.ok c.begin_shut.ensures.contents
    (made_homes c.args.s.now c.replica_len.result (g.B.Bank.view c.make.new.self) c.replica_len.ensures
    (λ told. c.in_ok-make.ensures.call.zeros (subst IsTrue c.make.ensures.call.goes.tells told)))

pub returns-in_err-make-clause-disk : goal.returns-in_err-make-clause-disk
returns-in_err-make-clause-disk g c = record {
  size = first_of (search rules, grind (arith, common_steps));
  sizes = λ e other. c.make.ensures.call.others e other;
  touches = touch_made _ (g.B.Bank.view c.args.bank.now) (g.B.Bank.view c.make.new.self) c.make.ensures.call.step;
}

pub returns-in_err-begin_shut-clause-disk : goal.returns-in_err-begin_shut-clause-disk
returns-in_err-begin_shut-clause-disk g c = record {
  size = first_of (search rules, grind (arith, common_steps));
  sizes = λ e other. c.begin_shut.ensures.sizes e ∙ c.make.ensures.call.others e other;
  touches = touch_then (g.B.Bank.view c.args.bank.now) (g.B.Bank.view c.make.new.self) (g.B.Bank.view c.begin_shut.new.bank) c.make.ensures.call.goes.tells
      (touch_made _ (g.B.Bank.view c.args.bank.now) (g.B.Bank.view c.make.new.self) c.make.ensures.call.step)
      (touch_front c.args.s.now (g.B.Bank.view c.make.new.self) (g.B.Bank.view c.begin_shut.new.bank) c.begin_shut.ensures.contents);
}

pub returns-clause-disk : goal.returns-clause-disk
returns-clause-disk g c = record {
  size = first_of (search rules, grind (arith, common_steps));
  sizes = λ e other. c.begin_shut.ensures.sizes e ∙ c.make.ensures.call.others e other;
  touches = touch_then (g.B.Bank.view c.args.bank.now) (g.B.Bank.view c.make.new.self) (g.B.Bank.view c.begin_shut.new.bank) c.make.ensures.call.goes.tells
      (touch_made _ (g.B.Bank.view c.args.bank.now) (g.B.Bank.view c.make.new.self) c.make.ensures.call.step)
      (touch_front c.args.s.now (g.B.Bank.view c.make.new.self) (g.B.Bank.view c.begin_shut.new.bank) c.begin_shut.ensures.contents);
}
