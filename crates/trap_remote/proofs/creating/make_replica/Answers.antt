use Rattle.std.proofs.Common.{ℕ, Ok, Err, subst, ap}
use Rattle.trap_bank.specs.declared.disks.Failed.{Failed}
use Rattle.trap_bank.specs.Calls.{Says}
use Rattle.trap_remote.specs.Ended.{created_line}
use Rattle.trap_remote.proofs.Creates.{uncreated_outcome, uncreated_still, created_outcome, unsaid_outcome, none_before}
use Rattle.trap_remote.proofs.creating.make_replica.Goals as goal

pub returns-in-Err : goal.returns-in-Err
returns-in-Err g c = record {
  outcome = λ asked kept is_asked. uncreated_outcome asked c.args.shape.now (g.B.Bank.view c.args.bank.now) (g.B.Bank.view c.create.new.bank)
      c.create.result c.in-Err.why (g.met.B.Bank.lawful c.args.bank.now) kept is_asked c.in-Err.is
      c.create.ensures.exists (λ there. ap g.B.Bank.view (c.create.ensures.untouched there)) c.create.ensures.disk c.in-Err.ensures.cause
      (λ none. (c.create.ensures.calls none).most) c.create.ensures.any_moment;
  untouched = λ still. uncreated_still ((g.B.Bank.view c.args.bank.now).sizes 17) c.in-Err.why _ c.args.bank.now c.create.new.bank
      c.create.ensures.untouched c.in-Err.ensures.cause still;
}

pub returns-in-Ok : goal.returns-in-Ok
returns-in-Ok g c = record {
  outcome = λ asked kept is_asked.
      let a = g.B.Bank.view c.args.bank.now in
      let b = g.B.Bank.view c.create.new.bank in
      let after = g.B.Bank.view c.say_created.new.bank in
      let none = none_before a c.create.result c.in_default.field-0 c.in_default.is c.create.ensures.exists in
      let says = subst (λ (id : ℕ). Says {E = Failed} (created_line id) (Ok c.in-Ok.field-0) b after) is_asked.id c.in-Ok.ensures in
      created_outcome asked a (g.met.B.Bank.lawful c.args.bank.now) kept c.args.shape.now is_asked none b c.create.result c.create.ensures.disk
      c.in_default.ensures.disk.size c.in_default.ensures.ok (c.in_default.ensures.calls none).ok after c.in-Ok.field-0 says;
  untouched = λ still. absurd (cc);
}

pub returns-in-Err-say_created : goal.returns-in-Err-say_created
returns-in-Err-say_created g c = record {
  outcome = λ asked kept is_asked.
      let a = g.B.Bank.view c.args.bank.now in
      let b = g.B.Bank.view c.create.new.bank in
      let after = g.B.Bank.view c.say_created.new.bank in
      let none = none_before a c.create.result c.in_default.field-0 c.in_default.is c.create.ensures.exists in
      let says = subst (λ (id : ℕ). Says {T = Unit {0}} (created_line id) (Err c.in-Err-say_created.field-0) b after) is_asked.id c.in-Err-say_created.ensures in
      unsaid_outcome asked a (g.met.B.Bank.lawful c.args.bank.now) kept c.args.shape.now is_asked none b c.create.result c.create.ensures.disk
      c.in_default.ensures.disk.size c.in_default.ensures.ok (c.in_default.ensures.calls none).ok after c.in-Err-say_created.field-0 says;
  untouched = λ still. absurd (cc);
}
