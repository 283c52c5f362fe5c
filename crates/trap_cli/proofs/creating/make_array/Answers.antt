use Rattle.std.proofs.Common.{ℕ, Ok, ap, subst}
use Rattle.trap_bank.specs.declared.disks.Failed.{Failed}
use Rattle.trap_bank.specs.Calls.{Says}
use Rattle.trap_cli.specs.Ended.{created_line}
use Rattle.trap_cli.proofs.Creates.{uncreated_outcome, created_outcome, unsaid_outcome, none_before, refused_idle}
use Rattle.trap_cli.proofs.creating.make_array.Goals as goal

pub returns-in-Err : goal.returns-in-Err
returns-in-Err g c = record {
  outcome = λ asked from kept numbers. uncreated_outcome asked c.args.g.now (g.B.Bank.view c.args.bank.now) (g.B.Bank.view c.create.new.bank) from
      c.create.result c.in-Err.why (g.met.B.Bank.lawful c.args.bank.now) kept numbers c.in-Err.is
      c.create.ensures.exists (λ d low. ap g.B.Bank.view (c.create.ensures.untouched d low)) c.in-Err.ensures.cause c.create.ensures.beside c.create.ensures.making c.create.ensures.order;
  untouched = refused_idle c.args.g.now (g.B.Bank.view c.args.bank.now) c.create.result c.in-Err.why c.args.bank.now c.create.new.bank c.in-Err.is c.create.ensures.exists c.create.ensures.untouched;
}

pub returns-in-Ok : goal.returns-in-Ok
returns-in-Ok g c = record {
  outcome = λ asked from kept numbers.
      let a = g.B.Bank.view c.args.bank.now in
      let b = g.B.Bank.view c.create.new.bank in
      let after = g.B.Bank.view c.say_created.new.bank in
      let says = subst (λ (id : ℕ). Says {E = Failed} (created_line id) (Ok c.in-Ok.field-0) b after) numbers.id c.in-Ok.ensures in
      created_outcome asked a (g.met.B.Bank.lawful c.args.bank.now) kept c.args.g.now numbers b from
      (none_before c.args.g.now a c.create.result c.in_default.field-0 c.in_default.is c.create.ensures.exists)
      c.create.ensures.beside c.create.ensures.making c.create.ensures.order after c.in_default.ensures.made (g.met.B.Bank.lawful c.create.new.bank) (Ok c.in-Ok.field-0) says
      says.said;
  untouched = λ is. absurd (cc is);
}

pub returns-in-Err-say_created : goal.returns-in-Err-say_created
returns-in-Err-say_created g c = record {
  outcome = λ asked from kept numbers.
      let a = g.B.Bank.view c.args.bank.now in
      let b = g.B.Bank.view c.create.new.bank in
      let after = g.B.Bank.view c.say_created.new.bank in
      let says = subst (λ (id : ℕ). Says {E = Failed} (created_line id) c.say_created.result b after) numbers.id c.say_created.ensures in
      unsaid_outcome asked a (g.met.B.Bank.lawful c.args.bank.now) kept c.args.g.now numbers b from
      (none_before c.args.g.now a c.create.result c.in_default.field-0 c.in_default.is c.create.ensures.exists)
      c.create.ensures.beside c.create.ensures.making c.create.ensures.order after c.in_default.ensures.made (g.met.B.Bank.lawful c.create.new.bank) c.say_created.result says
      c.in-Err-say_created.ensures.cause;
  untouched = λ is. absurd (cc is);
}
