use Rattle.std.proofs.Common.{Err, length, ap, subst, ◌∙◌}
use Rattle.trap_bank.specs.declared.disks.Failed.{Failed}
use Rattle.trap_replica.specs.Loading.{IsLoadFault}
use Rattle.trap_replica.specs.declared.fault.ReplicaFault.{ReplicaFault}
use Rattle.trap_remote.proofs.Creates.{none_before}
use Rattle.trap_remote.proofs.Loads.{unloaded_outcome, unloaded_still, loaded_outcome, unsaid_loads}
use Rattle.trap_remote.proofs.loading.load_shape.Goals as goal

pub returns-in-Err : goal.returns-in-Err
returns-in-Err g c = record {
  outcome = λ asked kept is_asked. unloaded_outcome asked c.args.start.now c.args.shape.now (g.B.Bank.view c.args.bank.now) (g.B.Bank.view c.load.new.bank)
      (g.S.Source.stream c.args.source.now) (g.S.Source.stream c.load.new.source) c.load.result c.in-Err.why (g.met.B.Bank.lawful c.args.bank.now) kept is_asked c.in-Err.is c.load.ensures.exists
      (λ there. let still = c.load.ensures.untouched there in (ap g.B.Bank.view still.0, ap g.S.Source.stream still.1))
      (λ none. let still = c.load.ensures.memory (c.in-Err.is ∙ ap Err none) in (ap g.B.Bank.view still.0, ap g.S.Source.stream still.1))
      c.load.ensures.disk (λ none. (c.load.ensures.calls none).most) c.in-Err.ensures.loads;
  untouched = λ still. unloaded_still ((g.B.Bank.view c.args.bank.now).sizes 17) c.in-Err.why c.args.bank.now c.load.new.bank c.args.source.now c.load.new.source
      c.load.ensures.untouched (λ none. c.load.ensures.memory (c.in-Err.is ∙ ap Err none))
      (λ disk none is. let some = c.in-Err.ensures.loads none in subst (λ (why : ReplicaFault). IsLoadFault c.args.shape.now (length some.0) (g.B.Bank.view c.args.bank.now)
      (g.B.Bank.view c.load.new.bank) (g.S.Source.stream c.args.source.now) (g.S.Source.stream c.load.new.source) why) is some.1.refused) still;
}

pub returns-in-Ok : goal.returns-in-Ok
returns-in-Ok g c = record {
  outcome = λ asked kept is_asked.
      let a = g.B.Bank.view c.args.bank.now in
      let none = none_before a c.load.result c.in_default.field-0 c.in_default.is c.load.ensures.exists in
      let some = c.in_default.ensures.loads none in
      loaded_outcome asked c.args.start.now a (g.met.B.Bank.lawful c.args.bank.now) (g.S.Source.stream c.args.source.now) kept c.args.shape.now is_asked none (g.B.Bank.view c.load.new.bank)
      (g.S.Source.stream c.load.new.source) some.0 some.1.took c.load.result c.load.ensures.disk c.in_default.ensures.disk.size some.1.whole.0 some.1.whole.1 some.1.made
      (c.in_default.ensures.calls none).ok (g.B.Bank.view c.say_loaded.new.bank) {F = Failed} c.in-Ok.field-0 c.in-Ok.ensures;
  untouched = λ still. absurd (cc);
}

pub returns-in-Err-say_loaded : goal.returns-in-Err-say_loaded
returns-in-Err-say_loaded g c = record {
  outcome = λ asked kept is_asked.
      let a = g.B.Bank.view c.args.bank.now in
      let none = none_before a c.load.result c.in_default.field-0 c.in_default.is c.load.ensures.exists in
      let some = c.in_default.ensures.loads none in
      unsaid_loads asked c.args.start.now a (g.met.B.Bank.lawful c.args.bank.now) (g.S.Source.stream c.args.source.now) kept c.args.shape.now is_asked none (g.B.Bank.view c.load.new.bank)
      (g.S.Source.stream c.load.new.source) some.0 some.1.took c.load.result c.load.ensures.disk c.in_default.ensures.disk.size some.1.whole.0 some.1.whole.1 some.1.made
      (c.in_default.ensures.calls none).ok (g.B.Bank.view c.say_loaded.new.bank) {U = Unit {0}} c.in-Err-say_loaded.field-0 c.in-Err-say_loaded.ensures;
  untouched = λ still. absurd (cc);
}
