use Rattle.trap_cli.specs.Ended.{last_line}
use Rattle.trap_cli.proofs.Saying.{some_taken, said_by}
use Rattle.trap_cli.proofs.run.say_last.Goals as goal

pub returns-in-Ok : goal.returns-in-Ok
returns-in-Ok g c = record {
  said = said_by g.B.Bank.view c.say.result _ (last_line c.args.ended) c.args.bank.now c.say.new.self
      (some_taken c.write_last-len.result c.write_last-len.new.out c.if-len-gt0.true c.write_last-len.ensures.end) c.write_last-len.ensures.text c.say.ensures.call;
}

pub returns-in-Err : goal.returns-in-Err
returns-in-Err g c = record {
  said = said_by g.B.Bank.view c.say.result _ (last_line c.args.ended) c.args.bank.now c.say.new.self
      (some_taken c.write_last-len.result c.write_last-len.new.out c.if-len-gt0.true c.write_last-len.ensures.end) c.write_last-len.ensures.text c.say.ensures.call;
}
