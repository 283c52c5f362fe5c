use Rattle.std.proofs.Common.{refl}
use Rattle.trap_cli.proofs.Creates.{broken_outcome}
use Rattle.trap_cli.proofs.creating.run_create.Goals as goal

pub returns-in-Ok : goal.returns-in-Ok
returns-in-Ok g c = record { outcome = λ from. c.make_array.ensures.outcome c.args.asked.now from (c.in-Ok.ensures.kept.0 refl) c.in-Ok.ensures.ok; untouched = c.make_array.ensures.untouched }

pub returns-in-Err : goal.returns-in-Err
returns-in-Err g c = record { outcome = λ from. broken_outcome c.args.asked.now (g.B.Bank.view c.args.bank.now) (g.met.B.Bank.lawful c.args.bank.now) c.in-Err.bad.field from c.in-Err.ensures.broken; untouched = λ is. refl }
