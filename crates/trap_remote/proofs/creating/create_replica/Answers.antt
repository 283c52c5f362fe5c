use Rattle.std.proofs.Common.{refl}
use Rattle.trap_remote.proofs.Creates.{broken_outcome}
use Rattle.trap_remote.proofs.creating.create_replica.Goals as goal

pub returns-in-Ok : goal.returns-in-Ok
returns-in-Ok g c = record { outcome = c.make_replica.ensures.outcome c.args.asked.now (c.in-Ok.ensures.kept.0 refl) c.in-Ok.ensures.ok; untouched = c.make_replica.ensures.untouched }

pub returns-in-Err : goal.returns-in-Err
returns-in-Err g c = record {
  outcome = broken_outcome c.args.asked.now (g.B.Bank.view c.args.bank.now) (g.met.B.Bank.lawful c.args.bank.now) c.in-Err.bad.field c.in-Err.ensures.broken;
  untouched = λ still. refl;
}
