use Rattle.std.proofs.Common.{refl}
use Rattle.trap_remote.proofs.Loads.{broken_loads, seq_most}
use Rattle.trap_remote.proofs.loading.load_replica.Goals as goal

pub load_shape-requires-clause-most : goal.load_shape-requires-clause-most
load_shape-requires-clause-most g c = seq_most c.args.asked.now.block c.args.asked.now.volume c.args.start.now.seq (c.in-Ok.ensures.kept.0 refl)

pub returns-in-Ok : goal.returns-in-Ok
returns-in-Ok g c = record { outcome = c.load_shape.ensures.outcome c.args.asked.now (c.in-Ok.ensures.kept.0 refl) c.in-Ok.ensures.ok; untouched = c.load_shape.ensures.untouched }

pub returns-in-Err : goal.returns-in-Err
returns-in-Err g c = record {
  outcome = broken_loads c.args.asked.now c.args.start.now (g.B.Bank.view c.args.bank.now) (g.met.B.Bank.lawful c.args.bank.now) (g.S.Source.stream c.args.source.now)
      c.in-Err.bad.field c.in-Err.ensures.broken;
  untouched = λ still. (refl, refl);
}
