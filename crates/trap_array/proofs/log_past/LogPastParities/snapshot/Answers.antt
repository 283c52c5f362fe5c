use Rattle.std.proofs.Common.{rules, Err, refl, ap}
use Rattle.trap_array.specs.Calls.{running}
use Rattle.trap_array.specs.declared.fault.Denied.{Denied}
use Rattle.trap_array.proofs.Sources.{record_looks, record_alone, record_damaged}
use Rattle.trap_array.specs.Log.{with_index}
use Rattle.trap_array.proofs.LookingBack.{snapshot_goes, can_look, is_for_still}
use Rattle.trap_array.proofs.log_past.LogPastParities.snapshot.Goals as goal

pub part-requires-clause-can : goal.part-requires-clause-can
part-requires-clause-can g c = can_look (with_index c.args.self.now.log.now c.args.self.now.index.now) (g.B.Bank.view c.args.self.now.bank.now) c.args.self.now.for_log

pub returns-in-Err-clause-blame : goal.returns-in-Err-clause-blame
returns-in-Err-clause-blame g c = record {
  cause = search rules;
  reason = (
    refl,
    record {
      fails = record_looks (running (with_index c.args.self.now.log.now c.args.self.now.index.now)) c.args.seq (g.B.Bank.view c.args.self.now.bank.now)
          (g.B.Bank.view c.part.new.bank) _ c.in-Err.ensures.cause;
      asked = λ first second is. absurd
          (record_alone (running (with_index c.args.self.now.log.now c.args.self.now.index.now)) c.args.seq (g.B.Bank.view c.args.self.now.bank.now) (g.B.Bank.view c.part.new.bank) _
          c.in-Err.ensures.cause first second is);
      damaged = λ offset is told s stands. c.in-Err.ensures.damaged offset (ap (λ (d : Denied). Err d) is) told s stands;
    },
  );
  after = record_damaged (with_index c.args.self.now.log.now c.args.self.now.index.now) c.args.seq (g.B.Bank.view c.args.self.now.bank.now) (g.B.Bank.view c.part.new.bank) _
      c.part.ensures.any_moment c.in-Err.ensures.cause;
}

pub invariant_of-self-in-Err : goal.invariant_of-self-in-Err
invariant_of-self-in-Err g c = record {
  for_log = is_for_still (with_index c.args.self.now.log.now c.args.self.now.index.now) (g.B.Bank.view c.args.self.now.bank.now) (g.B.Bank.view c.part.new.bank)
      c.args.self.now.for_log c.part.ensures.any_moment;
  room = search rules;
}

pub returns-in-Ok-clause-acts : goal.returns-in-Ok-clause-acts
returns-in-Ok-clause-acts g c =
    let here = with_index c.args.self.now.log.now c.args.self.now.index.now in
    (refl, (refl, snapshot_goes here _ _ _ _ _ _ _ _ (g.B.Bank.view c.args.self.now.bank.now) (g.B.Bank.view c.part.new.bank) c.part.ensures.any_moment c.part.ensures.calls))

pub returns-in-Err-clause-acts : goal.returns-in-Err-clause-acts
returns-in-Err-clause-acts g c =
    let here = with_index c.args.self.now.log.now c.args.self.now.index.now in
    (refl, (refl, snapshot_goes here _ _ _ _ _ _ _ _ (g.B.Bank.view c.args.self.now.bank.now) (g.B.Bank.view c.part.new.bank) c.part.ensures.any_moment c.part.ensures.calls))
