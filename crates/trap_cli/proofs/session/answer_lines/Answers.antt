use Rattle.std.proofs.Common.{refl, sym, ap}
use Rattle.trap_cli.specs.Session.{ended_of}
use Rattle.trap_cli.proofs.LookingBack.{finds_bad}
use Rattle.trap_cli.proofs.Saying.{took_none}
use Rattle.trap_cli.proofs.Sessions.{memory_steps, memory_held, nothing_changes}
use Rattle.trap_cli.proofs.session.answer_lines.Goals as goal

pub returns-in_default-clause-steps : goal.returns-in_default-clause-steps
returns-in_default-clause-steps g c = memory_steps c.args.array (g.B.Bank.view c.args.bank.now) (g.S.Source.stream c.args.source.now)

pub returns-in_default-clause-lines : goal.returns-in_default-clause-lines
returns-in_default-clause-lines g c reads = absurd (cc reads)

pub returns-in_default-clause-leaves : goal.returns-in_default-clause-leaves
returns-in_default-clause-leaves g c = record {
  sizes = λ e. refl;
  changes = nothing_changes c.args.array (g.B.Bank.view c.args.bank.now);
  held = memory_held c.args.array (g.B.Bank.view c.args.bank.now);
  took = took_none (g.S.Source.stream c.args.source.now);
  bad = λ offset is. absurd (cc is);
}

pub returns-in-Ok-serve-clause-leaves : goal.returns-in-Ok-serve-clause-leaves
returns-in-Ok-serve-clause-leaves g c = record {
  sizes = c.serve.ensures.leaves.sizes;
  changes = c.serve.ensures.leaves.changes;
  held = c.serve.ensures.held;
  took = c.serve.ensures.leaves.took;
  bad = λ offset is. absurd (cc is);
}

pub returns-clause-leaves : goal.returns-clause-leaves
returns-clause-leaves g c = record {
  sizes = c.serve.ensures.leaves.sizes;
  changes = c.serve.ensures.leaves.changes;
  held = c.serve.ensures.held;
  took = c.serve.ensures.leaves.took;
  bad = finds_bad g.B.Bank.view c.args.array c.serve.new.array c.serve.result c.args.bank.now c.serve.new.bank
      (g.S.Source.stream c.args.source.now) (g.S.Source.stream c.serve.new.source)
      c.serve.ensures.leaves.goes_on.g c.serve.ensures.leaves.index c.serve.ensures.exchange c.in-Err.why c.in-Err.is;
}

pub returns-in_default-clause-idle : goal.returns-in_default-clause-idle
returns-in_default-clause-idle g c is = (refl, refl)

pub returns-clause-lines : goal.returns-clause-lines
returns-clause-lines g c reads = record { b = c.serve.new.array; result = c.serve.result; is = ap ended_of (sym c.in-Err.is); exchange = c.serve.ensures.exchange }
