use Rattle.std.proofs.Common.{refl}
use Rattle.trap_array.proofs.Asking.{bad_number}
use Rattle.trap_array.proofs.array.Array.at_seq.Goals as goal

pub returns-clause-answers : goal.returns-clause-answers
returns-clause-answers g c = c.at_instant.ensures.answers

pub returns-clause-calls : goal.returns-clause-calls
returns-clause-calls g c = c.at_instant.ensures.calls c.args.seq refl

pub returns-clause-causes : goal.returns-clause-causes
returns-clause-causes g c = c.at_instant.ensures.causes

pub returns-clause-bad : goal.returns-clause-bad
returns-clause-bad g c offset at told =
    bad_number c.args.self.now.g c.args.self.now.index c.args.block c.args.seq (g.B.Bank.view c.args.bank.now).now.disks offset (c.at_instant.ensures.bad offset at told)
