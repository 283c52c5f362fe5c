use Rattle.std.proofs.Common.{◌++◌, take, append_assoc, sym, ap, ◌∙◌}
use Rattle.std.specs.Prelude.{codes, decimal}
use Rattle.trap_replica.specs.declared.fault.ReplicaFault.{ReplicaFault}
use Rattle.trap_cli.specs.Faults.{replica_text}
use Rattle.trap_cli.proofs.faults.put_replica.Goals as goal

pub returns-in-ShortImage-clause-so_far : goal.returns-in-ShortImage-clause-so_far
returns-in-ShortImage-clause-so_far c = c.put_word-in-ShortImage.ensures.so_far
    ∙ append_assoc (take c.args.at c.args.out.now) (codes "short image ") (decimal c.in-ShortImage.end)
    ∙ ap (λ (why : ReplicaFault). take c.args.at c.args.out.now ++ replica_text why) (sym c.in-ShortImage.is)
