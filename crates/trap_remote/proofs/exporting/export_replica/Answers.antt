use Rattle.std.proofs.Common.{◌≡◌, Ok, Err, sym, ap, ◌∙◌}
use Rattle.trap_replica.specs.declared.fault.ReplicaFault.TheVariants.{NotAReplica}
use Rattle.trap_remote.proofs.Exports.{unmounted_outcome, mounted_outcome, export_goes}
use Rattle.trap_remote.proofs.exporting.export_replica.Goals as goal

pub returns-in-Ok : goal.returns-in-Ok
returns-in-Ok g c = record {
  outcome = mounted_outcome c.in-Ok.replica (g.B.Bank.view c.args.bank.now) (g.B.Bank.view c.mount.new.bank) c.in-Ok.ensures.ok c.mount.ensures.any_moment
      (λ small. let both : Ok c.in-Ok.replica ≡ Err NotAReplica = sym c.in-Ok.is ∙ (c.mount.ensures.absent small).0 in cc) c.in-Ok.ensures.calls.ok
      (g.B.Bank.view c.say_image.new.bank) c.say_image.result (λ is. ap g.B.Bank.view (c.say_image.ensures.idle is)) c.say_image.ensures.says;
  goes = export_goes g.B.Bank.view c.in-Ok.replica c.say_image.result c.args.bank.now c.mount.new.bank c.say_image.new.bank c.in-Ok.ensures.ok c.mount.ensures.any_moment
      c.in-Ok.ensures.calls.ok c.say_image.ensures.says;
  untouched = λ small. let both : Ok c.in-Ok.replica ≡ Err NotAReplica = sym c.in-Ok.is ∙ (c.mount.ensures.absent small).0 in absurd (cc both);
}

pub returns-in-Err : goal.returns-in-Err
returns-in-Err g c = record {
  outcome = unmounted_outcome (g.B.Bank.view c.args.bank.now) (g.B.Bank.view c.mount.new.bank) c.mount.ensures.any_moment c.in-Err.why c.in-Err.ensures.kinds
      (λ small. let both : ◌≡◌ (Err c.in-Err.why) (Err NotAReplica) = sym c.in-Err.is ∙ (c.mount.ensures.absent small).0 in cc)
      c.in-Err.ensures.refused (λ is. c.mount.ensures.cause (c.in-Err.is ∙ ap Err is)) c.mount.ensures.calls.most;
  goes = λ is. absurd (cc);
  untouched = λ small. (c.mount.ensures.absent small).1;
}
