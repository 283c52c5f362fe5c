use Rattle.std.proofs.Common.{◌≡◌, Ok, Err, refl, sym, ap, ◌∙◌}
use Rattle.trap_replica.specs.declared.fault.ReplicaFault.TheVariants.{NotAReplica}
use Rattle.trap_remote.proofs.Applies.{unmounted_applies, mounted_applies, apply_goes}
use Rattle.trap_remote.proofs.applying.apply_frames.Goals as goal

pub returns-in-Ok : goal.returns-in-Ok
returns-in-Ok g c = record {
  outcome = mounted_applies c.in-Ok.replica (g.B.Bank.view c.args.bank.now) (g.B.Bank.view c.mount.new.bank) c.in-Ok.ensures.ok c.mount.ensures.any_moment
      (λ small. let both : Ok c.in-Ok.replica ≡ Err NotAReplica = sym c.in-Ok.is ∙ (c.mount.ensures.absent small).0 in cc) c.in-Ok.ensures.calls.ok
      g.B.Bank.view c.take_frames.result c.mount.new.bank c.take_frames.new.bank (g.S.Source.stream c.args.source.now) (g.S.Source.stream c.take_frames.new.source) refl
      c.take_frames.ensures.idle c.take_frames.ensures.takes;
  goes = apply_goes g.B.Bank.view c.in-Ok.replica c.take_frames.result c.args.bank.now c.mount.new.bank c.take_frames.new.bank (g.S.Source.stream c.args.source.now)
      (g.S.Source.stream c.take_frames.new.source) c.in-Ok.ensures.ok c.mount.ensures.any_moment c.in-Ok.ensures.calls.ok c.take_frames.ensures.takes;
  untouched = λ small. let both : Ok c.in-Ok.replica ≡ Err NotAReplica = sym c.in-Ok.is ∙ (c.mount.ensures.absent small).0 in absurd (cc both);
}

pub returns-in-Err : goal.returns-in-Err
returns-in-Err g c = record {
  outcome = unmounted_applies (g.B.Bank.view c.args.bank.now) (g.B.Bank.view c.mount.new.bank) (g.S.Source.stream c.args.source.now) c.mount.ensures.any_moment c.in-Err.why c.in-Err.ensures.kinds
      (λ small. let both : Err c.in-Err.why ≡ Err NotAReplica = sym c.in-Err.is ∙ (c.mount.ensures.absent small).0 in cc)
      c.in-Err.ensures.refused (λ is. c.mount.ensures.cause (c.in-Err.is ∙ ap Err is)) c.mount.ensures.calls.most;
  goes = λ is. absurd (cc);
  untouched = λ small. (c.mount.ensures.absent small).1;
}
