use Rattle.std.proofs.Common.{◌≡◌, Ok, Err, sym, ◌∙◌}
use Rattle.trap_mount.specs.declared.fault.MountFault.TheVariants.{NotAnArray}
use Rattle.trap_cli.proofs.Sends.{unsent_outcome, sent_outcome, sent_mounts}
use Rattle.trap_cli.proofs.sending.run_send.Goals as goal

pub returns-in-Ok : goal.returns-in-Ok
returns-in-Ok g c = record {
  outcome = λ from. sent_outcome c.args.seq (g.B.Bank.view c.args.bank.now) (g.B.Bank.view c.mount.new.bank) from
      c.mount.ensures.keeps.any_moment c.mount.ensures.sizes c.mount.ensures.keeps.contents c.mount.ensures.writes c.mount.ensures.keeps.lost
      (g.B.Bank.view c.say_frames.new.bank) c.in-Ok.array c.say_frames.result c.in-Ok.ensures.mounted.stands c.in-Ok.ensures.mounted.found
      c.in-Ok.ensures.mounted.index c.say_frames.ensures.disks
      (λ none. let both : Ok c.in-Ok.array ≡ Err NotAnArray = sym c.in-Ok.is ∙ (c.mount.ensures.no_log none).0 in cc)
      c.say_frames.ensures.steps c.say_frames.ensures.cause;
  mounted = λ is. sent_mounts g.B.Bank.view c.args.seq c.say_frames.result c.in-Ok.array c.args.bank.now c.mount.new.bank c.say_frames.new.bank
      (record { mounts = c.in-Ok.ensures.mounted; keeps = c.mount.ensures.keeps; writes = c.mount.ensures.writes; sizes = c.mount.ensures.sizes })
      c.say_frames.ensures.disks c.say_frames.ensures.steps c.say_frames.ensures.calls;
  untouched = λ none. let both : Ok c.in-Ok.array ≡ Err NotAnArray = sym c.in-Ok.is ∙ (c.mount.ensures.no_log none).0 in absurd (cc both);
}

pub returns-in-Err : goal.returns-in-Err
returns-in-Err g c = record {
  outcome = λ from. unsent_outcome c.args.seq (g.B.Bank.view c.args.bank.now) (g.B.Bank.view c.mount.new.bank) from
      c.mount.ensures.keeps.any_moment c.mount.ensures.sizes c.mount.ensures.keeps.contents c.mount.ensures.writes c.mount.ensures.keeps.lost
      c.in-Err.why
      (λ none. let both : Err c.in-Err.why ≡ Err NotAnArray = sym c.in-Err.is ∙ (c.mount.ensures.no_log none).0 in cc)
      c.in-Err.ensures.ended.cause
      c.in-Err.ensures.ended.nothing_written
      c.in-Err.ensures.ended.held;
  mounted = λ is. absurd (cc is);
  untouched = λ none. (c.mount.ensures.no_log none).1;
}
