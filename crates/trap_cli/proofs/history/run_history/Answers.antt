use Rattle.std.proofs.Common.{◌≡◌, Ok, Err, sym, ◌∙◌}
use Rattle.trap_mount.specs.declared.fault.MountFault.TheVariants.{NotAnArray}
use Rattle.trap_bank.specs.declared.disks.Failed.{Failed}
use Rattle.trap_cli.proofs.Histories.{unlisted_outcome, listed_outcome, cut_outcome, listed_mounts, cut_mounts}
use Rattle.trap_cli.proofs.history.run_history.Goals as goal

pub returns-in-Ok-say_lines : goal.returns-in-Ok-say_lines
returns-in-Ok-say_lines g c = record {
  outcome = λ from. listed_outcome (g.B.Bank.view c.args.bank.now) (g.B.Bank.view c.mount.new.bank) from
      c.mount.ensures.keeps.any_moment c.mount.ensures.sizes c.mount.ensures.keeps.contents c.mount.ensures.writes c.mount.ensures.keeps.lost
      (g.B.Bank.view c.say_lines.new.bank) c.in-Ok.array c.in-Ok.ensures.mounted.stands c.in-Ok.ensures.mounted.found c.say_lines.ensures.disks
      (λ none. let both : Ok c.in-Ok.array ≡ Err NotAnArray = sym c.in-Ok.is ∙ (c.mount.ensures.no_log none).0 in cc)
      _ Failed c.in-Ok-say_lines.field-0 c.in-Ok-say_lines.ensures.steps;
  mounted = λ is. listed_mounts _ Failed c.in-Ok-say_lines.field-0 g.B.Bank.view c.in-Ok.array c.args.bank.now c.mount.new.bank c.say_lines.new.bank
      (record { mounts = c.in-Ok.ensures.mounted; keeps = c.mount.ensures.keeps; writes = c.mount.ensures.writes; sizes = c.mount.ensures.sizes })
      c.say_lines.ensures.disks c.in-Ok-say_lines.ensures.steps c.say_lines.ensures.calls;
  untouched = λ none. let both : Ok c.in-Ok.array ≡ Err NotAnArray = sym c.in-Ok.is ∙ (c.mount.ensures.no_log none).0 in absurd (cc both);
}

pub returns-in-Ok : goal.returns-in-Ok
returns-in-Ok g c = record {
  outcome = λ from. cut_outcome (g.B.Bank.view c.args.bank.now) (g.B.Bank.view c.mount.new.bank) from
      c.mount.ensures.keeps.any_moment c.mount.ensures.sizes c.mount.ensures.keeps.contents c.mount.ensures.writes c.mount.ensures.keeps.lost
      (g.B.Bank.view c.say_lines.new.bank) c.in-Ok.array c.in-Ok.ensures.mounted.stands c.in-Ok.ensures.mounted.found c.say_lines.ensures.disks
      (λ none. let both : Ok c.in-Ok.array ≡ Err NotAnArray = sym c.in-Ok.is ∙ (c.mount.ensures.no_log none).0 in cc)
      (Unit {0}) Failed c.in-Err-say_lines.field-0 c.in-Err-say_lines.ensures.steps c.in-Err-say_lines.ensures.cause;
  mounted = λ is. cut_mounts (Unit {0}) Failed c.in-Err-say_lines.field-0 g.B.Bank.view c.in-Ok.array c.args.bank.now c.mount.new.bank c.say_lines.new.bank
      (record { mounts = c.in-Ok.ensures.mounted; keeps = c.mount.ensures.keeps; writes = c.mount.ensures.writes; sizes = c.mount.ensures.sizes })
      c.say_lines.ensures.disks c.in-Err-say_lines.ensures.steps c.say_lines.ensures.calls;
  untouched = λ none. let both : Ok c.in-Ok.array ≡ Err NotAnArray = sym c.in-Ok.is ∙ (c.mount.ensures.no_log none).0 in absurd (cc both);
}

pub returns : goal.returns
returns g c = record {
  outcome = λ from. unlisted_outcome (g.B.Bank.view c.args.bank.now) (g.B.Bank.view c.mount.new.bank) from
      c.mount.ensures.keeps.any_moment c.mount.ensures.sizes c.mount.ensures.keeps.contents c.mount.ensures.writes c.mount.ensures.keeps.lost
      c.in-Err.why
      (λ none. let both : Err c.in-Err.why ≡ Err NotAnArray = sym c.in-Err.is ∙ (c.mount.ensures.no_log none).0 in cc)
      c.in-Err.ensures.ended.cause
      c.in-Err.ensures.ended.nothing_written
      c.in-Err.ensures.ended.held;
  mounted = λ is. absurd (cc is);
  untouched = λ none. (c.mount.ensures.no_log none).1;
}
