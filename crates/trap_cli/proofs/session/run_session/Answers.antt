use Rattle.std.proofs.Common.{◌≡◌, Ok, Err, sym, ap, ◌∙◌}
use Rattle.trap_mount.specs.declared.fault.MountFault.TheVariants.{NotAnArray}
use Rattle.trap_cli.specs.Session.{MountsArray}
use Rattle.trap_cli.proofs.Sessions.{unmounted_outcome, session_outcome, session_mounts}
use Rattle.trap_cli.proofs.session.run_session.Goals as goal

pub returns-in-Ok : goal.returns-in-Ok
returns-in-Ok g c =
    let view = g.B.Bank.view in
    let mounts : MountsArray c.in-Ok.array (view c.args.bank.now) (view c.mount.new.bank) = record {
      mounts = c.in-Ok.ensures.mounted;
      keeps = c.mount.ensures.keeps;
      writes = c.mount.ensures.writes;
      sizes = c.mount.ensures.sizes;
    } in
    record {
      outcome = session_outcome (view c.args.bank.now) (view c.mount.new.bank) (g.S.Source.stream c.args.source.now)
          c.mount.ensures.keeps.any_moment c.mount.ensures.sizes c.mount.ensures.keeps.contents c.mount.ensures.writes c.mount.ensures.keeps.lost
          (view c.answer_lines.new.bank) (g.S.Source.stream c.answer_lines.new.source) c.in-Ok.array c.answer_lines.result
          c.in-Ok.ensures.mounted.stands c.in-Ok.ensures.mounted.found c.in-Ok.ensures.mounted.index c.answer_lines.ensures.steps c.answer_lines.ensures.cause
          c.answer_lines.ensures.leaves.sizes c.answer_lines.ensures.leaves.changes c.answer_lines.ensures.leaves.held
          c.answer_lines.ensures.leaves.took
          (λ is. let idle = c.answer_lines.ensures.idle is in (ap (λ (bank : _). (view bank).now) idle.0, idle.1))
          c.answer_lines.ensures.leaves.bad c.in-Ok.ensures.mounted.running c.in-Ok.ensures.mounted.ready
          (λ none. let both : Ok c.in-Ok.array ≡ Err NotAnArray = sym c.in-Ok.is ∙ (c.mount.ensures.no_log none).0 in cc);
      lines = λ reads. record { a = c.in-Ok.array; mounted = c.mount.new.bank; mounts = mounts; lines = c.answer_lines.ensures.lines reads };
      mounted = session_mounts view c.in-Ok.array c.args.bank.now c.mount.new.bank c.answer_lines.new.bank c.answer_lines.result mounts
          (λ is. (c.answer_lines.ensures.idle is).0);
      untouched = λ none. let both : Ok c.in-Ok.array ≡ Err NotAnArray = sym c.in-Ok.is ∙ (c.mount.ensures.no_log none).0 in absurd (cc both);
    }

pub returns-in-Err : goal.returns-in-Err
returns-in-Err g c = record {
  outcome = unmounted_outcome (g.B.Bank.view c.args.bank.now) (g.B.Bank.view c.mount.new.bank) (g.S.Source.stream c.args.source.now)
      c.mount.ensures.keeps.any_moment c.mount.ensures.sizes c.mount.ensures.keeps.contents c.mount.ensures.writes c.mount.ensures.keeps.lost
      c.in-Err.why
      (λ none. let both : Err c.in-Err.why ≡ Err NotAnArray = sym c.in-Err.is ∙ (c.mount.ensures.no_log none).0 in cc)
      c.in-Err.ensures.ended.cause
      c.in-Err.ensures.ended.nothing_written
      c.in-Err.ensures.ended.held;
  lines = λ reads. absurd (cc reads);
  mounted = λ is. absurd (cc is);
  untouched = λ none. (c.mount.ensures.no_log none).1;
}
