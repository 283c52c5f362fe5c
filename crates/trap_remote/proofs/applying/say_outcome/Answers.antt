use Rattle.std.proofs.Common.{Result, sym, ap, subst, ◌∙◌}
use Rattle.trap_bank.specs.declared.disks.Failed.{Failed}
use Rattle.trap_apply.specs.Summary.{summary_line}
use Rattle.trap_remote.specs.Running.{SaysOutcome, end_after_line}
use Rattle.trap_remote.specs.declared.outcome.ReplicaEnd.{ReplicaEnd}
use Rattle.trap_remote.proofs.Applies.{line_said}
use Rattle.trap_remote.proofs.applying.say_outcome.Goals as goal

pub returns-in-Ok : goal.returns-in-Ok
returns-in-Ok g c = subst (λ (ended : ReplicaEnd). SaysOutcome g.B.Bank.view c.args.outcome.now ended c.args.bank.now c.say_summary.new.bank)
    (ap (λ (result : Result (Unit {0}) Failed). end_after_line c.args.outcome.now.fault result) c.in-Ok.is ∙ sym c.end_of-in-Ok.ensures)
    (line_said g.B.Bank.view (summary_line c.args.outcome.now.summary) c.args.outcome.now.fault c.say_summary.result c.args.bank.now c.say_summary.new.bank
    (sym c.is_unsaid.ensures ∙ c.if-is_unsaid.false) c.say_summary.ensures)

pub returns-in-Err : goal.returns-in-Err
returns-in-Err g c = subst (λ (ended : ReplicaEnd). SaysOutcome g.B.Bank.view c.args.outcome.now ended c.args.bank.now c.say_summary.new.bank)
    (ap (λ (result : Result (Unit {0}) Failed). end_after_line c.args.outcome.now.fault result) c.in-Err.is)
    (line_said g.B.Bank.view (summary_line c.args.outcome.now.summary) c.args.outcome.now.fault c.say_summary.result c.args.bank.now c.say_summary.new.bank
    (sym c.is_unsaid.ensures ∙ c.if-is_unsaid.false) c.say_summary.ensures)
