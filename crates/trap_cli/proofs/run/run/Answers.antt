use Rattle.std.proofs.Common.{Option, IsTrue, sym, subst}
use Rattle.trap_cli.specs.declared.command.Command.{Command}
use Rattle.trap_cli.specs.Ended.{last_line}
use Rattle.trap_cli.specs.Crash.{CommandLeaves}
use Rattle.trap_cli.specs.Run.{RunOutcome}
use Rattle.trap_cli.specs.Completes.{Completes}
use Rattle.trap_cli.specs.Frame.{Frames}
use Rattle.trap_cli.proofs.Words.{one_command}
use Rattle.trap_cli.proofs.Saying.{spoken_once}
use Rattle.trap_cli.proofs.Running.{run_ends, run_frame, run_held, run_crash, usage_exact}
use Rattle.trap_cli.proofs.Completing.{run_completes}
use Rattle.trap_cli.proofs.run.run.Goals as goal

pub returns-clause-runs : goal.returns-clause-runs
returns-clause-runs g c command is =
    let view = g.B.Bank.view in
    let from = g.S.Source.stream c.args.source.now in
    let to = g.S.Source.stream c.run_command-ended.new.source in
    let done = c.run_command-ended.new.bank in
    let ended = c.run_command-ended.result in
    let spoken = spoken_once view (last_line ended) done c.say_last.new.bank c.say_last.ensures.said in
    subst (λ (command : Option Command). RunOutcome view c.status.result command c.args.bank.now c.say_last.new.bank from to)
    (one_command c.args.words.now c.read_command-command.result command c.read_command-command.ensures is)
    (record {
      ended = ended;
      ends = run_ends c.read_command-command.result ended (view c.args.bank.now) (view done) (view c.say_last.new.bank) from to
          c.run_command-ended.ensures.outcome spoken c.status.result c.status.ensures;
      lines = λ reads. record { answered = done; lines = c.run_command-ended.ensures.lines reads; said = c.say_last.ensures.said };
      mounted = λ is. record { done = done; only = c.run_command-ended.ensures.mounted is; said = c.say_last.ensures.said };
      replica = record { done = done; goes = c.run_command-ended.ensures.replica; said = c.say_last.ensures.said };
      says = record { done = done; outcome = c.run_command-ended.ensures.outcome; untouched = c.run_command-ended.ensures.untouched; said = c.say_last.ensures.said };
    })

pub returns-clause-usage : goal.returns-clause-usage
returns-clause-usage g c =
    let view = g.B.Bank.view in
    let stream = g.S.Source.stream in
    usage_exact c.status.result c.args.words.now c.read_command-command.result c.run_command-ended.result (view c.args.bank.now)
    (view c.run_command-ended.new.bank) (stream c.args.source.now) (stream c.run_command-ended.new.source)
    c.read_command-command.ensures c.status.ensures c.run_command-ended.ensures.outcome.cause

pub returns-clause-frame : goal.returns-clause-frame
returns-clause-frame g c command is =
    let view = g.B.Bank.view in
    let stream = g.S.Source.stream in
    let done = c.run_command-ended.new.bank in
    let ended = c.run_command-ended.result in
    subst (λ (command : Option Command). Frames command (view c.args.bank.now) (view c.say_last.new.bank))
    (one_command c.args.words.now c.read_command-command.result command c.read_command-command.ensures is)
    (run_frame c.read_command-command.result ended (view c.args.bank.now) (view done) (view c.say_last.new.bank)
    (stream c.args.source.now) (stream c.run_command-ended.new.source) c.run_command-ended.ensures.outcome
    (spoken_once view (last_line ended) done c.say_last.new.bank c.say_last.ensures.said))

pub returns-clause-completes : goal.returns-clause-completes
returns-clause-completes g c command is =
    let view = g.B.Bank.view in
    let stream = g.S.Source.stream in
    let asked = c.read_command-command.result in
    let ended = c.run_command-ended.result in
    let old = view c.args.bank.now in
    let mid = view c.run_command-ended.new.bank in
    let new = view c.say_last.new.bank in
    let from = stream c.args.source.now in
    let to = stream c.run_command-ended.new.source in
    let spoken = spoken_once view (last_line ended) c.run_command-ended.new.bank c.say_last.new.bank c.say_last.ensures.said in
    subst (λ (command : Option Command). Completes c.status.result command old new from to)
    (one_command c.args.words.now asked command c.read_command-command.ensures is)
    (run_completes c.status.result asked old new from to (g.met.B.Bank.lawful c.args.bank.now) ended
    (run_ends asked ended old mid new from to c.run_command-ended.ensures.outcome spoken c.status.result c.status.ensures)
    mid c.run_command-ended.ensures.completes (record { faults = spoken.steps.faults; port = spoken.steps.port_faults; sizes = spoken.sizes })
    (λ told. spoken.last (subst IsTrue (sym c.run_command-ended.ensures.outcome.steps.tells) told)))

pub returns-clause-held : goal.returns-clause-held
returns-clause-held g c =
    let view = g.B.Bank.view in
    let stream = g.S.Source.stream in
    let done = c.run_command-ended.new.bank in
    let ended = c.run_command-ended.result in
    run_held c.read_command-command.result ended (view c.args.bank.now) (view done) (view c.say_last.new.bank)
    (stream c.args.source.now) (stream c.run_command-ended.new.source) c.run_command-ended.ensures.outcome
    (spoken_once view (last_line ended) done c.say_last.new.bank c.say_last.ensures.said)

pub returns-clause-any_moment : goal.returns-clause-any_moment
returns-clause-any_moment g c command is =
    let view = g.B.Bank.view in
    let from = g.S.Source.stream c.args.source.now in
    let done = c.run_command-ended.new.bank in
    let ended = c.run_command-ended.result in
    let old = view c.args.bank.now in
    subst (λ (command : Option Command). (w : _) → (view c.say_last.new.bank).left old.moment w → CommandLeaves command old from old.now.said w)
    (one_command c.args.words.now c.read_command-command.result command c.read_command-command.ensures is)
    (run_crash c.read_command-command.result ended old (view done) (view c.say_last.new.bank) from
    (g.S.Source.stream c.run_command-ended.new.source) c.run_command-ended.ensures.outcome
    (spoken_once view (last_line ended) done c.say_last.new.bank c.say_last.ensures.said) (g.met.B.Bank.lawful c.args.bank.now))
