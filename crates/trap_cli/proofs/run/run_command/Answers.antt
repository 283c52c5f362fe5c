use Rattle.std.proofs.Common.{◌≡◌, Option, Some, true, sym, ap, subst, ◌∙◌}
use Rattle.trap_cli.specs.declared.command.Command.{Command}
use Rattle.trap_cli.specs.declared.outcome.Ended.TheVariants.{Usage, Replica}
use Rattle.trap_cli.specs.Run.{CommandOutcome, IsUncalled, only_mounts}
use Rattle.trap_cli.specs.Session.{MountsOnly}
use Rattle.trap_cli.specs.ReplicaRuns.{ReplicaGoes, ReplicaCompletes}
use Rattle.trap_cli.proofs.Replicas.{create_outcome, load_outcome, apply_outcome, export_outcome}
use Rattle.trap_cli.proofs.Running.{no_command}
use Rattle.trap_cli.proofs.run.run_command.Goals as goal

pub returns-in-Some-Create-clause-outcome : goal.returns-in-Some-Create-clause-outcome
returns-in-Some-Create-clause-outcome g c =
    let from = g.S.Source.stream c.args.source.now in
    subst (λ (command : Option Command). CommandOutcome command c.run_create.result (g.B.Bank.view c.args.bank.now) (g.B.Bank.view c.run_create.new.bank) from from)
    (sym (c.in-Some-Create.is ∙ ap {B = Option Command} Some (rw c.in-Some-Create.is at c.in-Some-Create.field-0-is))) (c.run_create.ensures.outcome from)

pub returns-in-Some-History-clause-outcome : goal.returns-in-Some-History-clause-outcome
returns-in-Some-History-clause-outcome g c =
    let from = g.S.Source.stream c.args.source.now in
    subst (λ (command : Option Command). CommandOutcome command c.run_history.result (g.B.Bank.view c.args.bank.now) (g.B.Bank.view c.run_history.new.bank) from from)
    (sym (c.in-Some-History.is ∙ ap {B = Option Command} Some (rw c.in-Some-History.is at c.in-Some-History.field-0-is))) (c.run_history.ensures.outcome from)

pub returns-in-Some-History-clause-mounted : goal.returns-in-Some-History-clause-mounted
returns-in-Some-History-clause-mounted g c =
    subst (λ (command : Option Command). only_mounts command c.run_history.result ≡ true → MountsOnly g.B.Bank.view command c.run_history.result c.args.bank.now c.run_history.new.bank)
    (sym (c.in-Some-History.is ∙ ap {B = Option Command} Some (rw c.in-Some-History.is at c.in-Some-History.field-0-is))) c.run_history.ensures.mounted

pub returns-in-Some-Send-clause-outcome : goal.returns-in-Some-Send-clause-outcome
returns-in-Some-Send-clause-outcome g c =
    let from = g.S.Source.stream c.args.source.now in
    subst (λ (command : Option Command). CommandOutcome command c.run_send.result (g.B.Bank.view c.args.bank.now) (g.B.Bank.view c.run_send.new.bank) from from)
    (sym (c.in-Some-Send.is ∙ ap {B = Option Command} Some (rw c.in-Some-Send.is at c.in-Some-Send.field-0-is))) (c.run_send.ensures.outcome from)

pub returns-in-Some-Send-clause-mounted : goal.returns-in-Some-Send-clause-mounted
returns-in-Some-Send-clause-mounted g c =
    subst (λ (command : Option Command). only_mounts command c.run_send.result ≡ true → MountsOnly g.B.Bank.view command c.run_send.result c.args.bank.now c.run_send.new.bank)
    (sym (c.in-Some-Send.is ∙ ap {B = Option Command} Some (rw c.in-Some-Send.is at c.in-Some-Send.field-0-is))) c.run_send.ensures.mounted

pub returns-in-None-clause-outcome : goal.returns-in-None-clause-outcome
returns-in-None-clause-outcome g c =
    let from = g.S.Source.stream c.args.source.now in
    subst (λ (command : Option Command). CommandOutcome command Usage (g.B.Bank.view c.args.bank.now) (g.B.Bank.view c.args.bank.now) from from)
    (sym c.in-None.is) (no_command (g.B.Bank.view c.args.bank.now) from)

pub returns-in-Some-ReplicaCreate-clause-outcome : goal.returns-in-Some-ReplicaCreate-clause-outcome
returns-in-Some-ReplicaCreate-clause-outcome g c =
    subst (λ (command : Option Command). CommandOutcome command (Replica c.create_replica.result) (g.B.Bank.view c.args.bank.now) (g.B.Bank.view c.create_replica.new.bank) (g.S.Source.stream c.args.source.now) (g.S.Source.stream c.args.source.now))
    (sym (c.in-Some-ReplicaCreate.is ∙ ap {B = Option Command} Some (rw c.in-Some-ReplicaCreate.is at c.in-Some-ReplicaCreate.field-0-is)))
    (create_outcome _ (g.B.Bank.view c.args.bank.now) (g.met.B.Bank.lawful c.args.bank.now) (g.B.Bank.view c.create_replica.new.bank) (g.S.Source.stream c.args.source.now) c.create_replica.result c.create_replica.ensures.outcome)

pub returns-in-Some-ReplicaCreate-clause-completes : goal.returns-in-Some-ReplicaCreate-clause-completes
returns-in-Some-ReplicaCreate-clause-completes g c =
    subst (λ (command : Option Command). ReplicaCompletes command (Replica c.create_replica.result) (g.B.Bank.view c.args.bank.now) (g.B.Bank.view c.create_replica.new.bank) (g.S.Source.stream c.args.source.now) (g.S.Source.stream c.args.source.now))
    (sym (c.in-Some-ReplicaCreate.is ∙ ap {B = Option Command} Some (rw c.in-Some-ReplicaCreate.is at c.in-Some-ReplicaCreate.field-0-is)))
    c.create_replica.ensures.outcome.completes

pub returns-in-Some-ReplicaCreate-clause-replica : goal.returns-in-Some-ReplicaCreate-clause-replica
returns-in-Some-ReplicaCreate-clause-replica g c =
    subst (λ (command : Option Command). ReplicaGoes g.B.Bank.view command (Replica c.create_replica.result) c.args.bank.now c.create_replica.new.bank (g.S.Source.stream c.args.source.now) (g.S.Source.stream c.args.source.now))
    (sym (c.in-Some-ReplicaCreate.is ∙ ap {B = Option Command} Some (rw c.in-Some-ReplicaCreate.is at c.in-Some-ReplicaCreate.field-0-is)))
    c.create_replica.ensures.outcome.calls

pub returns-in-Some-ReplicaLoad-clause-outcome : goal.returns-in-Some-ReplicaLoad-clause-outcome
returns-in-Some-ReplicaLoad-clause-outcome g c =
    subst (λ (command : Option Command). CommandOutcome command (Replica c.load_replica.result) (g.B.Bank.view c.args.bank.now) (g.B.Bank.view c.load_replica.new.bank) (g.S.Source.stream c.args.source.now) (g.S.Source.stream c.load_replica.new.source))
    (sym (c.in-Some-ReplicaLoad.is ∙ ap {B = Option Command} Some (rw c.in-Some-ReplicaLoad.is at c.in-Some-ReplicaLoad.field-0-is)))
    (load_outcome _ _ (g.B.Bank.view c.args.bank.now) (g.B.Bank.view c.load_replica.new.bank) (g.S.Source.stream c.args.source.now) (g.S.Source.stream c.load_replica.new.source) c.load_replica.result (g.met.B.Bank.lawful c.args.bank.now) c.load_replica.ensures.outcome)

pub returns-in-Some-ReplicaLoad-clause-completes : goal.returns-in-Some-ReplicaLoad-clause-completes
returns-in-Some-ReplicaLoad-clause-completes g c =
    subst (λ (command : Option Command). ReplicaCompletes command (Replica c.load_replica.result) (g.B.Bank.view c.args.bank.now) (g.B.Bank.view c.load_replica.new.bank) (g.S.Source.stream c.args.source.now) (g.S.Source.stream c.load_replica.new.source))
    (sym (c.in-Some-ReplicaLoad.is ∙ ap {B = Option Command} Some (rw c.in-Some-ReplicaLoad.is at c.in-Some-ReplicaLoad.field-0-is)))
    c.load_replica.ensures.outcome.completes

pub returns-in-Some-ReplicaLoad-clause-replica : goal.returns-in-Some-ReplicaLoad-clause-replica
returns-in-Some-ReplicaLoad-clause-replica g c =
    subst (λ (command : Option Command). ReplicaGoes g.B.Bank.view command (Replica c.load_replica.result) c.args.bank.now c.load_replica.new.bank (g.S.Source.stream c.args.source.now) (g.S.Source.stream c.load_replica.new.source))
    (sym (c.in-Some-ReplicaLoad.is ∙ ap {B = Option Command} Some (rw c.in-Some-ReplicaLoad.is at c.in-Some-ReplicaLoad.field-0-is)))
    (c.load_replica.ensures.outcome.calls, c.load_replica.ensures.outcome.taken)

pub returns-in-Some-Apply-clause-outcome : goal.returns-in-Some-Apply-clause-outcome
returns-in-Some-Apply-clause-outcome g c =
    subst (λ (command : Option Command). CommandOutcome command (Replica c.apply_frames.result) (g.B.Bank.view c.args.bank.now) (g.B.Bank.view c.apply_frames.new.bank) (g.S.Source.stream c.args.source.now) (g.S.Source.stream c.apply_frames.new.source))
    (sym (c.in-Some-Apply.is ∙ ap {B = Option Command} Some (rw c.in-Some-Apply.is at c.in-Some-Apply.field-0-is)))
    (apply_outcome (g.B.Bank.view c.args.bank.now) (g.B.Bank.view c.apply_frames.new.bank) (g.S.Source.stream c.args.source.now) (g.S.Source.stream c.apply_frames.new.source) c.apply_frames.result c.apply_frames.ensures.outcome)

pub returns-in-Some-Apply-clause-completes : goal.returns-in-Some-Apply-clause-completes
returns-in-Some-Apply-clause-completes g c =
    subst (λ (command : Option Command). ReplicaCompletes command (Replica c.apply_frames.result) (g.B.Bank.view c.args.bank.now) (g.B.Bank.view c.apply_frames.new.bank) (g.S.Source.stream c.args.source.now) (g.S.Source.stream c.apply_frames.new.source))
    (sym (c.in-Some-Apply.is ∙ ap {B = Option Command} Some (rw c.in-Some-Apply.is at c.in-Some-Apply.field-0-is)))
    c.apply_frames.ensures.outcome.completes

pub returns-in-Some-Apply-clause-replica : goal.returns-in-Some-Apply-clause-replica
returns-in-Some-Apply-clause-replica g c =
    subst (λ (command : Option Command). ReplicaGoes g.B.Bank.view command (Replica c.apply_frames.result) c.args.bank.now c.apply_frames.new.bank (g.S.Source.stream c.args.source.now) (g.S.Source.stream c.apply_frames.new.source))
    (sym (c.in-Some-Apply.is ∙ ap {B = Option Command} Some (rw c.in-Some-Apply.is at c.in-Some-Apply.field-0-is)))
    (c.apply_frames.ensures.goes, c.apply_frames.ensures.outcome.calls)

pub returns-in-Some-ReplicaExport-clause-outcome : goal.returns-in-Some-ReplicaExport-clause-outcome
returns-in-Some-ReplicaExport-clause-outcome g c =
    subst (λ (command : Option Command). CommandOutcome command (Replica c.export_replica.result) (g.B.Bank.view c.args.bank.now) (g.B.Bank.view c.export_replica.new.bank) (g.S.Source.stream c.args.source.now) (g.S.Source.stream c.args.source.now))
    (sym (c.in-Some-ReplicaExport.is ∙ ap {B = Option Command} Some (rw c.in-Some-ReplicaExport.is at c.in-Some-ReplicaExport.field-0-is)))
    (export_outcome (g.B.Bank.view c.args.bank.now) (g.B.Bank.view c.export_replica.new.bank) (g.S.Source.stream c.args.source.now) c.export_replica.result c.export_replica.ensures.outcome)

pub returns-in-Some-ReplicaExport-clause-completes : goal.returns-in-Some-ReplicaExport-clause-completes
returns-in-Some-ReplicaExport-clause-completes g c =
    subst (λ (command : Option Command). ReplicaCompletes command (Replica c.export_replica.result) (g.B.Bank.view c.args.bank.now) (g.B.Bank.view c.export_replica.new.bank) (g.S.Source.stream c.args.source.now) (g.S.Source.stream c.args.source.now))
    (sym (c.in-Some-ReplicaExport.is ∙ ap {B = Option Command} Some (rw c.in-Some-ReplicaExport.is at c.in-Some-ReplicaExport.field-0-is)))
    c.export_replica.ensures.outcome.completes

pub returns-in-Some-ReplicaExport-clause-replica : goal.returns-in-Some-ReplicaExport-clause-replica
returns-in-Some-ReplicaExport-clause-replica g c =
    subst (λ (command : Option Command). ReplicaGoes g.B.Bank.view command (Replica c.export_replica.result) c.args.bank.now c.export_replica.new.bank (g.S.Source.stream c.args.source.now) (g.S.Source.stream c.args.source.now))
    (sym (c.in-Some-ReplicaExport.is ∙ ap {B = Option Command} Some (rw c.in-Some-ReplicaExport.is at c.in-Some-ReplicaExport.field-0-is)))
    (c.export_replica.ensures.goes, c.export_replica.ensures.outcome.calls)

pub returns-in-Some-Create-clause-completes : goal.returns-in-Some-Create-clause-completes
returns-in-Some-Create-clause-completes g c =
    subst (λ (command : Option Command). ReplicaCompletes command c.run_create.result (g.B.Bank.view c.args.bank.now) (g.B.Bank.view c.run_create.new.bank) (g.S.Source.stream c.args.source.now) (g.S.Source.stream c.args.source.now))
    (sym (c.in-Some-Create.is ∙ ap {B = Option Command} Some (rw c.in-Some-Create.is at c.in-Some-Create.field-0-is))) tt

pub returns-in-Some-Create-clause-replica : goal.returns-in-Some-Create-clause-replica
returns-in-Some-Create-clause-replica g c =
    subst (λ (command : Option Command). ReplicaGoes g.B.Bank.view command c.run_create.result c.args.bank.now c.run_create.new.bank (g.S.Source.stream c.args.source.now) (g.S.Source.stream c.args.source.now))
    (sym (c.in-Some-Create.is ∙ ap {B = Option Command} Some (rw c.in-Some-Create.is at c.in-Some-Create.field-0-is))) tt

pub returns-in-Some-Session-clause-completes : goal.returns-in-Some-Session-clause-completes
returns-in-Some-Session-clause-completes g c =
    subst (λ (command : Option Command). ReplicaCompletes command c.run_session.result (g.B.Bank.view c.args.bank.now) (g.B.Bank.view c.run_session.new.bank) (g.S.Source.stream c.args.source.now) (g.S.Source.stream c.run_session.new.source))
    (sym (c.in-Some-Session.is ∙ ap {B = Option Command} Some (rw c.in-Some-Session.is at c.in-Some-Session.field-0-is))) tt

pub returns-in-Some-Session-clause-replica : goal.returns-in-Some-Session-clause-replica
returns-in-Some-Session-clause-replica g c =
    subst (λ (command : Option Command). ReplicaGoes g.B.Bank.view command c.run_session.result c.args.bank.now c.run_session.new.bank (g.S.Source.stream c.args.source.now) (g.S.Source.stream c.run_session.new.source))
    (sym (c.in-Some-Session.is ∙ ap {B = Option Command} Some (rw c.in-Some-Session.is at c.in-Some-Session.field-0-is))) tt

pub returns-in-Some-History-clause-completes : goal.returns-in-Some-History-clause-completes
returns-in-Some-History-clause-completes g c =
    subst (λ (command : Option Command). ReplicaCompletes command c.run_history.result (g.B.Bank.view c.args.bank.now) (g.B.Bank.view c.run_history.new.bank) (g.S.Source.stream c.args.source.now) (g.S.Source.stream c.args.source.now))
    (sym (c.in-Some-History.is ∙ ap {B = Option Command} Some (rw c.in-Some-History.is at c.in-Some-History.field-0-is))) tt

pub returns-in-Some-History-clause-replica : goal.returns-in-Some-History-clause-replica
returns-in-Some-History-clause-replica g c =
    subst (λ (command : Option Command). ReplicaGoes g.B.Bank.view command c.run_history.result c.args.bank.now c.run_history.new.bank (g.S.Source.stream c.args.source.now) (g.S.Source.stream c.args.source.now))
    (sym (c.in-Some-History.is ∙ ap {B = Option Command} Some (rw c.in-Some-History.is at c.in-Some-History.field-0-is))) tt

pub returns-in-Some-Send-clause-completes : goal.returns-in-Some-Send-clause-completes
returns-in-Some-Send-clause-completes g c =
    subst (λ (command : Option Command). ReplicaCompletes command c.run_send.result (g.B.Bank.view c.args.bank.now) (g.B.Bank.view c.run_send.new.bank) (g.S.Source.stream c.args.source.now) (g.S.Source.stream c.args.source.now))
    (sym (c.in-Some-Send.is ∙ ap {B = Option Command} Some (rw c.in-Some-Send.is at c.in-Some-Send.field-0-is))) tt

pub returns-in-Some-Send-clause-replica : goal.returns-in-Some-Send-clause-replica
returns-in-Some-Send-clause-replica g c =
    subst (λ (command : Option Command). ReplicaGoes g.B.Bank.view command c.run_send.result c.args.bank.now c.run_send.new.bank (g.S.Source.stream c.args.source.now) (g.S.Source.stream c.args.source.now))
    (sym (c.in-Some-Send.is ∙ ap {B = Option Command} Some (rw c.in-Some-Send.is at c.in-Some-Send.field-0-is))) tt

pub returns-in-None-clause-completes : goal.returns-in-None-clause-completes
returns-in-None-clause-completes g c =
    subst (λ (command : Option Command). ReplicaCompletes command Usage (g.B.Bank.view c.args.bank.now) (g.B.Bank.view c.args.bank.now) (g.S.Source.stream c.args.source.now) (g.S.Source.stream c.args.source.now)) (sym c.in-None.is) tt

pub returns-in-None-clause-replica : goal.returns-in-None-clause-replica
returns-in-None-clause-replica g c =
    subst (λ (command : Option Command). ReplicaGoes g.B.Bank.view command Usage c.args.bank.now c.args.bank.now (g.S.Source.stream c.args.source.now) (g.S.Source.stream c.args.source.now)) (sym c.in-None.is) tt

pub returns-in-Some-Create-clause-untouched : goal.returns-in-Some-Create-clause-untouched
returns-in-Some-Create-clause-untouched g c =
    subst (λ (command : Option Command). IsUncalled command c.run_create.result (g.B.Bank.view c.args.bank.now) → c.run_create.new.bank ≡ c.args.bank.now)
    (sym (c.in-Some-Create.is ∙ ap {B = Option Command} Some (rw c.in-Some-Create.is at c.in-Some-Create.field-0-is))) c.run_create.ensures.untouched

pub returns-in-Some-Session-clause-untouched : goal.returns-in-Some-Session-clause-untouched
returns-in-Some-Session-clause-untouched g c =
    subst (λ (command : Option Command). IsUncalled command c.run_session.result (g.B.Bank.view c.args.bank.now) → c.run_session.new.bank ≡ c.args.bank.now)
    (sym (c.in-Some-Session.is ∙ ap {B = Option Command} Some (rw c.in-Some-Session.is at c.in-Some-Session.field-0-is))) c.run_session.ensures.untouched

pub returns-in-Some-History-clause-untouched : goal.returns-in-Some-History-clause-untouched
returns-in-Some-History-clause-untouched g c =
    subst (λ (command : Option Command). IsUncalled command c.run_history.result (g.B.Bank.view c.args.bank.now) → c.run_history.new.bank ≡ c.args.bank.now)
    (sym (c.in-Some-History.is ∙ ap {B = Option Command} Some (rw c.in-Some-History.is at c.in-Some-History.field-0-is))) c.run_history.ensures.untouched

pub returns-in-Some-Send-clause-untouched : goal.returns-in-Some-Send-clause-untouched
returns-in-Some-Send-clause-untouched g c =
    subst (λ (command : Option Command). IsUncalled command c.run_send.result (g.B.Bank.view c.args.bank.now) → c.run_send.new.bank ≡ c.args.bank.now)
    (sym (c.in-Some-Send.is ∙ ap {B = Option Command} Some (rw c.in-Some-Send.is at c.in-Some-Send.field-0-is))) c.run_send.ensures.untouched

pub returns-in-Some-ReplicaCreate-clause-untouched : goal.returns-in-Some-ReplicaCreate-clause-untouched
returns-in-Some-ReplicaCreate-clause-untouched g c =
    subst (λ (command : Option Command). IsUncalled command (Replica c.create_replica.result) (g.B.Bank.view c.args.bank.now) → c.create_replica.new.bank ≡ c.args.bank.now)
    (sym (c.in-Some-ReplicaCreate.is ∙ ap {B = Option Command} Some (rw c.in-Some-ReplicaCreate.is at c.in-Some-ReplicaCreate.field-0-is))) c.create_replica.ensures.untouched

pub returns-in-Some-ReplicaLoad-clause-untouched : goal.returns-in-Some-ReplicaLoad-clause-untouched
returns-in-Some-ReplicaLoad-clause-untouched g c =
    subst (λ (command : Option Command). IsUncalled command (Replica c.load_replica.result) (g.B.Bank.view c.args.bank.now) → c.load_replica.new.bank ≡ c.args.bank.now)
    (sym (c.in-Some-ReplicaLoad.is ∙ ap {B = Option Command} Some (rw c.in-Some-ReplicaLoad.is at c.in-Some-ReplicaLoad.field-0-is))) (λ is. (c.load_replica.ensures.untouched is).0)

pub returns-in-Some-Apply-clause-untouched : goal.returns-in-Some-Apply-clause-untouched
returns-in-Some-Apply-clause-untouched g c =
    subst (λ (command : Option Command). IsUncalled command (Replica c.apply_frames.result) (g.B.Bank.view c.args.bank.now) → c.apply_frames.new.bank ≡ c.args.bank.now)
    (sym (c.in-Some-Apply.is ∙ ap {B = Option Command} Some (rw c.in-Some-Apply.is at c.in-Some-Apply.field-0-is))) c.apply_frames.ensures.untouched

pub returns-in-Some-ReplicaExport-clause-untouched : goal.returns-in-Some-ReplicaExport-clause-untouched
returns-in-Some-ReplicaExport-clause-untouched g c =
    subst (λ (command : Option Command). IsUncalled command (Replica c.export_replica.result) (g.B.Bank.view c.args.bank.now) → c.export_replica.new.bank ≡ c.args.bank.now)
    (sym (c.in-Some-ReplicaExport.is ∙ ap {B = Option Command} Some (rw c.in-Some-ReplicaExport.is at c.in-Some-ReplicaExport.field-0-is))) c.export_replica.ensures.untouched
