use Rattle.trap_bank.proofs.OnlyReads.{reads_then}
use Rattle.trap_mount.proofs.MountReads.{cause_before}
use Rattle.trap_mount.proofs.MountHistory.{exit, stage_refused, records_refused, log_read, index_before}
use Rattle.trap_mount.proofs.mounting.history.find_log.Goals as goal

pub returns-in_default-clause-reads : goal.returns-in_default-clause-reads
returns-in_default-clause-reads g c =
    reads_then (g.B.Bank.view c.args.bank.now) (g.B.Bank.view c.read_header.new.bank) (g.B.Bank.view c.find_head.new.bank) c.read_header.ensures.reads c.find_head.ensures.reads

pub returns-in_err-stage-clause-reads : goal.returns-in_err-stage-clause-reads
returns-in_err-stage-clause-reads g c =
    reads_then (g.B.Bank.view c.args.bank.now) (g.B.Bank.view c.find_head.new.bank) (g.B.Bank.view c.find_stage.new.bank)
    (reads_then (g.B.Bank.view c.args.bank.now) (g.B.Bank.view c.read_header.new.bank) (g.B.Bank.view c.find_head.new.bank) c.read_header.ensures.reads c.find_head.ensures.reads)
    c.find_stage.ensures.reads

pub returns-in_err-stage-clause-refused : goal.returns-in_err-stage-clause-refused
returns-in_err-stage-clause-refused g c =
    exit _ c.from_residual-in_err-stage.result c.in_err-stage.field-0.0 c.from_residual-in_err-stage.ensures.1
    (stage_refused c.in_ok-g.g c.in_ok-head.head c.in_ok-head.cell (g.B.Bank.view c.args.bank.now) (g.B.Bank.view c.read_header.new.bank) (g.B.Bank.view c.find_head.new.bank)
    c.read_header.ensures.reads c.find_head.ensures.reads c.in_ok-g.ensures.ok c.in_ok-head.ensures.ok _ c.in_err-stage.ensures.refused)

pub returns-in_err-stage-clause-cause : goal.returns-in_err-stage-clause-cause
returns-in_err-stage-clause-cause g c =
    exit _ c.from_residual-in_err-stage.result c.in_err-stage.field-0.0 c.from_residual-in_err-stage.ensures.1
    (cause_before (g.B.Bank.view c.args.bank.now) (g.B.Bank.view c.find_head.new.bank) (g.B.Bank.view c.find_stage.new.bank) _
    (reads_then (g.B.Bank.view c.args.bank.now) (g.B.Bank.view c.read_header.new.bank) (g.B.Bank.view c.find_head.new.bank) c.read_header.ensures.reads c.find_head.ensures.reads)
    c.in_err-stage.ensures.cause)

pub returns-in_err-index-clause-reads : goal.returns-in_err-index-clause-reads
returns-in_err-index-clause-reads g c =
    reads_then (g.B.Bank.view c.args.bank.now) (g.B.Bank.view c.find_stage.new.bank) (g.B.Bank.view c.read_history.new.bank)
    (reads_then (g.B.Bank.view c.args.bank.now) (g.B.Bank.view c.find_head.new.bank) (g.B.Bank.view c.find_stage.new.bank)
    (reads_then (g.B.Bank.view c.args.bank.now) (g.B.Bank.view c.read_header.new.bank) (g.B.Bank.view c.find_head.new.bank) c.read_header.ensures.reads c.find_head.ensures.reads)
    c.find_stage.ensures.reads)
    c.read_history.ensures.reads

pub returns-in_err-index-clause-refused : goal.returns-in_err-index-clause-refused
returns-in_err-index-clause-refused g c =
    exit _ c.from_residual-in_err-index.result c.in_err-index.field-0.0 c.from_residual-in_err-index.ensures.1
    (records_refused c.in_ok-g.g c.in_ok-head.head c.in_ok-head.cell c.in_ok-stage.stage (g.B.Bank.view c.args.bank.now) (g.B.Bank.view c.read_header.new.bank) (g.B.Bank.view c.find_head.new.bank)
    (g.B.Bank.view c.find_stage.new.bank) (g.B.Bank.view c.read_history.new.bank)
    c.read_header.ensures.reads c.find_head.ensures.reads c.find_stage.ensures.reads c.read_history.ensures.reads c.in_ok-g.ensures.ok c.in_ok-head.ensures.ok c.in_ok-stage.ensures.ok _
    c.in_err-index.ensures.refused)

pub returns-in_err-index-clause-cause : goal.returns-in_err-index-clause-cause
returns-in_err-index-clause-cause g c =
    exit _ c.from_residual-in_err-index.result c.in_err-index.field-0.0 c.from_residual-in_err-index.ensures.1
    (cause_before (g.B.Bank.view c.args.bank.now) (g.B.Bank.view c.find_stage.new.bank) (g.B.Bank.view c.read_history.new.bank) _
    (reads_then (g.B.Bank.view c.args.bank.now) (g.B.Bank.view c.find_head.new.bank) (g.B.Bank.view c.find_stage.new.bank)
    (reads_then (g.B.Bank.view c.args.bank.now) (g.B.Bank.view c.read_header.new.bank) (g.B.Bank.view c.find_head.new.bank) c.read_header.ensures.reads c.find_head.ensures.reads)
    c.find_stage.ensures.reads)
    c.in_err-index.ensures.cause)

pub returns-clause-ok : goal.returns-clause-ok
returns-clause-ok g c =
    log_read c.in_ok-g.g c.in_ok-head.head c.in_ok-head.cell c.in_ok-stage.stage (g.B.Bank.view c.args.bank.now) (g.B.Bank.view c.read_header.new.bank) (g.B.Bank.view c.find_head.new.bank)
    (g.B.Bank.view c.find_stage.new.bank) (g.B.Bank.view c.read_history.new.bank)
    c.read_header.ensures.reads c.find_head.ensures.reads c.find_stage.ensures.reads c.read_history.ensures.reads c.in_ok-g.ensures.ok c.in_ok-head.ensures.ok c.in_ok-stage.ensures.ok
    c.in_ok-index.ensures.ok.records

pub returns-clause-reads : goal.returns-clause-reads
returns-clause-reads g c =
    reads_then (g.B.Bank.view c.args.bank.now) (g.B.Bank.view c.find_stage.new.bank) (g.B.Bank.view c.read_history.new.bank)
    (reads_then (g.B.Bank.view c.args.bank.now) (g.B.Bank.view c.find_head.new.bank) (g.B.Bank.view c.find_stage.new.bank)
    (reads_then (g.B.Bank.view c.args.bank.now) (g.B.Bank.view c.read_header.new.bank) (g.B.Bank.view c.find_head.new.bank) c.read_header.ensures.reads c.find_head.ensures.reads)
    c.find_stage.ensures.reads)
    c.read_history.ensures.reads

pub returns-clause-index : goal.returns-clause-index
returns-clause-index g c =
    index_before c.in_ok-g.g c.in_ok-head.head c.in_ok-index.index (g.B.Bank.view c.args.bank.now) (g.B.Bank.view c.find_stage.new.bank)
    (reads_then (g.B.Bank.view c.args.bank.now) (g.B.Bank.view c.find_head.new.bank) (g.B.Bank.view c.find_stage.new.bank)
    (reads_then (g.B.Bank.view c.args.bank.now) (g.B.Bank.view c.read_header.new.bank) (g.B.Bank.view c.find_head.new.bank) c.read_header.ensures.reads c.find_head.ensures.reads)
    c.find_stage.ensures.reads)
    c.in_ok-index.ensures.ok.known
