use Rattle.trap_bank.proofs.Moves.{read_steps}
use Rattle.trap_raid.proofs.OwnDisks.{stable_read}
use Rattle.trap_mount.proofs.mounting.header.settle.Goals as goal

pub returns-clause-stable : goal.returns-clause-stable
returns-clause-stable g c =
    stable_read _ _ (g.B.Bank.view c.sync.new.self) (g.B.Bank.view c.read.new.self) c.args.d c.in_ok-sync.ensures.call (read_steps _ _ _ _ _ _ _ c.read.ensures.call) c.read.ensures.call.same
