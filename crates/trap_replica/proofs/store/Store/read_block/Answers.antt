use Rattle.std.proofs.Common.{ℕ, ap, ◌∙◌, arith}
use Rattle.trap_bank.specs.Disks.{region}
use Rattle.trap_bank.proofs.Moves.{read_is_left}
use Rattle.trap_bank.proofs.OnlyReads.{reads_once}
use Rattle.trap_replica.proofs.OneFrame.{home_fits}
use Rattle.trap_replica.proofs.store.Store.read_block.Goals as goal

pub read-requires-clause-room : goal.read-requires-clause-room
read-requires-clause-room g c = home_fits c.args.self.now.shape c.args.block _ _ (g.B.Bank.view c.args.bank.now) c.requires.inside c.home_at.ensures c.requires.sized c.requires.there

pub returns-clause-reads : goal.returns-clause-reads
returns-clause-reads g c = reads_once _ _ _ _ _ _ _ c.read.ensures.call

pub returns-in_err-read-clause-reads : goal.returns-in_err-read-clause-reads
returns-in_err-read-clause-reads g c = reads_once _ _ _ _ _ _ _ c.read.ensures.call

pub returns-clause-bytes : goal.returns-clause-bytes
returns-clause-bytes g c = λ image mirrors told.
    c.in_ok-read.ensures.call.bytes told
    ∙ ap (λ (n : ℕ). region (g.B.Bank.view c.args.bank.now).now.disks 17 c.home_at.result n) c.requires.sized
    ∙ ap (λ (at : ℕ). region (g.B.Bank.view c.args.bank.now).now.disks 17 at c.args.self.now.shape.block) c.home_at.ensures
    ∙ (mirrors.holds (g.B.Bank.view c.args.bank.now).now (read_is_left (g.B.Bank.view c.args.bank.now) told)).others c.args.block c.requires.inside (omega arith)
