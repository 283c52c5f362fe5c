use Rattle.std.proofs.Common.{arith}
use Rattle.trap_replica.proofs.LoadedBlocks.{block_unwritten, block_written}
use Rattle.trap_replica.proofs.loading.load_block.Goals as goal

pub returns-in_err-write-clause-writes : goal.returns-in_err-write-clause-writes
returns-in_err-write-clause-writes g c =
    let took = c.in_ok-take_block.ensures.takes in (
      took.0,
      block_unwritten c.args.s.now c.args.b c.args.at.now c.take_block.new.at c.requires.inside c.requires.counted took.0 c.take_block.new.block
          (omega (arith, c.take_block.auto.block, c.requires.sized)) (g.S.Source.stream c.args.source.now)
          (g.S.Source.stream c.take_block.new.source) _ _ c.from_residual-in_err-write.result (g.B.Bank.view c.args.bank.now) (g.B.Bank.view c.write.new.self) c.home_at.result c.home_at.ensures
          c.from_residual-in_err-write.ensures.0 c.from_residual-in_err-write.ensures.1 c.in_err-write.ensures.call took.1,
    )

pub returns-clause-writes : goal.returns-clause-writes
returns-clause-writes g c =
    let took = c.in_ok-take_block.ensures.takes in (
      took.0,
      block_written c.args.s.now c.args.b c.args.at.now c.take_block.new.at c.requires.inside c.requires.counted took.0 c.take_block.new.block
          (omega (arith, c.take_block.auto.block, c.requires.sized)) (g.S.Source.stream c.args.source.now)
          (g.S.Source.stream c.take_block.new.source) _ _ (g.B.Bank.view c.args.bank.now) (g.B.Bank.view c.write.new.self) c.home_at.result c.home_at.ensures
          c.in_ok-write.ensures.call took.1,
    )
