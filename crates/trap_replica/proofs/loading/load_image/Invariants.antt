use Rattle.std.proofs.Common.{ℕ, List}
use Rattle.trap_replica.proofs.LoadedBlocks.{HasTaken}
use Rattle.trap_replica.proofs.loading.load_image.Given as goal

abbrev pub invariant-blocks-2 : goal.invariant-blocks-2
invariant-blocks-2 g l = (bytes : List ℕ) × HasTaken l.s l.b l.at bytes (g.B.Bank.view l.fn.bank) (g.B.Bank.view l.bank) (g.S.Source.stream l.fn.source) (g.S.Source.stream l.source)
