use Rattle.std.proofs.Common.{◌≡◌}
use Rattle.trap_array.specs.Calls.{IsReady}
use Rattle.trap_array.proofs.plain_tests.fifty_alike.Given as goal

-- the array is mounted, and the blocks of the plain machine are as long as its requests
abbrev pub invariant-loop-turn : goal.invariant-loop-turn
invariant-loop-turn g l = (l.plain.geometry.block ≡ 16) × IsReady l.array (g.B.Bank.view l.bank)
