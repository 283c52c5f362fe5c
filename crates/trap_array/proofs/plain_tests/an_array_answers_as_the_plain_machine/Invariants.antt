use Rattle.std.proofs.Common.{◌≡◌}
use Rattle.trap_array.proofs.plain_tests.an_array_answers_as_the_plain_machine.Given as goal

-- the plain machine keeps its size of a block
abbrev pub invariant-loop-round : goal.invariant-loop-round
invariant-loop-round g l = l.plain.geometry.block ≡ 16
