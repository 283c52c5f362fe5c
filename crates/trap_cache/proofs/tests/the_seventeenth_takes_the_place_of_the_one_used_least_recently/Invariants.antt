use Rattle.std.proofs.Common.{◌≡◌}
use Rattle.trap_cache.proofs.tests.the_seventeenth_takes_the_place_of_the_one_used_least_recently.Given as goal

abbrev pub invariant-loop-i : goal.invariant-loop-i
invariant-loop-i g l = l.cache.size ≡ 4
