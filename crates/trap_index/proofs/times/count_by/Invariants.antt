use Rattle.std.proofs.Common.{◌-◌}
use Rattle.trap_index.proofs.Searching.{Halves}
use Rattle.trap_index.proofs.times.count_by.Given as goal

abbrev pub invariant-loop : goal.invariant-loop
invariant-loop l = Halves l.items.items l.t l.low l.high (21 - l.counter)
