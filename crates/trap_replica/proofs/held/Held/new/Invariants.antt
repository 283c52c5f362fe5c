use Rattle.std.proofs.Common.{◌≡◌, ◌≤◌, ◌-◌, length, vec_len}
use Rattle.std.specs.List.{All}
use Rattle.trap_replica.proofs.held.Held.new.Given as goal

abbrev pub invariant-slots : goal.invariant-slots
invariant-slots l = (vec_len l.slots ≤ 64) × All (λ f. length f.parity ≡ l.size) l.slots.items

abbrev pub decreases-slots : goal.decreases-slots
decreases-slots l = 64 - vec_len l.slots
