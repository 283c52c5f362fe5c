use Rattle.std.proofs.Common.{◌≡◌, ◌≤◌, ◌-◌, ◌++◌, length, take, drop}
use Rattle.trap_model.specs.Receiver.{hold}
use Rattle.trap_model.specs.declared.arrival.Arrival.{Arrival}
use Rattle.trap_replica.proofs.held.place_for.Given as goal

abbrev pub invariant-loop-at : goal.invariant-loop-at
invariant-loop-at l = (l.at ≤ length l.frames)
    × ((f : Arrival) → f.seq ≡ l.seq → hold f l.frames ≡ take l.at l.frames ++ hold f (drop l.at l.frames))

abbrev pub decreases-loop-at : goal.decreases-loop-at
decreases-loop-at l = length l.frames - l.at
