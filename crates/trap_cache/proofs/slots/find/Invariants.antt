use Rattle.std.proofs.Common.{◌≡◌, take}
use Rattle.trap_cache.specs.Slots.{pair_place}
use Rattle.trap_cache.proofs.slots.find.Given as goal

-- what is found among the slots that are left is what is found among all
abbrev pub invariant-loop-place : goal.invariant-loop-place
invariant-loop-place l = pair_place l.block l.seq (take l.left l.place-iterator) ≡ pair_place l.block l.seq (take l.used l.slots.entries)
