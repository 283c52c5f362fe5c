use Rattle.std.proofs.Common.{◌≡◌, ◌≤◌, ℕ, min, max, IsTrue}
use Rattle.trap_bank.specs.Disks.{Differs, Torn}
use Rattle.trap_bank.specs.Steps.{Moves}
use Rattle.trap_raid.specs.Draining.{writes_to, Drains, InDrained, drain_calls}
use Rattle.trap_bank.specs.Called.{CalledTimes}
use Rattle.trap_stage.specs.Slots.{last_of}
use Rattle.trap_raid.proofs.raid.Raid.drain.Given as goal

-- the writes so far are drained, no byte but theirs differs, and the sizes are the same
abbrev pub invariant-loop-number : goal.invariant-loop-number
invariant-loop-number g l =
    let old = g.B.Bank.view l.initial.bank in
    let new = g.B.Bank.view l.bank in
    record {
      moves : Moves old new (Differs (InDrained l.self.g l.self.lost l.self.rebuilt (writes_to l.stage l.upto))) (Drains l.self.g l.self.lost l.self.rebuilt (writes_to l.stage l.number));
      contents : IsTrue old.tells → Torn (InDrained l.self.g l.self.lost l.self.rebuilt (writes_to l.stage l.upto)) old.now new.now;
      calls : CalledTimes (drain_calls l.self.g l.self.lost l.self.rebuilt (writes_to l.stage l.number)) old new;
      within : l.number ≤ max l.stage.drained (min l.upto (last_of l.stage));
      sizes : (e : ℕ) → new.sizes e ≡ old.sizes e;
    }
