use Rattle.std.proofs.Common.{◌≡◌, ◌<◌, ◌≤◌, length, ap, arith}
use Rattle.trap_model.specs.declared.arrival.Arrival.{Arrival}
use Rattle.trap_replica.specs.Holding.{HeldFrames}
use Rattle.trap_replica.proofs.HeldSlots.{dropped, dropped_all}
use Rattle.std.proofs.lemmas.List.{length-take-le}
use Rattle.trap_replica.proofs.held.Held.drop_first.Goals as goal

pub returns-clause-frames : goal.returns-clause-frames
returns-clause-frames c =
    let s = c.self.inside in
    let fr = ap (λ (h : HeldFrames). h.frames) c.self.view_is in
    let long : length s.slots.items ≡ s.slots.len = omega (arith, s.slots.ok.0) in
    let bound : s.count ≤ length s.slots.items = omega (arith, c.self.invariant.0, c.self.invariant.1, long) in
    let some : 0 < s.count = omega (arith, c.requires, ap length fr, length-take-le s.count s.slots.items bound) in
    dropped s.count s.slots.len s.slots.items _ _ _ some (omega (arith, bound, long)) long c.as_mut_slice.ensures.value c.move_first.ensures fr

pub invariant_of-self : goal.invariant_of-self
invariant_of-self c =
    let s = c.self.inside in
    let long : length s.slots.items ≡ s.slots.len = omega (arith, s.slots.ok.0) in (
      omega (arith, c.self.invariant.0),
      c.self.invariant.1,
      dropped_all (λ (f : Arrival). length f.parity ≡ s.size) s.slots.len s.slots.items _ _ long
          c.as_mut_slice.ensures.value c.move_first.ensures c.self.invariant.2,
    )
