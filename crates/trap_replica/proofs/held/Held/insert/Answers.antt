use Rattle.std.proofs.Common.{◌≡◌, ◌≤◌, ◌+◌, ◌++◌, ◌∷◌, List, length, take, drop, ap, sym, ◌∙◌, arith}
use Rattle.trap_model.specs.Receiver.{hold}
use Rattle.trap_model.specs.declared.arrival.Arrival.{Arrival}
use Rattle.trap_replica.specs.Holding.{HeldFrames}
use Rattle.trap_replica.proofs.HeldSlots.{one_more_held, one_more_all}
use Rattle.std.proofs.lemmas.List.{length-take-le}
use Rattle.trap_replica.proofs.held.Held.insert.Goals as goal

pub returns-clause-frames : goal.returns-clause-frames
returns-clause-frames c =
    let s = c.self.inside in
    let f = c.fill_slot.new.slot in
    let fr = ap (λ (h : HeldFrames). h.frames) c.self.view_is in
    let all : length s.slots.items ≡ 63 + 1 = omega (arith, s.slots.ok.0, c.self.invariant.1) in
    let few : s.count ≤ 63 = omega (arith, c.requires.few, ap length fr, length-take-le s.count s.slots.items (omega (arith, all, c.self.invariant.0))) in
    let there = ap (λ (l : List Arrival). take s.count l) c.deref.ensures.value ∙ fr in
    let low : c.place_for-at.result ≤ s.count = omega (arith, c.place_for-at.ensures.within, ap length there, ap length fr, length-take-le s.count s.slots.items (omega (arith, all, few))) in
    one_more_held s.count c.place_for-at.result 63 s.slots.len s.slots.items _ _ _ f all (omega (arith, c.self.invariant.1)) low few c.as_mut_slice.ensures.value c.move_last.ensures fr
    ∙ sym (ap (λ (l : List Arrival). take c.place_for-at.result l ++ f ∷ drop c.place_for-at.result l) there)
    ∙ sym (c.place_for-at.ensures.place f (ap (λ (x : Arrival). x.seq) c.fill_slot.ensures))
    ∙ ap (hold f) there ∙ ap (λ (x : Arrival). hold x c.args.self.now.frames) c.fill_slot.ensures

pub invariant_of-self : goal.invariant_of-self
invariant_of-self c =
    let s = c.self.inside in
    let f = c.fill_slot.new.slot in
    let fr = ap (λ (h : HeldFrames). h.frames) c.self.view_is in
    let all : length s.slots.items ≡ 63 + 1 = omega (arith, s.slots.ok.0, c.self.invariant.1) in
    let few : s.count ≤ 63 = omega (arith, c.requires.few, ap length fr, length-take-le s.count s.slots.items (omega (arith, all, c.self.invariant.0))) in
    let there = ap (λ (l : List Arrival). take s.count l) c.deref.ensures.value ∙ fr in
    let low : c.place_for-at.result ≤ s.count = omega (arith, c.place_for-at.ensures.within, ap length there, ap length fr, length-take-le s.count s.slots.items (omega (arith, all, few))) in (
      omega (arith, few),
      c.self.invariant.1,
      one_more_all (λ (x : Arrival). length x.parity ≡ s.size) c.place_for-at.result 63 s.slots.len s.slots.items _ _ f all (omega (arith, c.self.invariant.1))
          (omega (arith, low, few)) c.as_mut_slice.ensures.value c.move_last.ensures
          (ap (λ (x : Arrival). length x.parity) c.fill_slot.ensures ∙ c.requires.sized ∙ ap (λ (h : HeldFrames). h.size) (sym c.self.view_is)) c.self.invariant.2,
    )
