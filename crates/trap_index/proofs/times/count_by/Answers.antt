use Rattle.std.proofs.Common.{◌≡◌, ℕ, suc, ◌+◌, ◌-◌, ◌/◌, ◌<◌, ◌≤◌, get_or, refl, ap, sym, subst, arith}
use Rattle.trap_index.specs.declared.item.Item.{Item}
use Rattle.trap_index.specs.Keeping.{no_item}
use Rattle.trap_index.proofs.Searching.{Halves, halves_up, halves_down, halves_same}
use Rattle.trap_index.proofs.times.count_by.Goals as goal
use Rattle.trap_index.proofs.times.count_by.Goals.{then-low-high+then-item_in-t, then-low-high+else-item_in-t, else-low-high}

-- the bounds of the next halving
next : (c : goal.Joined-low-high) (low high : ℕ) → c.if-low-high.low ≡ low → c.if-low-high.high ≡ high
    → Halves c.args.items.now.items c.args.t low high (21 - (c.loop.counter + 1)) → Halves c.args.items.now.items c.args.t c.if-low-high.low c.if-low-high.high (21 - (c.loop.counter + 1))
next c low high low_is high_is halves =
    subst (λ (n : ℕ). Halves c.args.items.now.items c.args.t n c.if-low-high.high (21 - (c.loop.counter + 1))) (sym low_is)
    (subst (λ (n : ℕ). Halves c.args.items.now.items c.args.t low n (21 - (c.loop.counter + 1))) (sym high_is) halves)

pub loop-preserved : goal.loop-preserved
loop-preserved c =
    let left = 21 - c.loop.counter in
    let less = 21 - (c.loop.counter + 1) in
    let one : 21 - c.loop.counter ≡ suc (21 - (c.loop.counter + 1)) = omega arith in
    let middle = c.loop.low + (c.loop.high - c.loop.low) / 2 in
    elim c.if-low-high.branch [
      | then-low-high+then-item_in-t w ↦
          let time = ap (λ (x : Item). x.time) w.item_in.ensures in
          let early : (get_or c.args.items.now.items middle no_item).time ≤ c.args.t = (let here = w.if-item_in-t.true in omega arith) in
          next c (middle + 1) c.loop.high w.low-is w.high-is
          (halves_up c.args.items.now.items c.args.t c.loop.low c.loop.high left less middle c.loop.invariant one w.if-low-high.true refl c.requires.order early)
      | then-low-high+else-item_in-t w ↦
          let time = ap (λ (x : Item). x.time) w.item_in.ensures in
          let late : c.args.t < (get_or c.args.items.now.items middle no_item).time = (let here = w.if-item_in-t.false in omega arith) in
          next c c.loop.low middle w.low-is w.high-is
          (halves_down c.args.items.now.items c.args.t c.loop.low c.loop.high left less middle c.loop.invariant one w.if-low-high.true refl c.requires.order late)
      | else-low-high w ↦
          next c c.loop.low c.loop.high w.low-is w.high-is
          (halves_same c.args.items.now.items c.args.t c.loop.low c.loop.high left less c.loop.invariant one w.if-low-high.false)
    ]
