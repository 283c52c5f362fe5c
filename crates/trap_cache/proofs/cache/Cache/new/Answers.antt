use Rattle.std.proofs.Common.{◌≡◌, ℕ, ◌+◌, ◌<◌, length, ap, sym, ◌∙◌, subst, arith}
use Rattle.std.specs.List.{AllByRecursion}
use Rattle.lru.specs.LruCache.{LruCache}
use Rattle.trap_cache.specs.Slots.{AreDistinct}
use Rattle.trap_cache.specs.declared.slots.Slot.{Slot}
use Rattle.trap_cache.proofs.Places.{none_there, below_next}
use Rattle.trap_cache.proofs.Steps.{grown, length_zeros}
use Rattle.trap_cache.proofs.cache.Cache.new.Goals as goal

pub loop-place-preserved : goal.loop-place-preserved
loop-place-preserved c =
    let i = c.loop-place.invariant in
    let n = c.loop-place.place in
    let es = c.loop-place.slots.entries in
    let slot : Slot = record { block = 0; seq = 0; bytes = c.in_ok-bytes.bytes } in
    let few : n < 16 = c.loop-place-test.true in
    let fits : length slot.bytes.items ≡ c.args.size = length_zeros c.args.size slot.bytes.items (c.in_ok-bytes.ensures.items_if_clones_equal (λ y e. e)) in
    let made : length es ≡ n = i.made in
    let is = grown n c.loop-place.slots c.put.new.self slot few made i.below i.room c.in_ok-put.ensures.entries in
    record {
      made = ap (λ (s : LruCache ℕ Slot). length s.entries) is ∙ omega (arith, made);
      distinct = subst (λ (s : LruCache ℕ Slot). AreDistinct s.entries) (sym is) (none_there n es i.below, i.distinct);
      sized = subst (λ (s : LruCache ℕ Slot). AllByRecursion (λ e. length e.1.bytes.items ≡ c.args.size) s.entries) (sym is) (fits, i.sized);
      below = subst (λ (s : LruCache ℕ Slot). AllByRecursion (λ e. e.0 < n + 1) s.entries) (sym is) (omega arith, below_next n es i.below);
      room = ap (λ (s : LruCache ℕ Slot). s.cap) is;
    }
