use Rattle.std.proofs.Common.{◌≡◌, ◌<◌, length}
use Rattle.std.specs.List.{AllByRecursion}
use Rattle.trap_cache.specs.Slots.{AreDistinct}
use Rattle.trap_cache.proofs.cache.Cache.new.Given as goal

-- the slots so far
abbrev pub invariant-loop-place : goal.invariant-loop-place
invariant-loop-place l = record {
  made : length l.slots.entries ≡ l.place;
  distinct : AreDistinct l.slots.entries;
  sized : AllByRecursion (λ e. length e.1.bytes.items ≡ l.size) l.slots.entries;
  below : AllByRecursion (λ e. e.0 < l.place) l.slots.entries;
  room : l.slots.cap ≡ 16;
}
