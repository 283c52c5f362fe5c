use Rattle.std.proofs.Common.{ap, refl}
use Rattle.lru.specs.LruCache.{lru_cache}
use Rattle.trap_cache.specs.declared.slots.Slot.{Slot}
use Rattle.trap_cache.proofs.Steps.{set_first}
use Rattle.trap_cache.proofs.slots.rewrite.Goals as goal

pub returns-in-Some : goal.returns-in-Some
returns-in-Some c =
    let slot : Slot = record { block = c.args.block; seq = c.args.seq; bytes = c.copy_from_slice.new.self } in record {
      slot = slot;
      has_block = refl;
      has_seq = refl;
      has_bytes = c.copy_from_slice.ensures.items;
      first = ap (λ es. lru_cache es c.args.slots.now.cap) (set_first c.args.slots.now.entries c.args.place slot c.requires.there);
    }
