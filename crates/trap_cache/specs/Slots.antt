-- The slots of a cache, each under its place, and what is kept in them.
use Rattle.std.specs.Prelude.{◌≡◌, ℕ, ◌≤◌, Bool, ◌&&◌, ◌==◌, if◌then◌else◌, nat_eq, List, [], ◌∷◌}
use Rattle.std.specs.Prelude.{length, Option, Some, None}
use Rattle.std.specs.List.{AllByRecursion}
use Rattle.std.specs.Map.{lookup_entry, remove_entry}
use Rattle.lru.specs.LruCache.{LruCache, lru_cache}
use Rattle.trap_cache.specs.Cached.{KeptPair}
use Rattle.trap_cache.specs.declared.slots.Slot.{Slot}

-- whether a slot has this pair
abbrev pub has_pair : ℕ → ℕ → Slot → Bool
has_pair block seq slot = (slot.block == block) && (slot.seq == seq)

-- the place of the first slot that has a pair
abbrev pub pair_place : ℕ → ℕ → List (ℕ × Slot) → Option ℕ
pair_place block seq [] = None
pair_place block seq (e ∷ es) = if has_pair block seq e.1 then Some e.0 else pair_place block seq es

-- what is kept in these slots
abbrev pub kept_in : List (ℕ × Slot) → List KeptPair
kept_in [] = []
kept_in (e ∷ es) =
    record { block = e.1.block; seq = e.1.seq; bytes = e.1.bytes.items } ∷ kept_in es

-- no place comes twice
abbrev pub AreDistinct : List (ℕ × Slot) → Type 0
AreDistinct [] = Unit {0}
AreDistinct (e ∷ es) = (lookup_entry (nat_eq e.0) es ≡ None) × AreDistinct es

-- sixteen slots, each of a block's size
pub record AreSlots (size : ℕ) (es : List (ℕ × Slot)) : Type 0 where
  pub sixteen : length es ≡ 16
  pub distinct : AreDistinct es
  pub sized : AllByRecursion (λ e. length e.1.bytes.items ≡ size) es

-- the most recently used slots are the ones that keep a pair
pub record IsCache (size used most : ℕ) (es : List (ℕ × Slot)) : Type 0 where
  pub slots : AreSlots size es
  pub few : used ≤ 16
  pub room : most ≡ 16

-- the slot at a place has this pair and these bytes now, and is the one that was used last
pub record IsRewritten (old new : LruCache ℕ Slot) (place block seq : ℕ) (bytes : List ℕ)
    : Type 0 where
  pub slot : Slot
  pub has_block : slot.block ≡ block
  pub has_seq : slot.seq ≡ seq
  pub has_bytes : slot.bytes.items ≡ bytes
  pub first : new ≡ lru_cache ((place, slot) ∷ remove_entry (nat_eq place) old.entries) old.cap
