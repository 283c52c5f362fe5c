-- A pool of blocks of one size, of which some are out on a lease.
use Rattle.std.specs.Prelude.{◌≡◌, ◌≢◌, ℕ, ◌+◌, ◌<◌, Bool, true, false, not, List, [], length}
use Rattle.std.specs.Prelude.{get_or, set, replicate, count_by}
use Rattle.trap_block.specs.Xor.{zeros}

-- the size of a block, the bytes of each block, and which of the blocks are leased
pub record Pooled : Type 0 where
  pub size : ℕ
  pub blocks : List (List ℕ)
  pub live : List Bool

-- a pool of which no block is leased, and each is zero
abbrev pub unleased : ℕ → ℕ → Pooled
unleased count size =
    record { size = size; blocks = replicate count (zeros size); live = replicate count false }

-- the bytes of block k
abbrev pub pool_block : Pooled → ℕ → List ℕ
pool_block p k = get_or p.blocks k []

-- with these bytes in block k, and everything else as it was
abbrev pub with_pool_block : Pooled → ℕ → List ℕ → Pooled
with_pool_block p k bytes = record p { blocks = set p.blocks k bytes }

-- block k is leased
pub record IsLive (p : Pooled) (k : ℕ) : Type 0 where
  pub live : get_or p.live k false ≡ true
  pub inside : k < length p.blocks

-- how many blocks aren't leased
abbrev pub free_of : Pooled → ℕ
free_of p = count_by not p.live

-- with block k leased, or free again, and each byte as it was
abbrev pub with_live : Pooled → ℕ → Bool → Pooled
with_live p k live = record p { live = set p.live k live }

-- block k is leased now, and no lease that was out before names it
pub record Leased (k : ℕ) (old new : Pooled) : Type 0 where
  pub is : new ≡ with_live old k true
  pub live : IsLive new k
  pub distinct : (j : ℕ) → IsLive old j → j ≢ k
  pub stays : (j : ℕ) → IsLive old j → IsLive new j
  pub free : free_of new + 1 ≡ free_of old

-- block k is free again, and each other lease stands
pub record Gives (k : ℕ) (old new : Pooled) : Type 0 where
  pub is : new ≡ with_live old k false
  pub stays : (j : ℕ) → IsLive old j → j ≢ k → IsLive new j
  pub free : free_of new ≡ free_of old + 1
