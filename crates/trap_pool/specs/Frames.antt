-- What a call leaves of a pool: one word for any number of leases.
use Rattle.std.specs.Prelude.{◌≡◌, ◌≢◌, ℕ, List, [], ◌∷◌, length}
use Rattle.trap_pool.specs.Pooled.{Pooled, pool_block, IsLive, free_of}

-- k is none of these
abbrev pub IsNoneOf : ℕ → List ℕ → Type 0
IsNoneOf k [] = Unit {0}
IsNoneOf k (j ∷ js) = (k ≢ j) × IsNoneOf k js

-- these are leases of the pool, and no two name one block
abbrev pub AreLeases : Pooled → List ℕ → Type 0
AreLeases p [] = Unit {0}
AreLeases p (k ∷ ks) = IsLive p k × IsNoneOf k ks × AreLeases p ks

-- at most these blocks changed; leases are as they were
pub record Only (ks : List ℕ) (old new : Pooled) : Type 0 where
  pub size : new.size ≡ old.size
  pub live : new.live ≡ old.live
  pub count : length new.blocks ≡ length old.blocks
  pub others : (k : ℕ) → IsNoneOf k ks → pool_block new k ≡ pool_block old k

-- each lease that was out is still out, with its bytes, and as many blocks are free as before
pub record KeepsLeases (old new : Pooled) : Type 0 where
  pub size : new.size ≡ old.size
  pub free : free_of new ≡ free_of old
  pub live : (k : ℕ) → IsLive old k → IsLive new k
  pub others : (k : ℕ) → IsLive old k → pool_block new k ≡ pool_block old k
