-- The leases of one call.
use Rattle.std.specs.Prelude.{◌≡◌, ℕ, ◌+◌, List, [], ◌∷◌, length}
use Rattle.trap_model.specs.Limits.{greatest_record}
use Rattle.trap_mount.specs.Memory.{Buffers}
use Rattle.trap_pool.specs.Frames.{AreLeases}
use Rattle.trap_pool.specs.Pooled.{Pooled, free_of}

-- the blocks that it uses, by their numbers
pub record Held : Type 0 where
  pub contents : ℕ
  pub delta : ℕ
  pub parity : ℕ
  pub scratch : ℕ

abbrev pub leases_of : Held → List ℕ
leases_of held = held.contents ∷ held.delta ∷ held.parity ∷ held.scratch ∷ []

-- these four are leased now
pub record TakesFour (ks : List ℕ) (old new : Pooled) : Type 0 where
  pub leases : AreLeases new ks
  pub size : new.size ≡ old.size
  pub count : length new.blocks ≡ length old.blocks
  pub free : free_of new + 4 ≡ free_of old

-- four leases have ended
pub record GivesFour (old new : Pooled) : Type 0 where
  pub size : new.size ≡ old.size
  pub count : length new.blocks ≡ length old.blocks
  pub free : free_of new ≡ free_of old + 4

-- its blocks have that size, whichever are leased, and there is room for the longest code and for
-- the longest record
pub record HasRoom (block : ℕ) (room : Buffers) : Type 0 where
  pub size : room.pool.size ≡ block
  pub code : length room.code ≡ block + 7
  pub spelled : length room.spelled ≡ greatest_record block
