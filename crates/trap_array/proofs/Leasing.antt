-- What a call with two of the leases leaves, and what it asks.
use Rattle.std.proofs.Common.{[], ◌∷◌}
use Rattle.trap_array.specs.Held.{Held, leases_of}
use Rattle.trap_pool.specs.Frames.{AreLeases, Only}
use Rattle.trap_pool.specs.Pooled.{Pooled}

-- it changes no other of the four
pub only_read : (held : Held) (old new : Pooled) → Only (held.contents ∷ held.scratch ∷ []) old new → Only (leases_of held) old new
only_read held old new only = record { size = only.size; live = only.live; count = only.count; others = λ k apart. only.others k (apart.0, (apart.1.1.1.0, tt)) }

-- the two are leases
pub read_leases : (held : Held) (p : Pooled) → AreLeases p (leases_of held) → AreLeases p (held.contents ∷ held.scratch ∷ [])
read_leases held p are = (are.0, (are.1.1.1.0, tt), (are.2.2.2.0, tt, tt))
