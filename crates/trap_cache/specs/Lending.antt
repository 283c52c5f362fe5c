-- What a cache ends as, once the bytes that it showed are let go.
use Rattle.std.specs.Prelude.{◌≡◌, ⊤}
use Rattle.std.specs.Borrow.{MutBor, Fml, follows_so}
use mathlib.Core.Option.{none}
use Rattle.trap_cache.specs.Cached.{Cached}
use Rattle.trap_cache.specs.contracts.cache.Cache.{the_row}

-- it is this one
abbrev pub CacheEndsAs : MutBor Cached → Cached → Fml
CacheEndsAs cache end = follows_so the_row the_row cache.ghost_name none (λ _ _. ⊤) (λ n. n ≡ end)
