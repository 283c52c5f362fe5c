-- A cache of blocks at past instants: the pairs of a block and a number that are kept.
use Rattle.std.specs.Prelude.{◌≡◌, ℕ, Bool, ◌&&◌, ◌==◌, if◌then◌else◌, List, [], ◌∷◌, take, Option}
use Rattle.std.specs.Prelude.{Some, None}

-- a pair, and the bytes that are kept under it
pub record KeptPair : Type 0 where
  pub block : ℕ
  pub seq : ℕ
  pub bytes : List ℕ

-- the size of a block, and what is kept, the most recently used first
pub record Cached : Type 0 where
  pub size : ℕ
  pub kept : List KeptPair

-- whether it is kept under this pair
abbrev pub is_under : ℕ → ℕ → KeptPair → Bool
is_under block seq k = (k.block == block) && (k.seq == seq)

-- b and s are another pair than block and seq
abbrev pub IsOther : ℕ → ℕ → ℕ → ℕ → Type 0
IsOther block seq b s = (b ≡ block) × (s ≡ seq) → ⊥

-- the bytes that are kept under a pair
abbrev pub bytes_under : ℕ → ℕ → List KeptPair → Option (List ℕ)
bytes_under block seq [] = None
bytes_under block seq (k ∷ ks) =
    if is_under block seq k then Some k.bytes else bytes_under block seq ks

-- the others, in their order
abbrev pub without : ℕ → ℕ → List KeptPair → List KeptPair
without block seq [] = []
without block seq (k ∷ ks) = if is_under block seq k then ks else k ∷ without block seq ks

-- the pair at the front with these bytes, and the others in their order
abbrev pub at_front : ℕ → ℕ → List ℕ → List KeptPair → List KeptPair
at_front block seq bytes kept =
    record { block = block; seq = seq; bytes = bytes } ∷ without block seq kept

-- a pair that is found goes to the front
abbrev pub found_first : ℕ → ℕ → Option (List ℕ) → List KeptPair → List KeptPair
found_first block seq None kept = kept
found_first block seq (Some bytes) kept = at_front block seq bytes kept

-- after a look-up of a pair
abbrev pub after_get : ℕ → ℕ → Cached → Cached
after_get block seq c =
    record c { kept = found_first block seq (bytes_under block seq c.kept) c.kept }

-- after these bytes were kept under a pair: of seventeen pairs the last one goes
abbrev pub after_keep : ℕ → ℕ → List ℕ → Cached → Cached
after_keep block seq bytes c = record c { kept = take 16 (at_front block seq bytes c.kept) }
