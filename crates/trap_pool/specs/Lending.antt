-- What a pool ends as, once the bytes of one of its blocks were lent.
use Rattle.std.specs.Prelude.{ℕ, zero, suc, ◌+◌, List, [], ◌∷◌, length, drop, ◌==◌, if◌then◌else◌}
use Rattle.std.specs.Borrow.{Lends, MutBor, Fml, Array, u8}
use Rattle.trap_pool.specs.Pooled.{Pooled, with_pool_block}
use Rattle.trap_pool.specs.contracts.pool.Pool.{the_row}

-- the first list written over the second one from its start on, as far as that goes
abbrev pub laid : List ℕ → List ℕ → List ℕ
laid [] xs = xs
laid (w ∷ ws) [] = []
laid (w ∷ ws) (x ∷ xs) = w ∷ laid ws xs

-- bytes written over blocks and the gaps after them
abbrev pub laid_across : ℕ → List ℕ → List (List ℕ) → List (List ℕ)
laid_across stride bytes [] = []
laid_across stride bytes (b ∷ bs) = laid bytes b ∷ laid_across stride (drop stride bytes) bs

-- the same from block k on
abbrev pub laid_from : ℕ → ℕ → List ℕ → List (List ℕ) → List (List ℕ)
laid_from stride k bytes [] = []
laid_from stride zero bytes (b ∷ bs) = laid_across stride bytes (b ∷ bs)
laid_from stride (suc k) bytes (b ∷ bs) = b ∷ laid_from stride k bytes bs

-- The pool with these bytes in block k. A slice keeps its length, so the first case is the one that
-- comes: bytes of another length would run over the gap and the blocks after it.
abbrev pub lent : Pooled → ℕ → List ℕ → Pooled
lent p k bytes =
    if length bytes == p.size then with_pool_block p k bytes
    else record p { blocks = laid_from (p.size + 64) k bytes p.blocks }

-- what is left in the bytes is block k of the pool
abbrev pub LendsBlock : MutBor Pooled → ℕ → MutBor (List ℕ) → Fml
LendsBlock pool k bytes = Lends the_row (Array u8 0) pool bytes (lent pool.now k)
