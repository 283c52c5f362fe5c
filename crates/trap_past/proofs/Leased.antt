-- What the calls of a walk leave in its two leased blocks.
use Rattle.std.proofs.Common.{◌≡◌, ℕ, ◌<◌, List, [], ◌∷◌, ap, sym, ◌∙◌, subst, get_or-set_same}
use Rattle.trap_block.specs.Xor.{xor}
use Rattle.trap_pool.specs.Frames.{AreLeases, Only}
use Rattle.trap_pool.specs.Pooled.{Pooled, pool_block, with_pool_block}

-- one more change of the second block, and then one of the first
pub only_both : (i j : ℕ) (start old mid new : Pooled) → Only (i ∷ j ∷ []) start old → Only (j ∷ []) old mid → Only (i ∷ []) mid new → Only (i ∷ j ∷ []) start new
only_both i j start old mid new before second first = record {
  size = first.size ∙ second.size ∙ before.size;
  live = first.live ∙ second.live ∙ before.live;
  count = first.count ∙ second.count ∙ before.count;
  others = λ k differs. first.others k (differs.0, tt) ∙ second.others k (differs.1.0, tt) ∙ before.others k differs;
}

-- the first block becomes its exclusive-or with the second one, which alone changed since
pub xored : (i j : ℕ) (start old mid new : Pooled) → AreLeases start (i ∷ j ∷ []) → Only (i ∷ j ∷ []) start old → Only (j ∷ []) old mid
    → new ≡ with_pool_block mid i (xor (pool_block mid i) (pool_block mid j)) → pool_block new i ≡ xor (pool_block old i) (pool_block mid j)
xored i j start old mid new are before second is =
    ap (λ (p : Pooled). pool_block p i) is
    ∙ get_or-set_same mid.blocks i (xor (pool_block mid i) (pool_block mid j)) [] (subst (λ (n : ℕ). i < n) (sym (second.count ∙ before.count)) are.0.inside)
    ∙ ap (λ (b : List ℕ). xor b (pool_block mid j)) (second.others i (are.1.0, tt))
