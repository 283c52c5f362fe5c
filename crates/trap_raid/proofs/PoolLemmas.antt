-- What calls over leased blocks leave of a pool.
use Rattle.std.proofs.Common.{◌≡◌, ℕ, ◌<◌, List, [], ◌∷◌, length, eq-eqb, sym, ap, subst, ◌∙◌, get_or-set_same}
use Rattle.trap_block.specs.Xor.{xor}
use Rattle.trap_pool.specs.Pooled.{Pooled, pool_block, with_pool_block, IsLive}
use Rattle.trap_pool.specs.Frames.{AreLeases, IsNoneOf, Only}
use Rattle.trap_pool.specs.Lending.{lent}
use Rattle.trap_pool.proofs.Pools.{only_block}

-- one call after another
pub only_then : (ks : List ℕ) (old mid new : Pooled) → Only ks old mid → Only ks mid new → Only ks old new
only_then ks old mid new first second = record {
  size = second.size ∙ first.size;
  live = second.live ∙ first.live;
  count = second.count ∙ first.count;
  others = λ k apart. second.others k apart ∙ first.others k apart;
}

-- the same blocks among more
pub only_among : (js ks : List ℕ) (old new : Pooled) → ((k : ℕ) → IsNoneOf k ks → IsNoneOf k js) → Only js old new → Only ks old new
only_among js ks old new fewer only = record {
  size = only.size;
  live = only.live;
  count = only.count;
  others = λ k apart. only.others k (fewer k apart);
}

-- bytes of a block's size that were lent are the block
pub lent_is : (p : Pooled) (k : ℕ) (bytes : List ℕ) → length bytes ≡ p.size → lent p k bytes ≡ with_pool_block p k bytes
lent_is p k bytes fits = rw (eq-eqb (length bytes) p.size fits)

pub only_lent : (p : Pooled) (k : ℕ) (bytes : List ℕ) → length bytes ≡ p.size → Only (k ∷ []) p (lent p k bytes)
only_lent p k bytes fits = only_block p (lent p k bytes) k bytes (lent_is p k bytes fits)

pub lent_here : (p : Pooled) (k : ℕ) (bytes : List ℕ) → length bytes ≡ p.size → IsLive p k → pool_block (lent p k bytes) k ≡ bytes
lent_here p k bytes fits is = ap (λ (q : Pooled). pool_block q k) (lent_is p k bytes fits) ∙ get_or-set_same p.blocks k bytes [] is.inside

-- ---- a block that was read into the scratch one joins an exclusive-or
pub only_joined : (p new : Pooled) (into scratch : ℕ) (block sum : List ℕ) → length block ≡ p.size → new ≡ with_pool_block (lent p scratch block) into sum → Only (into ∷ scratch ∷ []) p new
only_joined p new into scratch block sum fits is =
    let mid = lent p scratch block in
    only_then (into ∷ scratch ∷ []) p mid new
    (only_among (scratch ∷ []) (into ∷ scratch ∷ []) p mid (λ k apart. apart.1) (only_lent p scratch block fits))
    (only_among (into ∷ []) (into ∷ scratch ∷ []) mid new (λ k apart. (apart.0, tt)) (only_block mid new into sum is))

pub joined : (p new : Pooled) (into scratch : ℕ) (block : List ℕ) → AreLeases p (into ∷ scratch ∷ []) → length block ≡ p.size
    → new ≡ with_pool_block (lent p scratch block) into (xor (pool_block (lent p scratch block) into) (pool_block (lent p scratch block) scratch))
    → pool_block new into ≡ xor (pool_block p into) block
joined p new into scratch block are fits is =
    let mid = lent p scratch block in
    let only : Only (scratch ∷ []) p mid = only_lent p scratch block fits in
    let inside : into < length mid.blocks = subst (λ n. into < n) (sym only.count) are.0.inside in
    ap (λ (q : Pooled). pool_block q into) is
    ∙ get_or-set_same mid.blocks into (xor (pool_block mid into) (pool_block mid scratch)) [] inside
    ∙ ap (λ (b : List ℕ). xor b (pool_block mid scratch)) (only.others into are.1)
    ∙ ap (λ (b : List ℕ). xor (pool_block p into) b) (lent_here p scratch block fits are.2.0)

-- ---- a plan: a place read into delta, which fresh joins, and the parity's, which delta joins
pub only_planning : (p0 p1 p2 p3 : Pooled) (delta parity scratch : ℕ) → Only (delta ∷ scratch ∷ []) p0 p1 → Only (delta ∷ []) p1 p2 → Only (parity ∷ scratch ∷ []) p2 p3
    → Only (delta ∷ parity ∷ scratch ∷ []) p0 p3
only_planning p0 p1 p2 p3 delta parity scratch first joins second =
    let ks = delta ∷ parity ∷ scratch ∷ [] in
    only_then ks p0 p2 p3
    (only_then ks p0 p1 p2 (only_among (delta ∷ scratch ∷ []) ks p0 p1 (λ k apart. (apart.0, apart.1.1)) first) (only_among (delta ∷ []) ks p1 p2 (λ k apart. (apart.0, tt)) joins))
    (only_among (parity ∷ scratch ∷ []) ks p2 p3 (λ k apart. apart.1) second)

pub only_planned : (p0 p1 p2 p3 p4 : Pooled) (delta parity scratch : ℕ) → Only (delta ∷ scratch ∷ []) p0 p1 → Only (delta ∷ []) p1 p2 → Only (parity ∷ scratch ∷ []) p2 p3
    → Only (parity ∷ []) p3 p4 → Only (delta ∷ parity ∷ scratch ∷ []) p0 p4
only_planned p0 p1 p2 p3 p4 delta parity scratch first joins second ends =
    let ks = delta ∷ parity ∷ scratch ∷ [] in
    only_then ks p0 p3 p4 (only_planning p0 p1 p2 p3 delta parity scratch first joins second) (only_among (parity ∷ []) ks p3 p4 (λ k apart. (apart.1.0, tt)) ends)

-- what the blocks of a plan hold
pub record PlanHolds (p0 p1 p3 p4 : Pooled) (fresh delta parity : ℕ) : Type 0 where
  pub delta_is : pool_block p4 delta ≡ xor (pool_block p1 delta) (pool_block p0 fresh)
  pub parity_is : pool_block p4 parity ≡ xor (pool_block p3 parity) (pool_block p4 delta)

pub plan_holds : (p0 p1 p2 p3 p4 : Pooled) (fresh delta parity scratch : ℕ) → AreLeases p0 (fresh ∷ delta ∷ parity ∷ scratch ∷ []) → Only (delta ∷ scratch ∷ []) p0 p1
    → p2 ≡ with_pool_block p1 delta (xor (pool_block p1 delta) (pool_block p1 fresh)) → Only (parity ∷ scratch ∷ []) p2 p3
    → p4 ≡ with_pool_block p3 parity (xor (pool_block p3 parity) (pool_block p3 delta)) → PlanHolds p0 p1 p3 p4 fresh delta parity
plan_holds p0 p1 p2 p3 p4 fresh delta parity scratch are first joins second ends =
    let sum = xor (pool_block p1 delta) (pool_block p1 fresh) in
    let all = xor (pool_block p3 parity) (pool_block p3 delta) in
    let then : Only (delta ∷ []) p1 p2 = only_block p1 p2 delta sum joins in
    let at_delta : delta < length p1.blocks = subst (λ n. delta < n) (sym first.count) are.2.0.inside in
    let at_parity : parity < length p3.blocks = subst (λ n. parity < n) (sym (second.count ∙ then.count ∙ first.count)) are.2.2.0.inside in
    let stays : pool_block p4 delta ≡ pool_block p3 delta = (only_block p3 p4 parity all ends).others delta (are.2.1.0, tt) in
    record {
      delta_is = stays ∙ second.others delta are.2.1
          ∙ ap (λ (q : Pooled). pool_block q delta) joins ∙ get_or-set_same p1.blocks delta sum [] at_delta
          ∙ ap (λ (b : List ℕ). xor (pool_block p1 delta) b) (first.others fresh (are.1.0, (are.1.1.1.0, tt)));
      parity_is = ap (λ (q : Pooled). pool_block q parity) ends ∙ get_or-set_same p3.blocks parity all [] at_parity
          ∙ ap (λ (b : List ℕ). xor (pool_block p3 parity) b) (sym stays);
    }
