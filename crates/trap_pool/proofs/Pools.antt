-- A pool as a contract sees it, and the calls on it.
use Rattle.std.proofs.Common.{◌≡◌, ℕ, ◌+◌, ◌-◌, ◌*◌, ◌≤◌, ◌<◌, Bool, true, false, cond, List, [], ◌∷◌, ◌++◌, length, take, drop, eqb, refl, ap, sym, ◌∙◌, subst, arith, replicate, eqb-true, ◌≢◌, ◌⊎◌, get_or-set_other}
use Rattle.std.proofs.lemmas.List.{length-set, length-take, length-drop, length-replicate, take_at}
use Rattle.std.specs.Prelude.{slice_range}
use Rattle.trap_block.specs.Fields.{put_over}
use Rattle.trap_block.specs.Xor.{xor}
use Rattle.trap_block.proofs.XorLemmas.{length-xor}
use Rattle.trap_pool.specs.Frames.{Only}
use Rattle.trap_pool.specs.Lending.{lent, laid_from}
use Rattle.trap_pool.specs.Pooled.{Pooled, IsLive, pool_block, with_pool_block, unleased}
use Rattle.trap_pool.specs.Region.{blocks_in, IsRegion}
use Rattle.trap_pool.proofs.Written.{over, put_is_over, vec_is_over}
use Rattle.trap_pool.proofs.Regions.{length-blocks_in, block_at, blocks_over, blocks_from, blocks_of_zeros, before, apart}

-- what a contract sees of these fields
abbrev pub seen : ℕ → ℕ → List Bool → List ℕ → Pooled
seen size stride live bytes = record { size = size; blocks = blocks_in (length live) size stride bytes; live = live }

-- a fact on the fields is one on what a contract sees of them
pub moved : (P : Pooled → ℕ → Type 0) {p q : Pooled} {b k : ℕ} → p ≡ q → b ≡ k → P p b → P q k
moved P {p} {q} {b} {k} e f x = subst (λ n. P q n) f (subst (λ r. P r b) e x)

inside : (size stride b : ℕ) (live : List Bool) (bytes : List ℕ) → IsLive (seen size stride live bytes) b → b < length live
inside size stride b live bytes is = subst (λ n. b < n) (length-blocks_in (length live) size stride bytes) is.inside

-- the bytes of a block
pub read : (size stride b : ℕ) (live : List Bool) (bytes : List ℕ) → IsLive (seen size stride live bytes) b
    → slice_range bytes (b * stride) (b * stride + size) ≡ pool_block (seen size stride live bytes) b
read size stride b live bytes is =
    let width : b * stride + size - b * stride ≡ size = omega arith in
    ap (λ n. take n (drop (b * stride) bytes)) width ∙ sym (block_at (length live) size stride b (b * stride) bytes (inside size stride b live bytes is) refl)

-- a block lies within the region
pub within : (size stride b n len : ℕ) → size ≤ stride → b < n → len ≡ n * stride → b * stride + size ≤ len
within size stride b n len low lt whole = let end : b * stride + size ≤ n * stride = before size stride b n low lt in omega (arith, end, whole)

-- a piece of a block's size, written where the block lies
pub wrote : (size stride b : ℕ) (live : List Bool) (bytes ws : List ℕ) → IsRegion (length live) size stride bytes → IsLive (seen size stride live bytes) b → length ws ≡ size
    → seen size stride live (over (b * stride) ws bytes) ≡ with_pool_block (seen size stride live bytes) b ws
wrote size stride b live bytes ws region is fits =
    let low : size ≤ stride = omega (arith, region.gap) in
    ap (λ bs. record { size = size; blocks = bs; live = live })
    (blocks_over (length live) size stride b (b * stride) ws bytes refl low (inside size stride b live bytes is) region.whole fits)

cases : {X : Type 0} (b : Bool) (x y z : X) → (b ≡ true → x ≡ y) → x ≡ z → x ≡ cond b y z
cases true x y z f e = f refl
cases false x y z f e = e

-- what is left in the bytes that were lent
pub left : (size stride b len : ℕ) (live : List Bool) (bytes ws : List ℕ) → IsRegion (length live) size stride bytes → IsLive (seen size stride live bytes) b → len ≡ length bytes
    → let all = take (b * stride) bytes ++ (ws ++ drop (length ws) (drop (b * stride) bytes)) in
    seen size stride live (take len (all ++ drop (length all) bytes)) ≡ lent (seen size stride live bytes) b ws
left size stride b len live bytes ws region is e =
    let low : size ≤ stride = omega (arith, region.gap) in
    let gap : stride ≡ size + 64 = region.gap in
    let put : seen size stride live (over (b * stride) ws bytes) ≡ lent (seen size stride live bytes) b ws =
    cases (eqb (length ws) size) _ _ _ (λ fits. wrote size stride b live bytes ws region is (eqb-true (length ws) size fits))
    (ap (λ bs. record { size = size; blocks = bs; live = live }) (blocks_from (length live) size stride b (b * stride) ws bytes refl low
    ∙ ap (λ n. laid_from n b ws (blocks_in (length live) size stride bytes)) gap)) in
    ap (seen size stride live) (vec_is_over len (b * stride) ws bytes e) ∙ put

-- bytes with a piece of a block's size put over where the block lies, as a Vec keeps them
stored : (size stride b len : ℕ) (live : List Bool) (bytes new ws : List ℕ) → IsRegion (length live) size stride bytes → IsLive (seen size stride live bytes) b → len ≡ length bytes
    → new ≡ put_over (b * stride) ws bytes → length ws ≡ size → length new ≡ length bytes
    → seen size stride live (take len (new ++ drop (length new) bytes)) ≡ with_pool_block (seen size stride live bytes) b ws
stored size stride b len live bytes new ws region is e put fits same =
    let low : size ≤ stride = omega (arith, region.gap) in
    let end : b * stride + size ≤ length bytes = within size stride b (length live) (length bytes) low (inside size stride b live bytes is) region.whole in
    let room : b * stride + length ws ≤ length bytes = omega (arith, end, fits) in
    ap (seen size stride live) (take_at new (drop (length new) bytes) len (same ∙ sym e) ∙ put ∙ put_is_over (b * stride) ws bytes room)
    ∙ wrote size stride b live bytes ws region is fits

-- The same for what a call knows: its arguments, and the fields that they are seen as.
pub read_in : (p : Pooled) (k size stride b : ℕ) (live : List Bool) (bytes : List ℕ) → seen size stride live bytes ≡ p → b ≡ k → IsLive p k
    → slice_range bytes (b * stride) (b * stride + size) ≡ pool_block p k
read_in p k size stride b live bytes e f = moved (λ q n. IsLive q n → slice_range bytes (b * stride) (b * stride + size) ≡ pool_block q n) e f (read size stride b live bytes)

pub left_in : (p : Pooled) (k size stride b len : ℕ) (live : List Bool) (bytes ws : List ℕ) → seen size stride live bytes ≡ p → b ≡ k → IsRegion (length live) size stride bytes
    → len ≡ length bytes → IsLive p k
    → let all = take (b * stride) bytes ++ (ws ++ drop (length ws) (drop (b * stride) bytes)) in
    seen size stride live (take len (all ++ drop (length all) bytes)) ≡ lent p k ws
left_in p k size stride b len live bytes ws e f region whole =
    let all = take (b * stride) bytes ++ (ws ++ drop (length ws) (drop (b * stride) bytes)) in
    moved (λ q n. IsLive q n → seen size stride live (take len (all ++ drop (length all) bytes)) ≡ lent q n ws) e f
    (λ is. left size stride b len live bytes ws region is whole)

pub stored_in : (p : Pooled) (k size stride b len : ℕ) (live : List Bool) (bytes new ws : List ℕ) → seen size stride live bytes ≡ p → b ≡ k
    → IsRegion (length live) size stride bytes → len ≡ length bytes
    → new ≡ put_over (b * stride) ws bytes → length ws ≡ size → length new ≡ length bytes → IsLive p k
    → seen size stride live (take len (new ++ drop (length new) bytes)) ≡ with_pool_block p k ws
stored_in p k size stride b len live bytes new ws e f region whole put fits same =
    moved (λ q n. IsLive q n → seen size stride live (take len (new ++ drop (length new) bytes)) ≡ with_pool_block q n ws) e f
    (λ is. stored size stride b len live bytes new ws region is whole put fits same)

-- a leased block has the pool's size
pub size_in : (p : Pooled) (k size stride b : ℕ) (live : List Bool) (bytes : List ℕ) → seen size stride live bytes ≡ p → b ≡ k → IsRegion (length live) size stride bytes → IsLive p k
    → length (slice_range bytes (b * stride) (b * stride + size)) ≡ size
size_in p k size stride b live bytes e f region = moved (λ q n. IsLive q n → length (slice_range bytes (b * stride) (b * stride + size)) ≡ size) e f (λ is.
    let low : size ≤ stride = omega (arith, region.gap) in
    let end : b * stride + size ≤ length bytes = within size stride b (length live) (length bytes) low (inside size stride b live bytes is) region.whole in
    length-take (b * stride + size - b * stride) (drop (b * stride) bytes) ∙ omega (arith, length-drop (b * stride) bytes, end))

-- two leased blocks that differ don't meet
pub apart_in : (p : Pooled) (k j size stride b c : ℕ) (live : List Bool) (bytes : List ℕ) → b ≡ k → c ≡ j → IsRegion (length live) size stride bytes → k ≢ j
    → (b * stride + size ≤ c * stride) ⊎ (c * stride + size ≤ b * stride)
apart_in p k j size stride b c live bytes f g region differ = apart size stride b c (omega (arith, region.gap)) (λ e. differ (sym f ∙ e ∙ g))

-- one block becomes its exclusive-or with another
pub xored : (p : Pooled) (k j size stride b c len : ℕ) (live : List Bool) (bytes shown new : List ℕ) → seen size stride live bytes ≡ p → b ≡ k → c ≡ j
    → IsRegion (length live) size stride bytes → len ≡ length bytes
    → shown ≡ bytes → new ≡ put_over (b * stride) (xor (slice_range shown (b * stride) (b * stride + size)) (slice_range shown (c * stride) (c * stride + size))) shown → length new ≡ length shown
    → IsLive p k → IsLive p j → seen size stride live (take len (new ++ drop (length new) bytes)) ≡ with_pool_block p k (xor (pool_block p k) (pool_block p j))
xored p k j size stride b c len live bytes shown new e f g region whole show put same dst src =
    let to = slice_range bytes (b * stride) (b * stride + size) in
    let from = slice_range bytes (c * stride) (c * stride + size) in
    let put_in : new ≡ put_over (b * stride) (xor to from) bytes =
    subst (λ xs. new ≡ put_over (b * stride) (xor (slice_range xs (b * stride) (b * stride + size)) (slice_range xs (c * stride) (c * stride + size))) xs) show put in
    let to_size : length to ≡ size = size_in p k size stride b live bytes e f region dst in
    let from_size : length from ≡ size = size_in p j size stride c live bytes e g region src in
    stored_in p k size stride b len live bytes new (xor to from) e f region whole put_in (length-xor to from (from_size ∙ sym to_size) ∙ to_size) (same ∙ ap length show) dst
    ∙ ap (λ xs. with_pool_block p k (xor xs from)) (read_in p k size stride b live bytes e f dst)
    ∙ ap (λ ys. with_pool_block p k (xor (pool_block p k) ys)) (read_in p j size stride c live bytes e g src)

-- one block becomes a copy of another
pub copied : (p : Pooled) (k j size stride b c len : ℕ) (live : List Bool) (bytes shown new : List ℕ) → seen size stride live bytes ≡ p → b ≡ k → c ≡ j
    → IsRegion (length live) size stride bytes → len ≡ length bytes
    → shown ≡ bytes → new ≡ put_over (b * stride) (slice_range shown (c * stride) (c * stride + size)) shown → length new ≡ length shown
    → IsLive p k → IsLive p j → seen size stride live (take len (new ++ drop (length new) bytes)) ≡ with_pool_block p k (pool_block p j)
copied p k j size stride b c len live bytes shown new e f g region whole show put same dst src =
    let from = slice_range bytes (c * stride) (c * stride + size) in
    let put_in : new ≡ put_over (b * stride) from bytes =
    subst (λ xs. new ≡ put_over (b * stride) (slice_range xs (c * stride) (c * stride + size)) xs) show put in
    stored_in p k size stride b len live bytes new from e f region whole put_in (size_in p j size stride c live bytes e g region src) (same ∙ ap length show) dst
    ∙ ap (with_pool_block p k) (read_in p j size stride c live bytes e g src)

-- what `new` makes
pub made : (count size stride len : ℕ) (live : List Bool) (bytes : List ℕ) → live ≡ replicate count false → bytes ≡ replicate len 0 → stride ≡ size + 64 → len ≡ count * stride
    → seen size stride live bytes ≡ unleased count size
made count size stride len live bytes e f gap whole =
    ap (λ ls. seen size stride ls bytes) e ∙ ap (seen size stride (replicate count false)) f
    ∙ ap (λ n. record { size = size; blocks = blocks_in n size stride (replicate len 0); live = replicate count false }) (length-replicate count false)
    ∙ ap (λ bs. record { size = size; blocks = bs; live = replicate count false }) (blocks_of_zeros count size stride len whole (omega (arith, gap)))

-- a write of one block changes no other
pub only_block : (p q : Pooled) (k : ℕ) (bytes : List ℕ) → q ≡ with_pool_block p k bytes → Only (k ∷ []) p q
only_block p q k bytes e = subst (Only (k ∷ []) p) (sym e) (record {
  size = refl;
  live = refl;
  count = length-set p.blocks k bytes;
  others = λ j differs. get_or-set_other p.blocks k j bytes [] differs.0;
})
