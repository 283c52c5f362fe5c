-- The blocks of a region, and what a write of a part of it does to them.
use Rattle.std.proofs.Common.{◌≡◌, ℕ, zero, suc, ◌+◌, ◌-◌, ◌*◌, ◌≤◌, ◌<◌, ◌≢◌, ◌⊎◌, inl, inr, List, [], ◌∷◌, length, take, drop, get_or, set, replicate, refl, ap, ◌∙◌, subst, arith, ⊎_elim}
use Rattle.std.proofs.lemmas.Bool.{cases_order}
use Rattle.std.proofs.lemmas.List.{length-drop, drop-drop, drop-replicate, take-replicate}
use Rattle.std.proofs.Math.Nat.{mul-le-mul_right}
use Rattle.trap_block.specs.Xor.{zeros}
use Rattle.trap_pool.specs.Lending.{laid, laid_across, laid_from}
use Rattle.trap_pool.specs.Region.{blocks_in}
use Rattle.trap_pool.proofs.Written.{over, take_laid, drop_laid, take_over, drop_over, take_piece, drop_piece}

-- a region has this many blocks
pub length-blocks_in : (n size stride : ℕ) (bytes : List ℕ) → length (blocks_in n size stride bytes) ≡ n
length-blocks_in zero size stride bytes = refl
length-blocks_in (suc n) size stride bytes = ap (λ m. suc m) (length-blocks_in n size stride (drop stride bytes))

-- block k is the bytes at stride k
pub block_at : (n size stride k at : ℕ) (bytes : List ℕ) → k < n → at ≡ k * stride → get_or (blocks_in n size stride bytes) k [] ≡ take size (drop at bytes)
block_at zero size stride k at bytes h e = absurd (omega (arith, h))
block_at (suc n) size stride zero at bytes h e = let z : 0 ≡ at = omega (arith, e) in ap (λ i. take size (drop i bytes)) z
block_at (suc n) size stride (suc k) at bytes h e =
    let s : stride + k * stride ≡ at = omega (arith, e) in
    block_at n size stride k (k * stride) (drop stride bytes) (omega (arith, h)) refl
    ∙ ap (take size) (drop-drop (k * stride) stride bytes) ∙ ap (λ i. take size (drop i bytes)) s

length_rest : (stride n : ℕ) (bytes : List ℕ) → length bytes ≡ suc n * stride → length (drop stride bytes) ≡ n * stride
length_rest stride n bytes whole = length-drop stride bytes ∙ omega (arith, whole)

pub before : (size stride b c : ℕ) → size ≤ stride → b < c → b * stride + size ≤ c * stride
before size stride b c low lt = let next : suc b * stride ≤ c * stride = mul-le-mul_right stride lt in omega (arith, next, low)

-- a piece of a block's size at stride k is block k, and no other block changes
pub blocks_over : (n size stride k at : ℕ) (ws bytes : List ℕ) → at ≡ k * stride → size ≤ stride → k < n → length bytes ≡ n * stride → length ws ≡ size
    → blocks_in n size stride (over at ws bytes) ≡ set (blocks_in n size stride bytes) k ws
blocks_over zero size stride k at ws bytes e low h whole fits = absurd (omega (arith, h))
blocks_over (suc n) size stride zero at ws bytes e low h whole fits =
    let z : at ≡ 0 = omega (arith, e) in
    let room : length ws ≤ length bytes = omega (arith, whole, low, fits) in
    let first : take size (laid ws bytes) ≡ ws = subst (λ m. take m (laid ws bytes) ≡ ws) fits (take_piece ws bytes room) in
    let later : drop stride (laid ws bytes) ≡ drop stride bytes = drop_piece stride ws bytes (omega (arith, low, fits)) in
    ap (λ i. blocks_in (suc n) size stride (over i ws bytes)) z
    ∙ ap (λ b. b ∷ blocks_in n size stride (drop stride (laid ws bytes))) first ∙ ap (λ ys. ws ∷ blocks_in n size stride ys) later
blocks_over (suc n) size stride (suc k) at ws bytes e low h whole fits =
    let from : at ≡ stride + k * stride = omega (arith, e) in
    let first : take size (over at ws bytes) ≡ take size bytes = take_over size at ws bytes (omega (arith, low, from)) in
    let later : drop stride (over at ws bytes) ≡ over (k * stride) ws (drop stride bytes) = drop_over stride (k * stride) at ws bytes from in
    let rest : length (drop stride bytes) ≡ n * stride = length_rest stride n bytes whole in
    ap (λ b. b ∷ blocks_in n size stride (drop stride (over at ws bytes))) first
    ∙ ap (λ ys. take size bytes ∷ blocks_in n size stride ys) later
    ∙ ap (λ bs. take size bytes ∷ bs) (blocks_over n size stride k (k * stride) ws (drop stride bytes) refl low (omega (arith, h)) rest fits)

-- any other piece runs over the gaps and the blocks after it
blocks_laid : (n size stride : ℕ) (ws bytes : List ℕ) → blocks_in n size stride (laid ws bytes) ≡ laid_across stride ws (blocks_in n size stride bytes)
blocks_laid zero size stride ws bytes = refl
blocks_laid (suc n) size stride ws bytes =
    ap (λ b. b ∷ blocks_in n size stride (drop stride (laid ws bytes))) (take_laid size ws bytes)
    ∙ ap (λ ys. laid ws (take size bytes) ∷ blocks_in n size stride ys) (drop_laid stride ws bytes)
    ∙ ap (λ bs. laid ws (take size bytes) ∷ bs) (blocks_laid n size stride (drop stride ws) (drop stride bytes))

pub blocks_from : (n size stride k at : ℕ) (ws bytes : List ℕ) → at ≡ k * stride → size ≤ stride
    → blocks_in n size stride (over at ws bytes) ≡ laid_from stride k ws (blocks_in n size stride bytes)
blocks_from zero size stride k at ws bytes e low = refl
blocks_from (suc n) size stride zero at ws bytes e low =
    let z : at ≡ 0 = omega (arith, e) in
    ap (λ i. blocks_in (suc n) size stride (over i ws bytes)) z ∙ blocks_laid (suc n) size stride ws bytes
blocks_from (suc n) size stride (suc k) at ws bytes e low =
    let from : at ≡ stride + k * stride = omega (arith, e) in
    let first : take size (over at ws bytes) ≡ take size bytes = take_over size at ws bytes (omega (arith, low, from)) in
    let later : drop stride (over at ws bytes) ≡ over (k * stride) ws (drop stride bytes) = drop_over stride (k * stride) at ws bytes from in
    ap (λ b. b ∷ blocks_in n size stride (drop stride (over at ws bytes))) first
    ∙ ap (λ ys. take size bytes ∷ blocks_in n size stride ys) later
    ∙ ap (λ bs. take size bytes ∷ bs) (blocks_from n size stride k (k * stride) ws (drop stride bytes) refl low)

-- a region of zeros has blocks of zeros
pub blocks_of_zeros : (n size stride len : ℕ) → len ≡ n * stride → size ≤ stride → blocks_in n size stride (replicate len 0) ≡ replicate n (zeros size)
blocks_of_zeros zero size stride len e low = refl
blocks_of_zeros (suc n) size stride len e low =
    let rest : len - stride ≡ n * stride = omega (arith, e) in
    ap (λ b. b ∷ blocks_in n size stride (drop stride (replicate len 0))) (take-replicate size len 0 (omega (arith, e, low)))
    ∙ ap (λ ys. zeros size ∷ blocks_in n size stride ys) (drop-replicate stride len 0)
    ∙ ap (λ bs. zeros size ∷ bs) (blocks_of_zeros n size stride (len - stride) rest low)

-- two blocks don't meet
pub apart : (size stride b c : ℕ) → size ≤ stride → b ≢ c → (b * stride + size ≤ c * stride) ⊎ (c * stride + size ≤ b * stride)
apart size stride b c low differ =
    ⊎_elim (λ same. absurd (differ same)) (λ order. ⊎_elim (λ lt. inl (before size stride b c low lt)) (λ gt. inr (before size stride c b low gt)) order) (cases_order b c)
