-- Taking a block: the first one that isn't leased.
use Rattle.std.proofs.Common.{◌≡◌, ◌≢◌, ◌↔◌, ℕ, ◌+◌, ◌≤◌, ◌<◌, Bool, true, false, cond, not, List, [], ◌∷◌, length, get_or, set, Some, None, IsSome, is_some, rules, refl, ap, sym, ◌∙◌, subst, arith, get_or-set_same, get_or-set_other}
use Rattle.std.specs.Prelude.{count_by, position, Option}
use Rattle.std.specs.List.{position_or_len}
use Rattle.std.proofs.lemmas.Bool.{both_ways, ltb-false, not-true}
use Rattle.std.proofs.lemmas.List.{get_or_default, length-set}
use Rattle.std.proofs.lemmas.List.Sums.{sum_by-cons, sum_by-set}
use Rattle.std.proofs.lemmas.List.Quantifiers.{position-Some}
use Rattle.trap_pool.specs.Pooled.{Pooled, IsLive, Leased, free_of}
use Rattle.trap_pool.specs.Region.{blocks_in}
use Rattle.trap_pool.proofs.Regions.{length-blocks_in}
use Rattle.trap_pool.proofs.Pools.{seen}

found_none : (b : Bool) (k : ℕ) → cond b (Some k) None ≡ None → b ≡ false
found_none true k e = search rules
found_none false k e = refl

all_leased : (live : List Bool) → length live ≤ position_or_len not live → count_by not live ≡ 0
all_leased [] h = refl
all_leased (true ∷ live) h = sum_by-cons (λ x. cond (not x) 1 0) true live ∙ omega (arith, all_leased live (omega (arith, h)))
all_leased (false ∷ live) h = absurd (omega (arith, h))

-- no block is found exactly where none is free
pub none_free : (p : Pooled) (live : List Bool) (size stride : ℕ) (bytes : List ℕ) (r : Option ℕ) → seen size stride live bytes ≡ p → position not live ≡ None → r ≡ None → IsSome r ↔ (0 < free_of p)
none_free p live size stride bytes r e none is =
    let zero_free : free_of p ≡ 0 = sym (ap free_of e) ∙ all_leased live (ltb-false (position_or_len not live) (length live) (found_none _ _ none)) in
    (λ some. absurd (both_ways (is_some r) (ap is_some is) some), λ some. absurd (omega (arith, zero_free, some)))

-- one block fewer is free
count_leased : (live : List Bool) (k : ℕ) → k < length live → get_or live k true ≡ false → count_by not (set live k true) + 1 ≡ count_by not live
count_leased live k h e =
    let one : Bool → ℕ = λ b. cond (not b) 1 0 in
    let all : count_by not (set live k true) + one (get_or live k true) ≡ count_by not live + 0 = sum_by-set one live k true true h in
    let gone : one (get_or live k true) ≡ 1 = ap one e in
    omega (arith, all, gone)

-- what is so where the first block that isn't leased is leased
took : (live : List Bool) (size stride b : ℕ) (bytes : List ℕ) → position not live ≡ Some b → Leased b (seen size stride live bytes) (seen size stride (set live b true) bytes)
took live size stride b bytes found =
    let at = position-Some not live b true found in
    let free : get_or live b true ≡ false = not-true (get_or live b true) at.1 in
    let same : length (set live b true) ≡ length live = length-set live b true in
    let blocks : blocks_in (length (set live b true)) size stride bytes ≡ blocks_in (length live) size stride bytes = ap (λ n. blocks_in n size stride bytes) same in
    let whole : length (blocks_in (length (set live b true)) size stride bytes) ≡ length (blocks_in (length live) size stride bytes) = ap length blocks in
    let distinct : (j : ℕ) → IsLive (seen size stride live bytes) j → j ≢ b =
    λ j is e. both_ways (get_or live b true) free (get_or_default live b true false at.0 ∙ ap (λ i. get_or live i false) (sym e) ∙ is.live) in
    record {
      is = ap (λ bs. record { size = size; blocks = bs; live = set live b true }) blocks;
      live = record {
        live = get_or-set_same live b true false at.0;
        inside = subst (λ n. b < n) (sym (length-blocks_in (length (set live b true)) size stride bytes ∙ same)) at.0;
      };
      distinct = distinct;
      stays = λ j is. record {
        live = get_or-set_other live b j true false (distinct j is) ∙ is.live;
        inside = subst (λ n. j < n) (sym whole) is.inside;
      };
      free = count_leased live b at.0 free;
    }

pub took_in : (p : Pooled) (live : List Bool) (size stride b : ℕ) (bytes : List ℕ) → seen size stride live bytes ≡ p → position not live ≡ Some b
    → Leased b p (seen size stride (set live b true) bytes)
took_in p live size stride b bytes e found = subst (λ q. Leased b q (seen size stride (set live b true) bytes)) e (took live size stride b bytes found)

-- some block is found exactly where one is free
pub some_free : (p : Pooled) (live : List Bool) (size stride b : ℕ) (bytes : List ℕ) → seen size stride live bytes ≡ p → position not live ≡ Some b → (true ≡ true) ↔ (0 < free_of p)
some_free p live size stride b bytes e found =
    let free : free_of (seen size stride (set live b true) bytes) + 1 ≡ free_of p = (took_in p live size stride b bytes e found).free in
    (λ _. omega (arith, free), λ _. refl)
