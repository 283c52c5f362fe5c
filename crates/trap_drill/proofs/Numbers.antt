-- The generator's numbers and the numbers of an array.
use Rattle.std.proofs.Common.{◌≡◌, ℕ, zero, suc, ◌+◌, ◌-◌, ◌*◌, ◌%◌, ◌^◌, ◌<◌, ◌≤◌, ap, sym, ◌∙◌, arith, add-one}
use Rattle.std.proofs.Math.Nat.{mul-le-mul}
use Rattle.trap_model.specs.Image.{volume}
use Rattle.trap_model.specs.declared.numbers.Geometry.{Geometry}
use Rattle.trap_drill.specs.Drilled.{number, drilled_block, blocks_of, add_block}

-- one number after the other
pub number_more : (seed k : ℕ) → number seed (k + 1) ≡ (number seed k * 1103515245 + 12345) % 2 ^ 31
number_more seed k = ap (number seed) (add-one k)

pub number_small : (seed k : ℕ) → number seed k < 2 ^ 31
number_small seed zero = omega arith
number_small seed (suc k) = omega arith

-- an array has a block
pub volume_positive : (g : Geometry) → 0 < volume g
volume_positive g =
    let rows : 1 ≤ g.rows = omega (arith, g.within.rows_least, g.within.chunk_least) in
    let others : 1 ≤ g.members - 1 = omega (arith, g.within.members_least) in
    let most : 1 * 1 ≤ g.rows * (g.members - 1) = mul-le-mul rows others in omega (arith, most)

-- one request more
pub blocks_more : (g : Geometry) (seed n : ℕ) → blocks_of g seed (n + 1) ≡ add_block (blocks_of g seed n) (drilled_block g seed (n + 1))
blocks_more g seed n = ap (blocks_of g seed) (add-one n) ∙ ap (λ m. add_block (blocks_of g seed n) (drilled_block g seed m)) (sym (add-one n))
