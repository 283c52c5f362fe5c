use Rattle.std.proofs.Common.{◌≡◌, ◌↔◌, ℕ, subst}
use Rattle.std.specs.Int.{bit_at}
use Rattle.std.proofs.lemmas.Simd.{get_or-chunk}
use Rattle.trap_block.proofs.zeros.zeros_at.Goals as goal

pub returns : goal.returns
returns c k within =
    subst (λ (b : ℕ). (bit_at c.zero_mask.result k ≡ 1) ↔ (b ≡ 0)) (get_or-chunk c.args.at 32 c.args.bytes.now k 0 within) (c.zero_mask.ensures k within)
