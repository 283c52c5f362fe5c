use Rattle.std.proofs.Common.{◌≡◌, ◌↔◌, ℕ, ◌^◌, ◌<◌, get_or, sym, subst, arith}
use Rattle.std.specs.Int.{bit_at}
use Rattle.trap_block.proofs.LaneLemmas.{mask_computed, mask_of-lt, mask_of_tells}
use Rattle.trap_block.proofs.lanes.zero_mask.Goals as goal

pub overflow_cast-result : goal.overflow_cast-result
overflow_cast-result c =
    record { fits = subst (λ (m : ℕ). m < 2 ^ 32) (sym (mask_computed c.args.a c.fits-a.0)) (mask_of-lt c.args.a c.fits-a.0) }

pub returns : goal.returns
returns c lane within =
    let long = c.fits-a.0 in
    subst (λ (m : ℕ). (bit_at m lane ≡ 1) ↔ (get_or c.args.a lane 0 ≡ 0)) (sym (mask_computed c.args.a c.fits-a.0)) (mask_of_tells c.args.a lane (omega arith))
