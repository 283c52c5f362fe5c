use Rattle.std.proofs.Common.{◌≡◌, ℕ, ◌<◌, sym, subst}
use Rattle.std.specs.Int.{bit_at}
use Rattle.trap_block.proofs.LaneLemmas.{ones-tell}
use Rattle.trap_block.proofs.zeros.low_bits_set.Goals as goal

pub returns-clause-set : goal.returns-clause-set
returns-clause-set c =
    subst (λ (n : ℕ). (k : ℕ) → k < n → bit_at c.args.mask k ≡ 1) (sym c.trailing_ones.ensures) (ones-tell c.args.mask c.ranges.mask.fits).0

pub returns-clause-end : goal.returns-clause-end
returns-clause-end c =
    subst (λ (n : ℕ). n < 32 → bit_at c.args.mask n ≡ 0) (sym c.trailing_ones.ensures) (ones-tell c.args.mask c.ranges.mask.fits).1
