-- Two leases that are taken and given back.
use Rattle.std.proofs.Common.{◌≡◌, ℕ, not, [], ◌∷◌, count_by, ap, ◌∙◌, arith}
use Rattle.trap_pool.specs.Pooled.{Pooled, pool_block, free_of, Leased, Gives}
use Rattle.trap_pool.specs.Frames.{Only, KeepsLeases}
use Rattle.trap_pool.proofs.Leases.{leases_changed}

-- each lease that was out before them stands, with its bytes, and as many blocks are free
pub both_given : (a b : ℕ) (p0 p1 p2 p3 p4 p5 : Pooled) → Leased a p0 p1 → Leased b p1 p2 → Only (a ∷ b ∷ []) p2 p3 → Gives b p3 p4 → Gives a p4 p5 → KeepsLeases p0 p5
both_given a b p0 p1 p2 p3 p4 p5 one two only three four = record {
  size = ap (λ (p : Pooled). p.size) four.is ∙ ap (λ (p : Pooled). p.size) three.is ∙ only.size ∙ ap (λ (p : Pooled). p.size) two.is ∙ ap (λ (p : Pooled). p.size) one.is;
  free =
      let same : free_of p3 ≡ free_of p2 = ap (λ ls. count_by not ls) only.live in
      omega (arith, one.free, two.free, three.free, four.free, same);
  live = λ k is. four.stays k (three.stays k (leases_changed (a ∷ b ∷ []) (k ∷ []) p2 p3 only (two.stays k (one.stays k is), tt, tt)).0 (two.distinct k (one.stays k is))) (one.distinct k is);
  others = λ k is.
      ap (λ (p : Pooled). pool_block p k) four.is ∙ ap (λ (p : Pooled). pool_block p k) three.is
      ∙ only.others k (one.distinct k is, (two.distinct k (one.stays k is), tt))
      ∙ ap (λ (p : Pooled). pool_block p k) two.is ∙ ap (λ (p : Pooled). pool_block p k) one.is;
}
