-- The entries that are looked back over are later ones of the block, each older than the one before.
use Rattle.std.proofs.Common.{◌≡◌, ℕ, zero, suc, ◌+◌, ◌-◌, ◌<◌, ◌≤◌, length, refl, subst, arith, length-drop}
use Rattle.std.proofs.Math.Nat.{lt_of_not-le}
use Rattle.trap_index.specs.Indexed.{Indexed, newest, of_block, recs_above}
use Rattle.trap_index.specs.Keeping.{IsIndexed}
use Rattle.trap_index.proofs.Chains.{of_block_few}
use Rattle.trap_index.proofs.Walking.{Walked, walk_begins, walk_at, walk_goes_on, walk_falls, walk_ends}
use Rattle.trap_past.specs.Asking.{nth_newest, IsLater}

-- how many there are
abbrev later_count : Indexed → ℕ → ℕ → ℕ
later_count i block seq = length (of_block block (recs_above i seq))

module _ (i : Indexed) (block seq : ℕ) (is : IsIndexed i) (low : i.first ≤ seq) where
  -- after fewer than all of them the next one is above the instant
  above_is : (k number : ℕ) → Walked i block seq k number → k < later_count i block seq → seq < number
  above_is k number walked few = lt_of_not-le (λ (met : number ≤ seq). let all = walk_ends i block seq k number is walked low met in absurd (omega arith))

  walks : (k : ℕ) → k < later_count i block seq → Walked i block seq k (nth_newest i block k)
  walks zero some =
      let count = of_block_few block (recs_above i seq) in
      let long = length-drop (seq - i.first) i.recs in
      walk_begins i block seq (newest block i.recs) (omega arith) refl
  walks (suc k) few =
      let before = walks k (omega arith) in
      let next : k + 1 ≡ suc k = omega arith in
      subst (λ (n : ℕ). Walked i block seq n (nth_newest i block (suc k))) next
      (walk_goes_on i block seq k (nth_newest i block k) is before (nth_newest i block (suc k)) (above_is k (nth_newest i block k) before (omega arith)) refl)

  pub later : (k : ℕ) → k < later_count i block seq → IsLater i block seq (nth_newest i block k)
  later k few =
      let walked = walks k few in
      let above = above_is k (nth_newest i block k) walked few in
      let at = walk_at i block seq k (nth_newest i block k) is walked above in
      let within = walked.within in
      let high = at.high in
      record { above = above; low = at.low; high = omega arith; own = at.writes }

  pub older : (k : ℕ) → suc k < later_count i block seq → nth_newest i block (suc k) < nth_newest i block k
  older k few =
      let walked = walks k (omega arith) in
      walk_falls i block seq k (nth_newest i block k) is walked (nth_newest i block (suc k)) (above_is k (nth_newest i block k) walked (omega arith)) refl
