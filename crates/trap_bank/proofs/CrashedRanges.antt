-- Ranges that are filled in a crash.
use Rattle.std.proofs.Common.{◌≡◌, ℕ, zero, suc, ◌+◌, ◌<◌, ◌≤◌, List, [], ◌∷◌, length, drop, get_or, sym, ◌∙◌, ap, inl, inr, arith, le_of_suc-le-suc}
use Rattle.std.proofs.Math.Seq.{drop-length}
use Rattle.trap_bank.specs.declared.disk.Range.{Range}
use Rattle.trap_bank.specs.Draws.{drawn, after_draws}
use Rattle.trap_bank.specs.Kept.{InRanges, AgreeOutside, overlaid}
use Rattle.trap_bank.specs.Crash.{filled, after_ranges}
use Rattle.trap_bank.proofs.Ranges.{overlaid-outside, length-overlaid}
use Rattle.trap_bank.proofs.Drawing.{length-drawn}

-- a position in one of the ranges, by its place
pub in_at : (ranges : List Range) (k i : ℕ) (none : Range) → k < length ranges → (get_or ranges k none).at ≤ i → i < (get_or ranges k none).at + (get_or ranges k none).len → InRanges ranges i
in_at [] k i none below from to = let no_range : ⊥ = omega arith in absurd no_range
in_at (r ∷ rs) zero i none below from to = inl (from, to)
in_at (r ∷ rs) (suc k) i none below from to = inr (in_at rs k i none (le_of_suc-le-suc below) from to)

-- one more range is filled, and outside of all ranges nothing has changed
pub filled_more : (ranges : List Range) (k : ℕ) (none : Range) (x : ℕ) (bytes old : List ℕ) → k < length ranges → (get_or ranges k none).at + (get_or ranges k none).len ≤ length bytes
    → AgreeOutside ranges bytes old → AgreeOutside ranges (overlaid bytes (get_or ranges k none).at (drawn (get_or ranges k none).len x)) old
filled_more ranges k none x bytes old below inside agree i out =
    let range : Range = get_or ranges k none in
    let long : length (drawn range.len x) ≡ range.len = length-drawn range.len x in
    let fits : range.at + length (drawn range.len x) ≤ length bytes = omega arith in
    overlaid-outside bytes range.at (drawn range.len x) i fits (λ from to. out (in_at ranges k i none below from (omega arith))) ∙ agree i out

pub length-filled : (range : Range) (x : ℕ) (bytes : List ℕ) → range.at + range.len ≤ length bytes → length (overlaid bytes range.at (drawn range.len x)) ≡ length bytes
length-filled range x bytes inside =
    let long : length (drawn range.len x) ≡ range.len = length-drawn range.len x in
    let fits : range.at + length (drawn range.len x) ≤ length bytes = omega arith in
    length-overlaid bytes range.at (drawn range.len x) fits

-- the first of the ranges that are left is filled, and then the others
pub filled_first : (ranges : List Range) (k : ℕ) (range : Range) (x y : ℕ) (bytes fresh : List ℕ) → drop k ranges ≡ range ∷ drop (k + 1) ranges
    → fresh ≡ overlaid bytes range.at (drawn range.len x) → y ≡ after_draws range.len x
    → filled y (drop (k + 1) ranges) fresh ≡ filled x (drop k ranges) bytes
filled_first ranges k range x y bytes fresh split is number =
    ap (λ (n : ℕ). filled n (drop (k + 1) ranges) fresh) number
    ∙ ap (λ (xs : List ℕ). filled (after_draws range.len x) (drop (k + 1) ranges) xs) is
    ∙ sym (ap (λ (rs : List Range). filled x rs bytes) split)

pub numbered_first : (ranges : List Range) (k : ℕ) (range : Range) (x y : ℕ) → drop k ranges ≡ range ∷ drop (k + 1) ranges → y ≡ after_draws range.len x
    → after_ranges y (drop (k + 1) ranges) ≡ after_ranges x (drop k ranges)
numbered_first ranges k range x y split number =
    ap (λ (n : ℕ). after_ranges n (drop (k + 1) ranges)) number ∙ sym (ap (λ (rs : List Range). after_ranges x rs) split)

-- where no range is left, all is filled
pub all_filled : (ranges : List Range) (k x : ℕ) (bytes : List ℕ) → k ≡ length ranges → bytes ≡ filled x (drop k ranges) bytes
all_filled ranges k x bytes all = sym (ap (λ (n : ℕ). filled x (drop n ranges) bytes) all ∙ ap (λ (rs : List Range). filled x rs bytes) (drop-length ranges))

pub all_numbered : (ranges : List Range) (k x : ℕ) → k ≡ length ranges → x ≡ after_ranges x (drop k ranges)
all_numbered ranges k x all = sym (ap (λ (n : ℕ). after_ranges x (drop n ranges)) all ∙ ap (λ (rs : List Range). after_ranges x rs) (drop-length ranges))
