use Rattle.std.proofs.Common.{◌≡◌, ℕ, ◌+◌, ◌≤◌, List, ◌∷◌, drop, length, get_or, subst, sym, ap, ◌∙◌, le_antisymm}
use Rattle.trap_bank.specs.declared.disk.Range.{Range}
use Rattle.trap_bank.specs.Kept.{AgreeOutside}
use Rattle.trap_bank.proofs.Ranges.{split_at}
use Rattle.trap_bank.proofs.CrashedRanges.{filled_more, length-filled, filled_first, numbered_first, all_filled, all_numbered}
use Rattle.trap_bank.proofs.crashing.fill.Goals as goal

pub loop-range-preserved : goal.loop-range-preserved
loop-range-preserved c =
    let ranges : List Range = c.args.ranges.now in
    let k : ℕ = c.loop-range.range-index in
    let none : Range = record { at = 0; len = 0 } in
    let x : ℕ = c.loop-range.draws.number in
    let bytes : List ℕ = c.loop-range.bytes in
    let inside : (get_or ranges k none).at + (get_or ranges k none).len ≤ length bytes =
    subst (λ (n : ℕ). (get_or ranges k none).at + (get_or ranges k none).len ≤ n) (sym c.loop-range.invariant.long) (c.requires k none c.loop-range-test.true) in
    let split : drop k ranges ≡ get_or ranges k none ∷ drop (k + 1) ranges = split_at ranges k c.loop-range-test.true in
    record {
      long = ap (λ (xs : List ℕ). length xs) c.fill_range.ensures.bytes ∙ length-filled (get_or ranges k none) x bytes inside ∙ c.loop-range.invariant.long;
      rest = filled_first ranges k (get_or ranges k none) x c.fill_range.new.draws.number bytes c.fill_range.new.bytes split c.fill_range.ensures.bytes c.fill_range.ensures.number
          ∙ c.loop-range.invariant.rest;
      numbers = numbered_first ranges k (get_or ranges k none) x c.fill_range.new.draws.number split c.fill_range.ensures.number ∙ c.loop-range.invariant.numbers;
      agree = subst (λ (xs : List ℕ). AgreeOutside ranges xs c.args.bytes.now) (sym c.fill_range.ensures.bytes)
          (filled_more ranges k none x bytes c.args.bytes.now c.loop-range-test.true inside c.loop-range.invariant.agree);
    }

pub returns-clause-exact : goal.returns-clause-exact
returns-clause-exact c =
    let all : c.loop-range.range-index ≡ length c.args.ranges.now = le_antisymm c.loop-range.auto.range-index-end c.loop-range-test.false in
    all_filled c.args.ranges.now c.loop-range.range-index c.loop-range.draws.number c.loop-range.bytes all ∙ c.loop-range.invariant.rest

pub returns-clause-drawn : goal.returns-clause-drawn
returns-clause-drawn c =
    let all : c.loop-range.range-index ≡ length c.args.ranges.now = le_antisymm c.loop-range.auto.range-index-end c.loop-range-test.false in
    all_numbered c.args.ranges.now c.loop-range.range-index c.loop-range.draws.number all ∙ c.loop-range.invariant.numbers
