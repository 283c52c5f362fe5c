use Rattle.std.proofs.Common.{◌≡◌, ℕ, ◌+◌, ◌≤◌, List, drop, length, subst, sym, ap, ◌∙◌, get_or, le_antisymm}
use Rattle.trap_bank.specs.declared.disk.Range.{Range}
use Rattle.trap_bank.specs.Kept.{AgreeOutside}
use Rattle.trap_bank.proofs.Ranges.{copied_more, agree_everywhere, length-copied, split_at}
use Rattle.trap_bank.proofs.disk.copy_ranges.Goals as goal

pub loop-range-preserved : goal.loop-range-preserved
loop-range-preserved c =
    let to : List ℕ = c.loop-range.to in
    let from : List ℕ = c.args.from.now in
    let k : ℕ = c.loop-range.range-index in
    let range : Range = get_or c.args.ranges.now k (record { at = 0; len = 0 }) in
    let inside : range.at + range.len ≤ length from = c.requires.inside k (record { at = 0; len = 0 }) c.loop-range-test.true in
    record {
      same = ap (λ (xs : List ℕ). length xs) c.copy_range.ensures ∙ length-copied to from range c.loop-range.invariant.same inside;
      agree = subst (λ (xs : List ℕ). AgreeOutside (drop (k + 1) c.args.ranges.now) xs from) (sym c.copy_range.ensures)
          (copied_more to from c.args.ranges.now k range c.loop-range.invariant.same inside (split_at c.args.ranges.now k c.loop-range-test.true) c.loop-range.invariant.agree);
    }

pub returns : goal.returns
returns c =
    let all : c.loop-range.range-index ≡ length c.args.ranges.now = le_antisymm c.loop-range.auto.range-index-end c.loop-range-test.false in
    agree_everywhere c.loop-range.to c.args.from.now c.args.ranges.now c.loop-range.invariant.same
    (subst (λ (k : ℕ). AgreeOutside (drop k c.args.ranges.now) c.loop-range.to c.args.from.now) all c.loop-range.invariant.agree)
