use Rattle.std.proofs.Common.{◌≡◌, ℕ, ◌<◌, List, length, get_or, Option, None, sym, ◌∙◌, lt_of_lt_of_le, le_of_eq, le_refl, length-set}
use Rattle.std.proofs.lemmas.List.{get_or_default}
use Rattle.trap_bank.specs.Kept.{Kept}
use Rattle.trap_bank.proofs.CrashedDisks.{drawn_next, one_more_crashed, others_left, all_crashed}
use Rattle.trap_bank.proofs.crashing.crash_all.Goals as goal

pub loop-d-preserved : goal.loop-d-preserved
loop-d-preserved c =
    let old : List (Option Kept) = c.args.disks.now in
    let now : List (Option Kept) = c.loop-d.disks in
    let d : ℕ = c.loop-d.d in
    let x : ℕ = c.loop-d.draws.number in
    let disk : Option Kept = get_or now d c.index-disks-d.result in
    let new : Option Kept = c.crash_one.new.disk in
    let below : d < length now = lt_of_lt_of_le c.loop-d-test.true (le_of_eq (sym c.loop-d.invariant.count)) in
    let is : disk ≡ get_or old d None = get_or_default now d c.index-disks-d.result None below ∙ c.loop-d.invariant.left d (le_refl d) in
    record {
      count = length-set now d new ∙ c.loop-d.invariant.count;
      number = drawn_next c.args.seed old d x c.crash_one.new.draws.number disk c.loop-d.invariant.number is c.crash_one.ensures.drawn;
      done = one_more_crashed c.args.seed d x old now disk new below c.loop-d.invariant.number is c.crash_one.ensures.crashed c.loop-d.invariant.done;
      left = others_left d old now new c.loop-d.invariant.left;
    }

pub returns : goal.returns
returns c = all_crashed c.args.seed c.loop-d.d c.args.disks.now c.loop-d.disks c.loop-d.invariant.count c.loop-d-test.false c.loop-d.invariant.done
