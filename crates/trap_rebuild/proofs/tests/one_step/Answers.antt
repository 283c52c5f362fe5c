use Rattle.std.proofs.Common.{IsTrue, sym, subst, rules}
use Rattle.trap_raid.specs.Condition.{Condition}
use Rattle.trap_rebuild.specs.Rebuilding.{AllFit}
use Rattle.trap_rebuild.proofs.tests.one_step.Goals as goal

pub step-done-requires-clause-disks : goal.step-done-requires-clause-disks
step-done-requires-clause-disks g c =
    let fit : IsTrue c.all_fit.result = search rules in
    subst (λ (k : Condition). AllFit k.g (g.B.Bank.view c.args.bank.now)) (sym c.new-raid.ensures) (c.all_fit.ensures fit)
