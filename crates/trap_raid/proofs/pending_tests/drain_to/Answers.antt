use Rattle.std.proofs.Common.{IsTrue, None, sym, subst, rules}
use Rattle.trap_raid.specs.Condition.{Condition}
use Rattle.trap_raid.specs.Members.{MembersFit, DrainFits}
use Rattle.trap_raid.specs.Draining.{writes_to}
use Rattle.trap_raid.proofs.FitLemmas.{drain_fits}
use Rattle.trap_raid.proofs.pending_tests.drain_to.Goals as goal

-- the disks were seen to have all rows
pub drain-requires-clause-disks : goal.drain-requires-clause-disks
drain-requires-clause-disks g c =
    let v = g.B.Bank.view c.args.bank.now in
    let yes : IsTrue c.members_fit.result = search rules in
    let fit : MembersFit c.args.g.now None 0 v = c.members_fit.ensures yes in
    let writes = writes_to c.args.stage.now c.args.upto in
    let P : Condition → Type 0 = λ k. DrainFits k.g k.lost k.rebuilt writes v in
    subst P (sym c.new.ensures) (drain_fits c.args.g.now None 0 writes v fit)
