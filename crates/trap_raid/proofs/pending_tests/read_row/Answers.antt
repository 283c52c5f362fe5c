use Rattle.std.proofs.Common.{IsTrue, sym, subst, rules, arith}
use Rattle.trap_raid.specs.Condition.{Condition}
use Rattle.trap_raid.specs.Members.{PlaceFits, MembersFit}
use Rattle.trap_raid.proofs.FitLemmas.{place_fits}
use Rattle.trap_raid.proofs.pending_tests.read_row.Goals as goal

-- the disks were seen to have all rows
pub read_place-requires-clause-disks : goal.read_place-requires-clause-disks
read_place-requires-clause-disks g c =
    let v = g.B.Bank.view c.loop-member.bank in
    let yes : IsTrue c.members_fit.result = search rules in
    let fit : MembersFit c.args.g.now c.args.lost 0 v = c.members_fit.ensures yes in
    let P : Condition → Type 0 = λ k. PlaceFits k.g k.lost c.args.stage.now.pending v c.args.row c.loop-member.member-counter in
    subst P (sym c.new-raid.ensures) (place_fits c.args.g.now c.args.lost 0 c.args.stage.now.pending v c.args.row c.loop-member.member-counter fit c.requires.row (omega arith))
