use Rattle.std.proofs.Common.{◌≡◌, arith, rules}
use Rattle.trap_format.specs.MemberDisk.{row_at}
use Rattle.trap_raid.specs.Members.{Counts}
use Rattle.trap_raid.proofs.DrainSteps.{counted_step}
use Rattle.trap_raid.proofs.DrainSteps.{counted_written}
use Rattle.trap_raid.proofs.writes.write_place.Goals as goal

-- the place counts, so that its disk reaches to the end of the row
pub write_through-requires-clause-room : goal.write_through-requires-clause-room
write_through-requires-clause-room g c =
    let counts : Counts c.args.lost c.args.rebuilt c.args.place.row c.args.place.member = search rules in
    let there = c.requires.disk counts in
    let at : c.row_offset.result ≡ row_at c.args.g.now c.args.place.row = c.row_offset.ensures in
    (there.0, there.1, omega (arith, there.2, at, c.requires.size))

-- ---- it is written
pub returns-in-Ok-clause-ok : goal.returns-in-Ok-clause-ok
returns-in-Ok-clause-ok g c =
    let counts : Counts c.args.lost c.args.rebuilt c.args.place.row c.args.place.member = search rules in
    let at : c.row_offset.result ≡ row_at c.args.g.now c.args.place.row = c.row_offset.ensures in
    counted_written c.args.g.now c.args.lost c.args.rebuilt c.args.place.row c.args.place.member c.row_offset.result c.args.bytes.now counts at c.requires.size
    (g.B.Bank.view c.args.bank.now) (g.B.Bank.view c.write_through.new.bank) c.in-Ok.ensures.ok

-- ---- and nothing else
pub returns-in-Ok-clause-any_moment : goal.returns-in-Ok-clause-any_moment
returns-in-Ok-clause-any_moment g c =
    let counts : Counts c.args.lost c.args.rebuilt c.args.place.row c.args.place.member = search rules in
    let at : c.row_offset.result ≡ row_at c.args.g.now c.args.place.row = c.row_offset.ensures in
    let written = c.write_through.ensures.any_moment in
    counted_step c.args.g.now c.args.lost c.args.rebuilt c.args.place.row c.args.place.member c.row_offset.result c.args.bytes.now counts at c.requires.size
    (g.B.Bank.view c.args.bank.now) _ written

pub returns-in-Err-clause-any_moment : goal.returns-in-Err-clause-any_moment
returns-in-Err-clause-any_moment g c =
    let counts : Counts c.args.lost c.args.rebuilt c.args.place.row c.args.place.member = search rules in
    let at : c.row_offset.result ≡ row_at c.args.g.now c.args.place.row = c.row_offset.ensures in
    let torn = c.write_through.ensures.any_moment in
    counted_step c.args.g.now c.args.lost c.args.rebuilt c.args.place.row c.args.place.member c.row_offset.result c.args.bytes.now counts at c.requires.size
    (g.B.Bank.view c.args.bank.now) _ torn
