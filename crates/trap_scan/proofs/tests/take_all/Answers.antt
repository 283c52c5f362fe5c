use Rattle.std.proofs.Common.{◌<◌}
use Rattle.trap_scan.proofs.Chains.{scanned_next}
use Rattle.trap_scan.proofs.tests.take_all.Goals as goal

pub records-preserved : goal.records-preserved
records-preserved g c =
    let view = g.B.Bank.view in
    let more : c.records.scan.seq < c.records.scan.expected.last = c.is_more.ensures.0 c.records-test.true in
    scanned_next c.args.ring.now (view c.args.bank.now) (view c.records.bank) (view c.next.new.bank) c.args.scan.now c.records.scan c.next.new.self c.in_ok-next.field-0
    c.records.invariant more c.next.ensures.looks c.in_ok-next.ensures.next.expected c.in_ok-next.ensures.next c.next.ensures.loaded c.in_ok-next.ensures.right
