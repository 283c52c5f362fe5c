use Rattle.std.proofs.Common.{◌<◌}
use Rattle.std.proofs.lemmas.Result.{err_from_is_err_and}
use Rattle.trap_bank.proofs.OnlyReads.{reads_then}
use Rattle.trap_scan.proofs.Taking.{not_below}
use Rattle.trap_scan.proofs.Chains.{scanned_all, scanned_broken}
use Rattle.trap_mount.proofs.MountRecords.{taken_none, taken_may, taken_next, has_taken, all_read}
use Rattle.trap_mount.proofs.mounting.records.take_records.Goals as goal

pub records-init : goal.records-init
records-init g c =
    taken_none c.args.ring.now (g.B.Bank.view c.args.bank.now) c.args.scan.now c.args.index.now c.requires.start.first c.requires.start.awaits c.requires.start.more c.requires.start.loaded

pub add-requires : goal.add-requires
add-requires g c =
    let view = g.B.Bank.view in
    let more : c.records.scan.seq < c.records.scan.expected.last = c.is_more.ensures.0 c.records-test.true in
    let may = taken_may c.args.ring.now (view c.args.bank.now) (view c.records.bank) c.args.scan.now c.records.scan c.next.new.self c.args.index.now c.records.index c.in_ok-rec.rec
    c.requires.start.awaits c.records.invariant more c.in_ok-rec.ensures.next c.in_ok-rec.ensures.next.checked in
    record { few = may.few; number = may.number; time = may.time; block = may.block; ranges = may.ranges }

pub records-preserved : goal.records-preserved
records-preserved g c =
    let view = g.B.Bank.view in
    let more : c.records.scan.seq < c.records.scan.expected.last = c.is_more.ensures.0 c.records-test.true in
    taken_next c.args.ring.now (view c.args.bank.now) (view c.records.bank)
    (view c.next.new.bank) c.args.scan.now c.records.scan c.next.new.self c.args.index.now c.records.index c.add.new.self c.in_ok-rec.rec
    c.requires.start.awaits c.records.invariant more c.next.ensures.looks c.in_ok-rec.ensures.next.expected c.in_ok-rec.ensures.next c.in_ok-rec.ensures.next.checked c.next.ensures.loaded
    c.in_ok-rec.ensures.right c.add.ensures

pub returns-clause-ok : goal.returns-clause-ok
returns-clause-ok g c =
    let view = g.B.Bank.view in
    let done = not_below c.is_more.result c.records.scan.seq c.records.scan.expected.last c.records-test.false c.is_more.ensures.1 in
    let scanned = c.records.invariant.scanned in
    record {
      right = λ told bytes ahead. scanned_all c.args.ring.now (view c.args.bank.now) (view c.records.bank) c.args.scan.now c.records.scan scanned done told bytes ahead;
      taken = has_taken c.args.ring.now (view c.args.bank.now) (view c.records.bank) c.args.scan.now c.records.scan c.args.index.now c.records.index c.records.invariant done;
      read = λ told bytes ahead.
          all_read c.args.ring.now (view c.args.bank.now).now.disks c.records.scan c.args.index.now.g.block c.records.index.recs bytes (c.records.invariant.read told bytes ahead);
    }

pub returns-in_err-rec-clause-damaged : goal.returns-in_err-rec-clause-damaged
returns-in_err-rec-clause-damaged g c = λ told at is bytes ahead.
    let view = g.B.Bank.view in
    let out = err_from_is_err_and c.from_residual.result c.from_residual.ensures.1 in
    let more : c.records.scan.seq < c.records.scan.expected.last = c.is_more.ensures.0 c.records-test.true in
    scanned_broken c.args.ring.now (view c.args.bank.now) (view c.records.bank) c.args.scan.now c.records.scan at c.records.invariant.scanned more told
    (λ tells. c.in_err-rec.ensures.damaged tells at (cc (out.1, out.2, is))) bytes ahead

pub returns-in_err-rec-clause-looks : goal.returns-in_err-rec-clause-looks
returns-in_err-rec-clause-looks g c =
    let view = g.B.Bank.view in
    reads_then (view c.args.bank.now) (view c.records.bank) (view c.next.new.bank) c.records.invariant.scanned.looks c.next.ensures.looks
