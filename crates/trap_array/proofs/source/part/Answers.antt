use Rattle.std.proofs.Common.{rules, ◌≡◌, ℕ, ◌+◌, List, ◌++◌, length, drop, slice_range, refl, sym, ap, subst, ◌∙◌, arith}
use Rattle.std.proofs.lemmas.Bool.{false≢true}
use Rattle.trap_index.specs.declared.item.Item.{Item}
use Rattle.trap_index.specs.Indexed.{item_at}
use Rattle.trap_model.specs.ZeroRun.{ZeroRun}
use Rattle.trap_model.specs.declared.log_record.LogRec.{LogRec}
use Rattle.trap_record.specs.Parts.{part_of}
use Rattle.trap_record.specs.declared.parts.Part.{Part}
use Rattle.trap_ring.specs.Ring.{RingHas}
use Rattle.trap_array.specs.Coded.{HasFirstCode}
use Rattle.trap_array.specs.Holding.{log_ring}
use Rattle.trap_array.specs.Log.{IndexedLog, with_index}
use Rattle.trap_raid.proofs.PoolLemmas.{only_lent, lent_here}
use Rattle.trap_array.proofs.Codes.{has_first_code, ring_code}
use Rattle.trap_array.proofs.Sources.{not_short, is_whole, is_part, bad_long, bad_other}
use Rattle.trap_array.proofs.source.part.Goals as goal

pub returns-then-spelled-len-clause-damaged : goal.returns-then-spelled-len-clause-damaged
returns-then-spelled-len-clause-damaged g c offset is told s stands =
    let item = c.item_of-item.result in
    let short = not_short (with_index c.args.log.now c.args.index.now) s (g.B.Bank.view c.args.bank.now).now.disks c.args.seq item stands c.requires.entry
    c.item_of-item.ensures.item c.item_of-item.ensures.time in
    let size = c.requires.spelled in
    let less = c.if-spelled-len.true in
    omega arith

pub returns-then-spelled-len-clause-cause : goal.returns-then-spelled-len-clause-cause
returns-then-spelled-len-clause-cause g c told =
    let item = c.item_of-item.result in
    let size = c.requires.spelled in
    let less = c.if-spelled-len.true in
    bad_long (with_index c.args.log.now c.args.index.now) (g.B.Bank.view c.args.bank.now).now.disks c.args.seq item c.requires.entry c.item_of-item.ensures.item
    c.on_disk.result c.on_disk.ensures (omega arith)

pub returns-then-not-is_there-clause-damaged : goal.returns-then-not-is_there-clause-damaged
returns-then-not-is_there-clause-damaged g c offset is told s stands =
    let disks = (g.B.Bank.view c.args.bank.now).now.disks in
    let log : IndexedLog = with_index c.args.log.now c.args.index.now in
    let item = c.item_of-item.result in
    let long : length c.reread.new.bytes ≡ 26 + item.plen + item.slen = search rules in
    let whole = is_whole log s disks c.args.seq item stands c.requires.entry c.item_of-item.ensures.item c.item_of-item.ensures.time c.rec_of-rec.result c.reread.new.bytes
    c.requires.can.in_step.indexed.offset (c.in_ok-is_there.ensures.there told) long c.rec_of-rec.ensures in
    false≢true (sym c.if-not-is_there.true ∙ c.in_ok-is_there.ensures.whole.1 whole)

pub returns-then-not-is_there-clause-cause : goal.returns-then-not-is_there-clause-cause
returns-then-not-is_there-clause-cause g c told =
    let disks = (g.B.Bank.view c.args.bank.now).now.disks in
    let log : IndexedLog = with_index c.args.log.now c.args.index.now in
    let item = c.item_of-item.result in
    let long : length c.reread.new.bytes ≡ 26 + item.plen + item.slen = search rules in
    bad_other log disks c.args.seq item c.requires.entry c.item_of-item.ensures.item c.on_disk.result c.on_disk.ensures c.rec_of-rec.result c.reread.new.bytes
    (c.in_ok-is_there.ensures.there told) long c.rec_of-rec.ensures (λ whole. false≢true (sym c.if-not-is_there.true ∙ c.in_ok-is_there.ensures.whole.1 whole))

pub returns-clause-part : goal.returns-clause-part
returns-clause-part g c told s stands =
    let disks = (g.B.Bank.view c.args.bank.now).now.disks in
    let log : IndexedLog = with_index c.args.log.now c.args.index.now in
    let item = c.item_of-item.result in
    let long : length c.reread.new.bytes ≡ 26 + item.plen + item.slen = search rules in
    let block : length c.reread.new.into ≡ log.g.block = search rules in
    lent_here c.args.pool.now c.args.into.now c.reread.new.into (block ∙ sym c.requires.size) c.requires.lease
    ∙ is_part log s disks c.args.seq item stands c.requires.entry c.item_of-item.ensures.item c.item_of-item.ensures.time c.rec_of-rec.result c.reread.new.bytes
    c.requires.can.in_step.indexed.offset (c.in_ok-is_there.ensures.there told) long c.rec_of-rec.ensures c.args.part c.reread.new.into block c.requires.marked
    (c.in_ok-is_there.ensures.spelled c.if-not-is_there.false)

pub returns-clause-code : goal.returns-clause-code
returns-clause-code g c parity =
    let size = c.args.log.now.g.block in
    let rec_ = c.rec_of-rec.result in
    let bytes = c.reread.new.bytes in
    let into = c.reread.new.into in
    let spelled = bytes ++ drop (26 + c.from.result + c.from-2.result) c.args.spelled.now in
    let block : length into ≡ size = search rules in
    let plen : rec_.plen ≡ (item_at c.args.index.now c.args.seq).plen =
    ap (λ (r : LogRec). r.plen) c.rec_of-rec.ensures ∙ ap (λ (item : Item). item.plen) c.item_of-item.ensures.item in
    let code = subst (λ (part : Part). ZeroRun into (part_of part rec_ bytes)) parity (c.in_ok-is_there.ensures.spelled c.if-not-is_there.false) in
    let has = has_first_code size rec_ into bytes _ spelled refl block code (c.in_ok-is_there.ensures.whole.0 c.if-not-is_there.false) in
    subst (λ (b : List ℕ). HasFirstCode size (item_at c.args.index.now c.args.seq).plen b spelled)
    (sym (lent_here c.args.pool.now c.args.into.now into (block ∙ sym c.requires.size) c.requires.lease)) (subst (λ (n : ℕ). HasFirstCode size n into spelled) plen has)

pub returns-clause-there : goal.returns-clause-there
returns-clause-there g c told =
    let disks = (g.B.Bank.view c.args.bank.now).now.disks in
    let item = c.item_of-item.result in
    let bytes = c.reread.new.bytes in
    let rest = drop (26 + c.from.result + c.from-2.result) c.args.spelled.now in
    let long : length bytes ≡ 26 + item.plen + item.slen = search rules in
    subst (λ (i : Item). RingHas (log_ring c.args.log.now.g) (i.off + 26) (slice_range (bytes ++ rest) 26 (26 + i.plen)) disks) c.item_of-item.ensures.item
    (ring_code (log_ring c.args.log.now.g) item.off 26 item.plen bytes rest disks (omega (arith, long)) (c.in_ok-is_there.ensures.there told))

pub returns-then-not-is_there-clause-rest : goal.returns-then-not-is_there-clause-rest
returns-then-not-is_there-clause-rest g c = only_lent c.args.pool.now c.args.into.now c.reread.new.into (c.reread.auto.into ∙ c.bytes_mut.ensures.size)

pub returns-clause-rest : goal.returns-clause-rest
returns-clause-rest g c = only_lent c.args.pool.now c.args.into.now c.reread.new.into (c.reread.auto.into ∙ c.bytes_mut.ensures.size)
