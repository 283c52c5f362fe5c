use Rattle.std.proofs.Common.{◌+◌, ◌-◌, arith}
use Rattle.trap_bank.proofs.OnlyReads.{reads_once}
use Rattle.trap_stage.proofs.HeldSlots.{IsOver, held_beside}
use Rattle.trap_stage.proofs.disk.read_slot.Goals as goal

pub returns-in_err-read-clause-others : goal.returns-in_err-read-clause-others
returns-in_err-read-clause-others g c q other =
    let over : IsOver c.args.g.now c.args.slots.now c.read.new.buf c.slot_offset-at.result (c.slot_offset-at.result + c.slot_len.result - c.slot_offset-at.result) c.args.seq =
    record { size = c.requires.size; place = c.slot_offset-at.ensures.at; count = omega arith; len = (let same = c.read.auto.buf in omega arith) } in
    held_beside c.args.g.now c.args.slots.now c.read.new.buf _ _ c.args.seq q over other

pub returns-then-not-is_spelled-clause-others : goal.returns-then-not-is_spelled-clause-others
returns-then-not-is_spelled-clause-others g c q other =
    let over : IsOver c.args.g.now c.args.slots.now c.read.new.buf c.slot_offset-at.result (c.slot_offset-at.result + c.slot_len.result - c.slot_offset-at.result) c.args.seq =
    record { size = c.requires.size; place = c.slot_offset-at.ensures.at; count = omega arith; len = (let same = c.read.auto.buf in omega arith) } in
    held_beside c.args.g.now c.args.slots.now c.read.new.buf _ _ c.args.seq q over other

pub returns-then-not-is_spelled-clause-reads : goal.returns-then-not-is_spelled-clause-reads
returns-then-not-is_spelled-clause-reads g c = reads_once c.read.result _ _ _ _ _ _ c.read.ensures.call

pub returns-clause-others : goal.returns-clause-others
returns-clause-others g c q other =
    let over : IsOver c.args.g.now c.args.slots.now c.read.new.buf c.slot_offset-at.result (c.slot_offset-at.result + c.slot_len.result - c.slot_offset-at.result) c.args.seq =
    record { size = c.requires.size; place = c.slot_offset-at.ensures.at; count = omega arith; len = (let same = c.read.auto.buf in omega arith) } in
    held_beside c.args.g.now c.args.slots.now c.read.new.buf _ _ c.args.seq q over other

pub returns-clause-reads : goal.returns-clause-reads
returns-clause-reads g c = reads_once c.read.result _ _ _ _ _ _ c.read.ensures.call
