use Rattle.std.proofs.Common.{◌≡◌, ◌+◌, ◌-◌, length, arith}
use Rattle.trap_format.specs.LogDisk.{slot_len}
use Rattle.trap_stage.proofs.HeldSlots.{IsOver, held_beside}
use Rattle.trap_stage.proofs.Filling.{fill_moves, fill_torn, fill_there}
use Rattle.trap_stage.proofs.disk.fill_slot.Goals as goal

pub returns-in_err-write-clause-others : goal.returns-in_err-write-clause-others
returns-in_err-write-clause-others g c q other =
    let over : IsOver c.args.g.now c.args.slots.now c.spell.new.slot c.slot_offset-at.result (c.slot_offset-at.result + c.slot_len.result - c.slot_offset-at.result) c.args.seq =
    record { size = c.requires.size; place = c.slot_offset-at.ensures.at; count = omega arith; len = (let same = c.spell.auto.slot in omega arith) } in
    held_beside c.args.g.now c.args.slots.now c.spell.new.slot _ _ c.args.seq q over other

pub returns-in_err-write-clause-any_moment : goal.returns-in_err-write-clause-any_moment
returns-in_err-write-clause-any_moment g c =
    let len : length c.spell.new.slot ≡ slot_len c.args.g.now = (let same = c.spell.auto.slot in omega arith) in
    fill_moves c.write.result _ _ c.args.g.now c.args.seq _ c.spell.new.slot (omega arith) len c.write.ensures.call

pub returns-clause-others : goal.returns-clause-others
returns-clause-others g c q other =
    let over : IsOver c.args.g.now c.args.slots.now c.spell.new.slot c.slot_offset-at.result (c.slot_offset-at.result + c.slot_len.result - c.slot_offset-at.result) c.args.seq =
    record { size = c.requires.size; place = c.slot_offset-at.ensures.at; count = omega arith; len = (let same = c.spell.auto.slot in omega arith) } in
    held_beside c.args.g.now c.args.slots.now c.spell.new.slot _ _ c.args.seq q over other

pub returns-clause-written : goal.returns-clause-written
returns-clause-written g c told =
    let len : length c.spell.new.slot ≡ slot_len c.args.g.now = (let same = c.spell.auto.slot in omega arith) in
    fill_there (g.B.Bank.view c.write.new.self).now.disks c.args.g.now c.args.seq (192 + c.slot_offset-at.result) c.spell.new.slot _ (omega arith) len c.spell.ensures
    (c.in_ok-write.ensures.call.written told)

pub returns-clause-contents : goal.returns-clause-contents
returns-clause-contents g c told =
    let len : length c.spell.new.slot ≡ slot_len c.args.g.now = (let same = c.spell.auto.slot in omega arith) in
    fill_torn c.write.result _ _ c.args.g.now c.args.seq _ c.spell.new.slot (omega arith) len c.write.ensures.call told

pub returns-clause-any_moment : goal.returns-clause-any_moment
returns-clause-any_moment g c =
    let len : length c.spell.new.slot ≡ slot_len c.args.g.now = (let same = c.spell.auto.slot in omega arith) in
    fill_moves c.write.result _ _ c.args.g.now c.args.seq _ c.spell.new.slot (omega arith) len c.write.ensures.call
