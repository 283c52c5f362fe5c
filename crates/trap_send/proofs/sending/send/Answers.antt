use Rattle.std.proofs.Common.{◌≡◌, ℕ, ◌+◌, ◌-◌, subst, arith}
use Rattle.std.proofs.lemmas.Grind.{common_steps}
use Rattle.trap_index.specs.Indexed.{last_seq}
use Rattle.trap_send.specs.Pieces.{WaitsInPieces}
use Rattle.trap_send.specs.declared.fault.SendFault.{SendFault}
use Rattle.trap_send.specs.declared.fault.SendFault.TheVariants.{Port}
use Rattle.trap_bank.specs.declared.disks.Failed.{Failed}
use Rattle.trap_port.proofs.Keeping.{keeps_then}
use Rattle.trap_send.proofs.Gathering.{ready_said, sends_whole, sends_cut, calls_once, pieces_sent, pieces_cut}
use Rattle.trap_send.proofs.sending.send.Goals as goal

pub returns-in-Ok-flush-clause-steps : goal.returns-in-Ok-flush-clause-steps
returns-in-Ok-flush-clause-steps g c =
    let view = g.B.Bank.view in
    sends_whole {E = Failed} c.args.array.now c.args.from (view c.args.bank.now) (view c.gather_frames-gathered.new.bank) (view c.flush.new.bank)
    c.gather_frames-gathered.new.outgoing.bytes c.flush.new.self.bytes c.in-Ok-flush.field-0 c.requires.retained.high c.in-Ok-flush.ensures.empty
    c.in-Ok.ensures.steps c.in-Ok-flush.ensures.says

pub returns-in-Ok-flush-clause-disks : goal.returns-in-Ok-flush-clause-disks
returns-in-Ok-flush-clause-disks g c =
    let view = g.B.Bank.view in
    keeps_then (view c.args.bank.now) (view c.gather_frames-gathered.new.bank) (view c.flush.new.bank) c.gather_frames-gathered.ensures.steps.tells
    c.gather_frames-gathered.ensures.disks c.flush.ensures.says.disks

pub returns-in-Ok-flush-clause-ready : goal.returns-in-Ok-flush-clause-ready
returns-in-Ok-flush-clause-ready g c =
    let view = g.B.Bank.view in
    ready_said c.gather_frames-gathered.new.array c.gather_frames-gathered.new.outgoing.bytes c.flush.new.self.bytes c.flush.result
    (view c.gather_frames-gathered.new.bank) (view c.flush.new.bank) c.flush.ensures.says c.gather_frames-gathered.ensures.ready

pub returns-in-Ok-clause-steps : goal.returns-in-Ok-clause-steps
returns-in-Ok-clause-steps g c =
    let view = g.B.Bank.view in
    sends_cut c.args.array.now c.args.from (view c.args.bank.now) (view c.gather_frames-gathered.new.bank) (view c.flush.new.bank)
    c.gather_frames-gathered.new.outgoing.bytes c.flush.new.self.bytes c.in-Err-flush.field-0 c.requires.retained.high
    c.in-Ok.ensures.steps c.in-Err-flush.ensures.says

pub returns-in-Ok-clause-disks : goal.returns-in-Ok-clause-disks
returns-in-Ok-clause-disks g c =
    let view = g.B.Bank.view in
    keeps_then (view c.args.bank.now) (view c.gather_frames-gathered.new.bank) (view c.flush.new.bank) c.gather_frames-gathered.ensures.steps.tells
    c.gather_frames-gathered.ensures.disks c.flush.ensures.says.disks

pub returns-in-Ok-clause-ready : goal.returns-in-Ok-clause-ready
returns-in-Ok-clause-ready g c =
    let view = g.B.Bank.view in
    ready_said c.gather_frames-gathered.new.array c.gather_frames-gathered.new.outgoing.bytes c.flush.new.self.bytes c.flush.result
    (view c.gather_frames-gathered.new.bank) (view c.flush.new.bank) c.flush.ensures.says c.gather_frames-gathered.ensures.ready

pub returns-in-Ok-flush-clause-pieces : goal.returns-in-Ok-flush-clause-pieces
returns-in-Ok-flush-clause-pieces g c =
    let view = g.B.Bank.view in
    let room : c.parcel.inside.outgoing.room ≡ c.args.array.now.g.block + 32809 = grind (arith, common_steps) in
    pieces_sent {E = SendFault} c.in-Ok-flush.field-0 c.args.array.now c.args.from (c.args.array.now.g.block + 32809) c.gather_frames-gathered.new.outgoing.bytes
    (view c.args.bank.now) (view c.gather_frames-gathered.new.bank) (view c.flush.new.bank) c.gather_frames-gathered.ensures.steps.tells
    (subst (λ (n : ℕ). WaitsInPieces c.args.array.now c.args.from (last_seq c.args.array.now.index - c.args.from) n c.gather_frames-gathered.new.outgoing.bytes
    (view c.args.bank.now) (view c.gather_frames-gathered.new.bank)) room c.in-Ok.ensures.pieces)
    (calls_once (view c.gather_frames-gathered.new.bank) (view c.flush.new.bank) c.flush.ensures.says.calls)

pub returns-in-Ok-clause-pieces : goal.returns-in-Ok-clause-pieces
returns-in-Ok-clause-pieces g c =
    let view = g.B.Bank.view in
    let room : c.parcel.inside.outgoing.room ≡ c.args.array.now.g.block + 32809 = grind (arith, common_steps) in
    pieces_cut {T = Unit {0}} Port c.args.array.now c.args.from (c.args.array.now.g.block + 32809) c.gather_frames-gathered.new.outgoing.bytes
    (view c.args.bank.now) (view c.gather_frames-gathered.new.bank) (view c.flush.new.bank) c.gather_frames-gathered.ensures.steps.tells
    (subst (λ (n : ℕ). WaitsInPieces c.args.array.now c.args.from (last_seq c.args.array.now.index - c.args.from) n c.gather_frames-gathered.new.outgoing.bytes
    (view c.args.bank.now) (view c.gather_frames-gathered.new.bank)) room c.in-Ok.ensures.pieces)
    (calls_once (view c.gather_frames-gathered.new.bank) (view c.flush.new.bank) c.flush.ensures.says.calls)
