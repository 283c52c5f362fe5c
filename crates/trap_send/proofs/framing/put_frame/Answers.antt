use Rattle.std.proofs.Common.{◌≡◌, ℕ, ◌+◌, ◌<◌, ◌≤◌, List, length, take, length-append, length-take-le, ⊎_elim, inl, inr, sym, ap, subst, ◌∙◌, arith}
use Rattle.std.proofs.lemmas.Bool.{cases_lt}
use Rattle.trap_bank.specs.Disks.{View}
use Rattle.trap_bank.specs.Steps.{Steps, SpokePart}
use Rattle.trap_bank.specs.declared.disks.Failed.{Failed}
use Rattle.trap_port.specs.Outgoing.{Waiting}
use Rattle.trap_array.specs.Sources.{CallsAtMost}
use Rattle.trap_send.specs.Pieces.{frame_size}
use Rattle.trap_send.specs.Sends.{GathersFrame}
use Rattle.trap_port.proofs.Keeping.{keeps_read, keeps_then}
use Rattle.trap_send.proofs.Gathering.{frame_long, calls_then, calls_once, frame_waits, port_failed, code_failed, ready_said}
use Rattle.trap_send.proofs.framing.put_frame.Goals as goal

pub returns-in-Err-clause-steps : goal.returns-in-Err-clause-steps
returns-in-Err-clause-steps g c =
    code_failed (g.B.Bank.view c.args.bank.now) (g.B.Bank.view c.spell_frame.new.bank) c.args.outgoing.now.bytes c.in-Err.ensures.any_moment

pub returns-in-Ok-make_room-clause-steps : goal.returns-in-Ok-make_room-clause-steps
returns-in-Ok-make_room-clause-steps g c =
    let view = g.B.Bank.view in
    let old = view c.args.bank.now in
    let waits = c.args.outgoing.now.bytes in
    let left = c.make_room.new.self.bytes in
    let frame = take c.in-Ok.len c.spell_frame.new.frame in
    subst (λ (l : List ℕ). Steps old (view c.make_room.new.bank) (SpokePart waits) (GathersFrame c.args.array.now old c.args.seq waits l)) (sym (ap (λ (o : Waiting). o.bytes) c.put.ensures))
    (frame_waits {E = Failed} c.args.array.now old (view c.spell_frame.new.bank) (view c.make_room.new.bank) c.args.seq c.in-Ok-make_room.field-0 waits left frame
    c.in-Ok.ensures.any_moment c.in-Ok.ensures.frame.1 c.in-Ok-make_room.ensures.says)

pub returns-in-Ok-make_room-clause-disks : goal.returns-in-Ok-make_room-clause-disks
returns-in-Ok-make_room-clause-disks g c =
    let view = g.B.Bank.view in
    let reads = c.spell_frame.ensures.any_moment in
    keeps_then (view c.args.bank.now) (view c.spell_frame.new.bank) (view c.make_room.new.bank) reads.moves.tells
    (keeps_read (view c.args.bank.now) (view c.spell_frame.new.bank) reads) c.make_room.ensures.says.disks

pub returns-in-Ok-make_room-clause-ready : goal.returns-in-Ok-make_room-clause-ready
returns-in-Ok-make_room-clause-ready g c =
    let view = g.B.Bank.view in
    ready_said c.spell_frame.new.array c.args.outgoing.now.bytes c.make_room.new.self.bytes c.make_room.result (view c.spell_frame.new.bank) (view c.make_room.new.bank)
    c.make_room.ensures.says c.spell_frame.ensures.ready

pub returns-in-Err-make_room-clause-steps : goal.returns-in-Err-make_room-clause-steps
returns-in-Err-make_room-clause-steps g c =
    let view = g.B.Bank.view in
    port_failed (view c.args.bank.now) (view c.spell_frame.new.bank) (view c.make_room.new.bank) c.in-Err-make_room.field-0 c.args.outgoing.now.bytes c.make_room.new.self.bytes
    c.spell_frame.ensures.any_moment c.in-Err-make_room.ensures.says

pub returns-in-Err-make_room-clause-disks : goal.returns-in-Err-make_room-clause-disks
returns-in-Err-make_room-clause-disks g c =
    let view = g.B.Bank.view in
    let reads = c.spell_frame.ensures.any_moment in
    keeps_then (view c.args.bank.now) (view c.spell_frame.new.bank) (view c.make_room.new.bank) reads.moves.tells
    (keeps_read (view c.args.bank.now) (view c.spell_frame.new.bank) reads) c.make_room.ensures.says.disks

pub returns-in-Err-make_room-clause-ready : goal.returns-in-Err-make_room-clause-ready
returns-in-Err-make_room-clause-ready g c =
    let view = g.B.Bank.view in
    ready_said c.spell_frame.new.array c.args.outgoing.now.bytes c.make_room.new.self.bytes c.make_room.result (view c.spell_frame.new.bank) (view c.make_room.new.bank)
    c.make_room.ensures.says c.spell_frame.ensures.ready

pub returns-in-Ok-make_room-clause-pieces : goal.returns-in-Ok-make_room-clause-pieces
returns-in-Ok-make_room-clause-pieces g c =
    let view = g.B.Bank.view in
    let a = c.args.array.now in
    let frame = take c.in-Ok.len c.spell_frame.new.frame in
    let is = c.in-Ok.ensures.frame.1 in
    let spelled : length frame ≡ frame_size a c.args.seq = frame_long a (view c.args.bank.now) c.args.seq frame is in
    let there : length frame ≡ c.in-Ok.len = length-take-le c.in-Ok.len c.spell_frame.new.frame (omega (arith, c.in-Ok.ensures.frame.0, c.spell_frame.auto.frame, c.requires.room)) in
    let left : length c.put.new.self.bytes ≡ length c.make_room.new.self.bytes + length frame =
    ap (λ (o : Waiting). length o.bytes) c.put.ensures ∙ length-append c.make_room.new.self.bytes frame in
    record {
      most = omega (arith, spelled, there, c.in-Ok.ensures.frame.0);
      within = omega (arith, left, there, c.in-Ok-make_room.ensures.there);
      puts = ⊎_elim
          (λ (full : c.args.outgoing.now.room < length c.args.outgoing.now.bytes + c.in-Ok.len).
          inr (
            calls_then 2 1 3 (view c.args.bank.now) (view c.spell_frame.new.bank) (view c.make_room.new.bank) (omega arith) c.spell_frame.ensures.any_moment.moves.tells
                c.spell_frame.ensures.calls (calls_once (view c.spell_frame.new.bank) (view c.make_room.new.bank) c.make_room.ensures.says.calls),
            omega (arith, full, spelled, there),
            (let empty = c.in-Ok-make_room.ensures.flushed full in let none = ap length empty.0 in omega (arith, left, spelled, none)),
          ))
          (λ (fits : length c.args.outgoing.now.bytes + c.in-Ok.len ≤ c.args.outgoing.now.room).
          let still = c.make_room.ensures.fits fits in
          inl (
            subst (λ (z : View). CallsAtMost 2 (view c.args.bank.now) z) (sym (ap view still.2)) c.spell_frame.ensures.calls,
            omega (arith, left, spelled, ap (λ (o : Waiting). length o.bytes) still.1),
          ))
          (cases_lt c.args.outgoing.now.room (length c.args.outgoing.now.bytes + c.in-Ok.len));
    }
