use Rattle.std.proofs.Common.{arith}
use Rattle.trap_bank.proofs.Called.{called_once, called_at_most}
use Rattle.trap_send.proofs.Gathering.{calls_once}
use Rattle.trap_bank.specs.declared.disks.Failed.{Failed}
use Rattle.trap_bank.proofs.Moves.{say_steps}
use Rattle.trap_cli.proofs.Listings.{room_made}
use Rattle.trap_cli.proofs.history.make_room.Goals as goal

pub returns-in-Ok-clause-steps : goal.returns-in-Ok-clause-steps
returns-in-Ok-clause-steps g c = room_made _ Failed c.in-Ok.field-0 (g.B.Bank.view c.args.bank.now) (g.B.Bank.view c.say.new.self) c.args.piece.now c.args.len c.in-Ok.ensures.call

pub returns-in-Err-clause-steps : goal.returns-in-Err-clause-steps
returns-in-Err-clause-steps g c = say_steps c.say.result (g.B.Bank.view c.args.bank.now) (g.B.Bank.view c.say.new.self) _ c.say.ensures.call

pub returns-in-Ok-clause-calls : goal.returns-in-Ok-clause-calls
returns-in-Ok-clause-calls g c =
    let old = g.B.Bank.view c.args.bank.now in
    let new = g.B.Bank.view c.say.new.self in
    calls_once old new (called_at_most 1 1 old new (omega arith) (called_once c.say.result old new c.say.ensures.call.goes))

pub returns-in-Err-clause-calls : goal.returns-in-Err-clause-calls
returns-in-Err-clause-calls g c =
    let old = g.B.Bank.view c.args.bank.now in
    let new = g.B.Bank.view c.say.new.self in
    calls_once old new (called_at_most 1 1 old new (omega arith) (called_once c.say.result old new c.say.ensures.call.goes))
