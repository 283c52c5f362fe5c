use Rattle.std.proofs.Common.{◌≡◌, ◌+◌, ◌==◌, true, false, subst, sym, arith}
use Rattle.std.proofs.lemmas.Bool.Decides.{nat_tests}
use Rattle.trap_replica.specs.Holding.{HeldFrames, SuitAll, holding}
use Rattle.trap_replica.specs.Mounted.{arrival}
use Rattle.trap_replica.specs.Standing.{HasAppliedHeld}
use Rattle.trap_replica.proofs.HeldSteps.{passed_none, passes_none}
use Rattle.trap_replica.proofs.FrameTaken.{room_left, held_same, held_suit, held_waits, waits, applies}
use Rattle.trap_replica.proofs.taking.admit.Goals as goal

pub insert-requires-clause-few : goal.insert-requires-clause-few
insert-requires-clause-few g c = room_left c.args.store.now.shape c.args.store.now.number c.args.held.now c.requires.suit

pub settle-requires-clause-suit : goal.settle-requires-clause-suit
settle-requires-clause-suit g c =
    let f = arrival c.args.frame.now c.args.parity.now in
    let is = held_same c.insert.new.self c.args.held.now f c.insert.ensures.size c.insert.ensures.frames in
    subst (λ (h : HeldFrames). SuitAll c.args.store.now.shape c.args.store.now.number c.args.store.now.number h) (sym is)
    (held_suit c.args.store.now c.args.held.now f c.requires.fresh c.args.store.now.shape c.requires.fits c.requires.suit)

pub returns-then-frame-store-clause-ok : goal.returns-then-frame-store-clause-ok
returns-then-frame-store-clause-ok g c =
    let f = arrival c.args.frame.now c.args.parity.now in
    let is = held_same c.insert.new.self c.args.held.now f c.insert.ensures.size c.insert.ensures.frames in
    subst (λ (h : HeldFrames). HasAppliedHeld c.args.store.now c.args.store.now (holding c.args.held.now f) h (g.B.Bank.view c.args.bank.now) (g.B.Bank.view c.args.bank.now)) (sym is)
    (passed_none c.args.store.now (holding c.args.held.now f) (g.B.Bank.view c.args.bank.now) c.requires.ready
    (held_suit c.args.store.now c.args.held.now f c.requires.fresh c.args.store.now.shape c.requires.fits c.requires.suit))

pub returns-then-frame-store-clause-done : goal.returns-then-frame-store-clause-done
returns-then-frame-store-clause-done g c =
    let f = arrival c.args.frame.now c.args.parity.now in
    let is = held_same c.insert.new.self c.args.held.now f c.insert.ensures.size c.insert.ensures.frames in
    let e = c.if-frame-store.true in
    let next : (c.args.frame.now.seq == c.args.store.now.number + 1) ≡ false = grind (arith, nat_tests) in
    subst (λ (h : HeldFrames). SuitAll c.args.store.now.shape (c.args.store.now.number + 1) c.args.store.now.number h) (sym is)
    (held_waits c.args.store.now c.args.held.now f c.requires.fresh c.args.store.now.shape next c.requires.fits c.requires.suit)

pub returns-then-frame-store-clause-passes : goal.returns-then-frame-store-clause-passes
returns-then-frame-store-clause-passes g c = passes_none c.args.store.now (holding c.args.held.now (arrival c.args.frame.now c.args.parity.now)) (g.B.Bank.view c.args.bank.now)

pub returns-then-frame-store-clause-answer : goal.returns-then-frame-store-clause-answer
returns-then-frame-store-clause-answer g c = λ image.
    let e = c.if-frame-store.true in
    let next : (c.args.frame.now.seq == c.args.store.now.number + 1) ≡ false = grind (arith, nat_tests) in
    waits c.args.store.now c.args.held.now (arrival c.args.frame.now c.args.parity.now) c.requires.fresh image next

pub returns-clause-answer : goal.returns-clause-answer
returns-clause-answer g c = λ image.
    let f = arrival c.args.frame.now c.args.parity.now in
    let is = held_same c.insert.new.self c.args.held.now f c.insert.ensures.size c.insert.ensures.frames in
    let e = c.if-frame-store.false in
    let next : (c.args.frame.now.seq == c.args.store.now.number + 1) ≡ true = grind (arith, nat_tests) in
    applies c.args.store.now c.settle.new.store c.args.held.now c.settle.new.held f (g.B.Bank.view c.args.bank.now) (g.B.Bank.view c.settle.new.bank)
    (subst (λ (h : HeldFrames). HasAppliedHeld c.args.store.now c.settle.new.store h c.settle.new.held (g.B.Bank.view c.args.bank.now) (g.B.Bank.view c.settle.new.bank)) is c.in_ok-settle.ensures.ok)
    c.in_ok-settle.ensures.done c.requires.fresh image next
