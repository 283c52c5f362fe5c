use Rattle.std.proofs.Common.{◌≡◌, ◌<◌, length, false, ap, ◌∙◌, arith}
use Rattle.trap_format.specs.declared.shape.Shape.{Shape}
use Rattle.trap_replica.specs.Mounted.{MountedReplica}
use Rattle.trap_replica.proofs.Exported.{come_none, come_more, unstopped, unread_steps, unread_cause, unread_calls, unsaid_steps, unsaid_cause, unsaid_calls, usable_waiting}
use Rattle.trap_replica.proofs.Exported.{ended_usable, whole_steps, whole_calls, waits_still, spent_is, cut_steps, cut_cause, cut_calls}
use Rattle.trap_replica.proofs.replica.Replica.export.Goals as goal

pub blocks-2-init : goal.blocks-2-init
blocks-2-init g c = come_none c.args.self.now c.args.outgoing.now c.args.buffer.now (g.B.Bank.view c.args.bank.now) c.requires.empty c.requires.sized c.requires.ready

pub returns-in_default-clause-steps : goal.returns-in_default-clause-steps
returns-in_default-clause-steps g c =
    let inside : c.blocks-2.block < c.args.self.now.store.shape.volume = omega (arith, c.blocks-2-test.true, ap (λ (s : Shape). s.volume) c.shape-shape.ensures) in
    unread_steps c.args.self.now c.blocks-2.self c.args.outgoing.now.room c.blocks-2.block c.blocks-2.outgoing c.blocks-2.buffer (g.B.Bank.view c.args.bank.now) (g.B.Bank.view c.blocks-2.bank)
    (g.B.Bank.view c.block.new.bank) c.blocks-2.invariant inside c.block.ensures.any_moment

pub returns-in_default-clause-cause : goal.returns-in_default-clause-cause
returns-in_default-clause-cause g c =
    let inside : c.blocks-2.block < c.args.self.now.store.shape.volume = omega (arith, c.blocks-2-test.true, ap (λ (s : Shape). s.volume) c.shape-shape.ensures) in
    let running : c.blocks-2.self.is_stopped ≡ false = ap (λ (r : MountedReplica). r.is_stopped) c.blocks-2.invariant.same ∙ c.requires.running in
    unread_cause c.args.self.now c.blocks-2.self c.args.outgoing.now.room c.blocks-2.block c.blocks-2.outgoing c.blocks-2.buffer (g.B.Bank.view c.args.bank.now) (g.B.Bank.view c.blocks-2.bank)
    (g.B.Bank.view c.block.new.bank) c.blocks-2.invariant inside c.block.ensures.any_moment (c.in_default.ensures.cause running).1

pub returns-in_default-clause-calls : goal.returns-in_default-clause-calls
returns-in_default-clause-calls g c =
    let inside : c.blocks-2.block < c.args.self.now.store.shape.volume = omega (arith, c.blocks-2-test.true, ap (λ (s : Shape). s.volume) c.shape-shape.ensures) in
    let running : c.blocks-2.self.is_stopped ≡ false = ap (λ (r : MountedReplica). r.is_stopped) c.blocks-2.invariant.same ∙ c.requires.running in
    unread_calls c.args.self.now c.blocks-2.self c.args.outgoing.now.room c.blocks-2.block c.blocks-2.outgoing c.blocks-2.buffer (g.B.Bank.view c.args.bank.now) (g.B.Bank.view c.blocks-2.bank)
    (g.B.Bank.view c.block.new.bank) c.blocks-2.invariant inside c.block.ensures.any_moment _ (c.in_default.ensures.calls running).most

pub returns-in_default-make_room-clause-steps : goal.returns-in_default-make_room-clause-steps
returns-in_default-make_room-clause-steps g c =
    let inside : c.blocks-2.block < c.args.self.now.store.shape.volume = omega (arith, c.blocks-2-test.true, ap (λ (s : Shape). s.volume) c.shape-shape.ensures) in
    let running : c.blocks-2.self.is_stopped ≡ false = ap (λ (r : MountedReplica). r.is_stopped) c.blocks-2.invariant.same ∙ c.requires.running in
    unsaid_steps c.args.self.now c.blocks-2.self c.args.outgoing.now.room c.blocks-2.block c.blocks-2.outgoing c.blocks-2.buffer (g.B.Bank.view c.args.bank.now) (g.B.Bank.view c.blocks-2.bank)
    (g.B.Bank.view c.block.new.bank) c.blocks-2.invariant inside c.block.ensures.any_moment (c.in-Ok.ensures.calls running).ok _ _ (g.B.Bank.view c.make_room.new.bank)
    c.in_default-make_room.ensures.says

pub returns-in_default-make_room-clause-calls : goal.returns-in_default-make_room-clause-calls
returns-in_default-make_room-clause-calls g c =
    let inside : c.blocks-2.block < c.args.self.now.store.shape.volume = omega (arith, c.blocks-2-test.true, ap (λ (s : Shape). s.volume) c.shape-shape.ensures) in
    let running : c.blocks-2.self.is_stopped ≡ false = ap (λ (r : MountedReplica). r.is_stopped) c.blocks-2.invariant.same ∙ c.requires.running in
    unsaid_calls c.args.self.now c.blocks-2.self c.args.outgoing.now.room c.blocks-2.block c.blocks-2.outgoing c.blocks-2.buffer (g.B.Bank.view c.args.bank.now) (g.B.Bank.view c.blocks-2.bank)
    (g.B.Bank.view c.block.new.bank) c.blocks-2.invariant inside c.block.ensures.any_moment (c.in-Ok.ensures.calls running).ok _ _ (g.B.Bank.view c.make_room.new.bank)
    c.in_default-make_room.ensures.says _

pub returns-in_default-make_room-clause-ready : goal.returns-in_default-make_room-clause-ready
returns-in_default-make_room-clause-ready g c = usable_waiting c.blocks-2.outgoing.bytes _ _ c.block.new.self (g.B.Bank.view c.block.new.bank) (g.B.Bank.view c.make_room.new.bank)
    c.make_room.ensures.says c.block.ensures.ready

pub returns-in_default-make_room-clause-cause : goal.returns-in_default-make_room-clause-cause
returns-in_default-make_room-clause-cause g c =
    let inside : c.blocks-2.block < c.args.self.now.store.shape.volume = omega (arith, c.blocks-2-test.true, ap (λ (s : Shape). s.volume) c.shape-shape.ensures) in
    let running : c.blocks-2.self.is_stopped ≡ false = ap (λ (r : MountedReplica). r.is_stopped) c.blocks-2.invariant.same ∙ c.requires.running in
    unsaid_cause c.args.self.now c.blocks-2.self c.args.outgoing.now.room c.blocks-2.block c.blocks-2.outgoing c.blocks-2.buffer (g.B.Bank.view c.args.bank.now) (g.B.Bank.view c.blocks-2.bank)
    (g.B.Bank.view c.block.new.bank) c.blocks-2.invariant inside c.block.ensures.any_moment (c.in-Ok.ensures.calls running).ok _ _ (g.B.Bank.view c.make_room.new.bank)
    c.in_default-make_room.ensures.says

pub blocks-2-preserved : goal.blocks-2-preserved
blocks-2-preserved g c =
    let inside : c.blocks-2.block < c.args.self.now.store.shape.volume = omega (arith, c.blocks-2-test.true, ap (λ (s : Shape). s.volume) c.shape-shape.ensures) in
    let running : c.blocks-2.self.is_stopped ≡ false = ap (λ (r : MountedReplica). r.is_stopped) c.blocks-2.invariant.same ∙ c.requires.running in
    let sized : length c.block.new.into ≡ c.args.self.now.store.shape.block = omega (arith, c.block.auto.into, c.blocks-2.invariant.sized) in
    come_more c.args.self.now c.blocks-2.self c.args.outgoing.now.room c.blocks-2.block c.blocks-2.outgoing c.blocks-2.buffer (g.B.Bank.view c.args.bank.now) (g.B.Bank.view c.blocks-2.bank)
    (g.B.Bank.view c.block.new.bank) c.blocks-2.invariant inside c.block.ensures.any_moment (c.in-Ok.ensures.calls running).ok _ c.block.new.self c.make_room.new.self c.put.new.self c.block.new.into
    (g.B.Bank.view c.make_room.new.bank) (c.in-Ok.ensures.same ∙ unstopped c.blocks-2.self running ∙ c.blocks-2.invariant.same) c.requires.room sized
    (λ image mirrors told. c.in-Ok.ensures.bytes image mirrors told) c.block.ensures.ready c.in-Ok-make_room.ensures.says c.make_room.ensures.room
    (λ fits. let there = c.make_room.ensures.fits fits in (there.1, ap (g.B.Bank.view) there.2))
    (λ full. c.in-Ok-make_room.ensures.flushed full)
    c.put.ensures

pub returns-in-Ok-flush-clause-steps : goal.returns-in-Ok-flush-clause-steps
returns-in-Ok-flush-clause-steps g c =
    let all : c.blocks-2.block ≡ c.args.self.now.store.shape.volume = omega (arith, c.blocks-2-test.false, c.blocks-2.auto.block-end, ap (λ (s : Shape). s.volume) c.shape-shape.ensures) in
    whole_steps c.args.self.now c.blocks-2.self c.args.outgoing.now.room c.blocks-2.block c.blocks-2.outgoing c.blocks-2.buffer (g.B.Bank.view c.args.bank.now) (g.B.Bank.view c.blocks-2.bank)
    c.blocks-2.invariant all _ _ (g.B.Bank.view c.flush.new.bank) c.in-Ok-flush.ensures.says c.in-Ok-flush.ensures.empty

pub returns-in-Ok-flush-clause-calls : goal.returns-in-Ok-flush-clause-calls
returns-in-Ok-flush-clause-calls g c =
    let all : c.blocks-2.block ≡ c.args.self.now.store.shape.volume = omega (arith, c.blocks-2-test.false, c.blocks-2.auto.block-end, ap (λ (s : Shape). s.volume) c.shape-shape.ensures) in
    whole_calls c.args.self.now c.blocks-2.self c.args.outgoing.now.room c.blocks-2.block c.blocks-2.outgoing c.blocks-2.buffer (g.B.Bank.view c.args.bank.now) (g.B.Bank.view c.blocks-2.bank)
    c.blocks-2.invariant all _ _ (g.B.Bank.view c.flush.new.bank) c.in-Ok-flush.ensures.says _
    (c.flush.ensures.once (waits_still c.args.self.now c.blocks-2.self c.args.outgoing.now.room c.blocks-2.block c.blocks-2.outgoing c.blocks-2.buffer (g.B.Bank.view c.args.bank.now)
    (g.B.Bank.view c.blocks-2.bank) c.blocks-2.invariant all))

pub returns-in-Ok-flush-clause-ready : goal.returns-in-Ok-flush-clause-ready
returns-in-Ok-flush-clause-ready g c =
    let all : c.blocks-2.block ≡ c.args.self.now.store.shape.volume = omega (arith, c.blocks-2-test.false, c.blocks-2.auto.block-end, ap (λ (s : Shape). s.volume) c.shape-shape.ensures) in
    ended_usable c.args.self.now c.blocks-2.self c.args.outgoing.now.room c.blocks-2.block c.blocks-2.outgoing c.blocks-2.buffer (g.B.Bank.view c.args.bank.now) (g.B.Bank.view c.blocks-2.bank)
    c.blocks-2.invariant all _ _ (g.B.Bank.view c.flush.new.bank) c.flush.ensures.says

pub returns-in-Err-clause-steps : goal.returns-in-Err-clause-steps
returns-in-Err-clause-steps g c =
    let all : c.blocks-2.block ≡ c.args.self.now.store.shape.volume = omega (arith, c.blocks-2-test.false, c.blocks-2.auto.block-end, ap (λ (s : Shape). s.volume) c.shape-shape.ensures) in
    cut_steps c.args.self.now c.blocks-2.self c.args.outgoing.now.room c.blocks-2.block c.blocks-2.outgoing c.blocks-2.buffer (g.B.Bank.view c.args.bank.now) (g.B.Bank.view c.blocks-2.bank)
    c.blocks-2.invariant all _ _ (g.B.Bank.view c.flush.new.bank) c.in-Err.ensures.says

pub returns-in-Err-clause-calls : goal.returns-in-Err-clause-calls
returns-in-Err-clause-calls g c =
    let all : c.blocks-2.block ≡ c.args.self.now.store.shape.volume = omega (arith, c.blocks-2-test.false, c.blocks-2.auto.block-end, ap (λ (s : Shape). s.volume) c.shape-shape.ensures) in
    cut_calls c.args.self.now c.blocks-2.self c.args.outgoing.now.room c.blocks-2.block c.blocks-2.outgoing c.blocks-2.buffer (g.B.Bank.view c.args.bank.now) (g.B.Bank.view c.blocks-2.bank)
    c.blocks-2.invariant all _ _ (g.B.Bank.view c.flush.new.bank) c.in-Err.ensures.says _

pub returns-in-Err-clause-ready : goal.returns-in-Err-clause-ready
returns-in-Err-clause-ready g c =
    let all : c.blocks-2.block ≡ c.args.self.now.store.shape.volume = omega (arith, c.blocks-2-test.false, c.blocks-2.auto.block-end, ap (λ (s : Shape). s.volume) c.shape-shape.ensures) in
    ended_usable c.args.self.now c.blocks-2.self c.args.outgoing.now.room c.blocks-2.block c.blocks-2.outgoing c.blocks-2.buffer (g.B.Bank.view c.args.bank.now) (g.B.Bank.view c.blocks-2.bank)
    c.blocks-2.invariant all _ _ (g.B.Bank.view c.flush.new.bank) c.flush.ensures.says

pub returns-in-Err-clause-cause : goal.returns-in-Err-clause-cause
returns-in-Err-clause-cause g c =
    let all : c.blocks-2.block ≡ c.args.self.now.store.shape.volume = omega (arith, c.blocks-2-test.false, c.blocks-2.auto.block-end, ap (λ (s : Shape). s.volume) c.shape-shape.ensures) in
    cut_cause c.args.self.now c.blocks-2.self c.args.outgoing.now.room c.blocks-2.block c.blocks-2.outgoing c.blocks-2.buffer (g.B.Bank.view c.args.bank.now) (g.B.Bank.view c.blocks-2.bank)
    c.blocks-2.invariant all _ _ (g.B.Bank.view c.flush.new.bank) c.in-Err.ensures.says

pub returns-in_default-clause-spent : goal.returns-in_default-clause-spent
returns-in_default-clause-spent g c = (c.blocks-2.invariant.fits, tt)

pub returns-in_default-make_room-clause-spent : goal.returns-in_default-make_room-clause-spent
returns-in_default-make_room-clause-spent g c = (c.make_room.ensures.room ∙ c.blocks-2.invariant.fits, tt)

pub returns-in-Ok-flush-clause-spent : goal.returns-in-Ok-flush-clause-spent
returns-in-Ok-flush-clause-spent g c =
    let room = c.flush.ensures.room ∙ c.blocks-2.invariant.fits in
    (room, spent_is c.flush.new.self c.args.outgoing.now room c.in-Ok-flush.ensures.empty c.requires.empty)

pub returns-in-Err-clause-spent : goal.returns-in-Err-clause-spent
returns-in-Err-clause-spent g c = (c.flush.ensures.room ∙ c.blocks-2.invariant.fits, tt)
