use Rattle.trap_replica.proofs.HeldSteps.{passed_none, passes_none, passed_then, passes_then}
use Rattle.trap_replica.proofs.settling.settle.Goals as goal

pub frames-init : goal.frames-init
frames-init g c = (
  passed_none c.args.store.now c.args.held.now (g.B.Bank.view c.args.bank.now) c.requires.ready c.requires.suit,
  passes_none c.args.store.now c.args.held.now
      (g.B.Bank.view c.args.bank.now),
)

pub frames-preserved : goal.frames-preserved
frames-preserved g c = (
  passed_then c.args.store.now c.frames.store c.apply_first.new.store c.args.held.now c.frames.held c.apply_first.new.held (g.B.Bank.view c.args.bank.now) (g.B.Bank.view c.frames.bank)
      (g.B.Bank.view c.apply_first.new.bank) c.frames.invariant.0 c.in_ok-apply_first.ensures.ok,
  passes_then c.args.store.now c.frames.store c.apply_first.new.store c.args.held.now c.frames.held (g.B.Bank.view c.args.bank.now) (g.B.Bank.view c.frames.bank)
      (g.B.Bank.view c.apply_first.new.bank) c.frames.invariant.1 c.frames.invariant.0 c.apply_first.ensures.passes,
)

pub returns-in_err-apply_first-clause-passes : goal.returns-in_err-apply_first-clause-passes
returns-in_err-apply_first-clause-passes g c = passes_then c.args.store.now c.frames.store c.apply_first.new.store c.args.held.now c.frames.held (g.B.Bank.view c.args.bank.now)
    (g.B.Bank.view c.frames.bank) (g.B.Bank.view c.apply_first.new.bank) c.frames.invariant.1 c.frames.invariant.0 c.apply_first.ensures.passes
