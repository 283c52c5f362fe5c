use Rattle.std.proofs.Common.{[], ◌∷◌, ◌++◌, Option, None, Some, Ok, refl, subst, ◌∙◌}
use Rattle.trap_model.specs.declared.arrival.Taken.{Taken}
use Rattle.trap_apply.specs.Stepping.{TakesNextFrame}
use Rattle.trap_apply.proofs.Stepped.{keeps_none}
use Rattle.trap_apply.proofs.Running.{run_none, run_more, run_ends, ends_done, ends_fault, keeps_all}
use Rattle.trap_apply.proofs.applying.apply_all.Goals as goal

pub frames-init : goal.frames-init
frames-init g c =
    let a = c.args.replica.now in
    let v = g.B.Bank.view c.args.bank.now in
    let none = c.none-counts.ensures in (
      [],
      run_none c.none-counts.result a v c.args.frames.now.used (g.S.Source.stream c.args.source.now) c.requires.untaken none.frames none.repeats none.beyond
          c.requires.running (keeps_none a v c.requires.ready),
      refl,
      c.requires.going,
    )

pub frames-preserved : goal.frames-preserved
frames-preserved g c =
    let view = g.B.Bank.view in
    let stream = g.S.Source.stream in
    let inv = c.frames.invariant in
    let b = c.frames.replica in
    let m = c.take_next.new.replica in
    let used = c.frames.frames.used in
    let used' = c.take_next.new.frames.used in
    let at = stream c.frames.source in
    let to = stream c.take_next.new.source in
    let next = subst (λ (o : Option Taken). TakesNextFrame view (Ok o) b m c.frames.bank c.take_next.new.bank used used' at to) c.in-Ok-Some.field-0-is c.in-Ok-Some.ensures.next in (
      inv.0 ++ next.0 ∷ [],
      run_more inv.0 c.frames.counts c.args.replica.now b m (view c.args.bank.now) (view c.frames.bank) (view c.take_next.new.bank) used used' (stream c.args.source.now) at to
          c.requires.running inv.1 c.add.new.self next.0 c.in-Ok-Some.taken next.1 next.2 c.take_next.ensures.stays c.add.ensures.frames c.add.ensures.repeats c.add.ensures.beyond,
      c.take_next.ensures.size ∙ inv.2,
      c.in-Ok-Some.ensures.goes_on,
    )

pub returns-in-Ok-None-clause-applies : goal.returns-in-Ok-None-clause-applies
returns-in-Ok-None-clause-applies g c =
    let view = g.B.Bank.view in
    let stream = g.S.Source.stream in
    let inv = c.frames.invariant in
    let a = c.args.replica.now in
    let b = c.frames.replica in
    let m = c.take_next.new.replica in
    let used = c.frames.frames.used in
    let used' = c.take_next.new.frames.used in
    let from = stream c.args.source.now in
    let at = stream c.frames.source in
    let to = stream c.take_next.new.source in
    let next = subst (λ (o : Option Taken). TakesNextFrame view (Ok o) b m c.frames.bank c.take_next.new.bank used used' at to) c.in-Ok-None.field-0-is c.in-Ok-None.ensures.next in
    let said = c.ending.ensures in
    run_ends inv.0 c.frames.counts a b m (view c.args.bank.now) (view c.frames.bank) (view c.take_next.new.bank) used used' from at to c.requires.running inv.1
    c.ending.result None said.fault said.applied said.held said.frames said.repeats said.beyond
    (ends_done view inv.0 c.frames.counts a b m c.args.bank.now c.frames.bank c.take_next.new.bank used used' from at to c.requires.running inv.1 next.0 next.1)

pub returns-in-Err-clause-applies : goal.returns-in-Err-clause-applies
returns-in-Err-clause-applies g c =
    let view = g.B.Bank.view in
    let stream = g.S.Source.stream in
    let inv = c.frames.invariant in
    let a = c.args.replica.now in
    let b = c.frames.replica in
    let m = c.take_next.new.replica in
    let used = c.frames.frames.used in
    let used' = c.take_next.new.frames.used in
    let from = stream c.args.source.now in
    let at = stream c.frames.source in
    let to = stream c.take_next.new.source in
    let said = c.ending-in-Err.ensures in
    run_ends inv.0 c.frames.counts a b m (view c.args.bank.now) (view c.frames.bank) (view c.take_next.new.bank) used used' from at to c.requires.running inv.1
    c.ending-in-Err.result (Some c.in-Err.fault) said.fault said.applied said.held said.frames said.repeats said.beyond
    (ends_fault view inv.0 c.frames.counts a b m c.args.bank.now c.frames.bank c.take_next.new.bank used used' from at to c.requires.running inv.1 c.in-Err.fault c.in-Err.ensures.next)

pub returns-in-Err-clause-stays : goal.returns-in-Err-clause-stays
returns-in-Err-clause-stays g c =
    let view = g.B.Bank.view in
    let stream = g.S.Source.stream in
    let inv = c.frames.invariant in
    keeps_all view inv.0 c.frames.counts c.args.replica.now c.frames.replica c.take_next.new.replica c.args.bank.now c.frames.bank c.take_next.new.bank c.frames.frames.used
    c.take_next.new.frames.used (stream c.args.source.now) (stream c.frames.source) (stream c.take_next.new.source) c.requires.running inv.1 c.take_next.ensures.stays
