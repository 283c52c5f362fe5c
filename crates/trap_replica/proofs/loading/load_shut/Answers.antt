use Rattle.std.proofs.Common.{[], Result, Err, sym, subst, ◌∙◌, arith, rules}
use Rattle.std.proofs.lemmas.Grind.{common_steps}
use Rattle.trap_replica.specs.LoadSteps.{LoadsShut}
use Rattle.trap_replica.specs.declared.fault.ReplicaFault.{ReplicaFault}
use Rattle.trap_replica.proofs.OneFrame.{Touches, touch_then, touch_same}
use Rattle.trap_replica.proofs.NewReplica.{touch_made, touch_front}
use Rattle.trap_replica.proofs.LoadedBlocks.{err_is}
use Rattle.trap_replica.proofs.LoadedReplica.{touch_image, load_unmade, load_refused, load_unread, load_unbegun, load_begun}
use Rattle.trap_replica.proofs.loading.load_shut.Goals as goal

pub returns-in_err-make-clause-loads : goal.returns-in_err-make-clause-loads
returns-in_err-make-clause-loads g c =
    let a = g.B.Bank.view c.args.bank.now in
    let b = g.B.Bank.view c.make.new.self in
    let from = g.S.Source.stream c.args.source.now in (
      [],
      err_is c.from_residual.result _ (λ (r : Result (Unit {0}) ReplicaFault). LoadsShut c.args.s.now c.args.seq c.args.time [] r a b from from) c.from_residual.ensures.0 c.from_residual.ensures.1
          (λ why disk. load_unmade c.args.s.now c.args.seq c.args.time a from _ why b _ disk c.in_err-make.ensures.call),
    )

pub returns-in_err-load_image-clause-loads : goal.returns-in_err-load_image-clause-loads
returns-in_err-load_image-clause-loads g c =
    let a = g.B.Bank.view c.args.bank.now in
    let b = g.B.Bank.view c.make.new.self in
    let d = g.B.Bank.view c.load_image.new.bank in
    let from = g.S.Source.stream c.args.source.now in
    let to = g.S.Source.stream c.load_image.new.source in
    let image = c.in_err-load_image.ensures.writes in
    let refused = load_refused c.args.s.now c.args.seq c.args.time a from _ b _ c.replica_len.ensures c.in_ok-make.ensures.call image.0 d to {U = Unit {0}} c.in_err-load_image.field-0.0 image.1 in (
      image.0,
      err_is c.from_residual-in_err-load_image.result _ (λ (r : Result (Unit {0}) ReplicaFault). LoadsShut c.args.s.now c.args.seq c.args.time image.0 r a d from to)
          c.from_residual-in_err-load_image.ensures.0 c.from_residual-in_err-load_image.ensures.1
          (λ why is. subst (λ (e : ReplicaFault). LoadsShut {T = Unit {0}} c.args.s.now c.args.seq c.args.time image.0 (Err e) a d from to) (sym is) refused),
    )

pub returns-in_err-load_image-clause-disk : goal.returns-in_err-load_image-clause-disk
returns-in_err-load_image-clause-disk g c = record {
  size = first_of (search rules, grind (arith, common_steps));
  sizes = λ e other. c.load_image.ensures.sizes e ∙ c.make.ensures.call.others e other;
  touches = touch_then (g.B.Bank.view c.args.bank.now) (g.B.Bank.view c.make.new.self) (g.B.Bank.view c.load_image.new.bank) c.make.ensures.call.goes.tells
      (touch_made _ (g.B.Bank.view c.args.bank.now) (g.B.Bank.view c.make.new.self) c.make.ensures.call.step)
      (touch_image c.args.s.now (g.B.Bank.view c.make.new.self) (g.B.Bank.view c.load_image.new.bank) c.load_image.ensures.writes.1.contents);
}

pub returns-in_err-read-clause-loads : goal.returns-in_err-read-clause-loads
returns-in_err-read-clause-loads g c =
    let a = g.B.Bank.view c.args.bank.now in
    let b = g.B.Bank.view c.make.new.self in
    let d = g.B.Bank.view c.load_image.new.bank in
    let e = g.B.Bank.view c.read.new.self in
    let from = g.S.Source.stream c.args.source.now in
    let to = g.S.Source.stream c.load_image.new.source in
    let image = c.in_ok-load_image.ensures.writes in (
      image.0,
      err_is c.from_residual-in_err-read.result _ (λ (r : Result (Unit {0}) ReplicaFault). LoadsShut c.args.s.now c.args.seq c.args.time image.0 r a e from to)
          c.from_residual-in_err-read.ensures.0 c.from_residual-in_err-read.ensures.1
          (λ why disk. load_unread c.args.s.now c.args.seq c.args.time a from _ b _ c.replica_len.ensures c.in_ok-make.ensures.call
          image.0 d to _ image.1 _ e _ _ _ why disk c.in_err-read.ensures.call),
    )

pub returns-in_err-read-clause-disk : goal.returns-in_err-read-clause-disk
returns-in_err-read-clause-disk g c =
    let a = g.B.Bank.view c.args.bank.now in
    let b = g.B.Bank.view c.make.new.self in
    let d = g.B.Bank.view c.load_image.new.bank in
    let e = g.B.Bank.view c.read.new.self in
    let image = c.in_ok-load_image.ensures.writes in
    let made : Touches a d = touch_then a b d c.make.ensures.call.goes.tells (touch_made _ a b c.make.ensures.call.step) (touch_image c.args.s.now b d image.1.contents) in
    record {
      size = first_of (search rules, grind (arith, common_steps));
      sizes = λ e other. c.read.ensures.call.sizes e ∙ c.load_image.ensures.sizes e ∙ c.make.ensures.call.others e other;
      touches = touch_then a d e (image.1.moves.tells ∙ c.make.ensures.call.goes.tells) made (touch_same d e c.read.ensures.call.same);
    }

pub returns-in_err-begin_shut-clause-loads : goal.returns-in_err-begin_shut-clause-loads
returns-in_err-begin_shut-clause-loads g c =
    let a = g.B.Bank.view c.args.bank.now in
    let b = g.B.Bank.view c.make.new.self in
    let d = g.B.Bank.view c.load_image.new.bank in
    let e = g.B.Bank.view c.read.new.self in
    let f = g.B.Bank.view c.begin_shut.new.bank in
    let from = g.S.Source.stream c.args.source.now in
    let to = g.S.Source.stream c.load_image.new.source in
    let image = c.in_ok-load_image.ensures.writes in (
      image.0,
      err_is c.from_residual-in_err-begin_shut.result _ (λ (r : Result (Unit {0}) ReplicaFault). LoadsShut c.args.s.now c.args.seq c.args.time image.0 r a f from to)
          c.from_residual-in_err-begin_shut.ensures.0 c.from_residual-in_err-begin_shut.ensures.1
          (λ why disk. load_unbegun c.args.s.now c.args.seq c.args.time a from _ b _ c.replica_len.ensures c.in_ok-make.ensures.call
          image.0 d to _ image.1 _ e _ _ _ c.in_ok-read.ensures.call f why disk
          c.begin_shut.ensures.any_moment c.in_err-begin_shut.ensures.cause),
    )

pub returns-in_err-begin_shut-clause-disk : goal.returns-in_err-begin_shut-clause-disk
returns-in_err-begin_shut-clause-disk g c =
    let a = g.B.Bank.view c.args.bank.now in
    let b = g.B.Bank.view c.make.new.self in
    let d = g.B.Bank.view c.load_image.new.bank in
    let e = g.B.Bank.view c.read.new.self in
    let f = g.B.Bank.view c.begin_shut.new.bank in
    let image = c.in_ok-load_image.ensures.writes in
    let made : Touches a d = touch_then a b d c.make.ensures.call.goes.tells (touch_made _ a b c.make.ensures.call.step) (touch_image c.args.s.now b d image.1.contents) in
    let read : Touches a e = touch_then a d e (image.1.moves.tells ∙ c.make.ensures.call.goes.tells) made (touch_same d e c.read.ensures.call.same) in
    record {
      size = first_of (search rules, grind (arith, common_steps));
      sizes = λ e other. c.begin_shut.ensures.sizes e ∙ c.read.ensures.call.sizes e ∙ c.load_image.ensures.sizes e ∙ c.make.ensures.call.others e other;
      touches = touch_then a e f (c.read.ensures.call.goes.tells ∙ image.1.moves.tells ∙ c.make.ensures.call.goes.tells) read (touch_front c.args.s.now e f c.begin_shut.ensures.contents);
    }

pub returns-clause-loads : goal.returns-clause-loads
returns-clause-loads g c =
    let a = g.B.Bank.view c.args.bank.now in
    let b = g.B.Bank.view c.make.new.self in
    let d = g.B.Bank.view c.load_image.new.bank in
    let e = g.B.Bank.view c.read.new.self in
    let f = g.B.Bank.view c.begin_shut.new.bank in
    let from = g.S.Source.stream c.args.source.now in
    let to = g.S.Source.stream c.load_image.new.source in
    let image = c.in_ok-load_image.ensures.writes in (
      image.0,
      load_begun c.args.s.now c.args.seq c.args.time a from _ b _ c.replica_len.ensures c.in_ok-make.ensures.call image.0 d to _ image.1 _ e _ _ _ c.in_ok-read.ensures.call f _
          c.home_at.ensures (omega (arith, c.load_image.auto.block, c.requires.sized)) c.spell_value.ensures
          c.in_ok-begin_shut.ensures.ok c.begin_shut.ensures.contents c.begin_shut.ensures.any_moment,
    )

pub returns-clause-disk : goal.returns-clause-disk
returns-clause-disk g c =
    let a = g.B.Bank.view c.args.bank.now in
    let b = g.B.Bank.view c.make.new.self in
    let d = g.B.Bank.view c.load_image.new.bank in
    let e = g.B.Bank.view c.read.new.self in
    let f = g.B.Bank.view c.begin_shut.new.bank in
    let image = c.in_ok-load_image.ensures.writes in
    let made : Touches a d = touch_then a b d c.make.ensures.call.goes.tells (touch_made _ a b c.make.ensures.call.step) (touch_image c.args.s.now b d image.1.contents) in
    let read : Touches a e = touch_then a d e (image.1.moves.tells ∙ c.make.ensures.call.goes.tells) made (touch_same d e c.read.ensures.call.same) in
    record {
      size = first_of (search rules, grind (arith, common_steps));
      sizes = λ e other. c.begin_shut.ensures.sizes e ∙ c.read.ensures.call.sizes e ∙ c.load_image.ensures.sizes e ∙ c.make.ensures.call.others e other;
      touches = touch_then a e f (c.read.ensures.call.goes.tells ∙ image.1.moves.tells ∙ c.make.ensures.call.goes.tells) read (touch_front c.args.s.now e f c.begin_shut.ensures.contents);
    }
