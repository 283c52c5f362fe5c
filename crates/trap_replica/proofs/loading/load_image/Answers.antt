use Rattle.std.proofs.Common.{◌≡◌, ℕ, [], ◌++◌, Result, Err, sym, subst, arith}
use Rattle.trap_replica.specs.LoadSteps.{WritesImage}
use Rattle.trap_replica.specs.declared.fault.ReplicaFault.{ReplicaFault}
use Rattle.trap_replica.proofs.LoadedBlocks.{HasTaken, err_is, taken_none, taken_more, taken_failed, image_ended}
use Rattle.trap_replica.proofs.loading.load_image.Goals as goal

pub blocks-2-init : goal.blocks-2-init
blocks-2-init g c = ([], taken_none c.args.s.now (g.B.Bank.view c.args.bank.now) (g.S.Source.stream c.args.source.now))

pub returns-in_err-load_block-clause-writes : goal.returns-in_err-load_block-clause-writes
returns-in_err-load_block-clause-writes g c =
    let so_far = c.blocks-2.invariant in
    let next = c.in_err-load_block.ensures.writes in
    let a = g.B.Bank.view c.args.bank.now in
    let b = g.B.Bank.view c.load_block.new.bank in
    let from = g.S.Source.stream c.args.source.now in
    let to = g.S.Source.stream c.load_block.new.source in
    let failed = taken_failed c.args.s.now c.blocks-2.b c.blocks-2.at c.load_block.new.at so_far.0 next.0 a (g.B.Bank.view c.blocks-2.bank) b from (g.S.Source.stream c.blocks-2.source) to
    so_far.1 (omega arith) {T = Unit {0}} c.in_err-load_block.field-0.0 next.1 in (
      so_far.0 ++ next.0,
      err_is c.from_residual.result _ (λ (r : Result (Unit {0}) ReplicaFault). WritesImage c.args.s.now (so_far.0 ++ next.0) r a b from to) c.from_residual.ensures.0 c.from_residual.ensures.1
          (λ why is. subst (λ (e : ReplicaFault). WritesImage {T = Unit {0}} c.args.s.now (so_far.0 ++ next.0) (Err e) a b from to) (sym is) failed),
    )

pub blocks-2-preserved : goal.blocks-2-preserved
blocks-2-preserved g c =
    let so_far = c.blocks-2.invariant in
    let next = c.in_ok-load_block.ensures.writes in (
      so_far.0 ++ next.0,
      taken_more c.args.s.now c.blocks-2.b c.blocks-2.at c.load_block.new.at so_far.0 next.0 (g.B.Bank.view c.args.bank.now) (g.B.Bank.view c.blocks-2.bank) (g.B.Bank.view c.load_block.new.bank)
          (g.S.Source.stream c.args.source.now) (g.S.Source.stream c.blocks-2.source) (g.S.Source.stream c.load_block.new.source) so_far.1 (omega arith) _ next.1
          c.load_block.ensures.sizes c.in_ok-load_block.ensures.calls.ok,
    )

pub returns-clause-writes : goal.returns-clause-writes
returns-clause-writes g c =
    let so_far = c.blocks-2.invariant in
    let ends = c.expect_end.ensures.ends in
    let a = g.B.Bank.view c.args.bank.now in
    let b = g.B.Bank.view c.blocks-2.bank in
    let from = g.S.Source.stream c.args.source.now in
    let mid = g.S.Source.stream c.blocks-2.source in
    let all : c.blocks-2.b ≡ c.args.s.now.volume = omega arith in (
      so_far.0 ++ ends.0,
      image_ended c.args.s.now c.blocks-2.at so_far.0 ends.0 a b from mid (g.S.Source.stream c.expect_end.new.source) c.expect_end.result
          (subst (λ (n : ℕ). HasTaken c.args.s.now n c.blocks-2.at so_far.0 a b from mid) all so_far.1) ends.1,
    )
