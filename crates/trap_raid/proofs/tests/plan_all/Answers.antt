use Rattle.std.proofs.Common.{◌≡◌, ℕ, ◌<◌, List, [], ◌∷◌, length, IsTrue, get_or, sym, subst, ◌∙◌, rules}
use Rattle.trap_model.specs.Image.{volume}
use Rattle.trap_pool.specs.Frames.{Only}
use Rattle.trap_pool.specs.Lending.{lent}
use Rattle.trap_pool.specs.Pooled.{Pooled}
use Rattle.trap_raid.specs.Condition.{Condition}
use Rattle.trap_raid.specs.Members.{BlockFits, MembersFit}
use Rattle.trap_raid.proofs.FitLemmas.{block_fits}
use Rattle.trap_raid.proofs.PoolLemmas.{only_then, only_among, only_lent}
use Rattle.trap_raid.proofs.tests.plan_all.Goals as goal
use Rattle.trap_raid.proofs.tests.plan_all.Goals.{then-block+else-assert+else-assert-2+else-assert-3+else-assert-4+in_ok-write_plan+else-assert_eq+else-assert_eq-2, else-block}

-- the disks were seen to have all rows, and the block to be one of the array
pub write_plan-requires-clause-disks : goal.write_plan-requires-clause-disks
write_plan-requires-clause-disks g c =
    let v = g.B.Bank.view c.loop-at.bank in
    let block = get_or c.args.table.now c.loop-at.at 0 in
    let yes : IsTrue c.members_fit.result = search rules in
    let fit : MembersFit c.args.g.now c.args.lost 0 v = c.members_fit.ensures yes in
    let there : IsTrue c.is_block.result = search rules in
    let below : block < volume c.args.g.now = c.is_block.ensures there in
    let P : Condition → Type 0 = λ k. BlockFits k.g k.lost c.args.stage.now.pending v block in
    subst P (sym c.new-raid.ensures) (block_fits c.args.g.now c.args.lost 0 c.args.stage.now.pending v block fit below)

-- the fresh block is written, and then the plan's three
planned_over : (old mid new : Pooled) (fresh delta parity scratch : ℕ) (bytes : List ℕ) → Only (fresh ∷ delta ∷ parity ∷ scratch ∷ []) old mid → length bytes ≡ mid.size
    → Only (delta ∷ parity ∷ scratch ∷ []) (lent mid fresh bytes) new → Only (fresh ∷ delta ∷ parity ∷ scratch ∷ []) old new
planned_over old mid new fresh delta parity scratch bytes before fits plan =
    let ks = fresh ∷ delta ∷ parity ∷ scratch ∷ [] in
    let wrote = lent mid fresh bytes in
    only_then ks old mid new before
    (only_then ks mid wrote new (only_among (fresh ∷ []) ks mid wrote (λ k apart. (apart.0, tt)) (only_lent mid fresh bytes fits))
    (only_among (delta ∷ parity ∷ scratch ∷ []) ks wrote new (λ k apart. apart.1) plan))

pub returns-in_err-write_plan : goal.returns-in_err-write_plan
returns-in_err-write_plan g c =
    let b = c.args.blocks.now in
    planned_over c.args.pool.now c.loop-at.pool c.write_plan.new.pool b.fresh b.delta b.parity b.scratch c.copy_from_slice.new.self c.loop-at.invariant
    (c.copy_from_slice.auto.self ∙ c.bytes_mut.ensures.size) c.write_plan.ensures.rest

pub loop-at-preserved : goal.loop-at-preserved
loop-at-preserved g c =
    let b = c.args.blocks.now in
    let P : Pooled → Type 0 = Only (b.fresh ∷ b.delta ∷ b.parity ∷ b.scratch ∷ []) c.args.pool.now in
    elim c.if-block.branch [
      | then-block+else-assert+else-assert-2+else-assert-3+else-assert-4+in_ok-write_plan+else-assert_eq+else-assert_eq-2 w ↦
          subst P (sym w.pool-is)
          (planned_over c.args.pool.now c.loop-at.pool w.write_plan.new.pool b.fresh b.delta b.parity b.scratch w.copy_from_slice.new.self c.loop-at.invariant
          (w.copy_from_slice.auto.self ∙ w.bytes_mut.ensures.size) w.write_plan.ensures.rest)
      | else-block w ↦ subst P (sym w.pool-is) c.loop-at.invariant
    ]
