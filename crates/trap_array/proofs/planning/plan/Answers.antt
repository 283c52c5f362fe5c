use Rattle.std.proofs.Common.{rules, ◌≡◌, ℕ, List, [], ◌∷◌, length, OnOk, ap, sym, subst, ◌∙◌}
use Rattle.std.proofs.lemmas.Result.{on_ok_weaker}
use Rattle.trap_model.specs.Image.{IsImage}
use Rattle.trap_model.specs.State.{image}
use Rattle.trap_bank.specs.Called.{TakesCalls}
use Rattle.trap_raid.specs.Condition.{Condition}
use Rattle.trap_raid.specs.Standing.{plan_reads}
use Rattle.trap_raid.specs.Members.{BlockFits, HoldImage, member_place}
use Rattle.trap_raid.specs.Plan.{IsPlan}
use Rattle.trap_raid.proofs.FitLemmas.{fits_from_sizes, block_fits}
use Rattle.trap_array.specs.Calls.{running}
use Rattle.trap_array.specs.Log.{with_index}
use Rattle.trap_stage.specs.Slots.{Stage}
use Rattle.trap_array.specs.Held.{Held, leases_of}
use Rattle.trap_pool.specs.Frames.{AreLeases, Only}
use Rattle.trap_pool.specs.Lending.{lent}
use Rattle.trap_pool.specs.Pooled.{pool_block}
use Rattle.trap_raid.proofs.PoolLemmas.{only_then, only_among, only_lent, lent_here}
use Rattle.trap_array.proofs.Reading.{stand_now, image_now}
use Rattle.trap_array.proofs.planning.plan.Goals as goal

pub write_plan-requires-clause-disks : goal.write_plan-requires-clause-disks
write_plan-requires-clause-disks g c =
    let old = g.B.Bank.view c.args.bank.now in
    let here = c.args.log.now in
    let P : Condition → Type 0 = λ (k : Condition). BlockFits k.g k.lost c.stage.result.now.pending old c.args.block in
    let S : Stage → Type 0 = λ (t : Stage). BlockFits here.g here.head.lost t.pending old c.args.block in
    subst P (sym c.raid-raid.ensures)
    (subst S (sym c.stage.ensures.stage)
    (block_fits here.g here.head.lost here.head.rebuilt here.stage.pending old c.args.block (fits_from_sizes here.g here.head.lost here.head.rebuilt old c.requires.sizes.members) c.requires.block))

pub returns-clause-plan : goal.returns-clause-plan
returns-clause-plan g c told i s stands =
    let old = g.B.Bank.view c.args.bank.now in
    let here = c.args.log.now in
    let S : Stage → Type 0 = λ (t : Stage). HoldImage here.g here.head.lost t.pending (member_place here.g old.now.disks) (image s) in
    let K : Condition → Type 0 = λ (k : Condition). HoldImage k.g k.lost c.stage.result.now.pending (member_place k.g old.now.disks) (image s) in
    let stand = subst K (sym c.raid-raid.ensures) (subst S (sym c.stage.ensures.stage)
    (stand_now (running (with_index here i)) old s (g.met.B.Bank.lawful c.args.bank.now) c.requires.sizes told stands)) in
    let J : Condition → Type 0 = λ (k : Condition). IsImage k.g (image s) in
    let is_image = subst J (sym c.raid-raid.ensures) (image_now (running (with_index here i)) s old.now.disks stands) in
    let held : Held = record { contents = c.held.inside.contents; delta = c.held.inside.delta; parity = c.held.inside.parity; scratch = c.held.inside.scratch } in
    let are = subst (λ (h : Held). AreLeases c.args.pool.now (leases_of h)) (sym c.held.view_is) c.requires.leases in
    let after = c.write_plan.new.pool in
    let delta = pool_block after held.delta in
    let parity = pool_block after held.parity in
    let copy = c.copy_from_slice.new.self in
    let same : copy ≡ c.args.bytes.now = search rules in
    let lent_ = lent c.args.pool.now held.contents copy in
    let fits : length copy ≡ c.args.pool.now.size = ap (λ (l : List ℕ). length l) same ∙ c.requires.bytes ∙ sym c.requires.size in
    let fresh : pool_block lent_ held.contents ≡ c.args.bytes.now = lent_here c.args.pool.now held.contents copy fits are.0 ∙ same in
    let F : List ℕ → Type 0 = λ (bytes : List ℕ). IsPlan here.g (image s) c.args.block bytes delta parity in
    let C : Condition → Type 0 = λ (k : Condition). IsPlan k.g (image s) c.args.block (pool_block lent_ held.contents) delta parity in
    subst (λ (h : Held). OnOk c.write_plan.result (IsPlan here.g (image s) c.args.block c.args.bytes.now (pool_block after h.delta) (pool_block after h.parity))) c.held.view_is
    (on_ok_weaker c.write_plan.result (λ plan. subst F fresh (subst C c.raid-raid.ensures plan))
    (c.write_plan.ensures.plan told (image s) is_image stand))

pub returns-clause-rest : goal.returns-clause-rest
returns-clause-rest g c =
    let held : Held = record { contents = c.held.inside.contents; delta = c.held.inside.delta; parity = c.held.inside.parity; scratch = c.held.inside.scratch } in
    let after = c.write_plan.new.pool in
    let copy = c.copy_from_slice.new.self in
    let same : copy ≡ c.args.bytes.now = search rules in
    let lent_ = lent c.args.pool.now held.contents copy in
    let fits : length copy ≡ c.args.pool.now.size = ap (λ (l : List ℕ). length l) same ∙ c.requires.bytes ∙ sym c.requires.size in
    subst (λ (h : Held). Only (leases_of h) c.args.pool.now after) c.held.view_is
    (only_then (leases_of held) c.args.pool.now lent_ after
    (only_among (held.contents ∷ []) (leases_of held) c.args.pool.now lent_ (λ k apart. (apart.0, tt)) (only_lent c.args.pool.now held.contents copy fits))
    (only_among (held.delta ∷ held.parity ∷ held.scratch ∷ []) (leases_of held) lent_ after (λ k apart. apart.1) c.write_plan.ensures.rest))

pub returns-clause-calls : goal.returns-clause-calls
returns-clause-calls g c =
    let old = g.B.Bank.view c.args.bank.now in
    let new = g.B.Bank.view c.write_plan.new.bank in
    let here = c.args.log.now in
    let K : Condition → Type 0 = λ (k : Condition). TakesCalls (plan_reads k.g k.lost c.stage.result.now.pending c.args.block) c.write_plan.result old new in
    let S : Stage → Type 0 = λ (t : Stage). TakesCalls (plan_reads here.g here.head.lost t.pending c.args.block) c.write_plan.result old new in
    subst S c.stage.ensures.stage (subst K c.raid-raid.ensures c.write_plan.ensures.calls)
