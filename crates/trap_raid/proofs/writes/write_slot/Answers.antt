use Rattle.std.proofs.Common.{◌≡◌, Err, IfErr, ◌∷◌, [], subst, rules}
use Rattle.std.proofs.lemmas.Result.{on_ok_weaker, IfErr-weaker}
use Rattle.trap_stage.specs.Staged.{Staged}
use Rattle.trap_raid.specs.Draining.{IsDrainedTo}
use Rattle.trap_raid.proofs.FitLemmas.{drain_fits_along, block_place_fits, parity_place_fits}
use Rattle.trap_raid.proofs.DrainSteps.{block_torn, slot_torn, block_step, slot_step, slot_steps}
use Rattle.trap_raid.proofs.DrainSteps.{block_fails, parity_fails}
use Rattle.trap_raid.proofs.DrainCosts.{slot_cost, slot_failed}
use Rattle.trap_raid.proofs.writes.write_slot.Goals as goal

pub write_place-requires-clause-disk : goal.write_place-requires-clause-disk
write_place-requires-clause-disk g c =
    block_place_fits c.args.g.now c.args.lost c.args.rebuilt (record { block = c.args.block; bytes = c.args.bytes.now; parity = c.args.parity.now })
    c.place_of-place.result (g.B.Bank.view c.args.bank.now)
    c.requires.block c.place_of-place.ensures.place c.requires.disks

pub write_place-requires-2-clause-disk : goal.write_place-requires-2-clause-disk
write_place-requires-2-clause-disk g c =
    let staged : Staged = record { block = c.args.block; bytes = c.args.bytes.now; parity = c.args.parity.now } in
    parity_place_fits c.args.g.now c.args.lost c.args.rebuilt staged c.place_of-place.result c.parity_of.result (g.B.Bank.view c.write_place.new.bank)
    c.requires.block c.place_of-place.ensures.place c.parity_of.ensures.parity
    (drain_fits_along c.args.g.now c.args.lost c.args.rebuilt (staged ∷ []) (g.B.Bank.view c.args.bank.now) (g.B.Bank.view c.write_place.new.bank) c.write_place.ensures.sizes c.requires.disks)

pub returns-in_err-write_place-clause-any_moment : goal.returns-in_err-write_place-clause-any_moment
returns-in_err-write_place-clause-any_moment g c =
    block_step c.args.g.now c.args.lost c.args.rebuilt (record { block = c.args.block; bytes = c.args.bytes.now; parity = c.args.parity.now }) c.place_of-place.result _ _
    c.requires.block c.place_of-place.ensures.place c.write_place.ensures.any_moment

pub returns-clause-any_moment : goal.returns-clause-any_moment
returns-clause-any_moment g c =
    slot_step c.args.g.now c.args.lost c.args.rebuilt (record { block = c.args.block; bytes = c.args.bytes.now; parity = c.args.parity.now }) c.place_of-place.result c.parity_of.result _ _ _
    c.requires.block c.place_of-place.ensures.place c.parity_of.ensures.parity c.write_place.ensures.any_moment c.write_place-2.ensures.any_moment

pub returns-clause-ok : goal.returns-clause-ok
returns-clause-ok g c = on_ok_weaker c.write_place-2.result
    (λ second. slot_steps c.args.g.now c.args.lost c.args.rebuilt (record { block = c.args.block; bytes = c.args.bytes.now; parity = c.args.parity.now })
    c.place_of-place.result c.parity_of.result _ _ _
    c.requires.block c.place_of-place.ensures.place c.parity_of.ensures.parity c.in_ok-write_place.ensures.ok second)
    c.write_place-2.ensures.ok

pub returns-in_err-write_place-clause-contents : goal.returns-in_err-write_place-clause-contents
returns-in_err-write_place-clause-contents g c =
    block_torn c.args.g.now c.args.lost c.args.rebuilt (record { block = c.args.block; bytes = c.args.bytes.now; parity = c.args.parity.now }) c.place_of-place.result
    (g.B.Bank.view c.args.bank.now) (g.B.Bank.view c.write_place.new.bank)
    c.requires.block c.place_of-place.ensures.place c.write_place.ensures.contents

pub returns-clause-contents : goal.returns-clause-contents
returns-clause-contents g c =
    slot_torn c.args.g.now c.args.lost c.args.rebuilt (record { block = c.args.block; bytes = c.args.bytes.now; parity = c.args.parity.now }) c.place_of-place.result c.parity_of.result
    (g.B.Bank.view c.args.bank.now) (g.B.Bank.view c.write_place.new.bank) (g.B.Bank.view c.write_place-2.new.bank)
    c.requires.block c.place_of-place.ensures.place c.parity_of.ensures.parity c.write_place.ensures.any_moment.tells c.write_place.ensures.contents c.write_place-2.ensures.contents

-- a member fails in one of the two places, and that counts
pub returns-in_err-write_place-clause-place : goal.returns-in_err-write_place-clause-place
returns-in_err-write_place-clause-place g c =
    let staged : Staged = record { block = c.args.block; bytes = c.args.bytes.now; parity = c.args.parity.now } in
    let is : Err c.in_err-write_place.field-0.0 ≡ c.from_residual.result = search rules in
    subst (λ r. IfErr r (λ failed. IsDrainedTo c.args.g.now c.args.lost c.args.rebuilt (staged ∷ []) failed.member)) is
    (block_fails c.args.g.now c.args.lost c.args.rebuilt staged c.place_of-place.result c.in_err-write_place.field-0.0.member
    c.requires.block c.place_of-place.ensures.place c.in_err-write_place.ensures.place)

pub returns-clause-place : goal.returns-clause-place
returns-clause-place g c =
    let staged : Staged = record { block = c.args.block; bytes = c.args.bytes.now; parity = c.args.parity.now } in
    IfErr-weaker c.write_place-2.result _ (λ failed. IsDrainedTo c.args.g.now c.args.lost c.args.rebuilt (staged ∷ []) failed.member)
    (λ failed at. parity_fails c.args.g.now c.args.lost c.args.rebuilt staged c.place_of-place.result c.parity_of.result failed.member
    c.requires.block c.place_of-place.ensures.place c.parity_of.ensures.parity at)
    c.write_place-2.ensures.place

pub returns-in_err-write_place-clause-calls : goal.returns-in_err-write_place-clause-calls
returns-in_err-write_place-clause-calls g c =
    let staged : Staged = record { block = c.args.block; bytes = c.args.bytes.now; parity = c.args.parity.now } in
    let is : Err c.in_err-write_place.field-0.0 ≡ c.from_residual.result = search rules in
    slot_failed c.args.g.now c.args.lost c.args.rebuilt staged c.place_of-place.result c.write_place.result c.from_residual.result c.in_err-write_place.field-0.0
    (g.B.Bank.view c.args.bank.now) (g.B.Bank.view c.write_place.new.bank) c.place_of-place.ensures.place is c.write_place.ensures.calls

pub returns-clause-calls : goal.returns-clause-calls
returns-clause-calls g c =
    let staged : Staged = record { block = c.args.block; bytes = c.args.bytes.now; parity = c.args.parity.now } in
    slot_cost c.args.g.now c.args.lost c.args.rebuilt staged c.place_of-place.result c.parity_of.result c.write_place-2.result
    (g.B.Bank.view c.args.bank.now) (g.B.Bank.view c.write_place.new.bank) (g.B.Bank.view c.write_place-2.new.bank)
    c.place_of-place.ensures.place c.parity_of.ensures.parity c.in_ok-write_place.ensures.calls.ok c.write_place-2.ensures.calls
