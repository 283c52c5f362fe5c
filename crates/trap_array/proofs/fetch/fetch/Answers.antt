use Rattle.std.proofs.Common.{◌≡◌, ◌<◌, IfErr, sym, subst, ◌∙◌}
use Rattle.std.proofs.lemmas.Result.{on_ok_weaker}
use Rattle.trap_model.specs.Image.{IsImage}
use Rattle.trap_model.specs.State.{image}
use Rattle.trap_map.specs.Table.{table}
use Rattle.trap_bank.specs.Called.{CalledTimes, TakesCalls}
use Rattle.trap_pool.specs.Pooled.{pool_block}
use Rattle.trap_raid.specs.Condition.{Condition}
use Rattle.trap_raid.specs.Standing.{reads_of, reads_until}
use Rattle.trap_array.proofs.LookingBack.{present_calls}
use Rattle.trap_raid.specs.Members.{PlaceFits, HoldImage, member_place}
use Rattle.trap_raid.proofs.FitLemmas.{fits_from_sizes, place_fits}
use Rattle.trap_raid.proofs.TableLemmas.{table_at_place}
use Rattle.trap_map.specs.Layout.{block_place}
use Rattle.trap_map.specs.declared.places.Place.{Place}
use Rattle.trap_model.specs.declared.numbers.Geometry.{Geometry}
use Rattle.trap_stage.specs.Slots.{Stage}
use Rattle.trap_array.specs.Calls.{running}
use Rattle.trap_array.specs.Log.{with_index}
use Rattle.trap_array.proofs.Reading.{stand_now, image_now}
use Rattle.trap_array.proofs.fetch.fetch.Goals as goal

pub read_place-requires-clause-disks : goal.read_place-requires-clause-disks
read_place-requires-clause-disks g c =
    let old = g.B.Bank.view c.args.bank.now in
    let here = c.args.log.now in
    let place = c.place_of-place.result in
    let row = subst (λ (g : Geometry). place.row < g.rows) c.geometry.ensures c.place_of-place.ensures.row in
    let member = subst (λ (g : Geometry). place.member < g.members) c.geometry.ensures c.place_of-place.ensures.member in
    let P : Condition → Type 0 = λ (k : Condition). PlaceFits k.g k.lost c.stage.result.now.pending old place.row place.member in
    let S : Stage → Type 0 = λ (t : Stage). PlaceFits here.g here.head.lost t.pending old place.row place.member in
    subst P (sym c.raid-raid.ensures) (subst S (sym c.stage.ensures.stage)
    (place_fits here.g here.head.lost here.head.rebuilt here.stage.pending old place.row place.member
    (fits_from_sizes here.g here.head.lost here.head.rebuilt old c.requires.sizes.members) row member))

pub returns-clause-bytes : goal.returns-clause-bytes
returns-clause-bytes g c told i s stands =
    let old = g.B.Bank.view c.args.bank.now in
    let here = c.args.log.now in
    let place = c.place_of-place.result in
    let at = subst (λ (g : Geometry). place ≡ block_place g c.args.block) c.geometry.ensures c.place_of-place.ensures.place in
    let S : Stage → Type 0 = λ (t : Stage). HoldImage here.g here.head.lost t.pending (member_place here.g old.now.disks) (image s) in
    let K : Condition → Type 0 = λ (k : Condition). HoldImage k.g k.lost c.stage.result.now.pending (member_place k.g old.now.disks) (image s) in
    let stand = subst K (sym c.raid-raid.ensures) (subst S (sym c.stage.ensures.stage)
    (stand_now (running (with_index here i)) old s (g.met.B.Bank.lawful c.args.bank.now) c.requires.sizes told stands)) in
    let J : Condition → Type 0 = λ (k : Condition). IsImage k.g (image s) in
    let is_image = subst J (sym c.raid-raid.ensures) (image_now (running (with_index here i)) s old.now.disks stands) in
    let T : Condition → Type 0 = λ (k : Condition). pool_block c.read_place.new.pool c.args.into.now ≡ table k.g (image s) place.row place.member in
    on_ok_weaker c.read_place.result
    (λ is. subst T c.raid-raid.ensures is ∙ table_at_place here.g (image s) place c.args.block at)
    (c.read_place.ensures.table told (image s) is_image stand)

pub returns-clause-calls : goal.returns-clause-calls
returns-clause-calls g c i =
    let old = g.B.Bank.view c.args.bank.now in
    let new = g.B.Bank.view c.read_place.new.bank in
    let here = c.args.log.now in
    let place = c.place_of-place.result in
    let at = subst (λ (g : Geometry). place ≡ block_place g c.args.block) c.geometry.ensures c.place_of-place.ensures.place in
    let member = subst (λ (g : Geometry). place.member < g.members) c.geometry.ensures c.place_of-place.ensures.member in
    let K : Condition → Type 0 = λ (k : Condition). TakesCalls (reads_of k.g k.lost c.stage.result.now.pending place.row place.member) c.read_place.result old new in
    let S : Stage → Type 0 = λ (t : Stage). TakesCalls (reads_of here.g here.head.lost t.pending place.row place.member) c.read_place.result old new in
    present_calls c.read_place.result (running (with_index here i)) c.args.block place old new at member
    (subst S c.stage.ensures.stage (subst K c.raid-raid.ensures c.read_place.ensures.calls))

pub returns-clause-failed_calls : goal.returns-clause-failed_calls
returns-clause-failed_calls g c i =
    let old = g.B.Bank.view c.args.bank.now in
    let new = g.B.Bank.view c.read_place.new.bank in
    let here = c.args.log.now in
    let place = c.place_of-place.result in
    let at = subst (λ (g : Geometry). place ≡ block_place g c.args.block) c.geometry.ensures c.place_of-place.ensures.place in
    let K : Condition → Type 0 = λ (k : Condition). IfErr c.read_place.result
    (λ failed. CalledTimes (reads_until k.g k.lost c.stage.result.now.pending place.row place.member failed.member) old new) in
    let S : Stage → Type 0 = λ (t : Stage). IfErr c.read_place.result
    (λ failed. CalledTimes (reads_until here.g here.head.lost t.pending place.row place.member failed.member) old new) in
    let P : Place → Type 0 = λ (p : Place). IfErr c.read_place.result
    (λ failed. CalledTimes (reads_until here.g here.head.lost here.stage.pending p.row p.member failed.member) old new) in
    subst P at (subst S c.stage.ensures.stage (subst K c.raid-raid.ensures c.read_place.ensures.failed_calls))
