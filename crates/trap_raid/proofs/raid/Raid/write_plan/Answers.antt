use Rattle.std.proofs.Common.{Err, ◌≡◌, ℕ, Option, length, refl, subst, ap, sym, ◌∙◌, arith, rules}
use Rattle.std.specs.Prelude.{Result, IfErr}
use Rattle.trap_bank.specs.Disks.{View}
use Rattle.trap_model.specs.declared.numbers.Geometry.{Geometry}
use Rattle.trap_raid.specs.declared.reads.MemberFailed.{MemberFailed}
use Rattle.trap_raid.specs.Reads.{OnlyReads, FailedMember}
use Rattle.trap_map.specs.declared.places.Place.{Place}
use Rattle.trap_map.specs.Layout.{parity_member, block_place}
use Rattle.trap_pool.specs.Pooled.{pool_block}
use Rattle.trap_raid.specs.Condition.{Condition}
use Rattle.trap_raid.proofs.PoolLemmas.{plan_holds, only_planned, only_planning}
use Rattle.trap_raid.proofs.ReadLemmas.{place_fits_along, place_fits_at, failed_after}
use Rattle.trap_raid.proofs.TableLemmas.{stand_along, plan_from_reads}
use Rattle.trap_bank.proofs.OnlyReads.{reads_then, told_after}
use Rattle.trap_raid.specs.Standing.{plan_reads}
use Rattle.trap_raid.proofs.StandingLemmas.{plan_by_reads}
use Rattle.trap_raid.proofs.CostLemmas.{takes_failed, plan_failed_first, plan_stopped_first, plan_stopped_second, plan_both, plan_done}
use Rattle.trap_raid.proofs.raid.Raid.write_plan.Goals as goal

-- the row's parity is read where the block's place was found
pub read_place-requires-2-clause-disks : goal.read_place-requires-2-clause-disks
read_place-requires-2-clause-disks g c =
    let is_g : c.self.inside.g ≡ c.args.self.now.g = ap (λ (k : Condition). k.g) c.self.view_is in
    let is_place : c.place_of-place.result ≡ block_place c.args.self.now.g c.args.block = c.place_of-place.ensures.place ∙ ap (λ h. block_place h c.args.block) is_g in
    let is_row : c.place_of-place.result.row ≡ (block_place c.args.self.now.g c.args.block).row = ap (λ (p : Place). p.row) is_place in
    let is_member : c.parity_of.result ≡ parity_member c.args.self.now.g (block_place c.args.self.now.g c.args.block).row =
    c.parity_of.ensures.parity ∙ ap (λ h. parity_member h c.place_of-place.result.row) is_g ∙ ap (λ (r : ℕ). parity_member c.args.self.now.g r) is_row in
    place_fits_along c.args.self.now.g c.args.self.now.lost c.args.stage.now.pending (g.B.Bank.view c.args.bank.now) (g.B.Bank.view c.read_place.new.bank)
    c.place_of-place.result.row c.parity_of.result
    c.read_place.ensures.any_moment
    (place_fits_at c.args.self.now.g c.args.self.now.lost c.args.stage.now.pending (g.B.Bank.view c.args.bank.now) (block_place c.args.self.now.g c.args.block).row
    (parity_member c.args.self.now.g (block_place c.args.self.now.g c.args.block).row)
    c.place_of-place.result.row c.parity_of.result (sym is_row) (sym is_member) c.requires.disks.parity)

pub returns-in_err-read_place-2-clause-any_moment : goal.returns-in_err-read_place-2-clause-any_moment
returns-in_err-read_place-2-clause-any_moment g c = reads_then _ _ _ c.read_place.ensures.any_moment c.read_place-2.ensures.any_moment

pub returns-clause-any_moment : goal.returns-clause-any_moment
returns-clause-any_moment g c = reads_then _ _ _ c.read_place.ensures.any_moment c.read_place-2.ensures.any_moment

-- the second read finds the disks as the first found them
pub returns-clause-plan : goal.returns-clause-plan
returns-clause-plan g c = λ told image is_image stands.
    let old = g.B.Bank.view c.args.bank.now in
    let mid = g.B.Bank.view c.read_place.new.bank in
    let is_g : c.self.inside.g ≡ c.args.self.now.g = ap (λ (k : Condition). k.g) c.self.view_is in
    let is_place : c.place_of-place.result ≡ block_place c.args.self.now.g c.args.block = c.place_of-place.ensures.place ∙ ap (λ h. block_place h c.args.block) is_g in
    let is_member : c.parity_of.result ≡ parity_member c.args.self.now.g c.place_of-place.result.row =
    c.parity_of.ensures.parity ∙ ap (λ h. parity_member h c.place_of-place.result.row) is_g in
    let again = stand_along c.args.self.now.g c.args.self.now.lost c.args.stage.now.pending old.now mid.now image (c.read_place.ensures.any_moment.same told) stands in
    let holds = plan_holds c.args.pool.now c.read_place.new.pool c.xor.new.self c.read_place-2.new.pool c.xor-2.new.self c.args.fresh.now c.args.delta.now c.args.parity.now c.args.scratch.now
    c.requires.leases c.read_place.ensures.rest c.xor.ensures.xor c.read_place-2.ensures.rest c.xor-2.ensures.xor in
    let size : length (pool_block c.args.pool.now c.args.fresh.now) ≡ c.args.self.now.g.block = ap length (sym c.bytes.ensures.bytes) ∙ c.bytes.ensures.size ∙ c.requires.size in
    plan_from_reads c.args.self.now.g image c.args.block c.place_of-place.result c.parity_of.result (pool_block c.args.pool.now c.args.fresh.now)
    (pool_block c.read_place.new.pool c.args.delta.now) (pool_block c.read_place-2.new.pool c.args.parity.now)
    (pool_block c.xor-2.new.self c.args.delta.now) (pool_block c.xor-2.new.self c.args.parity.now)
    is_image c.requires.block size is_place is_member
    (c.in_ok-read_place.ensures.table told image is_image stands) holds.delta_is
    (c.in_ok-read_place-2.ensures.table (told_after old mid c.read_place.ensures.any_moment told) image is_image again) holds.parity_is

-- each read gives what stands there
pub returns-clause-bytes : goal.returns-clause-bytes
returns-clause-bytes g c = λ told.
    let old = g.B.Bank.view c.args.bank.now in
    let mid = g.B.Bank.view c.read_place.new.bank in
    let is_g : c.self.inside.g ≡ c.args.self.now.g = ap (λ (k : Condition). k.g) c.self.view_is in
    let is_place : c.place_of-place.result ≡ block_place c.args.self.now.g c.args.block = c.place_of-place.ensures.place ∙ ap (λ h. block_place h c.args.block) is_g in
    let is_member : c.parity_of.result ≡ parity_member c.args.self.now.g c.place_of-place.result.row =
    c.parity_of.ensures.parity ∙ ap (λ h. parity_member h c.place_of-place.result.row) is_g in
    let holds = plan_holds c.args.pool.now c.read_place.new.pool c.xor.new.self c.read_place-2.new.pool c.xor-2.new.self c.args.fresh.now c.args.delta.now c.args.parity.now c.args.scratch.now
    c.requires.leases c.read_place.ensures.rest c.xor.ensures.xor c.read_place-2.ensures.rest c.xor-2.ensures.xor in
    plan_by_reads c.args.self.now.g c.args.self.now.lost c.args.stage.now.pending old.now mid.now c.args.block c.place_of-place.result c.parity_of.result (pool_block c.args.pool.now c.args.fresh.now)
    (pool_block c.read_place.new.pool c.args.delta.now) (pool_block c.read_place-2.new.pool c.args.parity.now)
    (pool_block c.xor-2.new.self c.args.delta.now) (pool_block c.xor-2.new.self c.args.parity.now)
    (c.read_place.ensures.any_moment.same told) is_place is_member
    (c.in_ok-read_place.ensures.bytes told) holds.delta_is
    (c.in_ok-read_place-2.ensures.bytes (told_after old mid c.read_place.ensures.any_moment told)) holds.parity_is

pub returns-in_err-read_place-clause-calls : goal.returns-in_err-read_place-clause-calls
returns-in_err-read_place-clause-calls g c =
    let is_g : c.self.inside.g ≡ c.args.self.now.g = ap (λ (k : Condition). k.g) c.self.view_is in
    let is_place : c.place_of-place.result ≡ block_place c.args.self.now.g c.args.block = c.place_of-place.ensures.place ∙ ap (λ h. block_place h c.args.block) is_g in
    let is : Err c.in_err-read_place.field-0.0 ≡ c.from_residual.result = search rules in
    plan_failed_first c.args.self.now.g c.args.self.now.lost c.args.stage.now.pending c.args.block c.place_of-place.result (parity_member c.args.self.now.g c.place_of-place.result.row) is_place refl
    c.read_place.result c.from_residual.result c.in_err-read_place.field-0.0 (g.B.Bank.view c.args.bank.now) (g.B.Bank.view c.read_place.new.bank) is c.read_place.ensures.calls

pub returns-in_err-read_place-2-clause-calls : goal.returns-in_err-read_place-2-clause-calls
returns-in_err-read_place-2-clause-calls g c =
    let is_g : c.self.inside.g ≡ c.args.self.now.g = ap (λ (k : Condition). k.g) c.self.view_is in
    let is_place : c.place_of-place.result ≡ block_place c.args.self.now.g c.args.block = c.place_of-place.ensures.place ∙ ap (λ h. block_place h c.args.block) is_g in
    let is_member : c.parity_of.result ≡ parity_member c.args.self.now.g c.place_of-place.result.row =
    c.parity_of.ensures.parity ∙ ap (λ h. parity_member h c.place_of-place.result.row) is_g in
    let whole = plan_reads c.args.self.now.g c.args.self.now.lost c.args.stage.now.pending c.args.block in
    let is : Err c.in_err-read_place-2.field-0.0 ≡ c.from_residual-in_err-read_place-2.result = search rules in
    takes_failed whole whole c.read_place-2.result c.from_residual-in_err-read_place-2.result c.in_err-read_place-2.field-0.0 (g.B.Bank.view c.args.bank.now)
    (g.B.Bank.view c.read_place-2.new.bank) (omega arith) is
    (plan_both c.args.self.now.g c.args.self.now.lost c.args.stage.now.pending c.args.block c.place_of-place.result c.parity_of.result is_place is_member
    c.read_place-2.result (g.B.Bank.view c.args.bank.now) (g.B.Bank.view c.read_place.new.bank) (g.B.Bank.view c.read_place-2.new.bank)
    c.in_ok-read_place.ensures.calls.ok c.read_place-2.ensures.calls)

-- nothing is read after a failure
pub returns-in_err-read_place-clause-failed_calls : goal.returns-in_err-read_place-clause-failed_calls
returns-in_err-read_place-clause-failed_calls g c =
    let is_g : c.self.inside.g ≡ c.args.self.now.g = ap (λ (k : Condition). k.g) c.self.view_is in
    let is_place : c.place_of-place.result ≡ block_place c.args.self.now.g c.args.block = c.place_of-place.ensures.place ∙ ap (λ h. block_place h c.args.block) is_g in
    let is : Err c.in_err-read_place.field-0.0 ≡ c.from_residual.result = search rules in
    plan_stopped_first c.args.self.now.g c.args.self.now.lost c.args.stage.now.pending c.args.block c.place_of-place.result (parity_member c.args.self.now.g c.place_of-place.result.row) is_place refl
    c.from_residual.result c.in_err-read_place.field-0.0 (g.B.Bank.view c.args.bank.now) (g.B.Bank.view c.read_place.new.bank) is
    c.in_err-read_place.ensures.read c.in_err-read_place.ensures.failed_calls

pub returns-in_err-read_place-2-clause-failed_calls : goal.returns-in_err-read_place-2-clause-failed_calls
returns-in_err-read_place-2-clause-failed_calls g c =
    let is_g : c.self.inside.g ≡ c.args.self.now.g = ap (λ (k : Condition). k.g) c.self.view_is in
    let is_place : c.place_of-place.result ≡ block_place c.args.self.now.g c.args.block = c.place_of-place.ensures.place ∙ ap (λ h. block_place h c.args.block) is_g in
    let is_member : c.parity_of.result ≡ parity_member c.args.self.now.g c.place_of-place.result.row =
    c.parity_of.ensures.parity ∙ ap (λ h. parity_member h c.place_of-place.result.row) is_g in
    let is : Err c.in_err-read_place-2.field-0.0 ≡ c.from_residual-in_err-read_place-2.result = search rules in
    plan_stopped_second c.args.self.now.g c.args.self.now.lost c.args.stage.now.pending c.args.block c.place_of-place.result c.parity_of.result is_place is_member
    c.from_residual-in_err-read_place-2.result c.in_err-read_place-2.field-0.0 (g.B.Bank.view c.args.bank.now) (g.B.Bank.view c.read_place.new.bank) (g.B.Bank.view c.read_place-2.new.bank) is
    c.in_err-read_place-2.ensures.read c.in_ok-read_place.ensures.calls.ok c.in_err-read_place-2.ensures.failed_calls

pub returns-clause-calls : goal.returns-clause-calls
returns-clause-calls g c =
    let is_g : c.self.inside.g ≡ c.args.self.now.g = ap (λ (k : Condition). k.g) c.self.view_is in
    let is_place : c.place_of-place.result ≡ block_place c.args.self.now.g c.args.block = c.place_of-place.ensures.place ∙ ap (λ h. block_place h c.args.block) is_g in
    let is_member : c.parity_of.result ≡ parity_member c.args.self.now.g c.place_of-place.result.row =
    c.parity_of.ensures.parity ∙ ap (λ h. parity_member h c.place_of-place.result.row) is_g in
    plan_done c.args.self.now.g c.args.self.now.lost c.args.stage.now.pending c.args.block c.place_of-place.result c.parity_of.result is_place is_member
    _ (g.B.Bank.view c.args.bank.now) (g.B.Bank.view c.read_place.new.bank) (g.B.Bank.view c.read_place-2.new.bank) c.in_ok-read_place.ensures.calls.ok c.in_ok-read_place-2.ensures.calls.ok

pub returns-clause-rest : goal.returns-clause-rest
returns-clause-rest g c =
    only_planned c.args.pool.now c.read_place.new.pool c.xor.new.self c.read_place-2.new.pool c.xor-2.new.self c.args.delta.now c.args.parity.now c.args.scratch.now
    c.read_place.ensures.rest c.xor.ensures.rest c.read_place-2.ensures.rest c.xor-2.ensures.rest

pub returns-in_err-read_place-2-clause-rest : goal.returns-in_err-read_place-2-clause-rest
returns-in_err-read_place-2-clause-rest g c =
    only_planning c.args.pool.now c.read_place.new.pool c.xor.new.self c.read_place-2.new.pool c.args.delta.now c.args.parity.now c.args.scratch.now
    c.read_place.ensures.rest c.xor.ensures.rest c.read_place-2.ensures.rest

-- the second read's failure is the plan's
failed_in : {T : Type 0} (g : Geometry) (lost : Option ℕ) (old mid new : View) (result : Result T MemberFailed) (failed : MemberFailed)
    → Err failed ≡ result → OnlyReads old mid → FailedMember g lost mid new failed.member
    → IfErr result (λ f. FailedMember g lost old new f.member)
failed_in {T} g lost old mid new result failed is reads rose =
    let P : Result T MemberFailed → Type 0 = λ r. IfErr r (λ f. FailedMember g lost old new f.member) in
    subst P is (failed_after g lost old mid new failed.member reads rose)

pub returns-in_err-read_place-2-clause-cause : goal.returns-in_err-read_place-2-clause-cause
returns-in_err-read_place-2-clause-cause g c =
    let is : Err c.in_err-read_place-2.field-0.0 ≡ c.from_residual-in_err-read_place-2.result = search rules in
    failed_in c.args.self.now.g c.args.self.now.lost (g.B.Bank.view c.args.bank.now) (g.B.Bank.view c.read_place.new.bank) (g.B.Bank.view c.read_place-2.new.bank)
    c.from_residual-in_err-read_place-2.result c.in_err-read_place-2.field-0.0 is c.read_place.ensures.any_moment c.in_err-read_place-2.ensures.cause
