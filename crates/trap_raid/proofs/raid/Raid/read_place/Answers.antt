use Rattle.std.proofs.Common.{◌≡◌, ◌≢◌, ℕ, false, Option, None, Some, OnOk, length, eqb, eq-eqb, refl, ap, sym, subst, ◌∙◌, rules}
use Rattle.std.specs.Option.{option_eq}
use Rattle.std.specs.Prelude.{IfErr}
use Rattle.trap_bank.specs.Called.{CalledTimes}
use Rattle.std.proofs.lemmas.Bool.{false≢true}
use Rattle.std.proofs.lemmas.Result.{on_ok_weaker}
use Rattle.trap_model.specs.Image.{IsImage}
use Rattle.trap_map.specs.Table.{table}
use Rattle.trap_pool.specs.Pooled.{pool_block}
use Rattle.trap_raid.specs.Condition.{Condition}
use Rattle.trap_raid.specs.Standing.{reads_until}
use Rattle.trap_raid.specs.Members.{IsPlace, HoldImage, PlaceFits, member_place}
use Rattle.trap_stage.specs.Staged.{newest_at}
use Rattle.trap_raid.proofs.PoolLemmas.{lent_here}
use Rattle.trap_raid.proofs.TableLemmas.{others_stand, member_stands}
use Rattle.trap_raid.proofs.CostLemmas.{own_stopped}
use Rattle.trap_raid.proofs.CostLemmas.{lost_stopped}
use Rattle.trap_raid.proofs.raid.Raid.read_place.Goals as goal

pub read_others-requires-clause-disks : goal.read_others-requires-clause-disks
read_others-requires-clause-disks g c =
    let P : Condition → Type 0 = λ k. PlaceFits k.g k.lost c.args.stage.now.pending (g.B.Bank.view c.args.bank.now) c.args.place.row c.args.place.member in
    let gone : c.self.inside.lost ≡ Some c.args.place.member = search rules in
    let fits = subst P (sym c.self.view_is) c.requires.disks in
    fits.others gone (search rules)

-- the others' places give the lost member's
pub returns-then-eq-clause-table : goal.returns-then-eq-clause-table
returns-then-eq-clause-table g c = λ told image is_image.
    let disks = (g.B.Bank.view c.args.bank.now).now.disks in
    let writes = c.args.stage.now.pending in
    let P : Condition → Type 0 =
    λ k. IsImage k.g image → HoldImage k.g k.lost writes (member_place k.g disks) image
    → OnOk c.read_others.result (pool_block c.read_others.new.pool c.args.into.now ≡ table k.g image c.args.place.row c.args.place.member) in
    let Q : Condition → Type 0 = λ k. IsPlace k.g c.args.place in
    let within = subst Q (sym c.self.view_is) c.requires.place in
    let gone : c.self.inside.lost ≡ Some c.args.place.member = search rules in
    subst P c.self.view_is (λ right stands. on_ok_weaker c.read_others.result
    (λ e. e ∙ others_stand c.self.inside.g c.self.inside.lost writes (member_place c.self.inside.g disks) image right stands c.args.place.row c.args.place.member within.row within.member gone)
    (c.read_others.ensures.others told)) is_image

isnt_lost : (lost : Option ℕ) (member : ℕ) → option_eq eqb lost (Some member) ≡ false → lost ≢ Some member
isnt_lost lost member differs gone = false≢true (sym differs ∙ ap (λ o. option_eq eqb o (Some member)) gone ∙ eq-eqb member member refl)

-- the member's own bytes are the table's, where none are pending
pub returns-else-eq-clause-table : goal.returns-else-eq-clause-table
returns-else-eq-clause-table g c = λ told image is_image stands.
    let disks = (g.B.Bank.view c.args.bank.now).now.disks in
    let writes = c.args.stage.now.pending in
    let pool = c.args.pool.now in
    let bytes = c.read_member.new.into in
    let place = c.args.place in
    let h = c.args.self.now.g in
    let is_g : c.self.inside.g ≡ h = ap (λ (k : Condition). k.g) c.self.view_is in
    let is_lost : c.self.inside.lost ≡ c.args.self.now.lost = ap (λ (k : Condition). k.lost) c.self.view_is in
    let fits : length bytes ≡ pool.size = c.read_member.auto.into ∙ c.bytes_mut-else-eq.ensures.size in
    let none : newest_at h writes place.row place.member ≡ None = search rules in
    let not_gone = isnt_lost c.self.inside.lost place.member (sym c.eq.ensures ∙ c.if-eq.false) in
    on_ok_weaker c.read_member.result
    (λ e. lent_here pool c.args.into.now bytes fits c.requires.leases.0 ∙ e ∙ ap (λ k. member_place k disks place.row place.member) is_g
    ∙ member_stands h c.args.self.now.lost writes (member_place h disks) image stands place.row place.member c.requires.place.row c.requires.place.member none (λ f. not_gone (is_lost ∙ f)))
    (c.read_member.ensures.bytes told)

-- ---- nothing is read after a failure of another member
pub returns-then-eq-clause-failed_calls : goal.returns-then-eq-clause-failed_calls
returns-then-eq-clause-failed_calls g c =
    let writes = c.args.stage.now.pending in
    let P : Condition → Type 0 =
    λ k. IfErr c.read_others.result
    (λ f. CalledTimes (reads_until k.g k.lost writes c.args.place.row c.args.place.member f.member) (g.B.Bank.view c.args.bank.now) (g.B.Bank.view c.read_others.new.bank)) in
    subst P c.self.view_is (lost_stopped c.self.inside.g c.self.inside.lost writes c.args.place.row c.args.place.member c.read_others.result
    (g.B.Bank.view c.args.bank.now) (g.B.Bank.view c.read_others.new.bank) (search rules) c.read_others.ensures.failed_calls)

-- ---- nor after one of its own
pub returns-else-eq-clause-failed_calls : goal.returns-else-eq-clause-failed_calls
returns-else-eq-clause-failed_calls g c =
    let is_lost : c.self.inside.lost ≡ c.args.self.now.lost = ap (λ (k : Condition). k.lost) c.self.view_is in
    let not_gone = isnt_lost c.self.inside.lost c.args.place.member (sym c.eq.ensures ∙ c.if-eq.false) in
    own_stopped c.args.self.now.g c.args.self.now.lost c.args.stage.now.pending c.args.place.row c.args.place.member c.read_member.result
    (g.B.Bank.view c.args.bank.now) (g.B.Bank.view c.read_member.new.bank) (λ f. not_gone (is_lost ∙ f)) c.read_member.ensures.calls
