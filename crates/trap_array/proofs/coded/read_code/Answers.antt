use Rattle.std.proofs.Common.{rules, ◌≡◌, ℕ, ◌≤◌, length, Err, sym, ap, refl, subst, ◌∙◌, arith}
use Rattle.trap_index.specs.Indexed.{item_at}
use Rattle.trap_index.specs.declared.item.Item.{Item}
use Rattle.trap_array.specs.Calls.{running}
use Rattle.trap_array.specs.Coded.{WritesCode}
use Rattle.trap_array.specs.Log.{with_index}
use Rattle.trap_array.specs.declared.fault.Denied.{Denied}
use Rattle.trap_array.specs.declared.fault.Denied.TheVariants.{Damaged}
use Rattle.trap_array.proofs.Codes.{writes_code}
use Rattle.trap_array.proofs.Reading.{filled_whole}
use Rattle.trap_array.proofs.coded.read_code.Goals as goal

pub returns-clause-code : goal.returns-clause-code
returns-clause-code g c =
    let log = with_index c.args.log.now c.args.index.now in
    let old = g.B.Bank.view c.args.bank.now in
    let from : c.from-len.result ≡ c.item_of.result.plen = search rules in
    let is : c.from-len.result ≡ (item_at c.args.index.now c.args.seq).plen = from ∙ ap (λ (item : Item). item.plen) c.item_of.ensures.item in
    let has = c.in_ok-answer.ensures.code refl in
    let long : length c.part-answer.new.spelled ≡ c.room.inside.spelled.len = search rules in
    let same = c.as_slice.ensures.value ∙ filled_whole c.part-answer.new.spelled c.room.inside.spelled.items c.room.inside.spelled.len long in
    let room : c.from-len.result ≤ length c.copy_code.new.into = omega (arith, is, has.most, c.requires.into, c.copy_code.auto.into) in
    subst (λ (len : ℕ). WritesCode (running log) old c.args.seq len c.args.into.now c.copy_code.new.into) (sym c.copy_code.ensures.len)
    (writes_code log old c.args.seq c.from-len.result _ c.part-answer.new.spelled c.as_slice.result.now c.args.into.now c.copy_code.new.into is has same
    c.copy_code.ensures.code c.copy_code.ensures.rest room (λ told. c.in_ok-answer.ensures.there told) (λ told s stands. c.in_ok-answer.ensures.part told s stands))

pub returns-in_err-answer-clause-damaged : goal.returns-in_err-answer-clause-damaged
returns-in_err-answer-clause-damaged g c offset at told s stands =
    let same : Err c.in_err-answer.field-0.0 ≡ c.from_residual.result = search rules in
    let why : c.in_err-answer.field-0.0 ≡ Damaged offset = cc (same, at) in
    c.in_err-answer.ensures.damaged offset (ap (λ (e : Denied). Err e) why) told s stands
