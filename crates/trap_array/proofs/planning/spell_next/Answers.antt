use Rattle.std.proofs.Common.{rules, ◌≡◌, ℕ, ◌+◌, ◌≤◌, List, length, take, drop, ◌++◌, sym, ap, subst, ◌∙◌, arith, length-take}
use Rattle.trap_block.specs.Xor.{xor}
use Rattle.trap_model.specs.Records.{record_of}
use Rattle.trap_model.specs.ZeroRun.{ZeroRun}
use Rattle.trap_array.specs.NextHead.{entry_for}
use Rattle.trap_array.proofs.Reading.{filled_whole}
use Rattle.trap_array.proofs.Spelled.{record_spelled}
use Rattle.trap_model.proofs.ZeroRuns.{ZeroRun-length}
use Rattle.trap_array.proofs.planning.spell_next.Goals as goal

pub returns-clause-spelled : goal.returns-clause-spelled
returns-clause-spelled c old bytes change =
    let plen = c.code-plen.result in
    let long : length c.spell-size.new.out ≡ c.room.inside.spelled.len = search rules in
    let long_code : length c.code-plen.new.out ≡ c.room.inside.code.len = search rules in
    let delta : c.bytes.result.now ≡ xor old bytes = search rules in
    let last : c.head.result.last + 1 ≡ c.args.log.now.head.last + 1 = search rules in
    let code = sym (c.as_slice.ensures.value ∙ filled_whole c.code-plen.new.out c.room.inside.code.items c.room.inside.code.len long_code) in
    let end : c.spell-size.result ≡ 26 + plen = omega (arith, c.spell-size.ensures.end) in
    let within : plen ≤ length c.as_slice.result.now = search rules in
    let size : plen ≡ length (take plen c.as_slice.result.now) = search rules in
    let spelled = record_spelled (c.head.result.last + 1) c.args.time c.args.block plen old bytes c.bytes.result.now (take plen c.as_slice.result.now)
    (take c.spell-size.result c.spell-size.new.out) c.spell-size.ensures.spelled delta
    (subst (λ (code : List ℕ). ZeroRun c.bytes.result.now (take plen code)) code c.code-plen.ensures.spelled) size in
    ap (λ (n : ℕ). take n (take c.room.inside.spelled.len (c.spell-size.new.out ++ drop (length c.spell-size.new.out) c.room.inside.spelled.items))) (sym end)
    ∙ ap (λ (out : List ℕ). take c.spell-size.result out) (filled_whole c.spell-size.new.out c.room.inside.spelled.items c.room.inside.spelled.len long)
    ∙ spelled ∙ ap (λ (q : ℕ). record_of q old (entry_for c.args.time c.args.block bytes)) last

pub returns-clause-code : goal.returns-clause-code
returns-clause-code c =
    let plen = c.code-plen.result in
    let size : length c.bytes.result.now ≡ c.args.log.now.g.block = search rules in
    let least = c.args.log.now.g.within.block_least in
    let coded = ZeroRun-length c.bytes.result.now (take plen c.code-plen.new.out) (omega arith) c.code-plen.ensures.spelled in
    let long = length-take plen c.code-plen.new.out in
    (omega (arith, coded.0, long, c.code-plen.ensures.end), omega (arith, coded.1, long, c.code-plen.ensures.end))
