use Rattle.std.proofs.Common.{rules, ◌≡◌, ◌∙◌}
use Rattle.std.proofs.lemmas.Result.{on_ok_weaker}
use Rattle.trap_pool.specs.Pooled.{pool_block}
use Rattle.trap_array.proofs.fetch.read_block.Goals as goal

pub returns-clause-bytes : goal.returns-clause-bytes
returns-clause-bytes g c told i s stands =
    let same : c.copy_from_slice.new.self ≡ pool_block c.fetch-answer.new.pool c.held.inside.contents = search rules in
    on_ok_weaker c.fetch-answer.result (λ is. same ∙ is) (c.fetch-answer.ensures.bytes told i s stands)
