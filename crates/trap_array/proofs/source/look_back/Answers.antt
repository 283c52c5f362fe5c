use Rattle.std.proofs.Common.{rules, ◌≡◌, ◌∙◌}
use Rattle.std.proofs.lemmas.Result.{on_ok_weaker}
use Rattle.trap_pool.specs.Pooled.{pool_block}
use Rattle.trap_array.proofs.source.look_back.Goals as goal

pub returns-clause-contents : goal.returns-clause-contents
returns-clause-contents g c told s stands =
    let same : c.copy_from_slice.new.self ≡ pool_block c.undo-answer.new.pool c.take-held.result.contents = search rules in
    on_ok_weaker c.undo-answer.result (λ is. same ∙ is) (c.undo-answer.ensures.contents told s stands)
