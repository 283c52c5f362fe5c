use Rattle.std.proofs.Common.{◌∙◌, sym, ap, not}
use Rattle.std.specs.Prelude.{position}
use Rattle.trap_pool.proofs.Taking.{none_free, some_free, took_in}
use Rattle.trap_pool.proofs.pool.Pool.take.Goals as goal

pub returns-in_err-block-clause-free : goal.returns-in_err-block-clause-free
returns-in_err-block-clause-free c =
    let s = c.self.inside in
    none_free c.args.self.now s.live.items s.size s.stride s.region.items c.from_residual.result c.self.view_is
    (sym (c.first_free.ensures ∙ ap (position not) c.deref.ensures.value) ∙ c.in_err-block.was) c.from_residual.ensures

pub returns-clause-free : goal.returns-clause-free
returns-clause-free c =
    let s = c.self.inside in
    some_free c.args.self.now s.live.items s.size s.stride c.in_ok-block.block s.region.items c.self.view_is
    (sym (c.first_free.ensures ∙ ap (position not) c.deref.ensures.value) ∙ c.in_ok-block.was)

pub returns-clause-pool : goal.returns-clause-pool
returns-clause-pool c =
    let s = c.self.inside in
    took_in c.args.self.now s.live.items s.size s.stride c.in_ok-block.block s.region.items c.self.view_is
    (sym (c.first_free.ensures ∙ ap (position not) c.deref.ensures.value) ∙ c.in_ok-block.was)
