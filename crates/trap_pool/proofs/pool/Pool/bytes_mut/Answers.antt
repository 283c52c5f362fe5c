use Rattle.std.proofs.Common.{refl, ◌∙◌, ap, length}
use Rattle.trap_pool.proofs.Pools.{read_in, left_in, size_in}
use Rattle.trap_pool.specs.Pooled.{Pooled}
use Rattle.trap_pool.proofs.pool.Pool.bytes_mut.Goals as goal

pub returns : goal.returns
returns c =
    let p = c.args.self.now in
    let k = c.args.lease.now in
    let s = c.self.inside in
    let b = c.lease.inside.block in
    let value = c.slice_mut.ensures.value in (
      (refl, λ w. left_in p k s.size s.stride b s.region.len s.live.items s.region.items w c.self.view_is c.lease.view_is c.self.invariant s.region.ok.0 c.requires),
      record {
        writes = tt;
        bytes = value ∙ read_in p k s.size s.stride b s.live.items s.region.items c.self.view_is c.lease.view_is c.requires;
        size = ap length value ∙ size_in p k s.size s.stride b s.live.items s.region.items c.self.view_is c.lease.view_is c.self.invariant c.requires
            ∙ ap (λ (q : Pooled). q.size) c.self.view_is;
      },
    )
