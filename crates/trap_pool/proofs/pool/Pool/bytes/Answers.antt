use Rattle.std.proofs.Common.{◌∙◌, ap, drop, take, ◌-◌, ◌+◌, ◌*◌}
use Rattle.trap_pool.proofs.Pools.{read_in}
use Rattle.trap_pool.proofs.pool.Pool.bytes.Goals as goal

pub returns-clause-bytes : goal.returns-clause-bytes
returns-clause-bytes c =
    let s = c.self.inside in
    let b = c.lease.inside.block in
    ap (λ bytes. take (b * s.stride + s.size - b * s.stride) (drop (b * s.stride) bytes)) c.deref.ensures.value
    ∙ read_in c.args.self.now c.args.lease.now s.size s.stride b s.live.items s.region.items c.self.view_is c.lease.view_is c.requires
