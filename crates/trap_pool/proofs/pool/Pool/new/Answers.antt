use Rattle.trap_pool.proofs.Pools.{made}
use Rattle.trap_pool.proofs.pool.Pool.new.Goals as goal

pub returns : goal.returns
returns c =
    made c.args.count c.args.size c.in-Some.stride c.in-Some-checked_mul.len c.in_ok-live.live.items c.in_ok-region.region.items
    (c.in_ok-live.ensures.items_if_clones_equal (λ y e. e)) (c.in_ok-region.ensures.items_if_clones_equal (λ y e. e)) c.in-Some.ensures.1 c.in-Some-checked_mul.ensures.1
