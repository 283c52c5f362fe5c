use Rattle.trap_pool.proofs.Pools.{xored, apart_in, only_block}
use Rattle.trap_block.specs.Xor.{xor}
use Rattle.trap_pool.specs.Pooled.{pool_block}
use Rattle.trap_pool.proofs.pool.Pool.xor.Goals as goal

pub xor_within-requires-clause-apart : goal.xor_within-requires-clause-apart
xor_within-requires-clause-apart c =
    let s = c.self.inside in
    apart_in c.args.self.now c.args.dst.now c.args.src.now s.size s.stride c.dst.inside.block c.src.inside.block
    s.live.items s.region.items c.dst.view_is c.src.view_is c.self.invariant c.requires.differ

pub returns : goal.returns
returns c =
    let p = c.args.self.now in
    let k = c.args.dst.now in
    let j = c.args.src.now in
    let s = c.self.inside in
    let is = xored p k j s.size s.stride c.dst.inside.block c.src.inside.block s.region.len s.live.items s.region.items c.deref_mut.result.now c.xor_within.new.bytes
    c.self.view_is c.dst.view_is c.src.view_is c.self.invariant s.region.ok.0 c.deref_mut.ensures.value c.xor_within.ensures c.xor_within.auto.bytes c.requires.dst c.requires.src in
    record { xor = is; rest = only_block p _ k (xor (pool_block p k) (pool_block p j)) is }
