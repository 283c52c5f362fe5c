use Rattle.std.proofs.Common.{◌-◌, refl, ap, subst, arith}
use Rattle.trap_index.specs.Indexed.{last_seq}
use Rattle.trap_past.specs.Memory.{PastInMemory, index_of}
use Rattle.trap_past.specs.MemoryFields.{past_memory_of}
use Rattle.trap_past.proofs.Remembering.{IsEntryAt, entry_kept}
use Rattle.trap_past.proofs.memory.MemoryPast.kept.Goals as goal

pub returns : goal.returns
returns c =
    let firsts = ap (λ (m : PastInMemory). m.first) c.self.view_is in
    let lasts = ap (λ (m : PastInMemory). last_seq (index_of m)) c.self.view_is in
    let found : IsEntryAt c.args.self.now c.args.seq c.index.result.now =
    subst (λ (m : PastInMemory). IsEntryAt m c.args.seq c.index.result.now) c.self.view_is
    (entry_kept (past_memory_of c.self.inside) c.args.seq (c.args.seq - c.self.inside.first - 1) c.index.result.now c.self.invariant (omega arith) (omega arith) refl c.index.ensures) in
    record { is = found.is; block = found.block; size = found.size }
