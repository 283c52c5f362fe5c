use Rattle.std.proofs.Common.{◌≡◌, ℕ, ◌-◌, ◌<◌, length, refl, ap, sym, ◌∙◌, subst}
use Rattle.trap_model.specs.declared.history.Entry.{Entry}
use Rattle.trap_model.specs.declared.numbers.Geometry.{Geometry}
use Rattle.trap_model.specs.Image.{volume, block_of}
use Rattle.trap_model.specs.Records.{entry_at}
use Rattle.trap_model.specs.State.{image_at}
use Rattle.trap_past.specs.Memory.{PastInMemory, past_state}
use Rattle.trap_past.specs.MemoryFields.{past_memory_of}
use Rattle.trap_past.proofs.Remembering.{sized_after, before_is}
use Rattle.trap_past.proofs.memory.MemoryPast.before.Goals as goal

pub returns-clause-is : goal.returns-clause-is
returns-clause-is c =
    let writes : c.kept.result.now.rec.block ≡ (entry_at (past_state (past_memory_of c.self.inside)) c.args.seq).block =
    ap (λ (e : Entry). e.block) c.kept.ensures.is ∙ sym (ap (λ (m : PastInMemory). (entry_at (past_state m) c.args.seq).block) c.self.view_is) in
    subst (λ (m : PastInMemory). c.contents_after.result.now ≡ block_of (image_at (past_state m) (c.args.seq - 1)) (entry_at (past_state m) c.args.seq).block) c.self.view_is
    (before_is (past_memory_of c.self.inside) c.args.seq (c.args.seq - c.self.inside.first - 1) c.kept.result.now.rec.block
    c.deref.result.now c.deref-2.result.now c.contents_after.result.now c.deref.ensures.value c.deref-2.ensures.value refl writes c.contents_after.ensures)

pub returns-clause-size : goal.returns-clause-size
returns-clause-size c =
    let m = past_memory_of c.self.inside in
    let writes : c.kept.result.now.rec.block ≡ (entry_at (past_state m) c.args.seq).block =
    ap (λ (e : Entry). e.block) c.kept.ensures.is ∙ sym (ap (λ (m : PastInMemory). (entry_at (past_state m) c.args.seq).block) c.self.view_is) in
    let same = before_is m c.args.seq (c.args.seq - c.self.inside.first - 1) c.kept.result.now.rec.block
    c.deref.result.now c.deref-2.result.now c.contents_after.result.now c.deref.ensures.value c.deref-2.ensures.value refl writes c.contents_after.ensures in
    let g = ap (λ (m : PastInMemory). m.g) c.self.view_is in
    let within = c.kept.ensures.block in
    let inside : (entry_at (past_state m) c.args.seq).block < volume m.g = subst (λ (b : ℕ). b < volume m.g) writes (subst (λ (g : Geometry). c.kept.result.now.rec.block < volume g) (sym g) within) in
    ap length same ∙ sized_after m (c.args.seq - 1 - m.first) (entry_at (past_state m) c.args.seq).block c.self.invariant inside ∙ ap (λ (m : PastInMemory). m.g.block) c.self.view_is
