use Rattle.std.proofs.Common.{◌≡◌, ℕ, List, ◌<◌, length, map, ap, sym, ◌∙◌, subst}
use Rattle.trap_model.specs.declared.numbers.Geometry.{Geometry}
use Rattle.trap_model.specs.Image.{volume, block_of, image_after}
use Rattle.trap_past.specs.declared.memory.Kept.{Kept}
use Rattle.trap_past.specs.Memory.{PastInMemory, kept_entry, past_state, past_of}
use Rattle.trap_past.specs.MemoryFields.{past_memory_of}
use Rattle.trap_past.specs.Past.{IsOf}
use Rattle.trap_past.proofs.Remembering.{stands_for, sized_now}
use Rattle.trap_past.proofs.memory.MemoryPastPresent.present.Goals as goal

pub returns-in_err-strike-clause-told : goal.returns-in_err-strike-clause-told
returns-in_err-strike-clause-told c s is =
    subst (IsOf (past_of c.args.self.now).has) (sym is)
    (subst (λ (m : PastInMemory). IsOf (past_of m).has (past_state m)) c.self.view_is (stands_for (past_memory_of c.self.inside) c.self.invariant))

pub returns-clause-told : goal.returns-clause-told
returns-clause-told c s is =
    subst (IsOf (past_of c.args.self.now).has) (sym is)
    (subst (λ (m : PastInMemory). IsOf (past_of m).has (past_state m)) c.self.view_is (stands_for (past_memory_of c.self.inside) c.self.invariant))

pub copy_from_slice-requires : goal.copy_from_slice-requires
copy_from_slice-requires c =
    let m = past_memory_of c.self-2.inside in
    let g : m.g ≡ c.args.self.now.g = ap (λ (m : PastInMemory). m.g) c.self-2.view_is ∙ ap (λ (m : PastInMemory). m.g) c.strike.ensures.counts ∙ ap (λ (m : PastInMemory). m.g) c.self.view_is in
    let inside : c.args.block < volume m.g = subst (λ (g : Geometry). c.args.block < volume g) (sym g) c.requires.block in
    let is = c.as_slice.ensures ∙ c.contents_after-contents.ensures
    ∙ ap (λ (b : List (List ℕ)). block_of (image_after b (map kept_entry c.deref-2.result.now)) c.args.block) c.deref.ensures.value
    ∙ ap (λ (l : List Kept). block_of (image_after m.base (map kept_entry l)) c.args.block) c.deref-2.ensures.value in
    c.bytes_mut.ensures.size ∙ c.requires.size ∙ sym (ap length is ∙ sized_now m c.args.block c.self-2.invariant inside ∙ ap (λ (g : Geometry). g.block) g)
