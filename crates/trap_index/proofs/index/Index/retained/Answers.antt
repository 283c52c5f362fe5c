use Rattle.std.proofs.Common.{◌≡◌, ℕ, ◌+◌, ◌-◌, ◌<◌, length, get_or, ap, sym, ◌∙◌, arith}
use Rattle.trap_index.specs.Indexed.{Indexed, last_seq, item_at}
use Rattle.trap_index.specs.Keeping.{no_item, recs_of, link, told}
use Rattle.trap_index.proofs.Numbered.{length-recs_of}
use Rattle.trap_index.proofs.index.Index.retained.Goals as goal

pub item_in-item-requires : goal.item_in-item-requires
item_in-item-requires c =
    let long = length-recs_of c.self.inside.first c.self.inside.items.items in
    let firsts = ap (λ (i : Indexed). i.first) c.self.view_is in
    let lasts = ap (λ (i : Indexed). last_seq i) c.self.view_is in
    omega arith

pub returns : goal.returns
returns c =
    let firsts = ap (λ (i : Indexed). i.first) c.self.view_is in
    let lasts = ap (λ (i : Indexed). last_seq i) c.self.view_is in
    let at : c.args.seq - c.self.inside.first - 1 ≡ c.args.seq - (c.self.inside.first + 1) = omega arith in
    let inside : c.args.seq - (c.self.inside.first + 1) < length (recs_of c.self.inside.first c.self.inside.items.items) = omega arith in
    ap (λ (n : ℕ). record c.item_in-item.result { prev = n }) (c.link.ensures ∙ ap (λ (n : ℕ). link n c.item_in-item.result.prev) (sym firsts))
    ∙ ap (told c.self.inside.first) (c.item_in-item.ensures ∙ ap (λ (k : ℕ). get_or c.self.inside.items.items k no_item) at)
    ∙ c.self.invariant.item (c.args.seq - (c.self.inside.first + 1)) inside
    ∙ ap (λ (i : Indexed). item_at i c.args.seq) c.self.view_is
