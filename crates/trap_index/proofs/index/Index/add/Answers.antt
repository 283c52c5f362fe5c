use Rattle.std.proofs.Common.{◌≡◌, ℕ, ◌+◌, List, ◌<◌, set, get_or, ap, sym, ◌∙◌, refl, subst, length, arith}
use Rattle.std.proofs.lemmas.List.{get_or_read}
use Rattle.trap_model.specs.declared.log_record.LogRec.{LogRec}
use Rattle.trap_index.specs.Indexed.{Indexed, with_record}
use Rattle.trap_index.specs.Keeping.{recs_of}
use Rattle.trap_index.proofs.Added.{IsNext, IsAddedTo, added}
use Rattle.trap_index.proofs.index.Index.add.Goals as goal

-- the fields with the record
made : (c : goal.After-self-3-1) → IsAddedTo
    (record {
      g = c.self.inside.g;
      first = c.self.inside.first;
      base_time = c.self.inside.base_time;
      first_off = c.self.inside.first_off;
      recs = recs_of
          c.self.inside.first c.self.inside.items.items;
    })
    c.push_back.new.self (set c.self.inside.newest.items c.args.rec.now.block c.args.rec.now.seq)
    (c.self.inside.end_off + (26 + c.from.result + c.from-2.result)) c.args.rec.now.time c.args.rec.now
made c =
    let i : Indexed = record {
      g = c.self.inside.g;
      first = c.self.inside.first;
      base_time = c.self.inside.base_time;
      first_off = c.self.inside.first_off;
      recs = recs_of
          c.self.inside.first c.self.inside.items.items;
    } in
    let next : IsNext i c.args.rec.now = subst (λ (j : Indexed). IsNext j c.args.rec.now) (sym c.self.view_is) (record {
      few = c.requires.few;
      number = c.requires.number;
      time = c.requires.time;
      block = c.requires.block;
      ranges = c.requires.ranges;
    }) in
    let inside : c.args.rec.now.block < length c.self.inside.newest.items = (let blocks = c.self.invariant.blocks in let block = next.block in omega arith) in
    let prev : c.index_mut-head.result.now ≡ get_or c.self.inside.newest.items c.args.rec.now.block 0 =
    get_or_read c.self.inside.newest.items c.args.rec.now.block c.index_mut-head.result.now inside c.index_mut-head.ensures.value 0 in
    let long : 26 + c.args.rec.now.plen + c.args.rec.now.slen ≡ 26 + c.from.result + c.from-2.result = (let first = c.from.ensures in let second = c.from-2.ensures in omega arith) in
    subst (λ (n : ℕ). IsAddedTo i c.push_back.new.self (set c.self.inside.newest.items c.args.rec.now.block c.args.rec.now.seq) (c.self.inside.end_off + n) c.args.rec.now.time c.args.rec.now) long
    (added i c.self.inside.items c.self.inside.newest.items c.self.inside.end_off c.self.inside.last_time c.args.rec.now c.push_back.new.self c.index_mut-head.result.now
    c.self.invariant refl next prev c.push_back.ensures.items)

pub invariant_of-self : goal.invariant_of-self
invariant_of-self c = (made c).kept

pub returns : goal.returns
returns c =
    ap (λ (l : List LogRec). record { g = c.self.inside.g; first = c.self.inside.first; base_time = c.self.inside.base_time; first_off = c.self.inside.first_off; recs = l }) (made c).recs
    ∙ ap (λ (i : Indexed). with_record i c.args.rec.now) c.self.view_is
