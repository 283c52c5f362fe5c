use Rattle.std.proofs.Common.{◌≡◌, ℕ, ◌-◌, List, refl, ap, sym, ◌∙◌, subst, arith}
use Rattle.trap_model.specs.declared.log_record.LogRec.{LogRec}
use Rattle.trap_model.specs.declared.numbers.Geometry.{Geometry}
use Rattle.trap_index.specs.Indexed.{Indexed, dropped_to, last_seq}
use Rattle.trap_index.specs.Keeping.{KeepsItems, recs_of}
use Rattle.trap_index.proofs.Dropped.{IsDroppedTo, dropped}
use Rattle.trap_index.proofs.index.Index.drop_to.Goals as goal

-- the index on entry
abbrev before : goal.After-truncate_front → Indexed
before c = record {
  g = c.self.inside.g;
  first = c.self.inside.first;
  base_time = c.self.inside.base_time;
  first_off = c.self.inside.first_off;
  recs = recs_of
      c.self.inside.first c.self.inside.items.items;
}

-- the fields without the dropped entries
made : (c : goal.After-truncate_front) → IsDroppedTo (before c) c.args.seq c.truncate_front.new.self c.self.inside.newest.items c.self.inside.end_off c.self.inside.last_time
made c =
    let firsts = ap (λ (j : Indexed). j.first) c.self.view_is in
    let lasts = ap (λ (j : Indexed). last_seq j) c.self.view_is in
    dropped (before c) c.self.inside.items c.self.inside.newest.items c.self.inside.end_off c.self.inside.last_time c.args.seq (c.last.result - c.args.seq)
    c.truncate_front.new.self c.self.invariant refl
    (omega (arith, firsts, c.requires.low)) (omega (arith, lasts, c.requires.high)) (omega (arith, lasts, c.requires.high, c.last.ensures.last)) c.truncate_front.ensures

-- the time before them and the offset
times : (c : goal.After-truncate_front) → (dropped_to (before c) c.args.seq).base_time ≡ c.time_at-base_time.result
times c = ap (λ (i : Indexed). (dropped_to i c.args.seq).base_time) c.self.view_is ∙ sym c.time_at-base_time.ensures

offs : (c : goal.After-truncate_front) → (dropped_to (before c) c.args.seq).first_off ≡ c.off_after-first_off.result
offs c = ap (λ (i : Indexed). (dropped_to i c.args.seq).first_off) c.self.view_is ∙ sym c.off_after-first_off.ensures

pub invariant_of-self : goal.invariant_of-self
invariant_of-self c =
    let recs = recs_of c.args.seq c.truncate_front.new.self.items in
    let P : ℕ → ℕ → Type 0 = λ t o. KeepsItems (record { g = c.self.inside.g; first = c.args.seq; base_time = t; first_off = o; recs = recs })
    c.truncate_front.new.self.items c.truncate_front.new.self.capacity c.self.inside.newest.items c.self.inside.end_off c.self.inside.last_time in
    subst (λ (t : ℕ). P t c.off_after-first_off.result) (times c) (subst (λ (o : ℕ). P (dropped_to (before c) c.args.seq).base_time o) (offs c) (made c).kept)

pub returns : goal.returns
returns c =
    same c.self.inside.g c.args.seq _ _ _ _ _ _ (sym (times c)) (sym (offs c)) (made c).recs
    ∙ ap (λ (i : Indexed). dropped_to i c.args.seq) c.self.view_is
  where
    same : (g : Geometry) (first t t' o o' : ℕ) (recs recs' : List LogRec) → t ≡ t' → o ≡ o' → recs ≡ recs'
        → ◌≡◌ {A = Indexed} (record { g = g; first = first; base_time = t; first_off = o; recs = recs }) (record { g = g; first = first; base_time = t'; first_off = o'; recs = recs' })
    same g first t t' o o' recs recs' p q r = cc
