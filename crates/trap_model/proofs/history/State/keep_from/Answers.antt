use Rattle.std.proofs.Common.{◌≡◌, ◌≤◌, ◌+◌, ap, sym, subst, ◌∙◌, arith}
use Rattle.trap_model.specs.declared.history.State.{State}
use Rattle.trap_model.specs.State.{last, IsValid}
use Rattle.trap_model.specs.ArrayStep.{kept_from}
use Rattle.trap_model.proofs.Dropping.{kept_from_valid, kept_from-twice}
use Rattle.trap_model.proofs.history.State.keep_from.Goals as goal

pub drop_oldest-requires-clause-sound : goal.drop_oldest-requires-clause-sound
drop_oldest-requires-clause-sound c =
    let g = c.requires.sound.0 in
    let within : c.loop-self.self.first ≤ last c.args.self.now = omega arith in
    (g, subst (IsValid g) (sym c.loop-self.invariant.is) (kept_from_valid g c.args.self.now c.loop-self.self.first c.requires.sound.1 c.loop-self.invariant.low within))

pub loop-self-preserved : goal.loop-self-preserved
loop-self-preserved c =
    let s = c.args.self.now in
    let t = c.loop-self.self in
    let u = c.drop_oldest.new.self in
    let number : u.first ≡ t.first + 1 = ap (λ (v : State). v.first) c.drop_oldest.ensures in
    let next : u ≡ kept_from s (t.first + 1) =
    c.drop_oldest.ensures ∙ ap (λ (v : State). kept_from v (t.first + 1)) c.loop-self.invariant.is
    ∙ kept_from-twice s t.first (t.first + 1) c.loop-self.invariant.low (omega arith) in
    record {
      is = subst (λ n. u ≡ kept_from s n) (sym number) next;
      low = omega (arith, c.loop-self.invariant.low);
      high = omega (arith, c.loop-self-test.true);
    }
