use Rattle.std.proofs.Common.{length, refl, ap, subst, IsTrue, ◌∙◌, arith}
use Rattle.std.proofs.lemmas.List.{with_items_is}
use Rattle.trap_replica.proofs.store.Store.apply_next.Goals as goal

pub returns-in_err-apply-clause-any_moment : goal.returns-in_err-apply-clause-any_moment
returns-in_err-apply-clause-any_moment g c = λ image mirrors. c.apply.ensures.any_moment c.args.self.now.number c.args.self.now.time image refl (omega arith)
    (λ told. c.as_mut_slice.ensures.value ∙ mirrors.contents told) mirrors.holds

pub returns-clause-any_moment : goal.returns-clause-any_moment
returns-clause-any_moment g c = λ image mirrors. c.apply.ensures.any_moment c.args.self.now.number c.args.self.now.time image refl (omega arith)
    (λ told. c.as_mut_slice.ensures.value ∙ mirrors.contents told) mirrors.holds

pub returns-clause-ok : goal.returns-clause-ok
returns-clause-ok g c = λ image mirrors. record {
  holds = c.in_ok-apply.ensures.ok c.args.self.now.number c.args.self.now.time image refl (omega arith) (λ told. c.as_mut_slice.ensures.value ∙ mirrors.contents told) mirrors.holds;
  contents = λ told. with_items_is c.args.self.now.contents c.apply.new.contents (omega (arith, c.apply.auto.contents, ap length c.as_mut_slice.ensures.value, c.args.self.now.contents.ok.0))
      ∙ c.in_ok-apply.ensures.kept c.args.self.now.number c.args.self.now.time image (λ was. c.as_mut_slice.ensures.value ∙ mirrors.contents was) mirrors.holds
      (subst IsTrue c.apply.ensures.beside.elsewhere.tells told);
}
