use Rattle.std.proofs.Common.{ℕ, ◌+◌, IsTrue, sym, inl, inr, subst, arith, rules}
use Rattle.std.proofs.lemmas.Bool.{cases_eq}
use Rattle.trap_bank.specs.Calls.{Fits}
use Rattle.trap_rebuild.proofs.test_arrays.all_fit.Goals as goal

pub loop-member-preserved : goal.loop-member-preserved
loop-member-preserved g c = λ m below.
    let long : IsTrue c.is_long.result = search rules in
    elim (cases_eq m c.loop-member.member) [
      | inl e ↦ subst (λ (k : ℕ). Fits (g.B.Bank.view c.args.bank.now) (k + 1) c.member_len-end.result) (sym e) (c.is_long.ensures long)
      | inr h ↦ c.loop-member.invariant m (omega arith)
    ]

pub returns : goal.returns
returns g c = λ yes member inside.
    let there = c.loop-member.invariant member (omega arith) in
    (there.0, there.1, omega (arith, there.2, c.member_len-end.ensures))
