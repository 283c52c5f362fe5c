use Rattle.std.proofs.Common.{◌≡◌, ◌≢◌, ℕ, ◌+◌, ◌*◌, Some, IsTrue, inl, inr, ap, sym, subst, ◌∙◌, arith, rules}
use Rattle.std.proofs.lemmas.Bool.{cases_eq}
use Rattle.trap_bank.specs.Calls.{Fits}
use Rattle.trap_format.specs.MemberDisk.{row_at}
use Rattle.trap_raid.proofs.FitLemmas.{not_lost}
use Rattle.trap_raid.proofs.tests.members_fit.Goals as goal

pub loop-member-preserved : goal.loop-member-preserved
loop-member-preserved g c = λ m below apart.
    let long : IsTrue c.is_member_long.result = search rules in
    elim (cases_eq m c.loop-member.member) [
      | inl e ↦
          let P : ℕ → Type 0 = λ k. c.args.lost ≢ Some k → Fits (g.B.Bank.view c.args.bank.now) (k + 1) (16 + c.from.result * c.from-2.result) in
          subst P (sym e) (c.is_member_long.ensures long) apart
      | inr h ↦ c.loop-member.invariant m (omega arith) apart
    ]

pub returns : goal.returns
returns g c = λ yes member inside counts.
    let there = c.loop-member.invariant member (omega arith) (not_lost c.args.lost 0 member counts) in
    let all : 16 + c.from.result * c.from-2.result ≡ row_at c.args.g.now c.args.g.now.rows =
    ap (λ r. 16 + r * c.from-2.result) c.from.ensures ∙ ap (λ b. 16 + c.args.g.now.rows * b) c.from-2.ensures in
    (there.0, there.1, omega (arith, there.2, all))
