use Rattle.std.proofs.Common.{◌≡◌, ℕ, ◌+◌, ◌*◌, subst, ◌∙◌, arith}
use Rattle.trap_bank.specs.Called.{CalledTimes}
use Rattle.trap_bank.proofs.Called.{called_then}
use Rattle.trap_mount.proofs.MemberDisks.{members_more, members_part, members_touch, sized_more, apart_from}
use Rattle.trap_mount.proofs.creating.create_members.Goals as goal

pub loop-member-preserved : goal.loop-member-preserved
loop-member-preserved g c = record {
  steps = members_more c.args.g.now c.loop-member.member (g.B.Bank.view c.args.bank.now) (g.B.Bank.view c.loop-member.bank)
      (g.B.Bank.view c.make_member.new.bank) c.loop-member-test.true c.loop-member.invariant.steps c.in_ok-make_member.ensures.ok;
  made = sized_more c.args.g.now c.loop-member.member (g.B.Bank.view c.loop-member.bank)
      (g.B.Bank.view c.make_member.new.bank) c.make_member.ensures.sizes c.loop-member.invariant.made c.in_ok-make_member.ensures.size;
  sizes = λ e beyond. c.make_member.ensures.sizes e (apart_from c.args.g.now c.loop-member.member e c.loop-member-test.true beyond) ∙ c.loop-member.invariant.sizes e beyond;
  touches = members_touch c.args.g.now c.loop-member.member (g.B.Bank.view c.args.bank.now) (g.B.Bank.view c.loop-member.bank)
      (g.B.Bank.view c.make_member.new.bank) c.loop-member-test.true c.loop-member.invariant.steps.tells c.loop-member.invariant.touches c.make_member.ensures.touches;
  calls = subst (λ (n : ℕ). CalledTimes n (g.B.Bank.view c.args.bank.now) (g.B.Bank.view c.make_member.new.bank)) (let next : 3 * c.loop-member.member + 3 ≡ 3 * (c.loop-member.member + 1) = omega arith in next)
      (called_then (3 * c.loop-member.member) 3 (g.B.Bank.view c.args.bank.now) (g.B.Bank.view c.loop-member.bank) (g.B.Bank.view c.make_member.new.bank)
      c.loop-member.invariant.calls c.in_ok-make_member.ensures.calls.ok);
}

pub returns-in_err-make_member-clause-any_moment : goal.returns-in_err-make_member-clause-any_moment
returns-in_err-make_member-clause-any_moment g c =
    members_part c.args.g.now c.loop-member.member (g.B.Bank.view c.args.bank.now) (g.B.Bank.view c.loop-member.bank)
    (g.B.Bank.view c.make_member.new.bank) c.loop-member-test.true c.loop-member.invariant.steps c.make_member.ensures.any_moment
