use Rattle.std.proofs.Common.{◌≡◌, ℕ, ◌+◌, refl, subst, rules}
use Rattle.trap_model.specs.declared.numbers.Geometry.{Geometry}
use Rattle.trap_bank.specs.Steps.{Moves}
use Rattle.trap_raid.specs.OwnDisk.{OnlyDisk}
use Rattle.trap_rebuild.specs.Replacing.{named, HasOwnDisk}
use Rattle.trap_rebuild.proofs.DiskSteps.{only_read, read_then_made, own_read, own_as}
use Rattle.trap_rebuild.proofs.replacing.replace.Goals as goal

pub returns-in_err-is_own-clause-any_moment : goal.returns-in_err-is_own-clause-any_moment
returns-in_err-is_own-clause-any_moment g c = only_read (c.args.member + 1) _ _ c.is_own.ensures.reads

pub returns-then-branch-clause-any_moment : goal.returns-then-branch-clause-any_moment
returns-then-branch-clause-any_moment g c = only_read (c.args.member + 1) _ _ c.is_own.ensures.reads

pub returns-then-branch-clause-ok : goal.returns-then-branch-clause-ok
returns-then-branch-clause-ok g c =
    let lost : c.in-Some.lost ≡ c.args.member = search rules in
    subst (λ (h : Geometry). HasOwnDisk (named h c.args.id) c.args.member (g.B.Bank.view c.is_own.new.bank)) c.geometry-g.ensures
    (subst (λ (m : ℕ). HasOwnDisk (named c.geometry-g.result c.args.id) m (g.B.Bank.view c.is_own.new.bank)) lost
    (own_as _ (named c.geometry-g.result c.args.id) _ _ refl refl refl
    (own_read _ _ (g.B.Bank.view c.args.bank.now) (g.B.Bank.view c.is_own.new.bank) c.is_own.ensures.reads (c.in_ok-is_own.ensures.read c.if-branch.true))))

-- ---- the disk is made, whether or not that failed
pub returns-in_err-make_member-clause-any_moment : goal.returns-in_err-make_member-clause-any_moment
returns-in_err-make_member-clause-any_moment g c =
    let lost : c.in-Some.lost ≡ c.args.member = search rules in
    subst (λ (m : ℕ). Moves (g.B.Bank.view c.args.bank.now) (g.B.Bank.view c.make_member.new.bank) (OnlyDisk (m + 1)) (OnlyDisk (m + 1))) lost
    (read_then_made _ _ (g.B.Bank.view c.is_own.new.bank) _ c.is_own.ensures.reads c.make_member.ensures.any_moment)

pub returns-clause-any_moment : goal.returns-clause-any_moment
returns-clause-any_moment g c =
    let lost : c.in-Some.lost ≡ c.args.member = search rules in
    subst (λ (m : ℕ). Moves (g.B.Bank.view c.args.bank.now) (g.B.Bank.view c.make_member.new.bank) (OnlyDisk (m + 1)) (OnlyDisk (m + 1))) lost
    (read_then_made _ _ (g.B.Bank.view c.is_own.new.bank) _ c.is_own.ensures.reads c.make_member.ensures.any_moment)
