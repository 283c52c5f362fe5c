use Rattle.std.proofs.Common.{◌+◌, sym, subst, ◌∙◌, arith}
use Rattle.trap_bank.specs.Steps.{OnlyReads}
use Rattle.trap_mount.specs.MountSteps.{ReadsMembers}
use Rattle.trap_bank.proofs.OnlyReads.{reads_then, reads_none}
use Rattle.trap_mount.proofs.MountReads.{sizes_before}
use Rattle.trap_mount.proofs.MountHistory.{exit}
use Rattle.trap_mount.proofs.MountMembers.{members_more, check_refused, option_differs, option_same}
use Rattle.trap_mount.proofs.mounting.members.check_members.Goals as goal
use Rattle.trap_mount.proofs.mounting.members.check_members.Goals.{then-ne+in_ok-check_member, else-ne}

pub returns-in_err-check_member-clause-refused : goal.returns-in_err-check_member-clause-refused
returns-in_err-check_member-clause-refused g c =
    exit _ c.from_residual.result c.in_err-check_member.field-0.0 c.from_residual.ensures.1
    (check_refused c.args.g.now c.args.lost c.loop-member.member (g.B.Bank.view c.args.bank.now) (g.B.Bank.view c.loop-member.bank) _ c.loop-member.invariant.reads c.loop-member-test.true
    (option_differs c.args.lost c.loop-member.member (sym c.ne.ensures ∙ c.if-ne.true)) c.loop-member.invariant.members c.in_err-check_member.ensures.wrong)

pub returns-in_err-check_member-clause-shown : goal.returns-in_err-check_member-clause-shown
returns-in_err-check_member-clause-shown g c =
    exit _ c.from_residual.result c.in_err-check_member.field-0.0 c.from_residual.ensures.1
    (sizes_before c.args.g.now (g.B.Bank.view c.args.bank.now) (g.B.Bank.view c.loop-member.bank) _ c.loop-member.invariant.reads.sizes c.in_err-check_member.ensures.shown)

pub loop-member-preserved : goal.loop-member-preserved
loop-member-preserved g c =
    let old = g.B.Bank.view c.args.bank.now in
    let mid = g.B.Bank.view c.loop-member.bank in
    let P : g.row.B.Denot → Type 0 = λ b. record {
      members : ReadsMembers c.args.g.now c.args.lost (c.loop-member.member + 1) old (g.B.Bank.view b);
      reads : OnlyReads old (g.B.Bank.view b);
    } in
    elim c.if-ne.branch [
      | then-ne+in_ok-check_member w ↦ subst P (sym w.bank-is) (record {
        members = members_more c.args.g.now c.args.lost c.loop-member.member old mid (g.B.Bank.view w.check_member.new.bank) c.loop-member.invariant.reads w.check_member.ensures.reads
            c.loop-member.invariant.members (λ other. w.in_ok-check_member.ensures.ok);
        reads = reads_then old mid (g.B.Bank.view w.check_member.new.bank) c.loop-member.invariant.reads w.check_member.ensures.reads;
      })
      | else-ne w ↦ subst P (sym w.bank-is) (record {
        members = members_more c.args.g.now c.args.lost c.loop-member.member old mid mid c.loop-member.invariant.reads (reads_none mid)
            c.loop-member.invariant.members (λ other. absurd (other (option_same c.args.lost c.loop-member.member (sym c.ne.ensures ∙ w.if-ne.false))));
        reads = c.loop-member.invariant.reads;
      })
    ]

pub returns-clause-ok : goal.returns-clause-ok
returns-clause-ok g c = λ m below. c.loop-member.invariant.members m (omega arith)
