use Rattle.trap_bank.specs.Steps.{OnlyReads}
use Rattle.trap_mount.specs.MountSteps.{ReadsMembers}
use Rattle.trap_mount.proofs.mounting.members.check_members.Given as goal

-- the disks of the members so far are their own, and nothing was written
abbrev pub invariant-loop-member : goal.invariant-loop-member
invariant-loop-member g l =
    let old = g.B.Bank.view l.initial.bank in
    record {
      members : ReadsMembers l.g l.lost l.member old (g.B.Bank.view l.bank);
      reads : OnlyReads old (g.B.Bank.view l.bank);
    }
