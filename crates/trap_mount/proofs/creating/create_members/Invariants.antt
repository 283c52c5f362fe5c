-- The members' disks so far are made, and no disk beside the members' changed.
use Rattle.std.proofs.Common.{◌≡◌, ◌⊎◌, ◌<◌, ◌*◌, ℕ, IsTrue}
use Rattle.trap_bank.specs.Called.{CalledTimes}
use Rattle.trap_bank.specs.Steps.{Moves}
use Rattle.trap_mount.specs.Creating.{OnlyMembers, HasNewMembers, AreSized}
use Rattle.trap_mount.proofs.creating.create_members.Given as goal

abbrev pub invariant-loop-member : goal.invariant-loop-member
invariant-loop-member g l = record {
  steps : Moves (g.B.Bank.view l.fn.bank) (g.B.Bank.view l.bank) (OnlyMembers l.g) (HasNewMembers l.g l.member);
  made : AreSized l.g l.member (g.B.Bank.view l.bank);
  sizes : (e : ℕ) → (e ≡ 0) ⊎ (l.g.members < e) → (g.B.Bank.view l.bank).sizes e ≡ (g.B.Bank.view l.fn.bank).sizes e;
  touches : IsTrue (g.B.Bank.view l.fn.bank).tells → OnlyMembers l.g (g.B.Bank.view l.fn.bank).now.disks (g.B.Bank.view l.bank).now.disks;
  calls : CalledTimes (3 * l.member) (g.B.Bank.view l.fn.bank) (g.B.Bank.view l.bank);
}
