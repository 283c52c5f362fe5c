use Rattle.trap_cli.proofs.Heads.{same_head_holds}
use Rattle.trap_cli.proofs.Crashing.{crash_holds}
use Rattle.trap_cli.proofs.Histories.{crash_lists}
use Rattle.trap_cli.proofs.Sends.{crash_sends}
use Rattle.trap_cli.proofs.laws.runs_compose.Goals as goal

pub returns-clause-head : goal.returns-clause-head
returns-clause-head g c = same_head_holds

pub returns-clause-session : goal.returns-clause-session
returns-clause-session g c entry array s input p from left begins always leaves =
    crash_holds array s input (g.B.Bank.view entry) from begins always p left leaves

pub returns-clause-history : goal.returns-clause-history
returns-clause-history g c entry array s p left told always leaves = crash_lists array s (g.B.Bank.view entry) always told p left leaves

pub returns-clause-send : goal.returns-clause-send
returns-clause-send g c entry array s seq p left told always leaves = crash_sends array s seq (g.B.Bank.view entry) always told p left leaves
