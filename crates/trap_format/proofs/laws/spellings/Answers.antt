use Rattle.trap_format.proofs.Spellings.{logs_same, members_same, heads_same}
use Rattle.trap_format.proofs.laws.spellings.Goals as goal

pub returns-clause-logs : goal.returns-clause-logs
returns-clause-logs c = logs_same

pub returns-clause-members : goal.returns-clause-members
returns-clause-members c = members_same

pub returns-clause-heads : goal.returns-clause-heads
returns-clause-heads c = heads_same
