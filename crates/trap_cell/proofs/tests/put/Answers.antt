use Rattle.trap_cell.proofs.Beside.{stands_put}
use Rattle.trap_cell.proofs.tests.put.Goals as goal

pub returns-clause-stands : goal.returns-clause-stands
returns-clause-stands g c = stands_put _ _ _ _ _ _ c.in_ok-put.ensures.ok
