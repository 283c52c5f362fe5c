use Rattle.trap_cell.proofs.Beside.{stands_first}
use Rattle.trap_cell.proofs.tests.begun.Goals as goal

pub returns-clause-stands : goal.returns-clause-stands
returns-clause-stands g c = stands_first _ _ _ _ _ c.in_ok-cell.ensures.ok
