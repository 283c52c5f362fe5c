use Rattle.trap_bank.proofs.Moves.{synced_steps}
use Rattle.trap_cell.specs.Slots.{place_of}
use Rattle.trap_cell.proofs.Beside.{stable_settled}
use Rattle.trap_cell.proofs.tests.remounted.Goals as goal

pub mount-requires-clause-stable : goal.mount-requires-clause-stable
mount-requires-clause-stable g c = stable_settled (place_of 0 0 2) _ _ (synced_steps _ _ _ 0 c.in_ok-sync.ensures.call)
