use Rattle.trap_model.specs.State.{image_at, above}
use Rattle.trap_past.proofs.Undoing.{undone_at, length-parities_over}
use Rattle.trap_past.proofs.laws.undoing.Goals as goal

pub returns-clause-undone : goal.returns-clause-undone
returns-clause-undone c g s block q valid inside = undone_at g s block q valid inside

pub returns-clause-turns : goal.returns-clause-turns
returns-clause-turns c s block q = length-parities_over block (image_at s q) (above s q)
