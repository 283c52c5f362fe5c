use Rattle.trap_script.proofs.WalkLemmas.{slice_get-states, length-states, length-replies}
use Rattle.trap_script.proofs.laws.walks.Goals as goal

pub returns-clause-state : goal.returns-clause-state
returns-clause-state g c = λ m s all j short. slice_get-states m s all j short

pub returns-clause-count : goal.returns-clause-count
returns-clause-count g c = λ m s all. (length-states m s all, length-replies m s all)
