use Rattle.trap_model.proofs.CodeOf.{code_of_spells, spelling_is_code_of}
use Rattle.trap_model.proofs.array_laws.sizes.Goals as goal

pub returns-clause-some : goal.returns-clause-some
returns-clause-some c = code_of_spells

pub returns-clause-one : goal.returns-clause-one
returns-clause-one c = spelling_is_code_of
