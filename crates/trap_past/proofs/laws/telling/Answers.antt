use Rattle.trap_past.proofs.Telling.{of_described, path_same}
use Rattle.trap_past.proofs.laws.telling.Goals as goal

pub returns-clause-described : goal.returns-clause-described
returns-clause-described c i s v is valid index volume size = of_described i s v is valid index volume size

pub returns-clause-path : goal.returns-clause-path
returns-clause-path c i s v block q of index = path_same i s v block q of index
