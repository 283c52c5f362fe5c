use Rattle.trap_script.proofs.NumberLemmas.{number_is_decimal, decimal_is_number}
use Rattle.trap_script.proofs.laws.numbers.Goals as goal

pub returns : goal.returns
returns c = λ text n. (number_is_decimal text n, λ h. decimal_is_number text n h.0 h.1)
