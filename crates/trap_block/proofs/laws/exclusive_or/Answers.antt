use Rattle.std.proofs.Common.{sym, refl}
use Rattle.trap_block.proofs.XorLemmas.{length-xor, xor-comm, xor-assoc, xor-self, xor-zeros}
use Rattle.trap_block.proofs.OverLemmas.{xor_twice}
use Rattle.trap_block.proofs.laws.exclusive_or.Goals as goal

pub returns-clause-commutes : goal.returns-clause-commutes
returns-clause-commutes c = λ xs ys. xor-comm xs ys

pub returns-clause-associates : goal.returns-clause-associates
returns-clause-associates c = λ xs ys zs. xor-assoc xs ys zs

pub returns-clause-undoes : goal.returns-clause-undoes
returns-clause-undoes c = λ xs ys same. xor_twice _ xs ys refl (sym same)

pub returns-clause-itself : goal.returns-clause-itself
returns-clause-itself c = λ xs. xor-self xs

pub returns-clause-zero : goal.returns-clause-zero
returns-clause-zero c = λ xs. xor-zeros xs _ refl

pub returns-clause-size : goal.returns-clause-size
returns-clause-size c = λ xs ys same. length-xor xs ys same
