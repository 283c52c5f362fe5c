use Rattle.trap_block.proofs.OverLemmas.{xor_over_is_zero, one_from_others}
use Rattle.trap_block.proofs.laws.members.Goals as goal

pub returns-clause-one : goal.returns-clause-one
returns-clause-one c = λ size n one block_of sized below none. one_from_others size one n block_of sized below none

pub returns-clause-all : goal.returns-clause-all
returns-clause-all c = λ size n one block_of sized below parity. xor_over_is_zero size one n block_of sized below parity
